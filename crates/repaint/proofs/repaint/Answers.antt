-- `repaint::repaint` meets its contract: a wrong size, chips that are not ready, and the records.
use mathlib.Core.Path.{refl, sym, ◌∙◌}
use Rattle.basics.proofs.Refusals.{failed-with, refusal-number}
use Rattle.repaint.proofs.RepaintCases.{sizes-right, wrong_size, chips-refused, chips-ready}
use Rattle.repaint.proofs.repaint.Goals as goal

pub returns-then-sizes_wrong : goal.returns-then-sizes_wrong
returns-then-sizes_wrong c = rw c.new.ensures (sym (wrong_size _ _ _ _ (sym c.sizes_wrong.ensures ∙ c.if-sizes_wrong.true)))

pub returns-in_err-check_ready : goal.returns-in_err-check_ready
returns-in_err-check_ready c =
    rw (failed-with _ c.from_residual.ensures.1)
    (chips-refused _ _ _ _ (sym c.sizes_wrong.ensures ∙ c.if-sizes_wrong.false) _ c.in_err-check_ready.ensures (refusal-number _))

pub put_records-requires : goal.put_records-requires
put_records-requires c =
    let sizes = sizes-right _ _ (sym c.sizes_wrong.ensures ∙ c.if-sizes_wrong.false) in
    record { picture_len = sizes.0; output_length_in_bounds = sizes.1 }

pub returns : goal.returns
returns c =
    chips-ready _ _ _ _ (sym c.sizes_wrong.ensures ∙ c.if-sizes_wrong.false) _ c.in_ok-check_ready.ensures refl c.put_records.ensures
