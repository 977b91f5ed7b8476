-- `repaint::sparing::sparing_repaint` meets its contract: a wrong size, chips that are not ready, and the records.
use mathlib.Core.Path.{refl, sym, ◌∙◌}
use Rattle.basics.proofs.Refusals.{failed-with, refusal-number}
use Rattle.panel.specs.Panel.{as_panel}
use Rattle.repaint.proofs.SparingCases.{sparing-sizes-right, wrong_size, refused, accepted}
use Rattle.repaint.proofs.sparing.sparing_repaint.Goals as goal

pub returns-then-sparing_sizes_wrong : goal.returns-then-sparing_sizes_wrong
returns-then-sparing_sizes_wrong c =
    let panel = as_panel c.args.chips.left c.args.chips.right c.args.ram.now in
    rw c.new.ensures (sym (wrong_size panel _ _ (sym c.sparing_sizes_wrong.ensures ∙ c.if-sparing_sizes_wrong.true)))

pub returns-in_err-check_ready : goal.returns-in_err-check_ready
returns-in_err-check_ready c =
    let panel = as_panel c.args.chips.left c.args.chips.right c.args.ram.now in
    let sizes = sym c.sparing_sizes_wrong.ensures ∙ c.if-sparing_sizes_wrong.false in
    rw (failed-with _ c.from_residual.ensures.1) (refused panel _ _ sizes _ c.in_err-check_ready.ensures (refusal-number _))

pub put_sparing-bytes-requires : goal.put_sparing-bytes-requires
put_sparing-bytes-requires c =
    let sizes = sparing-sizes-right _ _ _ (sym c.sparing_sizes_wrong.ensures ∙ c.if-sparing_sizes_wrong.false) in
    record { ram_len = sizes.0; picture_len = sizes.1.0; output_length_in_bounds = sizes.1.1 }

pub returns : goal.returns
returns c =
    let panel = as_panel c.args.chips.left c.args.chips.right c.args.ram.now in
    let sizes = sym c.sparing_sizes_wrong.ensures ∙ c.if-sparing_sizes_wrong.false in
    accepted panel _ _ sizes _ c.in_ok-check_ready.ensures refl c.put_sparing-bytes.ensures
