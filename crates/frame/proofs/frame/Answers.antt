-- `frame::frame` meets its contract: the lines of its table one after the other, then the frame.
use mathlib.Core.Path.{sym, ◌∙◌}
use mathlib.Core.List.{[]}
use borrow.Author.Tests.{not-false}
use Rattle.basics.specs.Verdict.{verdict, result_of}
use Rattle.basics.proofs.Refusals.{failed-with, either-refuses, either-passes}
use Rattle.frame.specs.Frame.{framed}
use Rattle.panel.specs.Panel.{as_panel}
use Rattle.frame.proofs.FrameCases.{sizes-right, given}
use Rattle.frame.proofs.frame.Goals as goal

pub returns-then-sizes_wrong : goal.returns-then-sizes_wrong
unfolding framed
returns-then-sizes_wrong c = rw (c.new.ensures, sym c.sizes_wrong.ensures ∙ c.if-sizes_wrong.true)

pub returns-in_err-check_range : goal.returns-in_err-check_range
unfolding framed
returns-in_err-check_range c =
    rw (failed-with _ c.from_residual.ensures.1, sym c.sizes_wrong.ensures ∙ c.if-sizes_wrong.false)
    (sym (either-refuses (λ n at. result_of (verdict n at) c.args.frame.now)
    (given (as_panel c.args.chips.left c.args.chips.right c.args.ram.now)) [] _ _ _ (sym c.in_err-check_range.ensures)))

pub fill-requires : goal.fill-requires
fill-requires c =
    let sized = sizes-right _ _ (sym c.sizes_wrong.ensures ∙ c.if-sizes_wrong.false) in
    let range = either-passes _ _ _ (sym c.in_ok-check_range.ensures) in
    record {
      whole = record { left = not-false _ range.0; right = not-false _ range.1; image = sized.0 };
      frame_len = sized.1;
    }

pub returns : goal.returns
unfolding framed
returns c =
    let range = either-passes _ _ _ (sym c.in_ok-check_range.ensures) in
    rw (c.fill.ensures, sym c.sizes_wrong.ensures ∙ c.if-sizes_wrong.false, range.0, range.1)
