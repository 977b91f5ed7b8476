-- `visible::half::watch_write` meets its contract: the segment of the column, before the cycle and after it.
use native.Mathlib.Omega.{arith}
use mathlib.Core.Path.{◌∙◌}
use Rattle.visible.proofs.HalfSights.{seen, failed-seen, write-sight}
use Rattle.visible.proofs.half.watch_write.Goals as goal

pub returns-in_err-chip : goal.returns-in_err-chip
returns-in_err-chip c = failed-seen _ _ _ _ _ c.from_residual.ensures.1 c.in_err-chip.ensures

pub returns : goal.returns
returns c =
    let at = c.args in
    seen at.bus at.chip.now at.ram.now _ c.in_ok-chip.ensures _
    (c.differing.ensures
    ∙ write-sight at.bus at.chip.now at.ram.now _ c.in_ok-chip.ensures c.requires.fit (λ e. omega (arith, c.requires.lines_value))
    c.segment_at-n.ensures c.pixels_of-before.ensures c.pixels_of-after.ensures)
