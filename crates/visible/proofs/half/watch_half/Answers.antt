-- `visible::half::watch_half` meets its contract: by the control lines.
use native.Mathlib.Omega.{arith}
use Rattle.visible.proofs.HalfSights.{seen, failed-seen, read-sight}
use Rattle.visible.proofs.half.watch_half.Goals as goal

pub returns-in_err-chip-in_default : goal.returns-in_err-chip-in_default
returns-in_err-chip-in_default c = failed-seen _ _ _ _ _ c.from_residual.ensures.1 c.in_err-chip-in_default.ensures

pub returns-in_ok-chip-in_default : goal.returns-in_ok-chip-in_default
returns-in_ok-chip-in_default c =
    let at = c.args in
    seen at.bus at.chip.now at.ram.now _ c.in_ok-chip-in_default.ensures _
    (read-sight at.bus at.chip.now at.ram.now _ c.in_ok-chip-in_default.ensures (λ e. omega arith) (λ e. omega arith))
