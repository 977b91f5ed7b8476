-- `visible::half::watch_command` meets its contract: nothing where the registers stand alike, else the half counted.
use native.Mathlib.Omega.{arith}
use mathlib.Core.Path.{sym, ◌∙◌}
use Rattle.visible.proofs.HalfSights.{registers-alike, seen, failed-seen, next_fits, same-sight, command-sight}
use Rattle.visible.proofs.half.watch_command.Goals as goal

pub returns-in_err-chip : goal.returns-in_err-chip
returns-in_err-chip c = failed-seen _ _ _ _ _ c.from_residual.ensures.1 c.in_err-chip.ensures

pub returns-then-same_shown_registers : goal.returns-then-same_shown_registers
returns-then-same_shown_registers c =
    let at = c.args in
    seen at.bus at.chip.now at.ram.now _ c.in_ok-chip.ensures _
    (same-sight at.bus at.chip.now at.ram.now _ c.in_ok-chip.ensures (λ e. omega (arith, c.requires.lines_value))
    (registers-alike _ _ (sym c.same_shown_registers.ensures ∙ c.if-same_shown_registers.true)))

pub half_differing-requires-clause-fit_2 : goal.half_differing-requires-clause-fit_2
half_differing-requires-clause-fit_2 c =
    next_fits c.args.bus c.args.chip.now c.args.ram.now _ c.in_ok-chip.ensures c.requires.fit

pub returns : goal.returns
returns c =
    let at = c.args in
    seen at.bus at.chip.now at.ram.now _ c.in_ok-chip.ensures _
    (command-sight at.bus at.chip.now at.ram.now _ c.in_ok-chip.ensures (λ e. omega (arith, c.requires.lines_value)) c.half_differing.ensures)
