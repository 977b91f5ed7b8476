-- `sed1520::registers::Chip::command` meets its contract: a byte that is no command, a refused column set, and an executed command.
use mathlib.Core.Path.{sym, ◌∙◌}
use Rattle.basics.proofs.Refusals.{failed-with, refusal-number}
use Rattle.sed1520.specs.Cycle.{command_write}
use Rattle.sed1520.proofs.ActionCases.{known-command, no-command, command-executed, command-refused}
use Rattle.sed1520.proofs.registers.Chip.command.Goals as goal

pub returns-in_err-command : goal.returns-in_err-command
unfolding command_write
returns-in_err-command c =
    rw (failed-with _ c.from_residual.ensures.1, no-command _ _ _ c.try_from.ensures (c.in_err-command.was))

pub returns-in_err-check_column : goal.returns-in_err-check_column
returns-in_err-check_column c =
    let number = c.in_err-check_column.ensures in
    rw (failed-with _ c.from_residual-in_err-check_column.ensures.1, number)
    (sym (command-refused _ _ _ (known-command _ _ _ c.try_from.ensures (c.in_ok-command.was)) (λ none. refusal-number _ (number ∙ none))))

pub returns : goal.returns
returns c =
    rw (c.done.ensures, c.execute.ensures)
    (sym (command-executed _ _ _ (known-command _ _ _ c.try_from.ensures (c.in_ok-command.was)) (sym c.in_ok-check_column.ensures)))
