-- `sed1520::bytes_command::write_command` meets its contract: a byte that is no command, a refused column set, and one that is executed.
use mathlib.Core.Path.{◌≡◌, sym, ◌∙◌}
use borrow.Author.Tests.{ne_eqb}
use Rattle.basics.proofs.Refusals.{failed-with, refusal-number}
use Rattle.sed1520.specs.ChipBytes.{registers_in}
use Rattle.sed1520.specs.Cycle.{column_refusal, command_write}
use Rattle.sed1520.proofs.ActionCases.{known-command, no-command, command-executed, command-refused}
use Rattle.sed1520.proofs.bytes_command.write_command.Goals as goal

pub returns-in_err-command : goal.returns-in_err-command
unfolding command_write
returns-in_err-command c =
    let none = no-command _ _ _ c.try_from.ensures c.in_err-command.was in
    record {
      number = rw (failed-with _ c.from_residual.ensures.1, none);
      bytes = rw none;
    }

pub returns-in_err-check_column : goal.returns-in_err-check_column
unfolding registers_in
returns-in_err-check_column c =
    let known = known-command _ _ _ c.try_from.ensures c.in_ok-command.was in
    let number = c.in_err-check_column.ensures in
    let held : column_refusal c.args.byte (registers_in c.args.bytes.now).modify ≡ 0 → ⊥ = λ none. refusal-number _ (number ∙ none) in
    let refused = command-refused _ (registers_in c.args.bytes.now) _ known held in
    record {
      number = rw (failed-with _ c.from_residual-in_err-check_column.ensures.1, refused) number;
      bytes = rw (refused, ne_eqb _ 0 held);
    }

pub returns : goal.returns
unfolding registers_in
returns c =
    let known = known-command _ _ _ c.try_from.ensures c.in_ok-command.was in
    let done = command-executed _ (registers_in c.args.bytes.now) _ known (sym c.in_ok-check_column.ensures) in
    record {
      number = rw done;
      bytes = rw (done, known) c.execute.ensures;
    }
