-- `sed1520::bus::cycle` meets its contract: numbers 1, 2 and 4 to 6, then the action.
use Prim.Native.Nat.{ℕ}
use native.Mathlib.Omega.{arith}
use mathlib.Core.Path.{◌≡◌, sym, ◌∙◌}
use mathlib.Core.Bool.{true}
use mathlib.Core.List.{List}
use lib.ListN.{length}
use Rattle.basics.proofs.Refusals.{failed-with, refusal-number}
use Rattle.sed1520.specs.Chip.{in_range}
use Rattle.sed1520.specs.Cycle.{bus_refusal, action_of, cycle_of}
use Rattle.sed1520.specs.declared.bus.Record.{Record}
use Rattle.sed1520.specs.declared.registers.Chip.{Chip}
use Rattle.sed1520.proofs.StepCases.{step-refused, step-action, cycle-length, cycle-range, cycle-step}
use Rattle.sed1520.proofs.StepCases.{action-command, action-data-write, action-status, action-data-read}
use Rattle.sed1520.proofs.bus.cycle.Goals as goal

pub returns-then-ram-ne-RAM_WIDTH : goal.returns-then-ram-ne-RAM_WIDTH
returns-then-ram-ne-RAM_WIDTH c =
    sym (cycle-length _ _ _ c.if-ram-ne-RAM_WIDTH.true)

pub returns-then-not-in_range : goal.returns-then-not-in_range
returns-then-not-in_range c =
    sym (cycle-range _ _ _ (omega arith) (sym c.if-not-in_range.ensures))

pub returns-in_err-action : goal.returns-in_err-action
returns-in_err-action c =
    let number = c.in_err-action.ensures.number in
    rw (failed-with _ c.from_residual.ensures.1, number)
    (sym (cycle-step _ _ _ (omega arith) (sym c.if-not-in_range.ensures) ∙ step-refused _ _ _ (λ e. refusal-number _ (number ∙ e))))

-- past the tests, the cycle is the action
module _ (r : Record) (c : Chip) (ram : List ℕ) (size : length ram ≡ 320) (range : true ≡ in_range c) (asked : 0 ≡ bus_refusal r) where
  acted : cycle_of r c ram ≡ action_of r c ram
  acted = cycle-step r c ram size (sym range) ∙ step-action r c ram (sym asked)

pub returns-in-WriteCommand : goal.returns-in-WriteCommand
returns-in-WriteCommand c =
    let lines = rw c.in-WriteCommand.is at c.in_ok-action.ensures.lines in
    rw c.command.ensures
    (sym (acted _ _ _ (omega arith) c.if-not-in_range.ensures c.in_ok-action.ensures.number ∙ action-command _ _ _ (sym lines)))

pub returns-in-WriteData : goal.returns-in-WriteData
returns-in-WriteData c =
    let lines = rw c.in-WriteData.is at c.in_ok-action.ensures.lines in
    rw c.data_write.ensures
    (sym (acted _ _ _ (omega arith) c.if-not-in_range.ensures c.in_ok-action.ensures.number ∙ action-data-write _ _ _ (sym lines)))

pub returns-in-ReadStatus : goal.returns-in-ReadStatus
returns-in-ReadStatus c =
    let lines = rw c.in-ReadStatus.is at c.in_ok-action.ensures.lines in
    rw c.status.ensures
    (sym (acted _ _ _ (omega arith) c.if-not-in_range.ensures c.in_ok-action.ensures.number ∙ action-status _ _ _ (sym lines)))

pub returns-in-ReadData : goal.returns-in-ReadData
returns-in-ReadData c =
    let lines = rw c.in-ReadData.is at c.in_ok-action.ensures.lines in
    rw c.data_read.ensures
    (sym (acted _ _ _ (omega arith) c.if-not-in_range.ensures c.in_ok-action.ensures.number ∙ action-data-read _ _ _ (sym lines)))
