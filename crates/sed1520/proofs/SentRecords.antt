-- The cycle of a record as it is sent to a chip that fits: the action that its lines ask for, and an accepted command.
use Prim.Native.Nat.{ℕ, ◌+◌, ◌<◌, ◌≤◌}
use native.Mathlib.Omega.{arith}
use mathlib.Core.Path.{◌≡◌, refl, ap, ◌∙◌}
use mathlib.Core.List.{List}
use Rattle.sed1520.specs.Command.{first, count, Coded}
use Rattle.sed1520.specs.Cycle.{outcome, answered, execute, column_refusal, data_write, data_read, action_of, cycle_of}
use Rattle.sed1520.specs.Laws.{sent, Fit}
use Rattle.sed1520.specs.declared.registers.Chip.{Chip}
use Rattle.sed1520.specs.declared.commands.Opcode.{Opcode}
use Rattle.sed1520.specs.declared.commands.Command.{Command}
use Rattle.sed1520.proofs.ActionCases.{command-executed}
use Rattle.sed1520.proofs.OneRule.{decoded-argument}
use Rattle.sed1520.proofs.StepCases.{action-command, action-data-write, action-data-read, not-refused, strobes-differ, step-action, cycle-step}

module _ (c : Chip) (ram : List ℕ) (fit : Fit c ram) (k : ℕ) (addressed : k < 2) where
  -- the cycle of a record whose lines ask for an action
  pub action-cycle : (lines b : ℕ) → 2 ≤ lines → lines ≤ 5 → cycle_of (sent lines k b) c ram ≡ action_of (sent lines k b) c ram
  action-cycle lines b low high =
      let r = sent lines k b in
      cycle-step r c ram fit.bytes fit.range
      ∙ step-action r c ram (not-refused r (omega arith) refl addressed (strobes-differ lines low high))

  pub write-cycle : (b : ℕ) → cycle_of (sent 3 k b) c ram ≡ data_write k b c ram
  write-cycle b = action-cycle 3 b (omega arith) (omega arith) ∙ action-data-write (sent 3 k b) c ram refl

  pub read-cycle : (b : ℕ) → cycle_of (sent 5 k b) c ram ≡ outcome (data_read c ram) ram
  read-cycle b = action-cycle 5 b (omega arith) (omega arith) ∙ action-data-read (sent 5 k b) c ram refl

  -- an accepted command of any opcode
  pub command-cycle : (kind : Opcode) (a : ℕ) → a < count kind → column_refusal (first kind + a) c.modify ≡ 0
      → cycle_of (sent 2 k (first kind + a)) c ram ≡ outcome (answered 0 0 (execute kind a c)) ram
  command-cycle kind a h free =
      let b = first kind + a in
      let known = ap (λ (t : Coded Command). t.value) (decoded-argument kind a h) in
      action-cycle 2 b (omega arith) (omega arith)
      ∙ action-command (sent 2 k b) c ram refl
      ∙ ap (λ x. outcome x ram) (command-executed b c (record { opcode = kind; argument = a }) known free)
