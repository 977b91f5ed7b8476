-- The number of every cycle is the one that its table gives.
use Prim.Native.Nat.{ℕ, ◌+◌, ◌-◌, ◌<◌}
use native.Mathlib.Omega.{arith}
use mathlib.Core.Path.{◌≡◌, refl, sym, ◌∙◌}
use mathlib.Core.Bool.{Bool, true, false, not, ◌&&◌, ◌||◌}
use mathlib.Core.List.{List, [], ◌∷◌, ◌++◌}
use Rattle.std.specs.Prelude.{Option, None, Some}
use lib.Dec.{ltb, leb, eqb}
use lib.ListN.{length}
use borrow.Author.Tests.{eqb-true, eqb-false, ne_eqb, leb-false}
use Rattle.basics.specs.Choice.{if}
use Rattle.basics.specs.Table.{cause, verdict_by}
use Rattle.basics.specs.Verdict.{verdict}
use Rattle.basics.specs.Verdict.{Verdict}
use Rattle.basics.proofs.Table.{each_line, EachLine, of-first, exactly-when, done-passes}
use borrow.Author.Rules.{rules}
use Rattle.basics.proofs.Tests.{when, when-both}
use Rattle.sed1520.specs.Chip.{column_stop, in_range}
use Rattle.sed1520.specs.Command.{first, within, opcodes, among, as_command, decode_of}
use Rattle.sed1520.specs.Cycle.{Outcome, refusal, answered, execute, executed, command_write, data_write, data_read, read_line, write_line}
use Rattle.sed1520.specs.Cycle.{address_line, action_of, bus_table, bus_refusal, step_of, cycle_of}
use Rattle.sed1520.specs.CycleNumbers.{command_table, cycle_table, EveryCycleNumber}
use Rattle.sed1520.specs.declared.registers.Chip.{Chip}
use Rattle.sed1520.specs.declared.commands.Opcode.{Opcode}
use Rattle.sed1520.specs.declared.commands.Opcode.TheVariants.{Column}
use Rattle.sed1520.specs.declared.bus.Record.{Record}
use Rattle.sed1520.proofs.CycleKeeps.{cycle-keeps}
use Rattle.sed1520.proofs.StepCases.{Asks, asks}

-- an outcome has the number that a table gives
abbrev Has : Outcome → Verdict → Type 0
Has o v = o.answer.number ≡ v.number

-- numbers 7, 8 and 14 by their tests
abbrev given : Bool → Bool → Bool → Verdict
given unknown locked missing = verdict_by (cause 7 0 unknown ∷ cause 8 0 locked ∷ cause 14 0 missing ∷ []) (verdict 0 0)

module _ (r : Record) (c : Chip) (ram : List ℕ) where
  -- what the lines of a command write give, where the record writes one
  commanded : (b : ℕ) (k : Option Opcode)
      → (executed b (as_command b k).value c).number
      ≡ (given (not (eqb (as_command b k).number 0)) (within Column b && c.modify) (within Column b && leb (first Column + column_stop) b)).number
  commanded b None = refl
  commanded b (Some k) = sets (within Column b) c.modify (leb (first Column + column_stop) b)
    where
      sets : (set modify past : Bool) → let n : ℕ = if set (if modify 8 (if past 14 0)) 0 in
          (if (eqb n 0) (answered 0 0 (execute k (b - first k) c)) (refusal n c)).number ≡ (given false (set && modify) (set && past)).number
      sets true true past = refl
      sets true false true = refl
      sets true false false = refl
      sets false modify past = refl

  -- the lines of a command write hold of no other record
  no-command : (r.lines ≡ 2 → ⊥) → verdict_by (command_table r c) (verdict 0 0) ≡ verdict 0 0
  no-command other = rw (ne_eqb r.lines 2 other)

  command-number : r.lines ≡ 2 → (command_write r.byte c).number ≡ (verdict_by (command_table r c) (verdict 0 0)).number
  unfolding command_write decode_of
  command-number lines = commanded r.byte (among opcodes r.byte) ∙ rw lines

  action-number : Asks r → Has (action_of r c ram) (verdict_by (command_table r c) (verdict 0 0))
  unfolding action_of data_write data_read
  action-number asked =
      let lines = r.lines in
      when Same (eqb (write_line lines) 0)
      (λ write. let low : lines < 4 = omega (arith, asked.to, eqb-true (write_line lines) 0 write) in
      when Same (eqb (address_line lines) 0)
      (λ even. command-number (omega (arith, asked.from, low, eqb-true (address_line lines) 0 even)))
      (λ odd. rw (no-command (λ two. omega (arith, eqb-false (address_line lines) 0 odd)))
      (when Zero (ltb c.column column_stop) (λ _. refl) (λ _. refl))))
      (λ read. rw (no-command (λ two. omega (arith, eqb-false (write_line lines) 0 read)))
      (when Zero (eqb (address_line lines) 0) (λ _. refl) (λ _. refl)))
    where
      Same : Outcome → Type 0
      Same o = Has o (verdict_by (command_table r c) (verdict 0 0))

      Zero : Outcome → Type 0
      Zero o = o.answer.number ≡ 0

  step-number : Has (step_of r c ram) (verdict_by (bus_table r ++ command_table r c) (verdict 0 0))
  unfolding step_of bus_refusal
  step-number = bus (leb 8 r.lines || not (eqb r.spare 0)) (leb 2 r.chip) (eqb (read_line r.lines) (write_line r.lines)) refl refl refl
    where
      bus : (a b s : Bool) → a ≡ (leb 8 r.lines || not (eqb r.spare 0)) → b ≡ leb 2 r.chip
          → s ≡ eqb (read_line r.lines) (write_line r.lines)
          → Has (step_of r c ram) (verdict_by (bus_table r ++ command_table r c) (verdict 0 0))
      bus true b s is-a is_b is-s = rw (← is-a)
      bus false true s is-a is_b is-s = rw (← is-a, ← is_b)
      bus false false true is-a is_b is-s = rw (← is-a, ← is_b, ← is-s)
      bus false false false is-a is_b is-s = rw (← is-a, ← is_b, ← is-s) (action-number (asks r (rw (← is-a, ← is_b, ← is-s))))

  pub cycle-number : (cycle_of r c ram).answer.number ≡ (verdict_by (cycle_table r c ram) (verdict 0 0)).number
  unfolding cycle_of
  cycle-number =
      when-both Has (not (eqb (length ram) 320)) _ refl (λ _. refl)
      (λ _. when-both Has (not (in_range c)) _ refl (λ _. refl) (λ _. step-number))

  cycle-place : (verdict_by (cycle_table r c ram) (verdict 0 0)).place ≡ 0
  cycle-place =
      each_line verdict (verdict 0 0) (λ (v : Verdict). v.place ≡ 0) (cycle_table r c ram)
      (of-first (λ n at. at ≡ 0) (cycle_table r c ram) (search rules)) (λ _. refl)

pub every-cycle-number : EveryCycleNumber
every-cycle-number r c ram =
    let by-table = exactly-when (cycle_table r c ram) (verdict 0 0) in
    rw (cycle-number r c ram, (cycle-keeps c ram r).place ∙ sym (cycle-place r c ram)) by-table

-- what holds of each number where its line holds and none before it does, and of 0, holds of the number of every cycle
pub each_number : (P : ℕ → Type 0) (r : Record) (c : Chip) (ram : List ℕ) → EachLine (λ n at. P n) (cycle_table r c ram) → P 0
    → P (cycle_of r c ram).answer.number
each_number P r c ram each zero =
    rw (cycle-number r c ram)
    (each_line verdict (verdict 0 0) (λ (v : Verdict). P v.number) (cycle_table r c ram) (of-first (λ n at. P n) (cycle_table r c ram) each)
    (λ _. zero))

-- an accepted record names one of the two chips
pub accepted-chip : (r : Record) (c : Chip) (ram : List ℕ) → (cycle_of r c ram).answer.number ≡ 0 → r.chip < 2
accepted-chip r c ram zero = leb-false 2 r.chip (done-passes (every-cycle-number r c ram) (search rules) zero).1.1.1.0
