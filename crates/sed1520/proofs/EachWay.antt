-- What holds of each way that a cycle can end holds of every cycle. It is said of two chips at once, which may be the same one, so that two
-- cycles can be compared.
use Prim.Native.Nat.{ℕ, ◌+◌, ◌<◌, ◌≤◌}
use native.Mathlib.Omega.{arith}
use mathlib.Core.Path.{◌≡◌, refl, sym, ap}
use mathlib.Core.Bool.{not}
use mathlib.Core.List.{List}
use Rattle.std.specs.Prelude.{Option, None, Some}
use lib.Dec.{eqb}
use lib.ListN.{length}
use borrow.Author.Tests.{eqb-true, eqb-false}
use Rattle.basics.proofs.Tests.{when-both}
use Rattle.sed1520.specs.Chip.{in_range}
use Rattle.sed1520.specs.Command.{first, count, decode_of}
use Rattle.sed1520.specs.Cycle.{Outcome, outcome, refusal, answered, execute, column_refusal, executed, command_write, data_write}
use Rattle.sed1520.specs.Cycle.{data_read, status_read, write_line, address_line, action_of, bus_refusal, step_of, cycle_of}
use Rattle.sed1520.specs.Cycle.{Answer}
use Rattle.sed1520.specs.declared.registers.Chip.{Chip}
use Rattle.sed1520.specs.declared.commands.Opcode.{Opcode}
use Rattle.sed1520.specs.declared.commands.Command.{Command}
use Rattle.sed1520.specs.declared.bus.Record.{Record}
use Rattle.sed1520.proofs.OneRule.{Placed, coded-place}
use Rattle.sed1520.proofs.StepCases.{asks}

-- a command that is executed: its argument is one of its opcode's, and it is no column set that is refused
pub record Executed (k : Opcode) (a : ℕ) (c : Chip) : Type 0 where
  pub argument : a < count k
  pub column : column_refusal (first k + a) c.modify ≡ 0

-- the ways: refused, and by the control lines a command executed, data written, the status read, data read
pub record EachWay (P : Outcome → Outcome → Type 0) (r : Record) (c d : Chip) (ram : List ℕ) : Type 0 where
  pub refused : (n : ℕ) → P (outcome (refusal n c) ram) (outcome (refusal n d) ram)
  pub command : r.lines ≡ 2 → (k : Opcode) (a : ℕ) → Executed k a c
      → P (outcome (answered 0 0 (execute k a c)) ram) (outcome (answered 0 0 (execute k a d)) ram)
  pub data-write : r.lines ≡ 3 → P (data_write r.chip r.byte c ram) (data_write r.chip r.byte d ram)
  pub status-read : r.lines ≡ 4 → P (outcome (status_read c) ram) (outcome (status_read d) ram)
  pub data-read : r.lines ≡ 5 → P (outcome (data_read c ram) ram) (outcome (data_read d ram) ram)

-- the tests of the cycle, number 2's and a column set's, have to answer the same for both chips
module _ (P : Outcome → Outcome → Type 0) (r : Record) (c d : Chip) (ram : List ℕ) (range : in_range c ≡ in_range d) (mode : c.modify ≡ d.modify)
    (way : EachWay P r c d ram) where
  each-command : r.lines ≡ 2 → (b : ℕ) (o : Option Command) → ((m : Command) → o ≡ Some m → Placed m b)
      → P (outcome (executed b o c) ram) (outcome (executed b o d) ram)
  each-command lines b None h = way.refused 7
  each-command lines b (Some m) h =
      let same = ap (column_refusal b) mode in
      let number = column_refusal b c.modify in
      when-both (λ (a e : Answer). P (outcome a ram) (outcome e ram)) (eqb number 0) (eqb (column_refusal b d.modify) 0) (rw same)
      (λ free. way.command lines m.opcode m.argument
      (record { argument = (h m refl).0; column = rw (h m refl).1 (eqb-true number 0 free) }))
      (λ _. rw (sym same) (way.refused number))

  each-action : bus_refusal r ≡ 0 → P (action_of r c ram) (action_of r d ram)
  unfolding action_of command_write
  each-action accepted =
      let lines = r.lines in
      let from = (asks r accepted).from in
      let to = (asks r accepted).to in
      when-both P (eqb (write_line lines) 0) _ refl
      (λ low. let low : lines < 4 = omega (arith, to, eqb-true (write_line lines) 0 low) in
      when-both P (eqb (address_line lines) 0) _ refl
      (λ even. each-command (omega (arith, from, low, eqb-true (address_line lines) 0 even))
      r.byte (decode_of r.byte).value (λ m e. coded-place r.byte m e))
      (λ odd. way.data-write (omega (arith, from, low, eqb-false (address_line lines) 0 odd))))
      (λ high. let high : 4 ≤ lines = omega (arith, to, eqb-false (write_line lines) 0 high) in
      when-both P (eqb (address_line lines) 0) _ refl
      (λ even. way.status-read (omega (arith, to, high, eqb-true (address_line lines) 0 even)))
      (λ odd. way.data-read (omega (arith, to, high, eqb-false (address_line lines) 0 odd))))

  pub each-cycle : P (cycle_of r c ram) (cycle_of r d ram)
  unfolding cycle_of step_of
  each-cycle =
      when-both P (not (eqb (length ram) 320)) _ refl (λ _. way.refused 1)
      (λ _. when-both P (not (in_range c)) (not (in_range d)) (ap not range) (λ _. way.refused 2)
      (λ _. when-both P (eqb (bus_refusal r) 0) _ refl (λ t. each-action (eqb-true (bus_refusal r) 0 t)) (λ _. way.refused (bus_refusal r))))
