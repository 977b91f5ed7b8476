-- What every cycle keeps, through each way that it can end.
use Prim.Native.Nat.{ℕ, ◌+◌, ◌≤◌}
use native.Mathlib.Omega.{arith}
use mathlib.Core.Path.{◌≡◌, refl}
use mathlib.Core.List.{List}
use lib.Dec.{ltb}
use lib.ListN.{length, length-set}
use borrow.Author.Rules.{rules}
use borrow.Author.Tests.{ltb-true}
use Rattle.basics.specs.Choice.{if}
use Rattle.sed1520.specs.Command.{first}
use Rattle.sed1520.specs.Memory.{ram_index}
use Rattle.sed1520.specs.Cycle.{outcome, refusal, execute, data_write, after_read, data_read, cycle_of}
use Rattle.sed1520.specs.Promises.{Keeps, EveryCycleKeeps}
use Rattle.sed1520.specs.Cycle.{Answer}
use Rattle.sed1520.specs.declared.registers.Chip.{Chip}
use Rattle.sed1520.specs.declared.commands.Opcode.{Opcode}
use Rattle.sed1520.specs.declared.commands.Opcode.TheVariants.{Display, StartLine, Page, Column, Adc, Static, Duty, Modify, End, Reset}
use Rattle.sed1520.specs.declared.bus.Record.{Record}
use Rattle.sed1520.proofs.ChipRange.{Ranges, ranges, in-range}
use Rattle.sed1520.proofs.ColumnRefusals.{taken-column}
use Rattle.sed1520.proofs.EachWay.{Executed, each-cycle}
use Rattle.basics.proofs.Tests.{when}

-- the registers after an accepted command are in range
execute-ranges : (k : Opcode) (a : ℕ) (c : Chip) → Executed k a c → Ranges c → Ranges (execute k a c)
unfolding execute
execute-ranges Display a c h r = search rules
execute-ranges StartLine a c h r = search rules
execute-ranges Page a c h r = search rules
execute-ranges Column a c h r = let column = taken-column (first Column + a) c.modify (omega (arith, h.argument)) h.column in search rules
execute-ranges Adc a c h r = search rules
execute-ranges Static a c h r = search rules
execute-ranges Duty a c h r = search rules
execute-ranges Modify a c h r = when Ranges c.modify (λ on. r) (λ off. search rules)
execute-ranges End a c h r = when Ranges c.modify (λ on. search rules) (λ off. r)
execute-ranges Reset a c h r = search rules

-- a cycle that is done with a chip in range keeps what is asked; so does one that is refused
module _ (c : Chip) (ram : List ℕ) where
  done-keeps : (a : Answer) (after : List ℕ) → (a.number ≡ 0) × (a.place ≡ 0) → (Ranges c → Ranges a.chip) → length after ≡ length ram
      → Keeps c ram (outcome a after)
  done-keeps a after done r l =
      record { place = done.1; same_size = l; range = λ e. in-range a.chip (r (ranges c e)); refused = λ h. absurd (h done.0) }

  refusal-keeps : (n : ℕ) → Keeps c ram (outcome (refusal n c) ram)
  refusal-keeps n = record { place = refl; same_size = refl; range = λ e. e; refused = λ h. refl }

  after-read-ranges : Ranges c → Ranges (after_read c ram)
  unfolding after_read
  after-read-ranges r =
      when Ranges (ltb c.column 80)
      (λ below. let h = ltb-true c.column 80 below in
      let counted : if c.modify c.column (c.column + 1) ≤ 80 = when (λ n. n ≤ 80) c.modify (λ _. r.column) (λ _. omega arith) in
      search rules)
      (λ _. search rules)

  write_keeps : (k b : ℕ) → Keeps c ram (data_write k b c ram)
  unfolding data_write
  write_keeps k b =
      when (Keeps c ram) (ltb c.column 80)
      (λ below. let h = ltb-true c.column 80 below in
      done-keeps _ _ (refl, refl) (λ r. search rules) (length-set ram (ram_index c.page c.column) b))
      (λ _. done-keeps _ ram (refl, refl) (λ r. search rules) refl)

  pub cycle-keeps : (r : Record) → Keeps c ram (cycle_of r c ram)
  unfolding data_read
  cycle-keeps r =
      each-cycle (λ o _. Keeps c ram o) r c c ram refl refl
      (record {
        refused = refusal-keeps;
        command = λ _ k a h. done-keeps _ ram (refl, refl) (execute-ranges k a c h) refl;
        data-write = λ _. write_keeps r.chip r.byte;
        status-read = λ _. done-keeps _ ram (refl, refl) (λ h. h) refl;
        data-read = λ _. done-keeps _ ram (refl, refl) after-read-ranges refl;
      })

pub every-cycle-keeps : EveryCycleKeeps
every-cycle-keeps r c ram = cycle-keeps c ram r
