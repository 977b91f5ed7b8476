-- The numbers of a cycle, line by line as in document 01's table, with request C-15's 14 right after 8.
use Rattle.std.specs.Prelude.{Bool, not, ◌&&◌, List, [], ◌∷◌, ◌++◌, ℕ, ◌+◌, leb, eqb}
use Rattle.basics.specs.Table.{Cause, cause, ExactlyWhen}
use Rattle.basics.specs.Verdict.{verdict}
use Rattle.sed1520.specs.Chip.{column_stop}
use Rattle.sed1520.specs.Command.{first, within, is_command}
use Rattle.sed1520.specs.Cycle.{state_table, bus_table, cycle_of}
use Rattle.sed1520.specs.declared.registers.Chip.{Chip}
use Rattle.sed1520.specs.declared.bus.Record.{Record}
use Rattle.sed1520.specs.declared.commands.Opcode.TheVariants.{Column}

-- whether a record writes a command, and one that a test holds of
abbrev pub writes_command : Record → Bool → Bool
writes_command r test = eqb r.lines 2 && test

-- numbers 7, 8 and 14, of a record that writes a command
abbrev pub command_table : Record → Chip → List Cause
command_table r c =
    cause 7 0 (writes_command r (not (is_command r.byte)))
    ∷ cause 8 0 (writes_command r (within Column r.byte && c.modify))
    ∷ cause 14 0 (writes_command r (within Column r.byte && leb (first Column + column_stop) r.byte))
    ∷ []

-- all numbers of a cycle: 1, 2, 4, 5, 6, 7, 8, 14, each with place 0
abbrev pub cycle_table : Record → Chip → List ℕ → List Cause
cycle_table r c ram = state_table c ram ++ (bus_table r ++ command_table r c)

-- every cycle gives each number exactly when its line of `cycle_table` says so, else 0
abbrev pub EveryCycleNumber : Type 0
EveryCycleNumber =
    (r : Record) (c : Chip) (ram : List ℕ) → let a = (cycle_of r c ram).answer in
    ExactlyWhen (cycle_table r c ram) (verdict 0 0) (verdict a.number a.place)
