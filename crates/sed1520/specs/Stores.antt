-- What is proved of the RAM byte that a cycle says it stored to (request C-16).
use Rattle.std.specs.Prelude.{ℕ, ◌*◌, ◌<◌, ◌≡◌, Bool, ◌&&◌, List, ltb, eqb, length, get_or}
use Rattle.std.specs.Prelude.{None, Some}
use Rattle.basics.specs.Choice.{if}
use Rattle.sed1520.specs.Chip.{column_stop}
use Rattle.sed1520.specs.Cycle.{Outcome, cycle_of}
use Rattle.sed1520.specs.Memory.{ram_length, ram_index, image_index}
use Rattle.sed1520.specs.declared.registers.Chip.{Chip}
use Rattle.sed1520.specs.declared.bus.Record.{Record}

-- whether a record writes data to a chip that stands at a column below 80: accepted, such a record stores
abbrev pub finds_column : Record → Chip → Bool
finds_column r c = eqb r.lines 3 && ltb c.column column_stop

-- RAM before and after one byte was stored: it holds that byte, and every other is as it was, none more and none fewer
pub record OneStored (at b : ℕ) (ram after : List ℕ) : Type 0 where
  pub size : length after ≡ length ram
  pub holds : get_or after at 0 ≡ b
  pub others : (j : ℕ) → (j ≡ at → ⊥) → get_or after j 0 ≡ get_or ram j 0

-- a byte said is the one of the chip's page and column, by its index among the 640 of both chips; of this chip's 320 it is the only one that can
-- differ afterwards, and it holds the written byte
pub record SaidByte (r : Record) (c : Chip) (ram after : List ℕ) (i : ℕ) : Type 0 where
  pub index : i ≡ image_index r.chip c.page c.column
  pub in_image : i < 2 * ram_length
  pub within : ram_index c.page c.column < length ram
  pub stored : OneStored (ram_index c.page c.column) r.byte ram after

-- what a cycle says that it stored to: an accepted data write below column 80 a byte, any other record nothing, and a refused one nothing; nothing
-- said, the RAM is as it was; a byte said, that byte alone was stored
pub record SaysStored (r : Record) (c : Chip) (ram : List ℕ) (o : Outcome) : Type 0 where
  pub accepted : o.answer.number ≡ 0
      → o.answer.stored ≡ if (finds_column r c) (Some (image_index r.chip c.page c.column)) None
  pub refused : (o.answer.number ≡ 0 → ⊥) → o.answer.stored ≡ None
  pub nothing : o.answer.stored ≡ None → o.ram ≡ ram
  pub byte : (i : ℕ) → o.answer.stored ≡ Some i → SaidByte r c ram o.ram i

-- every cycle says what it stored to as `SaysStored` has it
abbrev pub EveryCycleSays : Type 0
EveryCycleSays = (r : Record) (c : Chip) (ram : List ℕ) → SaysStored r c ram (cycle_of r c ram)
