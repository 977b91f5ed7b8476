-- The laws by which the layers above know the cycle: what the records that they send do to the paint registers and to the RAM, and what any record
-- can change of what a frame looks at. The read latch, the saved column, the registers after a refused column set and where the column goes from
-- the stop on are left unsaid.
use Rattle.std.specs.Prelude.{ℕ, ◌+◌, ◌<◌, ◌≡◌, Bool, true, false, List, length}
use Rattle.sed1520.specs.Chip.{column_stop, in_range, with_page, with_column, with_start_line}
use Rattle.sed1520.specs.Command.{first}
use Rattle.sed1520.specs.Memory.{ram_length, byte_at, byte_set}
use Rattle.sed1520.specs.Cycle.{cycle_of}
use Rattle.sed1520.specs.declared.registers.Chip.{Chip}
use Rattle.sed1520.specs.declared.commands.Opcode.TheVariants.{StartLine, Page, Column}
use Rattle.sed1520.specs.declared.bus.Record.{Record}

-- the registers that are shown: the five that a frame looks at
pub record ShownRegisters : Type 0 where
  pub display : Bool
  pub static : Bool
  pub duty : Bool
  pub reverse : Bool
  pub line : ℕ

-- the registers of a chip that are shown
abbrev pub shown_by : Chip → ShownRegisters
shown_by c =
    record { display = c.display_on; static = c.static_on; duty = c.duty_32; reverse = c.reverse; line = c.start_line }

-- the paint registers, on which a repaint relies: those that are shown, and those that a later record of the repaint looks at
pub record PaintRegisters : Type 0 where
  pub shown : ShownRegisters
  pub modify : Bool
  pub page : ℕ
  pub column : ℕ

-- the paint registers of a chip
abbrev pub paint_registers : Chip → PaintRegisters
paint_registers c = record { shown = shown_by c; modify = c.modify; page = c.page; column = c.column }

-- a record whose fourth byte is 0
abbrev pub sent : ℕ → ℕ → ℕ → Record
sent lines chip b = record { lines = lines; chip = chip; byte = b; spare = 0 }

-- a chip that number 2 lets pass, with 320 bytes of RAM
pub record Fit (c : Chip) (ram : List ℕ) : Type 0 where
  pub range : in_range c ≡ true
  pub bytes : length ram ≡ ram_length

-- the cycle accepts the record, with these paint registers and this RAM afterwards, and the chip and its RAM fit again
pub record Accepts (r : Record) (c : Chip) (ram : List ℕ) (next : PaintRegisters) (after : List ℕ) : Type 0 where
  pub number : (cycle_of r c ram).answer.number ≡ 0
  pub place : (cycle_of r c ram).answer.place ≡ 0
  pub registers-after : paint_registers (cycle_of r c ram).answer.chip ≡ next
  pub ram-after : (cycle_of r c ram).ram ≡ after
  pub fit : Fit (cycle_of r c ram).answer.chip (cycle_of r c ram).ram

-- what a cycle can change of what a frame looks at, its record accepted or not: a command the registers that are shown, a data write bytes of the RAM
-- column that the chip stands at, any other record nothing
pub record Touches (r : Record) (c : Chip) (ram : List ℕ) : Type 0 where
  pub registers-kept : (r.lines ≡ 2 → ⊥) → shown_by (cycle_of r c ram).answer.chip ≡ shown_by c
  pub ram-kept : (r.lines ≡ 3 → ⊥) → (cycle_of r c ram).ram ≡ ram
  pub columns-kept : (page column : ℕ) → column < column_stop → (column ≡ c.column → ⊥)
      → byte_at (cycle_of r c ram).ram page column ≡ byte_at ram page column

-- every cycle changes no more of what a frame looks at than `Touches` says
abbrev pub EveryCycleTouches : Type 0
EveryCycleTouches = (r : Record) (c : Chip) (ram : List ℕ) → Touches r c ram

-- either chip accepts a page set and a start line set, and, at columns that it has, a column set with read-modify-write off and a data write
pub record CycleLaws : Type 0 where
  pub page-set : (c : Chip) (ram : List ℕ) → Fit c ram → (k : ℕ) → k < 2 → (n : ℕ) → n < 4
      → Accepts (sent 2 k (first Page + n)) c ram (paint_registers (with_page n c)) ram
  pub start-line-set : (c : Chip) (ram : List ℕ) → Fit c ram → (k : ℕ) → k < 2 → (n : ℕ) → n < 32
      → Accepts (sent 2 k (first StartLine + n)) c ram (paint_registers (with_start_line n c)) ram
  pub column-set : (c : Chip) (ram : List ℕ) → Fit c ram → (k : ℕ) → k < 2 → (n : ℕ) → n < column_stop → c.modify ≡ false
      → Accepts (sent 2 k (first Column + n)) c ram (paint_registers (with_column n c)) ram
  pub data-write : (c : Chip) (ram : List ℕ) → Fit c ram → (k : ℕ) → k < 2 → (b : ℕ) → c.column < column_stop
      → Accepts (sent 3 k b) c ram (paint_registers (with_column (c.column + 1) c)) (byte_set ram c.page c.column b)
