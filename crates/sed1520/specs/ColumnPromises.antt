-- What is proved of columns (request C-15): which column sets a chip accepts, which columns number 2 lets pass, and that counting stops.
use Rattle.std.specs.Prelude.{ℕ, suc, ◌+◌, ◌<◌, ◌≤◌, ◌≡◌, Bool, true, false, List}
use Rattle.sed1520.specs.Chip.{column_stop, in_range, latched, read_kind, staled, with_column, with_modify}
use Rattle.sed1520.specs.Command.{first, count, coded, decode_of}
use Rattle.sed1520.specs.Cycle.{outcome, refusal, answered, cycle_of}
use Rattle.sed1520.specs.Laws.{sent, Fit}
use Rattle.sed1520.specs.declared.registers.Chip.{Chip}
use Rattle.sed1520.specs.declared.commands.Opcode.TheVariants.{Column}
use Rattle.sed1520.specs.declared.bus.Record.{Record}

-- a column set sent to chip k: decoded alone it is one, whatever its argument; sent, it is refused by 8 while read-modify-write is on, then by 14
-- where the chip does not have the column, nothing changed; else it is done
pub record ColumnSet (c : Chip) (ram : List ℕ) (k n : ℕ) : Type 0 where
  pub alone : decode_of (first Column + n) ≡ coded (record { opcode = Column; argument = n })
  pub locked : c.modify ≡ true → cycle_of (sent 2 k (first Column + n)) c ram ≡ outcome (refusal 8 c) ram
  pub missing : c.modify ≡ false → column_stop ≤ n → cycle_of (sent 2 k (first Column + n)) c ram ≡ outcome (refusal 14 c) ram
  pub taken : c.modify ≡ false → n < column_stop → cycle_of (sent 2 k (first Column + n)) c ram ≡ outcome (answered 0 0 (staled (with_column n c))) ram

-- the cause of number 14: a column set to a column that the chip does not have, and no cause of a number that is tested before it
pub record SetsMissingColumn (r : Record) (c : Chip) (ram : List ℕ) : Type 0 where
  pub fit : Fit c ram
  pub spare : r.spare ≡ 0
  pub chip : r.chip < 2
  pub lines : r.lines ≡ 2
  pub from : first Column + column_stop ≤ r.byte
  pub to : r.byte < first Column + count Column
  pub off : c.modify ≡ false

-- every column set is dealt with as `ColumnSet` says, on either chip; and number 14 is given for its cause alone, whatever the record, chip and RAM
pub record ColumnSets : Type 0 where
  pub each : (c : Chip) (ram : List ℕ) → Fit c ram → (k : ℕ) → k < 2 → (n : ℕ) → n < count Column → ColumnSet c ram k n
  pub only : (r : Record) (c : Chip) (ram : List ℕ) → (cycle_of r c ram).answer.number ≡ 14 → SetsMissingColumn r c ram

-- number 2 lets a column, and in read-modify-write a saved column, pass up to the one at which counting stops, and none past it
pub record ColumnRange : Type 0 where
  pub up_to : (c : Chip) → in_range c ≡ true → (n : ℕ) → n ≤ column_stop
      → (in_range (with_column n c) ≡ true) × (in_range (with_modify true n c) ≡ true)
  pub past : (c : Chip) (n : ℕ) → column_stop < n → (in_range (with_column n c) ≡ false) × ((on : Bool) → in_range (with_modify on n c) ≡ false)

-- a data write, and a data read with read-modify-write off, count up to the column where counting stops; there both leave column and RAM as they are
pub record CountingStops : Type 0 where
  pub reached : (c : Chip) (ram : List ℕ) → Fit c ram → suc c.column ≡ column_stop → (k : ℕ) → k < 2 → (b : ℕ)
      → ((cycle_of (sent 3 k b) c ram).answer.chip.column ≡ column_stop)
      × (c.modify ≡ false → (cycle_of (sent 5 k b) c ram).answer.chip.column ≡ column_stop)
  pub stays : (c : Chip) (ram : List ℕ) → Fit c ram → c.column ≡ column_stop → (k : ℕ) → k < 2 → (b : ℕ)
      → (cycle_of (sent 3 k b) c ram ≡ outcome (answered 0 0 (staled c)) ram)
      × (cycle_of (sent 5 k b) c ram ≡ outcome (answered (read_kind c.latch) (latched c.latch) (staled c)) ram)
