-- What is proved of the read latch (document 01: the holder) of one chip: a page set and a data write leave it stale; one empty read loads it.
-- And the words in which crate `panel` says that the byte of a fresh one stands in RAM, and that its mark, fresh or stale, decides between kinds 1
-- and 2 and changes nothing else.
use Rattle.std.specs.Prelude.{ℕ, suc, ◌+◌, ◌<◌, ◌≡◌, Bool, true, ◌&&◌, ◌||◌, List, ◌⊎◌, eqb}
use Rattle.basics.specs.Choice.{if}
use Rattle.sed1520.specs.Chip.{column_stop, latched}
use Rattle.sed1520.specs.Command.{first, within}
use Rattle.sed1520.specs.Cycle.{Reply, cycle_of}
use Rattle.sed1520.specs.Laws.{sent, Fit}
use Rattle.sed1520.specs.Memory.{byte_at}
use Rattle.sed1520.specs.declared.registers.Chip.{Chip}
use Rattle.sed1520.specs.declared.registers.ReadLatch.TheVariants.{Fresh, Stale}
use Rattle.sed1520.specs.declared.commands.Opcode.TheVariants.{Page}
use Rattle.sed1520.specs.declared.bus.Record.{Record}

-- the cycle is done and leaves the latch stale with the byte that it had
pub record Stales (r : Record) (c : Chip) (ram : List ℕ) : Type 0 where
  pub number : (cycle_of r c ram).answer.number ≡ 0
  pub latch : (cycle_of r c ram).answer.chip.latch ≡ Stale (latched c.latch)

-- request C-12: every page set, and every data write, whatever the column, leaves the latch stale with its byte, on either chip
pub record LatchBecomesStale : Type 0 where
  pub page-set : (c : Chip) (ram : List ℕ) → Fit c ram → (k : ℕ) → k < 2 → (n : ℕ) → n < 4 → Stales (sent 2 k (first Page + n)) c ram
  pub data-write : (c : Chip) (ram : List ℕ) → Fit c ram → (k : ℕ) → k < 2 → (b : ℕ) → Stales (sent 3 k b) c ram

-- a data read at a column that the chip has, whatever the latch held, and right after it another one: that one answers kind 1 and the byte of the
-- cell that the first one addressed
abbrev pub OneEmptyRead : Type 0
OneEmptyRead =
    (c : Chip) (ram : List ℕ) → Fit c ram → c.column < column_stop → (k : ℕ) → k < 2 → (a b : ℕ)
    → let empty = cycle_of (sent 5 k a) c ram in let answer = (cycle_of (sent 5 k b) empty.answer.chip empty.ram).answer in
    (answer.number ≡ 0) × ((answer.kind ≡ 1) × (answer.byte ≡ byte_at ram c.page c.column))

-- the column before the one addressed, as a data read that counts on leaves it; in read-modify-write, only where the column is still the saved one
abbrev pub CountedPast : ℕ → Chip → Type 0
CountedPast n c = (suc n ≡ c.column) × (c.modify ≡ true → c.column ≡ c.saved_column)

-- the column addressed, as a data read leaves it in read-modify-write
abbrev pub Addressed : ℕ → Chip → Type 0
Addressed n c = (n ≡ c.column) × (c.modify ≡ true)

-- a column near the one addressed: `CountedPast` or `Addressed`
abbrev pub Near : ℕ → Chip → Type 0
Near n c = CountedPast n c ⊎ Addressed n c

-- a byte stands in RAM on the page addressed, in a column near the one addressed
pub record Stands (c : Chip) (ram : List ℕ) (b : ℕ) : Type 0 where
  pub column : ℕ
  pub below : column < column_stop
  pub near : Near column c
  pub byte : byte_at ram c.page column ≡ b

-- the byte of the latch, if the latch is fresh, stands in RAM near the column addressed
abbrev pub FreshStands : Chip → List ℕ → Type 0
FreshStands c ram = (b : ℕ) → c.latch ≡ Fresh b → Stands c ram b

-- a reply with kind 1 taken for kind 2
abbrev pub unmarked_reply : Reply → Reply
unmarked_reply a = record { kind = if (eqb a.kind 1) 2 a.kind; byte = a.byte; stored = a.stored }

-- whether a record is a page set or a data write
abbrev pub sets_page_or_writes : Record → Bool
sets_page_or_writes r = eqb r.lines 2 && within Page r.byte || eqb r.lines 3
