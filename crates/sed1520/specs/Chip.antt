-- A chip's registers: which values of a chip number 2 lets pass, the fresh chip, the read latch, and each register written alone.
use Rattle.std.specs.Prelude.{ℕ, Bool, true, false, not, ◌&&◌, ◌||◌, ltb, leb, eqb}
use Rattle.basics.specs.Choice.{if}
use Rattle.sed1520.specs.declared.registers.Chip.{Chip}
use Rattle.sed1520.specs.declared.registers.ReadLatch.{ReadLatch}
use Rattle.sed1520.specs.declared.registers.ReadLatch.TheVariants.{Fresh, Stale}

-- how many columns a chip has, and so the column at which counting stops; not how many a column set is coded with, which is `count Column`
abbrev pub column_stop : ℕ
column_stop = 80

-- whether a chip is in the ranges of document 01, the columns' by request C-15, with no saved column while read-modify-write is off
unfoldable pub in_range : Chip → Bool
in_range c =
    ltb c.page 4
    && (ltb c.start_line 32
    && (leb c.column column_stop
    && (leb c.saved_column column_stop
    && (c.modify || eqb c.saved_column 0))))

-- a chip that number 2 does not let pass
abbrev pub out_of_range : Chip → Bool
out_of_range c = not (in_range c)

-- the fresh chip, a project rule (document 01: house)
unfoldable pub fresh : Chip
fresh =
    record {
      display_on = false;
      static_on = false;
      duty_32 = true;
      reverse = false;
      modify = false;
      page = 0;
      start_line = 0;
      column = 0;
      saved_column = 0;
      latch = Stale 0;
    }

-- the byte of the read latch, fresh or stale
abbrev pub latched : ReadLatch → ℕ
latched (Fresh b) = b
latched (Stale b) = b

-- the kind that a data read answers with
abbrev pub read_kind : ReadLatch → ℕ
read_kind (Fresh b) = 1
read_kind (Stale b) = 2

-- made stale, the latch keeps its byte
abbrev pub stale : ReadLatch → ReadLatch
stale latch = Stale (latched latch)

-- a chip with every register renewed: a flag by the first function and a number by the second, each from the place of its byte among the chip's
-- bytes and from what it held; the latch by the third, from what it held
abbrev pub renewed : (ℕ → Bool → Bool) → (ℕ → ℕ → ℕ) → (ReadLatch → ReadLatch) → Chip → Chip
renewed flag number latch c =
    record {
      display_on = flag 0 c.display_on;
      static_on = flag 1 c.static_on;
      duty_32 = flag 2 c.duty_32;
      reverse = flag 3 c.reverse;
      modify = flag 4 c.modify;
      page = number 5 c.page;
      start_line = number 6 c.start_line;
      column = number 7 c.column;
      saved_column = number 8 c.saved_column;
      latch = latch c.latch;
    }

-- for `renewed`: at every place what the register held
abbrev pub as_held : {A : Type 0} → ℕ → A → A
as_held place held = held

-- for `renewed`: a value at one place, at every other what the register held
abbrev pub only : {A : Type 0} → ℕ → A → ℕ → A → A
only at v place held = if (eqb place at) v held

-- the flag at a place of the chip's bytes, 0 to 4, written alone; every other register as it was
abbrev pub with_flag : ℕ → Bool → Chip → Chip
with_flag at v c = renewed (only at v) as_held (λ latch. latch) c

-- the number at a place of the chip's bytes, 5 to 8, written alone
abbrev pub with_number : ℕ → ℕ → Chip → Chip
with_number at v c = renewed as_held (only at v) (λ latch. latch) c

-- the read latch written alone
abbrev pub with_latch : ReadLatch → Chip → Chip
with_latch v c = renewed as_held as_held (λ latch. v) c

-- the display flag written alone
abbrev pub with_display : Bool → Chip → Chip
with_display v c = with_flag 0 v c

-- static drive written alone
abbrev pub with_static : Bool → Chip → Chip
with_static v c = with_flag 1 v c

-- the duty written alone
abbrev pub with_duty : Bool → Chip → Chip
with_duty v c = with_flag 2 v c

-- the ADC direction written alone
abbrev pub with_reverse : Bool → Chip → Chip
with_reverse v c = with_flag 3 v c

-- read-modify-write and its saved column written together
abbrev pub with_modify : Bool → ℕ → Chip → Chip
with_modify on saved c = with_flag 4 on (with_number 8 saved c)

-- the page written alone
abbrev pub with_page : ℕ → Chip → Chip
with_page v c = with_number 5 v c

-- the start line written alone
abbrev pub with_start_line : ℕ → Chip → Chip
with_start_line v c = with_number 6 v c

-- the column written alone
abbrev pub with_column : ℕ → Chip → Chip
with_column v c = with_number 7 v c

-- the read latch made stale, the rest as it was
abbrev pub staled : Chip → Chip
staled c = with_latch (stale c.latch) c
