-- A chip as the C side has it: 12 bytes (document 01: chip record), no header. Display, static, duty (1 = 1/32), ADC (1 = reverse),
-- read-modify-write, page, start line, column, saved column, the read latch's mark (1 = fresh) and byte (document 01: holder mark, holder byte), 0.
use Rattle.std.specs.Prelude.{ℕ, Bool, true, ◌&&◌, List, [], ◌∷◌, ltb, eqb, length, get_or}
use Rattle.basics.specs.Choice.{if}
use Rattle.sed1520.specs.Chip.{in_range, fresh, latched, renewed, with_page}
use Rattle.sed1520.specs.declared.registers.Chip.{Chip}
use Rattle.sed1520.specs.declared.registers.ReadLatch.{ReadLatch}
use Rattle.sed1520.specs.declared.registers.ReadLatch.TheVariants.{Fresh, Stale}

-- how many bytes a chip is
abbrev pub chip_length : ℕ
chip_length = 12

-- a flag as a byte
abbrev pub bit : Bool → ℕ
bit b = if b 1 0

-- a byte as a flag
abbrev pub flag : ℕ → Bool
flag n = eqb n 1

-- the mark of a latch: 1 for a fresh one, else 0
abbrev pub mark : ReadLatch → ℕ
mark (Fresh b) = 1
mark (Stale b) = 0

-- the latch of a mark and a byte
abbrev pub as_latch : ℕ → ℕ → ReadLatch
as_latch m b = if (flag m) (Fresh b) (Stale b)

-- the 12 bytes of a chip
unfoldable pub chip_bytes : Chip → List ℕ
chip_bytes c =
    bit c.display_on ∷ bit c.static_on ∷ bit c.duty_32 ∷ bit c.reverse ∷ bit c.modify
    ∷ c.page ∷ c.start_line ∷ c.column ∷ c.saved_column ∷ mark c.latch ∷ latched c.latch ∷ 0 ∷ []

-- the registers that 12 bytes say, whatever these are; a flag or a mark that is not 1 is taken for 0, and the last byte is passed over
unfoldable pub registers_in : List ℕ → Chip
registers_in b =
    renewed (λ place _. flag (get_or b place 0)) (λ place _. get_or b place 0) (λ _. as_latch (get_or b 9 0) (get_or b 10 0)) fresh

-- the places of the flags and of the mark among a chip's bytes
abbrev pub flag_places : List ℕ
flag_places = 0 ∷ 1 ∷ 2 ∷ 3 ∷ 4 ∷ 9 ∷ []

-- whether the bytes at some places are 0 or 1
unfoldable pub flags_at : List ℕ → List ℕ → Bool
flags_at [] b = true
flags_at (place ∷ places) b = ltb (get_or b place 0) 2 && flags_at places b

-- whether the flags and the mark of a chip's bytes are 0 or 1 and the last byte is 0
unfoldable pub flags_right : List ℕ → Bool
flags_right b = flags_at flag_places b && eqb (get_or b 11 0) 0

-- whether number 2 lets these bytes of a chip pass: there are 12, flags, mark and last byte are right, and the registers are in range
abbrev pub bytes_pass : List ℕ → Bool
bytes_pass b = eqb (length b) chip_length && (flags_right b && in_range (registers_in b))

-- a chip that number 2 does not let pass, with a page that is not there
abbrev pub no_chip : Chip
no_chip = with_page 4 fresh

-- the chip of 12 bytes; one that number 2 does not let pass where there are not 12, or a flag, the mark or the last byte is wrong
unfoldable pub chip_in : List ℕ → Chip
chip_in b = if (eqb (length b) chip_length && flags_right b) (registers_in b) no_chip

-- 12 bytes after a chip was written to them; any other number of bytes as they were
abbrev pub chip_out : Chip → List ℕ → List ℕ
chip_out c b = if (eqb (length b) chip_length) (chip_bytes c) b
