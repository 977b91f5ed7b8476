-- Both chips as the C side has them: 24 bytes, the left chip's 12 before the right one's.
use Rattle.std.specs.Prelude.{ℕ, ◌*◌, ◌≡◌, true, List, ◌++◌, eqb, length, take, drop}
use Rattle.basics.specs.Choice.{if}
use Rattle.sed1520.specs.ChipBytes.{chip_length, chip_bytes, bytes_pass, no_chip, chip_in}
use Rattle.sed1520.specs.declared.registers.Chip.{Chip}
use Rattle.panel.specs.Panel.{image_length, Panel, as_panel}
use Rattle.panel.specs.declared.chips.Chips.{Chips}

-- how many bytes both chips are: 24
abbrev pub chips_length : ℕ
chips_length = 2 * chip_length

-- the bytes of both chips, left before right
abbrev pub chips_bytes : Chip → Chip → List ℕ
chips_bytes left right = chip_bytes left ++ chip_bytes right

-- the left chip and the right one as `Chips`
abbrev pub as_chips : Chip → Chip → Chips
as_chips left right = record { left = left; right = right }

-- the chips of 24 bytes; from any other number of bytes, chips that number 2 does not let pass
unfoldable pub chips_in : List ℕ → Chips
chips_in chips = if (eqb (length chips) chips_length) (as_chips (chip_in (take chip_length chips)) (chip_in (drop chip_length chips)))
    (as_chips no_chip no_chip)

-- the panel of the chips' bytes and an image
abbrev pub panel_in : List ℕ → List ℕ → Panel
panel_in chips ram = as_panel (chips_in chips).left (chips_in chips).right ram

-- what EveryRecordStep and the replay's loop ask: bytes of both chips that number 2 lets pass, and the whole image
pub record BothPass (chips ram : List ℕ) : Type 0 where
  pub size : length chips ≡ chips_length
  pub left : bytes_pass (take chip_length chips) ≡ true
  pub right : bytes_pass (drop chip_length chips) ≡ true
  pub image : length ram ≡ image_length
