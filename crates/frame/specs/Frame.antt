-- The frame: what the 122 by 32 panel (document 01: the glass) shows, each half driven by its own chip.
use Rattle.std.specs.Prelude.{ℕ, zero, suc, ◌+◌, ◌-◌, ◌*◌, ◌/◌, ◌%◌, ◌^◌, Bool, not, ◌&&◌, ◌||◌, List, [], ◌∷◌, ◌++◌, leb, eqb, length}
use Rattle.std.specs.Prelude.{Result, Ok, Err}
use Rattle.basics.specs.Choice.{if}
use Rattle.basics.specs.Halves.{part_start}
use Rattle.basics.specs.Lists.{joined, tabulated}
use Rattle.basics.specs.Refusals.{number_of}
use Rattle.basics.specs.Table.{Cause, cause, left_then_right, unless_refused}
use Rattle.basics.specs.Verdict.{verdict, CallResult, result_of}
use Rattle.basics.specs.Verdict.{Verdict}
use Rattle.basics.specs.declared.refusal.Refusal.{Refusal}
use Rattle.sed1520.specs.Chip.{out_of_range}
use Rattle.sed1520.specs.Memory.{ram_length, byte_at}
use Rattle.sed1520.specs.declared.registers.Chip.{Chip}
use Rattle.panel.specs.Panel.{image_length, Panel, ram_at}

-- the segments that a chip drives
abbrev pub segments : ℕ
segments = 61

-- the columns of the panel: 122
abbrev pub columns : ℕ
columns = segments + segments

-- the bytes of a frame: 488
abbrev pub frame_length : ℕ
frame_length = columns * 4

-- the RAM column of a segment
abbrev pub ram_column : Chip → ℕ → ℕ
ram_column c n = if c.reverse (79 - n) n

-- the pixel that the RAM has in a column at a line, line 32 being line 0 again, bit 0 of a page topmost
abbrev pub line_bit : List ℕ → ℕ → ℕ → ℕ
line_bit ram column line = byte_at ram (line % 32 / 8) column / 2 ^ (line % 8) % 2

-- the pixel of segment n in a row: 1 lit, 0 dark
unfoldable pub pixel : Chip → List ℕ → ℕ → ℕ → ℕ
pixel c ram n row =
    if (not c.display_on) 0
    (if c.static_on 1
    (if (not c.duty_32 && leb 16 row) 0
    (line_bit ram (ram_column c n) (c.start_line + row))))

-- n pixels from a row on as a number, the first one lowest
unfoldable pub packed_pixels : (ℕ → ℕ) → ℕ → ℕ → ℕ
packed_pixels f row zero = 0
packed_pixels f row (suc n) = f row + 2 * packed_pixels f (row + 1) n

-- the byte of segment n in band r; band r is rows 8 r to 8 r + 7
unfoldable pub frame_byte : Chip → List ℕ → ℕ → ℕ → ℕ
frame_byte c ram n r = packed_pixels (pixel c ram n) (8 * r) 8

-- the 32 pixels of segment n as one number, row 0 lowest
abbrev pub segment_rows : Chip → List ℕ → ℕ → ℕ
segment_rows c ram n = packed_pixels (pixel c ram n) 0 32

-- the numbers of a segment asked alone: 1 for RAM that is not 320 bytes or a segment that the chip does not drive, 2 for a chip out of range
abbrev pub segment_table : Chip → List ℕ → ℕ → List Cause
segment_table c ram n = cause 1 0 (not (eqb (length ram) ram_length) || leb segments n) ∷ cause 2 0 (out_of_range c) ∷ []

-- what a segment asked alone is given: a number, and 32 pixels, which are 0 where it is refused
pub record Segment : Type 0 where
  pub number : ℕ
  pub pixels : ℕ

-- the number and the pixels that stand for what is given back of a segment
abbrev pub segment_of : Result ℕ Refusal → Segment
segment_of (Ok pixels) = record { number = 0; pixels = pixels }
segment_of (Err r) = record { number = number_of r; pixels = 0 }

-- a segment asked alone: its number, and its 32 pixels, row 0 lowest
unfoldable pub segment_pixels : Chip → List ℕ → ℕ → Segment
segment_pixels c ram n =
    unless_refused (segment_table c ram n) (λ number at. record { number = number; pixels = 0 }) (record { number = 0; pixels = segment_rows c ram n })

-- a half of a given width in band r: the bytes of its segments in rising order
abbrev pub half_band : ℕ → Chip → List ℕ → ℕ → List ℕ
half_band width c ram r = tabulated (λ n. frame_byte c ram n r) 0 width

-- the panel in band r: the left chip's half, then the right chip's, each over its own 320 bytes
unfoldable pub frame_band : Panel → ℕ → List ℕ
frame_band p r = half_band segments p.left (ram_at p 0) r ++ half_band segments p.right (ram_at p 1) r

-- the frame: bands 0 to 3, one after the other
unfoldable pub frame_of : Panel → List ℕ
frame_of p = joined (frame_band p) 0 4

-- where the byte of a chip's segment n in band r stands, in a frame and in a picture
unfoldable pub frame_place : ℕ → ℕ → ℕ → ℕ
frame_place chip n r = part_start segments chip + n + columns * r

-- number 1: an image that is not 640 bytes, a frame that is not 488
unfoldable pub frame_sizes_wrong : ℕ → ℕ → Bool
frame_sizes_wrong ram frame = not (eqb ram image_length) || not (eqb frame frame_length)

-- the numbers of a frame, by whether the left chip and the right one are out of range and by the lengths of image and buffer
abbrev pub frame_table : Bool → Bool → ℕ → ℕ → List Cause
frame_table left right ram frame = cause 1 0 (frame_sizes_wrong ram frame) ∷ left_then_right 2 left right []

-- the frame's call: numbers 1 and 2, which leave the buffer as it came, else the frame in the buffer, with its length as place
unfoldable pub framed : Panel → List ℕ → CallResult Verdict (List ℕ)
framed p buffer =
    unless_refused (frame_table (out_of_range p.left) (out_of_range p.right) (length p.ram) (length buffer))
    (λ n at. result_of (verdict n at) buffer) (result_of (verdict 0 frame_length) (frame_of p))
