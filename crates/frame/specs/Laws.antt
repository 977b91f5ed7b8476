-- The laws of the frame: document 01's sentence on its pixels, for which sizes and chips it is given, and those by which the layers above know
-- it: about one half, that is one chip over its 320 bytes and the 61 columns of the panel that it drives, and about where a byte stands.
use Rattle.std.specs.Prelude.{ℕ, ◌+◌, ◌*◌, ◌/◌, ◌%◌, ◌^◌, ◌<◌, ◌≤◌, ◌≡◌, Bool, true, false, not, ◌&&◌, List, ◌⊎◌, leb, length, get_or}
use Rattle.basics.specs.Table.{ExactlyWhen}
use Rattle.basics.specs.Verdict.{verdict, result_of}
use Rattle.sed1520.specs.Chip.{column_stop, out_of_range}
use Rattle.sed1520.specs.Laws.{shown_by}
use Rattle.sed1520.specs.Memory.{byte_at}
use Rattle.sed1520.specs.declared.registers.Chip.{Chip}
use Rattle.panel.specs.Panel.{Panel, chip_at, ram_at, Whole}
use Rattle.frame.specs.Frame.{segments, columns, frame_length, ram_column, pixel, frame_byte, frame_of, frame_place}
use Rattle.frame.specs.Frame.{segment_table, segment_pixels, frame_table, framed}

-- byte x + 122 r, bit b, is the pixel at column x and row 8 r + b: that of segment x mod 61 of chip x / 61, over its 320 bytes
abbrev pub EveryPixelPlaced : Type 0
EveryPixelPlaced =
    (p : Panel) (x r b : ℕ) → x < columns → r < 4 → b < 8
    → get_or (frame_of p) (x + columns * r) 0 / 2 ^ b % 2 ≡ pixel (chip_at p (x / segments)) (ram_at p (x / segments)) (x % segments) (8 * r + b)

-- chips in range over 640 bytes, a buffer of 488: number 0, the frame's length as place, and the frame in the buffer, whatever that held
abbrev pub EveryFrameGiven : Type 0
EveryFrameGiven =
    (p : Panel) (buffer : List ℕ) → Whole p → length buffer ≡ frame_length → framed p buffer ≡ result_of (verdict 0 frame_length) (frame_of p)

-- the frame's call gives each number exactly when its line of `frame_table` says so, else number 0 with the frame's length as place
abbrev pub FrameNumbers : Type 0
FrameNumbers =
    (p : Panel) (buffer : List ℕ)
    → ExactlyWhen (frame_table (out_of_range p.left) (out_of_range p.right) (length p.ram) (length buffer))
    (verdict 0 frame_length) (framed p buffer).answer

-- a segment asked alone is given each number exactly when its line of `segment_table` says so, else number 0
abbrev pub SegmentNumbers : Type 0
SegmentNumbers =
    (c : Chip) (ram : List ℕ) (n : ℕ) → ExactlyWhen (segment_table c ram n) (verdict 0 0) (verdict (segment_pixels c ram n).number 0)

-- whether a chip shows its RAM in a row
abbrev pub shows_ram : Chip → ℕ → Bool
shows_ram c row = c.display_on && (not c.static_on && not (not c.duty_32 && leb 16 row))

-- the RAM byte that has the pixel of segment n in a row
abbrev pub byte_shown : Chip → List ℕ → ℕ → ℕ → ℕ
byte_shown c ram n row = byte_at ram ((c.start_line + row) % 32 / 8) (ram_column c n)

-- two chips show the same of two RAMs in segment n: equal switches and start line, and equal bytes where RAM is shown
pub record SameShown (c d : Chip) (ram other : List ℕ) (n : ℕ) : Type 0 where
  pub registers : shown_by c ≡ shown_by d
  pub bytes : (row : ℕ) → row < 32 → shows_ram c row ≡ true → byte_shown c ram n row ≡ byte_shown c other n row

-- a chip that shows two whole pages in rows 0 to 15: display on, static drive off, duty 1/16, start line 0 or 16
pub record TwoPages (c : Chip) : Type 0 where
  pub display : c.display_on ≡ true
  pub static : c.static_on ≡ false
  pub duty : c.duty_32 ≡ false
  pub line : (c.start_line ≡ 0) ⊎ (c.start_line ≡ 16)

-- the RAM column of a segment exists; the frame's length and where a half stands in it; a half's bytes by its pixels and its pixels by its bytes;
-- what alone a half's byte depends on; and the two whole pages, dark below
pub record HalfLaws : Type 0 where
  pub column : (c : Chip) (n : ℕ) → n < segments → ram_column c n < column_stop
  pub whole : (p : Panel) → length (frame_of p) ≡ frame_length
  pub place : (p : Panel) (chip n r : ℕ) → n < segments → r < 4
      → get_or (frame_of p) (frame_place chip n r) 0 ≡ frame_byte (chip_at p chip) (ram_at p chip) n r
  pub pixels : (c d : Chip) (ram other : List ℕ) (n row : ℕ) → row < 32 → SameShown c d ram other n → pixel c ram n row ≡ pixel d other n row
  pub by-pixels : (c d : Chip) (ram other : List ℕ) (n : ℕ) → ((row : ℕ) → row < 32 → pixel c ram n row ≡ pixel d other n row)
      → (r : ℕ) → r < 4 → frame_byte c ram n r ≡ frame_byte d other n r
  pub bit : (c : Chip) (ram : List ℕ) (n r b : ℕ) → b < 8 → frame_byte c ram n r / 2 ^ b % 2 ≡ pixel c ram n (8 * r + b)
  pub depends : (c d : Chip) (ram other : List ℕ) (n r : ℕ) → r < 4 → SameShown c d ram other n → frame_byte c ram n r ≡ frame_byte d other n r
  pub upper : (c : Chip) (ram : List ℕ) (n r : ℕ) → TwoPages c → r < 2
      → frame_byte c ram n r ≡ byte_at ram (c.start_line / 8 + r) (ram_column c n) % 256
  pub lower : (c : Chip) (ram : List ℕ) (n r : ℕ) → TwoPages c → 2 ≤ r → frame_byte c ram n r ≡ 0

-- place i of so many bands, 122 bytes each, is that of a chip, a segment and a band
pub record Placed (i bands : ℕ) : Type 0 where
  pub chip : ℕ
  pub segment : ℕ
  pub band : ℕ
  pub either : chip < 2
  pub driven : segment < segments
  pub within : band < bands
  pub here : i ≡ frame_place chip segment band

-- where a byte stands in a frame or a picture of any number of bands: within them; so many bands further down, the panel's width later for each of
-- them; and every place is that of some byte
pub record PlaceLaws : Type 0 where
  pub below : (chip n r bands : ℕ) → n < segments → r < bands → frame_place chip n r < columns * bands
  pub further : (chip n r bands : ℕ) → frame_place chip n (bands + r) ≡ columns * bands + frame_place chip n r
  pub every : (i bands : ℕ) → i < columns * bands → Placed i bands
