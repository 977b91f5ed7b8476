-- The repaint: the 254 records that bring a 122 by 16 picture to the panel.
use Rattle.std.specs.Prelude.{ℕ, ◌+◌, ◌-◌, ◌*◌, Bool, not, ◌&&◌, ◌||◌, List, [], ◌∷◌, ◌++◌, ltb, eqb, length, get_or, drop}
use Rattle.basics.specs.Choice.{if}
use Rattle.basics.specs.Lists.{tabulated}
use Rattle.basics.specs.Table.{Cause, cause, left_then_right, unless_refused, verdict_by}
use Rattle.basics.specs.Verdict.{verdict, CallResult, result_of}
use Rattle.basics.specs.Verdict.{Verdict}
use Rattle.sed1520.specs.Chip.{column_stop, out_of_range}
use Rattle.sed1520.specs.Command.{first}
use Rattle.sed1520.specs.Laws.{sent}
use Rattle.sed1520.specs.Records.{records_bytes}
use Rattle.sed1520.specs.declared.registers.Chip.{Chip}
use Rattle.sed1520.specs.declared.bus.Record.{Record}
use Rattle.sed1520.specs.declared.commands.Opcode.TheVariants.{StartLine, Page, Column}
use Rattle.frame.specs.Frame.{segments, columns, frame_place}

-- how many bytes the data writes of one hidden page are: 244
abbrev pub writes_length : ℕ
writes_length = 4 * segments

-- how many bytes the records of one hidden page are, its page set and column set before its data writes: 252
abbrev pub page_length : ℕ
page_length = 8 + writes_length

-- how many records come before the first start line turns, 63 for each of four hidden pages: 252
abbrev pub quiet_cycles : ℕ
quiet_cycles = 4 * (2 + segments)

-- how many records a repaint has, two start lines turned last: 254
abbrev pub repaint_cycles : ℕ
repaint_cycles = quiet_cycles + 2

-- how many bytes the records of a repaint are: 1,016
abbrev pub output_length : ℕ
output_length = 4 * repaint_cycles

-- the hidden page that takes band r of the picture: 2 or 3 at start line 0, 0 or 1 at 16
abbrev pub hidden_page : Chip → ℕ → ℕ
hidden_page c r = if (eqb c.start_line 0) (2 + r) r

-- the lowest RAM column that a segment is shown from
abbrev pub lowest_column : Chip → ℕ
lowest_column c = if c.reverse (column_stop - segments) 0

-- the segment that is shown from shown column j: these are the 61 columns from the lowest on, of which the lowest is column 0
abbrev pub column_segment : Chip → ℕ → ℕ
column_segment c j = if c.reverse (segments - 1 - j) j

-- the picture's byte of a chip's segment n in band r
abbrev pub picture_byte : List ℕ → ℕ → ℕ → ℕ → ℕ
picture_byte picture chip n r = get_or picture (frame_place chip n r) 0

-- the data write of band r to shown column j
abbrev pub column_write : Chip → ℕ → List ℕ → ℕ → ℕ → Record
column_write c chip picture r j = sent 3 chip (picture_byte picture chip (column_segment c j) r)

-- the record that sets the hidden page for band r
abbrev pub page_set : Chip → ℕ → ℕ → Record
page_set c chip r = sent 2 chip (first Page + hidden_page c r)

-- the record that sets shown column j
abbrev pub column_set : Chip → ℕ → ℕ → Record
column_set c chip j = sent 2 chip (first Column + (lowest_column c + j))

-- the records of a run of n shown columns, from column j on: one column set, n data writes
abbrev pub run_records : Chip → ℕ → List ℕ → ℕ → ℕ → ℕ → List Record
run_records c chip picture r j n = column_set c chip j ∷ tabulated (column_write c chip picture r) j n

-- the records that write band r of the picture to its hidden page: page set, then its 61 columns as one run
unfoldable pub page_records : Chip → ℕ → List ℕ → ℕ → List Record
page_records c chip picture r = page_set c chip r ∷ run_records c chip picture r 0 segments

-- a chip's start line turned from 0 to 16 or from 16 to 0
abbrev pub turned_line : Chip → ℕ
turned_line c = if (eqb c.start_line 0) 16 0

-- the record that turns a chip's start line
abbrev pub turn : Chip → ℕ → Record
turn c chip = sent 2 chip (first StartLine + turned_line c)

-- the records of both hidden pages of the left chip, then of the right one
abbrev pub hidden_pages : Chip → Chip → List ℕ → List Record
hidden_pages left right picture =
    page_records left 0 picture 0 ++ (page_records left 0 picture 1 ++ (page_records right 1 picture 0 ++ page_records right 1 picture 1))

-- the records that turn the left start line, then the right one
abbrev pub line_turns : Chip → Chip → List Record
line_turns left right = turn left 0 ∷ turn right 1 ∷ []

-- the 254 records of a repaint
unfoldable pub repaint_records : Chip → Chip → List ℕ → List Record
repaint_records left right picture = hidden_pages left right picture ++ line_turns left right

-- how many bytes a picture is, bands 0 and 1: 244
abbrev pub picture_length : ℕ
picture_length = columns * 2

-- number 1: a picture that is not 244 bytes, an output buffer (document 01: the room) under 1,016
unfoldable pub repaint_sizes_wrong : ℕ → ℕ → Bool
repaint_sizes_wrong picture buffer = not (eqb picture picture_length) || ltb buffer output_length

-- number 9: display off, or static drive on
abbrev pub shows_no_ram : Chip → Bool
shows_no_ram c = not c.display_on || c.static_on

-- number 11: a start line that is neither 0 nor 16
abbrev pub wrong_line : Chip → Bool
wrong_line c = not (eqb c.start_line 0) && not (eqb c.start_line 16)

-- the numbers of two chips that a repaint is not written for: 2 and 9 to 12, each of the left chip before the right one
abbrev pub ready_table : Chip → Chip → List Cause
ready_table left right =
    left_then_right 2 (out_of_range left) (out_of_range right)
    (left_then_right 9 (shows_no_ram left) (shows_no_ram right)
    (left_then_right 10 left.duty_32 right.duty_32
    (left_then_right 11 (wrong_line left) (wrong_line right)
    (left_then_right 12 left.modify right.modify []))))

-- the verdict on two chips: the first number that holds of one of them, or 0 with the 254 records as place
unfoldable pub chips_verdict : Chip → Chip → Verdict
chips_verdict left right = verdict_by (ready_table left right) (verdict 0 repaint_cycles)

-- the numbers of a repaint, by both chips and the lengths of picture and output buffer
abbrev pub repaint_table : Chip → Chip → ℕ → ℕ → List Cause
repaint_table left right picture buffer = cause 1 0 (repaint_sizes_wrong picture buffer) ∷ ready_table left right

-- the repaint's call: its numbers, which leave the buffer as it came, else the records, with the rest of a longer buffer as it was
unfoldable pub repaint_of : Chip → Chip → List ℕ → List ℕ → CallResult Verdict (List ℕ)
repaint_of left right picture buffer =
    unless_refused (repaint_table left right (length picture) (length buffer)) (λ n at. result_of (verdict n at) buffer)
    (result_of (verdict 0 repaint_cycles) (records_bytes (repaint_records left right picture) ++ drop output_length buffer))
