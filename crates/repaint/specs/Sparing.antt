-- The sparing repaint (request C-17): the records that bring a 122 by 16 picture to the panel and write, of the hidden pages, only the bytes that
-- differ from it.
use Rattle.std.specs.Prelude.{ℕ, zero, suc, ◌+◌, ◌-◌, ◌*◌, Bool, false, not, ◌&&◌, ◌||◌, List, [], ◌∷◌, ◌++◌, eqb, length, drop}
use Rattle.basics.specs.Choice.{if}
use Rattle.basics.specs.Counts.{count_below}
use Rattle.basics.specs.Lists.{joined, tabulated}
use Rattle.basics.specs.Table.{Cause, cause, unless_refused}
use Rattle.basics.specs.Verdict.{verdict, CallResult, result_of}
use Rattle.basics.specs.Verdict.{Verdict}
use Rattle.sed1520.specs.Memory.{byte_at}
use Rattle.sed1520.specs.Records.{records_bytes}
use Rattle.sed1520.specs.declared.registers.Chip.{Chip}
use Rattle.sed1520.specs.declared.bus.Record.{Record}
use Rattle.panel.specs.Panel.{image_length, Panel, ram_at}
use Rattle.frame.specs.Frame.{segments}
use Rattle.repaint.specs.Repaint.{hidden_page, lowest_column, column_segment, picture_byte, page_set, column_write, column_set, line_turns}
use Rattle.repaint.specs.Repaint.{repaint_sizes_wrong, ready_table}

-- whether, in a chip's 320 bytes, the byte of shown column j of the hidden page for band r differs from the picture's
abbrev pub differs : Chip → ℕ → List ℕ → List ℕ → ℕ → ℕ → Bool
differs c chip ram picture r j =
    not (eqb (byte_at ram (hidden_page c r) (lowest_column c + j)) (picture_byte picture chip (column_segment c j) r))

-- whether the column just before column j passes a test; false for column 0, which has none before it
abbrev pub passes_before : (ℕ → Bool) → ℕ → Bool
passes_before test zero = false
passes_before test (suc j) = test j

-- whether a run of columns that pass a test begins at column j: it passes, and the column just before it does not
abbrev pub begins : (ℕ → Bool) → ℕ → Bool
begins test j = test j && not (passes_before test j)

-- the records of column j, where the columns that pass a test are written: a column set where a run begins, then the data write; none where the
-- column does not pass
abbrev pub column_records : Chip → ℕ → List ℕ → ℕ → (ℕ → Bool) → ℕ → List Record
column_records c chip picture r test j =
    if (begins test j) (column_set c chip j ∷ []) [] ++ if (test j) (column_write c chip picture r j ∷ []) []

-- the records of n columns, from column j on, where those that pass a test are written
abbrev pub chosen_columns : Chip → ℕ → List ℕ → ℕ → (ℕ → Bool) → ℕ → ℕ → List Record
chosen_columns c chip picture r test j n = joined (column_records c chip picture r test) j n

-- the records that write to the hidden page for band r those of its columns that pass a test: none where no column does, else the page set, then the
-- records of its columns
unfoldable pub chosen_page : Chip → ℕ → List ℕ → ℕ → (ℕ → Bool) → List Record
chosen_page c chip picture r test =
    if (eqb (count_below test segments) 0) [] (page_set c chip r ∷ chosen_columns c chip picture r test 0 segments)

-- how many cycles a page takes, counted by the rule: none where no column passes, else one for the page set, one for each run and one for each
-- column that passes
unfoldable pub chosen_cycles : (ℕ → Bool) → ℕ
chosen_cycles test = if (eqb (count_below test segments) 0) 0 (1 + (count_below (begins test) segments + count_below test segments))

-- the records of a chip's two hidden pages, the lower one first, by its 320 bytes: the columns that differ are written
abbrev pub chip_records : Chip → ℕ → List ℕ → List ℕ → List Record
chip_records c chip ram picture =
    chosen_page c chip picture 0 (differs c chip ram picture 0) ++ chosen_page c chip picture 1 (differs c chip ram picture 1)

-- the records of the left chip's hidden pages, then of the right chip's
abbrev pub sparing_pages : Panel → List ℕ → List Record
sparing_pages p picture = chip_records p.left 0 (ram_at p 0) picture ++ chip_records p.right 1 (ram_at p 1) picture

-- the records of a sparing repaint: two start lines turned last, always
unfoldable pub sparing_records : Panel → List ℕ → List Record
sparing_records p picture = sparing_pages p picture ++ line_turns p.left p.right

-- how many cycles a chip's two hidden pages take, by its 320 bytes
abbrev pub chip_cycles : Chip → ℕ → List ℕ → List ℕ → ℕ
chip_cycles c chip ram picture = chosen_cycles (differs c chip ram picture 0) + chosen_cycles (differs c chip ram picture 1)

-- how many cycles come before the first start line turns
abbrev pub sparing_quiet : Panel → List ℕ → ℕ
sparing_quiet p picture = chip_cycles p.left 0 (ram_at p 0) picture + chip_cycles p.right 1 (ram_at p 1) picture

-- how many cycles a sparing repaint has: those of its pages and runs, and the two start lines
abbrev pub sparing_cycles : Panel → List ℕ → ℕ
sparing_cycles p picture = sparing_quiet p picture + 2

-- number 1: an image that is not 640 bytes, or a size that the repaint refuses with number 1
abbrev pub sparing_sizes_wrong : ℕ → ℕ → ℕ → Bool
sparing_sizes_wrong ram picture buffer = not (eqb ram image_length) || repaint_sizes_wrong picture buffer

-- the numbers of a sparing repaint, by both chips and the lengths of image, picture and output buffer
abbrev pub sparing_table : Chip → Chip → ℕ → ℕ → ℕ → List Cause
sparing_table left right ram picture buffer = cause 1 0 (sparing_sizes_wrong ram picture buffer) ∷ ready_table left right

-- the sparing repaint's call: its numbers, which leave the buffer as it came, else the records, with the count of cycles as place (CyclesCounted:
-- they are as many) and the rest of the buffer as it was
unfoldable pub sparing_of : Panel → List ℕ → List ℕ → CallResult Verdict (List ℕ)
sparing_of p picture buffer =
    unless_refused (sparing_table p.left p.right (length p.ram) (length picture) (length buffer)) (λ n at. result_of (verdict n at) buffer)
    (result_of (verdict 0 (sparing_cycles p picture)) (records_bytes (sparing_records p picture) ++ drop (4 * sparing_cycles p picture) buffer))

-- what a function gives that puts records to the front of a buffer with room for them: how many bytes they are, and the rest as it was
abbrev pub put_front : List Record → List ℕ → CallResult ℕ (List ℕ)
put_front records buffer = result_of (4 * length records) (records_bytes records ++ drop (4 * length records) buffer)

-- the first of n columns, from column j on, that passes a test, or the one past them
unfoldable pub next_column : (ℕ → Bool) → ℕ → ℕ → ℕ
next_column test j zero = j
next_column test j (suc n) = if (test j) j (next_column test (j + 1) n)

-- the data writes of a run of columns that pass a test, from column j to before the first that does not
abbrev pub run_writes : Chip → ℕ → List ℕ → ℕ → (ℕ → Bool) → ℕ → List Record
run_writes c chip picture r test j = tabulated (column_write c chip picture r) j (next_column (λ i. not (test i)) j (segments - j) - j)
