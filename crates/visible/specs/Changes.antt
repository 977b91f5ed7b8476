-- The records of a trace that a reader can see: those after which the frame differs from before them (request C-14: when the glass changed).
use Rattle.std.specs.Prelude.{ℕ, suc, ◌*◌, Bool, false, not, ltb, eqb, length, take, drop}
use mathlib.Core.List.{List, [], ◌∷◌, ◌++◌, flat_map}
use Rattle.basics.specs.Bytes.{pair_bytes, word_bytes, same_bytes}
use Rattle.basics.specs.Choice.{if}
use Rattle.basics.specs.Counts.{sum_below, count_below}
use Rattle.basics.specs.Lists.{joined}
use Rattle.basics.specs.Table.{Cause, cause, unless_refused}
use Rattle.basics.specs.Verdict.{verdict, CallResult, result_of}
use Rattle.basics.specs.Verdict.{Verdict}
use Rattle.sed1520.specs.Chip.{out_of_range}
use Rattle.sed1520.specs.Records.{whole_records}
use Rattle.sed1520.specs.declared.bus.Record.{Record}
use Rattle.sed1520.specs.declared.registers.Chip.{Chip}
use Rattle.panel.specs.Panel.{Panel, chip_at, ram_at, after}
use Rattle.panel.specs.Trace.{trace_run, trace_sizes_wrong, trace_table}
use Rattle.frame.specs.Frame.{segments, pixel, frame_of}

-- the panel before record k: that after the k records before it, or after those before the first that is refused
abbrev pub before : Panel → List Record → ℕ → Panel
before p rs k = after p (take k rs)

-- whether the 488 bytes of the frame after record k differ from those before it
abbrev pub changed_at : Panel → List Record → ℕ → Bool
changed_at p rs k = not (same_bytes (frame_of (before p rs k)) (frame_of (before p rs (suc k))))

-- how many of the 32 pixels of segment n differ between one chip over its RAM and another over its own
abbrev pub segment_changed : Chip → List ℕ → Chip → List ℕ → ℕ → ℕ
segment_changed c ram d other n = count_below (λ row. not (eqb (pixel c ram n row) (pixel d other n row))) 32

-- how many pixels of a half differ between one chip over its RAM and another over its own
unfoldable pub half_changed : Chip → List ℕ → Chip → List ℕ → ℕ
half_changed c ram d other = sum_below (segment_changed c ram d other) segments

-- how many pixels differ between two panels in the half of chip k
abbrev pub pixels_changed : Panel → Panel → ℕ → ℕ
pixels_changed p q k = half_changed (chip_at p k) (ram_at p k) (chip_at q k) (ram_at q k)

-- an entry: a record, by its place in the trace, and how many pixels it changed in the left half and in the right half
pub record Entry : Type 0 where
  pub index : ℕ
  pub left : ℕ
  pub right : ℕ

-- an entry of three numbers
abbrev pub as_entry : ℕ → ℕ → ℕ → Entry
as_entry index left right = record { index = index; left = left; right = right }

-- the entry of record k, listed or not
abbrev pub entry_at : Panel → List Record → ℕ → Entry
entry_at p rs k =
    let q = before p rs k in let next = before p rs (suc k) in
    as_entry k (pixels_changed q next 0) (pixels_changed q next 1)

-- the entries of the first n records, in the order of the trace
abbrev pub entries_before : Panel → List Record → ℕ → List Entry
entries_before p rs n = joined (λ k. if (changed_at p rs k) (entry_at p rs k ∷ []) []) 0 n

-- the entries of all records
abbrev pub all_entries : Panel → List Record → List Entry
all_entries p rs = entries_before p rs (length rs)

-- an entry as 8 bytes, lowest byte first: record (4), pixels changed left (2) and right (2)
abbrev pub entry_bytes : Entry → List ℕ
entry_bytes e = word_bytes e.index ++ (pair_bytes e.left ++ pair_bytes e.right)

-- the bytes of entries one after the other
abbrev pub entries_bytes : List Entry → List ℕ
entries_bytes entries = flat_map entry_bytes entries

-- the numbers of the list of changes, by the room for entries: 1 to 3 as every call that runs a trace has them; then the number of a record that is
-- refused, with the records before it as place; then 15 where the entries need more than the room, with how many they are as place
abbrev pub changes_table : Panel → List ℕ → ℕ → List Cause
changes_table p trace room =
    let run = trace_run p trace in let entries = all_entries p (whole_records trace) in
    trace_table (trace_sizes_wrong (length trace) (length p.ram) false) (out_of_range p.left) (out_of_range p.right) (length trace)
    (cause run.number (length run.answers) (not (eqb run.number 0))
    ∷ cause 15 (length entries) (ltb room (8 * length entries))
    ∷ [])

-- the list of changes: its numbers, which leave the buffer as it came; else 0, with how many entries there are as place, and their bytes at the
-- front of the buffer, the rest as it was
unfoldable pub changes_of : Panel → List ℕ → List ℕ → CallResult Verdict (List ℕ)
changes_of p trace buffer =
    let entries = all_entries p (whole_records trace) in
    unless_refused (changes_table p trace (length buffer)) (λ n at. result_of (verdict n at) buffer)
    (result_of (verdict 0 (length entries)) (entries_bytes entries ++ drop (8 * length entries) buffer))
