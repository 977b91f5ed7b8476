-- A trace on a panel: its run, and numbers 1 to 3, which refuse it before its first record.
use Rattle.std.specs.Prelude.{ℕ, ◌/◌, ◌%◌, Bool, not, ◌||◌, List, ◌∷◌, ltb, eqb}
use Rattle.basics.specs.Run.{Run}
use Rattle.basics.specs.Table.{Cause, cause, left_then_right}
use Rattle.sed1520.specs.Cycle.{Reply}
use Rattle.sed1520.specs.Records.{whole_records}
use Rattle.panel.specs.Panel.{image_length, Panel, panel_run}

-- how many bytes of records one call takes at most
abbrev pub trace_limit : ℕ
trace_limit = 65536

-- the run of a trace's whole records
abbrev pub trace_run : Panel → List ℕ → Run Panel Reply
trace_run p trace = panel_run p (whole_records trace)

-- number 1 of a call that runs a trace: over 65,536 bytes, an image that is not 640, or another size of that call that is wrong
unfoldable pub trace_sizes_wrong : ℕ → ℕ → Bool → Bool
trace_sizes_wrong bytes ram more = ltb trace_limit bytes || (not (eqb ram image_length) || more)

-- numbers 1 to 3 of a call that runs a trace of so many bytes: 1 where a size is wrong, 2 where the left chip or the right one is out of range, 3
-- where the bytes end within a record, with the count of whole records as place; then what follows
abbrev pub trace_table : Bool → Bool → Bool → ℕ → List Cause → List Cause
trace_table wrong left right bytes more = cause 1 0 wrong ∷ left_then_right 2 left right (cause 3 (bytes / 4) (not (eqb (bytes % 4) 0)) ∷ more)
