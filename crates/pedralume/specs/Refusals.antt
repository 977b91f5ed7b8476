-- Numbers 1 and 2 of the calls that fill a buffer, by document 01's table and the chips' bytes as they lie: the buffer stays as it came. It also
-- says what these calls give where neither number is given.
use Rattle.std.specs.Prelude.{ℕ, ◌≡◌, Bool, false, not, List, [], ◌∷◌, eqb, length, take, drop}
use Rattle.panel.specs.Chips.{chips_length, chips_in, panel_in}
use Rattle.basics.specs.Table.{Cause, cause, left_then_right, First, NoneHolds}
use Rattle.sed1520.specs.ChipBytes.{chip_length, bytes_pass}
use Rattle.panel.specs.Trace.{trace_sizes_wrong}
use Rattle.frame.specs.Frame.{frame_sizes_wrong, framed}
use Rattle.repaint.specs.Repaint.{repaint_sizes_wrong, repaint_of}
use Rattle.repaint.specs.Sparing.{sparing_sizes_wrong, sparing_of}
use Rattle.visible.specs.Changes.{changes_of}
use Rattle.pedralume.specs.Call.{packed_with, packed_filled, frame_call, repaint_call, sparing_call, changes_call}

-- numbers 1 and 2 by the chips' bytes as they lie, and by whether a size of the call is wrong
abbrev pub bytes_table : Bool → List ℕ → List Cause
bytes_table wrong chips =
    cause 1 0 (not (eqb (length chips) chips_length)) ∷ cause 1 0 wrong
    ∷ left_then_right 2 (not (bytes_pass (take chip_length chips))) (not (bytes_pass (drop chip_length chips))) []

-- the calls of the frame, of both repaints and of the list of changes give numbers 1 and 2 by their table, and the buffer stays as it came; where no
-- line of it holds, they give what their callees give on the chips that the bytes stand for (FrameNumbers, RepaintNumbers, SparingNumbers,
-- ChangesNumbers)
pub record CallsRefuse : Type 0 where
  pub frame : (chips ram buffer : List ℕ) (n at : ℕ) → First (bytes_table (frame_sizes_wrong (length ram) (length buffer)) chips) n at
      → frame_call chips ram buffer ≡ packed_with buffer n at
  pub repaint : (chips picture buffer : List ℕ) (n at : ℕ) → First (bytes_table (repaint_sizes_wrong (length picture) (length buffer)) chips) n at
      → repaint_call chips picture buffer ≡ packed_with buffer n at
  pub sparing : (chips ram picture buffer : List ℕ) (n at : ℕ)
      → First (bytes_table (sparing_sizes_wrong (length ram) (length picture) (length buffer)) chips) n at
      → sparing_call chips ram picture buffer ≡ packed_with buffer n at
  pub changes : (chips ram trace buffer : List ℕ) (n at : ℕ) → First (bytes_table (trace_sizes_wrong (length trace) (length ram) false) chips) n at
      → changes_call chips ram trace buffer ≡ packed_with buffer n at
  pub frame-else : (chips ram buffer : List ℕ) → NoneHolds (bytes_table (frame_sizes_wrong (length ram) (length buffer)) chips)
      → frame_call chips ram buffer ≡ packed_filled (framed (panel_in chips ram) buffer)
  pub repaint-else : (chips picture buffer : List ℕ) → NoneHolds (bytes_table (repaint_sizes_wrong (length picture) (length buffer)) chips)
      → repaint_call chips picture buffer ≡ packed_filled (repaint_of (chips_in chips).left (chips_in chips).right picture buffer)
  pub sparing-else : (chips ram picture buffer : List ℕ)
      → NoneHolds (bytes_table (sparing_sizes_wrong (length ram) (length picture) (length buffer)) chips)
      → sparing_call chips ram picture buffer ≡ packed_filled (sparing_of (panel_in chips ram) picture buffer)
  pub changes-else : (chips ram trace buffer : List ℕ) → NoneHolds (bytes_table (trace_sizes_wrong (length trace) (length ram) false) chips)
      → changes_call chips ram trace buffer ≡ packed_filled (changes_of (panel_in chips ram) trace buffer)
