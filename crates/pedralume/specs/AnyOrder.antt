-- The order between the chips does not matter (request C-18), with what the panel shows at the end, and in what the C calls give back and leave.
use Rattle.std.specs.Prelude.{ℕ, ◌*◌, ◌/◌, ◌≤◌, ◌≡◌, List, length}
use Rattle.basics.specs.Verdict.{verdict, result_of}
use Rattle.frame.specs.Frame.{frame_length, frame_of, framed}
use Rattle.panel.specs.Panel.{image_length, Panel}
use Rattle.sed1520.specs.Replies.{InPlace}
use Rattle.trace.specs.AnyOrder.{Reordered, answered_of, SameEnd}
use Rattle.trace.specs.Replay.{ReplayOutcome, panel_after, replay_in_place}
use Rattle.trace.specs.Wear.{WithWear, replay_with_wear}
use Rattle.pedralume.specs.Call.{replay_call, frame_call}

-- what is the same after the replays of a trace and of its reordering: what `SameEnd` has; the wear; and the last frame, which both panels have,
-- given with number 0 and place 488
pub record SameReplays (trace other : List ℕ) (one two : WithWear ReplayOutcome) : Type 0 where
  pub end : SameEnd trace other one.outcome two.outcome
  pub wear : one.wear ≡ two.wear
  pub frame : (buffer : List ℕ) → length buffer ≡ frame_length
      → let shown = result_of (verdict 0 frame_length) (frame_of (panel_after one.outcome)) in
      (framed (panel_after one.outcome) buffer ≡ shown) × (framed (panel_after two.outcome) buffer ≡ shown)

-- what is the same after the C calls of replay on a trace and on its reordering: the 64-bit number, with number, place and both counts; the
-- answers of each chip's records; the chips' bytes and the RAM; and what the frame's call then gives back and leaves
pub record SameCalls (trace other : List ℕ) (one two : InPlace ℕ) : Type 0 where
  pub number : one.answer ≡ two.answer
  pub answers : (k : ℕ) → answered_of k trace one.lent.answers ≡ answered_of k other two.lent.answers
  pub chips : one.lent.state ≡ two.lent.state
  pub ram : one.lent.ram ≡ two.lent.ram
  pub frame : (buffer : List ℕ) → frame_call one.lent.state one.lent.ram buffer ≡ frame_call two.lent.state two.lent.ram buffer

-- request C-18 whole: take any chips and RAM, any trace that replay accepts and any reordering of its records that keeps each chip's own order. From
-- the same chips and RAM, with room for its answers and 640 counts, it is accepted too and ends the same; so it does through the C calls of replay
-- and frame, where number 0 is the lowest byte of the 64-bit number. What the panel shows before the last record may differ, and of a trace that is
-- refused the number, the place and what is left
pub record TwoChipsOneBus : Type 0 where
  pub replay : (p : Panel) (trace answers wear : List ℕ) → let one = replay_with_wear p trace answers wear in one.outcome.answer.number ≡ 0
      → (other buffer counts : List ℕ) → Reordered trace other → 2 * (length other / 4) ≤ length buffer → length counts ≡ image_length
      → SameReplays trace other one (replay_with_wear p other buffer counts)
  pub calls : (chips ram trace answers : List ℕ) → (replay_in_place chips ram trace answers).answer.number ≡ 0
      → (other buffer : List ℕ) → Reordered trace other → 2 * (length other / 4) ≤ length buffer
      → SameCalls trace other (replay_call chips ram trace answers) (replay_call chips ram other buffer)
