-- The calls of the C side but the feed's (FeedCall.antt): what each gives back, and what it leaves in every buffer that it was lent.
use Rattle.std.specs.Prelude.{ℕ, ◌+◌, ◌*◌, ◌^◌, not, List, eqb, length}
use Rattle.basics.specs.Choice.{if}
use Rattle.panel.specs.Chips.{chips_length, chips_in}
use Rattle.sed1520.specs.declared.registers.Chip.{Chip}
use Rattle.panel.specs.Panel.{as_panel}
use Rattle.basics.specs.Verdict.{CallResult, result_of}
use Rattle.basics.specs.Verdict.{Verdict}
use Rattle.trace.specs.Replay.{replay_in_place}
use Rattle.sed1520.specs.Replies.{InPlace}
use Rattle.sed1520.specs.declared.tally.Tally.{Tally}
use Rattle.frame.specs.Frame.{framed}
use Rattle.repaint.specs.Repaint.{repaint_of}
use Rattle.repaint.specs.Sparing.{sparing_of}
use Rattle.visible.specs.Changes.{changes_of}

-- the 64-bit number that replay, frame, both repaints and the list of changes give back: number, place, compared, differing, each in its own bits
abbrev pub packed : ℕ → ℕ → ℕ → ℕ → ℕ
packed number place compared differing = number + 256 * place + 2 ^ 24 * compared + 2 ^ 40 * differing

-- what a replay over chip bytes gives back and leaves, its number, place and counts packed
abbrev pub packed_replay : InPlace Tally → InPlace ℕ
packed_replay i = let a = i.answer in result_of (packed a.number a.place a.compared a.differing) i.lent

-- the replay's call, over chip bytes
abbrev pub replay_call : List ℕ → List ℕ → List ℕ → List ℕ → InPlace ℕ
replay_call chips ram trace answers = packed_replay (replay_in_place chips ram trace answers)

-- what a call that fills one buffer gives back and leaves: a number and a place packed, both counts 0, and the buffer
abbrev pub packed_with : List ℕ → ℕ → ℕ → CallResult ℕ (List ℕ)
packed_with buffer number place = result_of (packed number place 0 0) buffer

-- a verdict and the buffer that was filled, the number and the place packed
abbrev pub packed_filled : CallResult Verdict (List ℕ) → CallResult ℕ (List ℕ)
packed_filled o = packed_with o.lent o.answer.number o.answer.place

-- number 1 where the chips' bytes are not 24, then the call on their chips, with its own number 1 before number 2
unfoldable pub on_chips : List ℕ → List ℕ → (Chip → Chip → CallResult ℕ (List ℕ)) → CallResult ℕ (List ℕ)
on_chips chips buffer call = if (not (eqb (length chips) chips_length)) (packed_with buffer 1 0) (call (chips_in chips).left (chips_in chips).right)

-- the frame's call, on the chips read from their bytes
abbrev pub frame_call : List ℕ → List ℕ → List ℕ → CallResult ℕ (List ℕ)
frame_call chips ram buffer = on_chips chips buffer (λ left right. packed_filled (framed (as_panel left right ram) buffer))

-- the repaint's call, on the chips read from their bytes
abbrev pub repaint_call : List ℕ → List ℕ → List ℕ → CallResult ℕ (List ℕ)
repaint_call chips picture buffer = on_chips chips buffer (λ left right. packed_filled (repaint_of left right picture buffer))

-- the sparing repaint's call, on the chips read from their bytes
abbrev pub sparing_call : List ℕ → List ℕ → List ℕ → List ℕ → CallResult ℕ (List ℕ)
sparing_call chips ram picture buffer = on_chips chips buffer (λ left right. packed_filled (sparing_of (as_panel left right ram) picture buffer))

-- the call of the list of changes, on the chips read from their bytes
abbrev pub changes_call : List ℕ → List ℕ → List ℕ → List ℕ → CallResult ℕ (List ℕ)
changes_call chips ram trace buffer = on_chips chips buffer (λ left right. packed_filled (changes_of (as_panel left right ram) trace buffer))
