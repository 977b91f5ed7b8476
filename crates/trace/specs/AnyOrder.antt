-- The order between the chips does not matter (request C-18): what becomes of a trace whose records come in another order, while each chip's own
-- records keep theirs.
use Rattle.std.specs.Prelude.{ℕ, ◌*◌, ◌/◌, ◌%◌, ◌<◌, ◌≤◌, ◌≡◌, List, ◌↔◌, length, get_or}
use Rattle.basics.specs.Keys.{of_key, Exchanges, Answered, answered_of_key}
use Rattle.basics.specs.Lists.{pieces}
use Rattle.basics.specs.Verdict.{CallResult}
use Rattle.panel.specs.AnyOrder.{chip_of}
use Rattle.panel.specs.Panel.{image_length, Panel, Whole}
use Rattle.sed1520.specs.Records.{whole_records}
use Rattle.sed1520.specs.Replies.{Lent}
use Rattle.sed1520.specs.declared.bus.Record.{Record}
use Rattle.sed1520.specs.declared.tally.Tally.{Tally}
use Rattle.trace.specs.Feed.{open_of}
use Rattle.trace.specs.FeedPromises.{Part, joined_bytes, fed_from, Taken}
use Rattle.trace.specs.Replay.{replay_of, replay_in_place}
use Rattle.trace.specs.Wear.{replay_with_wear}
use Rattle.trace.specs.WearPromises.{PartAndWear, parts_of, WearFits, wear_left, added_up}

-- the records of a chip, taken out of a trace, in their order
abbrev pub records_of : ℕ → List ℕ → List Record
records_of k trace = of_key chip_of k (whole_records trace)

-- a trace and a reordering of it that keeps each chip's own order: they have the same length, and for every chip number the records of that chip,
-- taken out of both, are the same list
pub record Reordered (trace other : List ℕ) : Type 0 where
  pub size : length trace ≡ length other
  pub each-chip : (k : ℕ) → records_of k trace ≡ records_of k other

-- such a reordering is what the recorder does: any number of exchanges of neighbouring records that name different chips
abbrev pub ReorderedByExchanges : Type 0
ReorderedByExchanges =
    (trace other : List ℕ)
    → Reordered trace other ↔ ((length trace ≡ length other) × Exchanges chip_of (whole_records trace) (whole_records other))

-- an answer as it stands in the answer buffer
pub record BufferedAnswer : Type 0 where
  pub kind : ℕ
  pub byte : ℕ

-- the answer in the first two of some bytes
abbrev pub front_answer : List ℕ → BufferedAnswer
front_answer bytes = record { kind = get_or bytes 0 0; byte = get_or bytes 1 0 }

-- the records of a chip, taken out of a trace, each with the answer that a buffer has for it
abbrev pub answered_of : ℕ → List ℕ → List ℕ → List (Answered Record BufferedAnswer)
answered_of k trace answers = answered_of_key chip_of k (whole_records trace) (pieces front_answer 2 answers (length trace / 4))

-- what is the same after calls on a trace and on its reordering: number, place and both counts, so that where the first is accepted the second is
-- too; the answers, such that the j-th record of each chip has the same one in both; the chips, by value, as bytes or in a feed; and the RAM
pub record SameEnd {S : Type 0} (trace other : List ℕ) (one two : CallResult Tally (Lent S)) : Type 0 where
  pub reported : one.answer ≡ two.answer
  pub answers : (k : ℕ) → answered_of k trace one.lent.answers ≡ answered_of k other two.lent.answers
  pub state : one.lent.state ≡ two.lent.state
  pub ram : one.lent.ram ≡ two.lent.ram

-- from the same chips and RAM, any reordering of a trace that replay accepts, with room for its answers and 640 counts, ends the same, with the same
-- wear, whatever buffer and counts held. So it does over chip bytes; and so do feeds that take both traces, however long these are and however each
-- is cut, with the same wear over all parts. With room for both, a trace and its reordering are both accepted, or neither is
pub record InAnyOrder : Type 0 where
  pub replay : (p : Panel) (trace answers wear : List ℕ) → let one = replay_with_wear p trace answers wear in one.outcome.answer.number ≡ 0
      → (other buffer counts : List ℕ) → Reordered trace other → 2 * (length other / 4) ≤ length buffer → length counts ≡ image_length
      → let two = replay_with_wear p other buffer counts in SameEnd trace other one.outcome two.outcome × (one.wear ≡ two.wear)
  pub in_place : (chips ram trace answers : List ℕ) → let one = replay_in_place chips ram trace answers in one.answer.number ≡ 0
      → (other buffer : List ℕ) → Reordered trace other → 2 * (length other / 4) ≤ length buffer
      → SameEnd trace other one (replay_in_place chips ram other buffer)
  pub feeds : (p : Panel) → Whole p → (xs ys : List Part) → let f = (open_of p.left p.right).feed in Taken f p.ram xs → Taken f p.ram ys
      → let trace = joined_bytes xs in (fed_from p xs).answer.number ≡ 0 → Reordered trace (joined_bytes ys) → length trace % 4 ≡ 0
      → SameEnd trace (joined_bytes ys) (fed_from p xs) (fed_from p ys)
  pub feeds-wear : (p : Panel) → Whole p → (xs ys : List PartAndWear) → WearFits xs → WearFits ys → let f = (open_of p.left p.right).feed in
      Taken f p.ram (parts_of xs) → Taken f p.ram (parts_of ys)
      → (fed_from p (parts_of xs)).answer.number ≡ 0 → Reordered (joined_bytes (parts_of xs)) (joined_bytes (parts_of ys))
      → (i : ℕ) → i < image_length → added_up i (wear_left f p.ram xs) ≡ added_up i (wear_left f p.ram ys)
  pub both-or-neither : (p : Panel) (trace answers other buffer : List ℕ) → Reordered trace other → 2 * (length trace / 4) ≤ length answers
      → 2 * (length other / 4) ≤ length buffer → ((replay_of p trace answers).answer.number ≡ 0) ↔ ((replay_of p other buffer).answer.number ≡ 0)
