-- What is proved of the feed beside its contracts, in the order of request C-11: at any cut a trace is as replayed; a stopped feed repeats and
-- changes nothing; demand 2 reads over feeds, however long the trace in all; after 1, 13 or a later 2 it is as if that call had not been.
use Rattle.std.specs.Prelude.{ℕ, suc, ◌+◌, ◌-◌, ◌*◌, ◌/◌, ◌%◌, ◌<◌, ◌≤◌, ◌≡◌, Bool, true, false, ◌||◌, eqb, length, take, drop}
use mathlib.Core.List.{List, [], ◌∷◌, ◌++◌, flat_map}
use Rattle.basics.specs.Choice.{if}
use Rattle.basics.specs.Run.{Run, as_run}
use Rattle.sed1520.specs.Cycle.{Reply, reply_of}
use Rattle.panel.specs.Panel.{Panel, as_panel, outcome_of, stepped, after, Whole}
use Rattle.sed1520.specs.Records.{front, whole_records}
use Rattle.sed1520.specs.declared.registers.Chip.{Chip}
use Rattle.trace.specs.Promises.{Replayable, replies_to}
use Rattle.panel.specs.Trace.{trace_limit, trace_run}
use Rattle.trace.specs.Replay.{panel_after, replay_of}
use Rattle.sed1520.specs.Replies.{compared_in, differing_in, replies_bytes, tally}
use Rattle.trace.specs.Feed.{keeping, cut_off, completed_by, most_records, as_feed, fed_with, open_of, PartOutcome, part_outcome, fed_by}
use Rattle.trace.specs.Feed.{not_taken, part_of}
use Rattle.trace.specs.Feed.{close_of}
use Rattle.trace.specs.declared.progress.Ending.TheVariants.{Open, Stopped}
use Rattle.trace.specs.declared.feed.Feed.{Feed}
use Rattle.trace.specs.declared.feed.Fed.{Fed}

-- a part, and the answer buffer that is lent with it
pub record Part : Type 0 where
  pub bytes : List ℕ
  pub buffer : List ℕ

-- the bytes of parts joined
abbrev pub joined_bytes : List Part → List ℕ
joined_bytes xs = flat_map (λ (x : Part). x.bytes) xs

-- a part given to a feed over the image
abbrev pub given : Feed → List ℕ → Part → PartOutcome
given f ram x = part_of f ram x.bytes x.buffer

-- the answers that a part gave: two bytes for each record that it took
abbrev pub own_answers : Feed → PartOutcome → List ℕ
own_answers f o = take (2 * (o.lent.state.progress.records - f.progress.records)) o.lent.answers

-- parts given one after the other, each to the feed and over the image that the one before it left: what the last call gave back, the image, and all
-- answers joined
unfoldable pub fed_parts : Fed → List ℕ → List Part → PartOutcome
fed_parts d ram [] = part_outcome d ram []
fed_parts d ram (x ∷ xs) =
    let o = given d.feed ram x in
    let rest = fed_parts (fed_by o) o.lent.ram xs in
    part_outcome (fed_by rest) rest.lent.ram (own_answers d.feed o ++ rest.lent.answers)

-- parts given one after the other to a feed that is opened on a panel's chips, over its image
abbrev pub fed_from : Panel → List Part → PartOutcome
fed_from p xs = fed_parts (open_of p.left p.right) p.ram xs

-- "each part lent room enough": two answer bytes for each record that it completes, where so many bytes are kept over before the first
unfoldable pub BuffersFit : ℕ → List Part → Type 0
BuffersFit kept [] = Unit
BuffersFit kept (x ∷ xs) =
    (2 * completed_by kept (length x.bytes) ≤ length x.buffer) × BuffersFit ((kept + length x.bytes) % 4) xs

-- of a feed that is opened, fed and closed, number, place, counts, chips, image and answers are those of the replay
pub record AsReplayed (p : Panel) (trace buffer : List ℕ) (xs : List Part) : Type 0 where
  pub reported : (close_of (fed_from p xs).lent.state).tally ≡ (replay_of p trace buffer).answer
  pub panel : let f = (close_of (fed_from p xs).lent.state).feed in as_panel f.chips.left f.chips.right (fed_from p xs).lent.ram
      ≡ panel_after (replay_of p trace buffer)
  pub answers : let o = replay_of p trace buffer in (fed_from p xs).lent.answers ≡ take (2 * o.answer.place) o.lent.answers

-- "at any cut": every whole trace that replay takes without numbers 1 to 3, and every list of parts that join to it, parts of length 0 among them
abbrev pub AtAnyCut : Type 0
AtAnyCut =
    (p : Panel) (trace buffer : List ℕ) → Replayable p trace buffer → (xs : List Part) → joined_bytes xs ≡ trace → BuffersFit 0 xs
    → AsReplayed p trace buffer xs

-- a number by which a part is refused before its first record
abbrev pub refuses_part : ℕ → Bool
refuses_part n = eqb n 1 || (eqb n 2 || eqb n 13)

-- "takes nothing more and repeats the number and place, before any other check": at a part, at any parts and at the close, whatever else is lent
pub record Repeats (f : Feed) (n at : ℕ) : Type 0 where
  pub part : (ram bytes answers : List ℕ) → part_of f ram bytes answers ≡ not_taken f ram answers n at
  pub parts : (ram : List ℕ) (xs : List Part) → fed_parts (fed_with f n at) ram xs ≡ part_outcome (fed_with f n at) ram []
  pub close : close_of f ≡ fed_with f n at

-- a stopped feed repeats; a feed is stopped after an opening refused by 2, a part refused at a record, and a close that is not refused by 2
pub record StoppedRepeats : Type 0 where
  pub repeats : (f : Feed) (n at : ℕ) → f.progress.ending ≡ Stopped n at → Repeats f n at
  pub after_open : (left right : Chip) → let d = open_of left right in
      (d.tally.number ≡ 0 → ⊥) → d.feed.progress.ending ≡ Stopped d.tally.number d.tally.place
  pub after-part : (f : Feed) (ram bytes answers : List ℕ) → let d = fed_by (part_of f ram bytes answers) in
      (d.tally.number ≡ 0 → ⊥) → refuses_part d.tally.number ≡ false → d.feed.progress.ending ≡ Stopped d.tally.number d.tally.place
  pub after-close : (f : Feed) → let d = close_of f in
      (d.tally.number ≡ 2 → ⊥) → d.feed.progress.ending ≡ Stopped d.tally.number d.tally.place

-- no call gives 1, 2 or 13: every part is taken, or taken up to a record that is refused, and the calls behind that one repeat
unfoldable pub Taken : Feed → List ℕ → List Part → Type 0
Taken f ram [] = Unit
Taken f ram (x ∷ xs) =
    let o = given f ram x in
    (refuses_part o.answer.number ≡ false) × Taken o.lent.state o.lent.ram xs

-- the feed that took bytes, by the run of their whole records: open with the bytes past them kept over, or stopped at the refused record
abbrev pub feed_after : Run Panel Reply → List ℕ → Feed
feed_after r bytes =
    let n = length r.answers in
    let done = eqb r.number 0 in
    as_feed r.state.left r.state.right
    (keeping (if done (cut_off bytes) []) n (compared_in r.answers) (differing_in r.answers (whole_records bytes))
    (if done Open (Stopped r.number n)))

-- the feed that took bytes, with what its last call gave back: the number, the records before it as place, the counts so far
abbrev pub fed_after : Run Panel Reply → List ℕ → Fed
fed_after r bytes = fed_with (feed_after r bytes) r.number (length r.answers)

-- "demand 2 reads over feeds": after any parts that are taken, chips, image, answers, counts, number and place are those of the whole records of all
-- their bytes run one after the other; there is no limit to the bytes in all but number 13's
abbrev pub FeedsRun : Type 0
FeedsRun =
    (p : Panel) → Whole p → (xs : List Part) → Taken (open_of p.left p.right).feed p.ram xs
    → let r = trace_run p (joined_bytes xs) in
    fed_from p xs ≡ part_outcome (fed_after r (joined_bytes xs)) r.state.ram (replies_bytes r.answers)

-- no part has over 65,536 bytes
unfoldable pub Short : List Part → Type 0
Short [] = Unit
Short (x ∷ xs) = (length x.bytes ≤ trace_limit) × Short xs

-- short parts with buffers that fit are taken, as long as their records are no more than number 13 lets pass
abbrev pub FittingTaken : Type 0
FittingTaken =
    (p : Panel) → Whole p → (xs : List Part) → Short xs → BuffersFit 0 xs → length (joined_bytes xs) / 4 ≤ most_records
    → Taken (open_of p.left p.right).feed p.ram xs

-- a run cut after k of the records that it answers is done, with its first k answers, at the panel after k; the record at k, where there is one more,
-- is accepted there, its answer is the next one, and the panel after it is what it makes of that panel
pub record EachRecord (p : Panel) (bytes : List ℕ) (k : ℕ) : Type 0 where
  pub cut : trace_run p (take (4 * k) bytes) ≡ as_run 0 (take k (replies_to p bytes)) (after p (take k (whole_records bytes)))
  pub answer : k < length (replies_to p bytes) → let a = (outcome_of (after p (take k (whole_records bytes))) (front (drop (4 * k) bytes))).answer in
      (a.number ≡ 0) × (take (suc k) (replies_to p bytes) ≡ take k (replies_to p bytes) ++ (reply_of a ∷ []))
  pub next : k < length (replies_to p bytes)
      → after p (take (suc k) (whole_records bytes)) ≡ stepped (after p (take k (whole_records bytes))) (front (drop (4 * k) bytes))

-- how a run ends: done, all whole records are answered; refused, it is by the record behind the answered ones, on the panel that they lead to
pub record RunEnded (p : Panel) (bytes : List ℕ) : Type 0 where
  pub state : (trace_run p bytes).state ≡ after p (take (length (replies_to p bytes)) (whole_records bytes))
  pub done : (trace_run p bytes).number ≡ 0 → length (replies_to p bytes) ≡ length bytes / 4
  pub before : ((trace_run p bytes).number ≡ 0 → ⊥) → length (replies_to p bytes) < length bytes / 4
  pub refused : ((trace_run p bytes).number ≡ 0 → ⊥)
      → (outcome_of (trace_run p bytes).state (front (drop (4 * length (replies_to p bytes)) bytes))).answer.number ≡ (trace_run p bytes).number

-- any bytes, however many, run and end as EachRecord and RunEnded say; and both chips stay in range over the whole image
pub record EveryRun : Type 0 where
  pub each : (p : Panel) (bytes : List ℕ) (k : ℕ) → k ≤ length (replies_to p bytes) → EachRecord p bytes k
  pub ends : (p : Panel) (bytes : List ℕ) → RunEnded p bytes
  pub whole : (p : Panel) → Whole p → (bytes : List ℕ) → Whole (trace_run p bytes).state

-- "3 only at the close": after bytes whose records are all accepted, the close gives 3 where some bytes are kept over, else 0, with the whole records
-- as place and the counts of all of them, and leaves the chips as they are
pub record ClosesAfter (p : Panel) (bytes : List ℕ) : Type 0 where
  pub reported : let r = trace_run p bytes in (close_of (feed_after r bytes)).tally
      ≡ tally (if (eqb (length bytes % 4) 0) 0 3) (length bytes / 4) (compared_in r.answers) (differing_in r.answers (whole_records bytes))
  pub left : (close_of (feed_after (trace_run p bytes) bytes)).feed.chips.left ≡ (trace_run p bytes).state.left
  pub right : (close_of (feed_after (trace_run p bytes) bytes)).feed.chips.right ≡ (trace_run p bytes).state.right

-- a feed closes as ClosesAfter says after any bytes, however many, whose records are all accepted
abbrev pub FeedsClose : Type 0
FeedsClose = (p : Panel) → Whole p → (bytes : List ℕ) → (trace_run p bytes).number ≡ 0 → ClosesAfter p bytes

-- "the part is not taken and the feed stays as it was": what is given next goes as if the refused call had not been
pub record RefusedAsIfNot : Type 0 where
  pub part : (f : Feed) (ram bytes answers : List ℕ) → let o = part_of f ram bytes answers in
      f.progress.ending ≡ Open → refuses_part o.answer.number ≡ true → o ≡ not_taken f ram answers o.answer.number o.answer.place
  pub next : (d : Fed) (ram : List ℕ) (x y : Part) (xs : List Part) → d.feed.progress.ending ≡ Open
      → refuses_part (given d.feed ram x).answer.number ≡ true → fed_parts d ram (x ∷ y ∷ xs) ≡ fed_parts d ram (y ∷ xs)
  pub close : (f : Feed) → f.progress.ending ≡ Open → (close_of f).tally.number ≡ 2 → (close_of f).feed ≡ f
