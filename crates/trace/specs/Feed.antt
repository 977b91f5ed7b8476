-- The feed of request C-11: a trace taken in parts. The bytes kept over and a part behind them are run as a replay runs a trace; what is left past
-- their last whole record is kept over for the next part.
use Rattle.std.specs.Prelude.{ℕ, ◌+◌, ◌*◌, ◌/◌, Bool, ◌||◌, List, [], ◌∷◌, ◌++◌, ltb, eqb, length, get_or, take, drop}
use Rattle.basics.specs.Choice.{if}
use Rattle.basics.specs.Table.{Cause, cause, left_then_right, unless_refused, verdict_by}
use Rattle.basics.specs.Verdict.{verdict, CallResult, result_of}
use Rattle.basics.specs.Verdict.{Verdict}
use Rattle.sed1520.specs.declared.registers.Chip.{Chip}
use Rattle.panel.specs.Chips.{as_chips}
use Rattle.panel.specs.Panel.{as_panel}
use Rattle.sed1520.specs.Chip.{out_of_range}
use Rattle.trace.specs.Replay.{ReplayOutcome, ended_bytes, sizes_wrong}
use Rattle.sed1520.specs.Replies.{Lent, lent, tally}
use Rattle.sed1520.specs.declared.tally.Tally.{Tally}
use Rattle.trace.specs.declared.progress.Ending.{Ending}
use Rattle.trace.specs.declared.progress.Ending.TheVariants.{Open, Stopped}
use Rattle.trace.specs.declared.progress.Progress.{Progress}
use Rattle.trace.specs.declared.feed.Feed.{Feed}
use Rattle.trace.specs.declared.feed.Fed.{Fed}

-- a progress: the bytes to keep over, at most three, the counts, and whether the feed still takes parts
abbrev pub keeping : List ℕ → ℕ → ℕ → ℕ → Ending → Progress
keeping rest records compared differing ending =
    record {
      kept = length rest;
      first = get_or rest 0 0;
      second = get_or rest 1 0;
      third = get_or rest 2 0;
      records = records;
      compared = compared;
      differing = differing;
      ending = ending;
    }

-- the progress of a feed that has taken nothing yet
abbrev pub begun : Ending → Progress
begun ending = keeping [] 0 0 0 ending

-- a progress stopped with a number and a place, all else as it was
abbrev pub stopped_at : ℕ → ℕ → Progress → Progress
stopped_at n at t =
    record {
      kept = t.kept;
      first = t.first;
      second = t.second;
      third = t.third;
      records = t.records;
      compared = t.compared;
      differing = t.differing;
      ending = Stopped n at;
    }

-- the bytes that a progress keeps over
abbrev pub kept_bytes : Progress → List ℕ
kept_bytes t = take t.kept (t.first ∷ t.second ∷ t.third ∷ [])

-- the bytes kept over and the part after them
abbrev pub joined_to : Progress → List ℕ → List ℕ
joined_to t part = kept_bytes t ++ part

-- the bytes past the last whole record
abbrev pub cut_off : List ℕ → List ℕ
cut_off bytes = drop (4 * (length bytes / 4)) bytes

-- how many records a part of a length completes, the bytes kept over included
abbrev pub completed_by : ℕ → ℕ → ℕ
completed_by kept part = (kept + part) / 4

-- the most records that a feed may take
abbrev pub most_records : ℕ
most_records = 4294967295

-- number 13: more records in all than a feed may take
abbrev pub too_many : ℕ → ℕ → Bool
too_many records more = ltb most_records (records + more)

-- number 2 at place 3: over 3 bytes kept, compared above records, differing above compared
unfoldable pub progress_wrong : Progress → Bool
progress_wrong t = ltb 3 t.kept || (ltb t.records t.compared || ltb t.compared t.differing)

-- the feed of two chips and a progress
abbrev pub as_feed : Chip → Chip → Progress → Feed
as_feed left right t = record { chips = as_chips left right; progress = t }

-- number 2 of a feed, by whether the left chip and the right one are out of range and by its progress: left, right, then place 3
abbrev pub feed_table : Bool → Bool → Progress → List Cause
feed_table left right t = left_then_right 2 left right (cause 2 3 (progress_wrong t) ∷ [])

-- numbers 1, 13 and 2 of a part, which refuse it before its first record: by what `feed_table` takes and the lengths of image, part and answers
abbrev pub part_table : Bool → Bool → Progress → ℕ → ℕ → ℕ → List Cause
part_table left right t ram part answers =
    let more = completed_by t.kept part in
    cause 1 0 (sizes_wrong part more ram answers) ∷ cause 13 0 (too_many t.records more) ∷ feed_table left right t

-- number 2 of a feed and its place, or 0
unfoldable pub state_verdict : Bool → Bool → Progress → Verdict
state_verdict left right t = verdict_by (feed_table left right t) (verdict 0 0)

-- numbers 1, 13 and 2 of a part and their place, or 0
unfoldable pub part_verdict : Bool → Bool → Progress → ℕ → ℕ → ℕ → Verdict
part_verdict left right t ram part answers = verdict_by (part_table left right t ram part answers) (verdict 0 0)

-- the tally of a number and its place, with the counts so far
abbrev pub so_far : Progress → ℕ → ℕ → Tally
so_far t n at = tally n at t.compared t.differing

-- what a call gives back beside the next feed, and that feed
abbrev pub as_fed : Tally → Feed → Fed
as_fed ran f = record { tally = ran; feed = f }

-- a feed with a number, its place and the feed's counts so far
abbrev pub fed_with : Feed → ℕ → ℕ → Fed
fed_with f n at = as_fed (so_far f.progress n at) f

-- the opening of a feed on two chips: it is stopped with number 2 where one of them is out of range
unfoldable pub open_of : Chip → Chip → Fed
open_of left right =
    unless_refused (feed_table (out_of_range left) (out_of_range right) (begun Open))
    (λ n at. fed_with (as_feed left right (begun (Stopped n at))) n at) (fed_with (as_feed left right (begun Open)) 0 0)

-- a stopped feed repeats its number and place, before any other test; an open one goes on
abbrev pub unless_stopped : {A : Type 0} → Ending → (ℕ → ℕ → A) → A → A
unless_stopped Open repeat go = go
unless_stopped (Stopped n at) repeat go = repeat n at

-- what a part gives back, and what it leaves: the feed, the image and the answer buffer
abbrev pub PartOutcome : Type 0
PartOutcome = CallResult Tally (Lent Feed)

-- what a part by value gives back, with the image and the answers afterwards
abbrev pub part_outcome : Fed → List ℕ → List ℕ → PartOutcome
part_outcome fed ram answers = result_of fed.tally (lent fed.feed ram answers)

-- what a part gives back and the feed that it leaves
abbrev pub fed_by : PartOutcome → Fed
fed_by o = as_fed o.answer o.lent.state

-- a part that is not taken: the feed, the image and the answer buffer are as they came
abbrev pub not_taken : Feed → List ℕ → List ℕ → ℕ → ℕ → PartOutcome
not_taken f ram answers n at = part_outcome (fed_with f n at) ram answers

-- a progress whose counts go on by the tally of a run, with the bytes to keep over
abbrev pub counted_on : Progress → Tally → List ℕ → Ending → Progress
counted_on t ran rest ending = keeping rest (t.records + ran.place) (t.compared + ran.compared) (t.differing + ran.differing) ending

-- how a run of the records in some bytes moves a progress on: done, what is left past them is kept over; refused, nothing is, and the feed is stopped
unfoldable pub moved_on : Progress → List ℕ → Tally → Progress
moved_on t bytes ran =
    if (eqb ran.number 0) (counted_on t ran (cut_off bytes) Open) (counted_on t ran [] (Stopped ran.number (t.records + ran.place)))

-- what a part whose records ran gives back and leaves: place and counts are counted from the opening
abbrev pub took_part : Feed → List ℕ → ReplayOutcome → PartOutcome
took_part f bytes o =
    let t = moved_on f.progress bytes o.answer in
    let chips = o.lent.state in
    part_outcome (fed_with (as_feed chips.left chips.right t) o.answer.number t.records) o.lent.ram o.lent.answers

-- a part given to a feed that is open: numbers 1, 13 and 2, then the records
unfoldable pub open_part : Feed → List ℕ → List ℕ → List ℕ → PartOutcome
open_part f ram part answers =
    let bytes = joined_to f.progress part in
    unless_refused (part_table (out_of_range f.chips.left) (out_of_range f.chips.right) f.progress (length ram) (length part) (length answers))
    (not_taken f ram answers) (took_part f bytes (ended_bytes (as_panel f.chips.left f.chips.right ram) bytes answers))

-- a part given to a feed
unfoldable pub part_of : Feed → List ℕ → List ℕ → List ℕ → PartOutcome
part_of f ram part answers = unless_stopped f.progress.ending (not_taken f ram answers) (open_part f ram part answers)

-- a feed stopped with a number, with the records since the opening as place
abbrev pub stopped_with : Feed → ℕ → Fed
stopped_with f n =
    let t = f.progress in
    fed_with (as_feed f.chips.left f.chips.right (stopped_at n t.records t)) n t.records

-- the closing of a feed that is open: number 2, which leaves it open; then 3 where bytes are kept over, else 0. In the code the count of records has
-- 32 bits, so number 13 has no cause here
unfoldable pub open_close : Feed → Fed
open_close f =
    unless_refused (feed_table (out_of_range f.chips.left) (out_of_range f.chips.right) f.progress) (fed_with f)
    (stopped_with f (if (eqb f.progress.kept 0) 0 3))

-- the closing of a feed: a stopped one repeats, an open one is closed
unfoldable pub close_of : Feed → Fed
close_of f = unless_stopped f.progress.ending (fed_with f) (open_close f)
