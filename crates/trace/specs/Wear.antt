-- Wear (request C-16): how many accepted records of one call stored to each of the 640 RAM bytes, counted over the answers of its run. A replay and
-- a part of a feed are lent 640 counts and fill them from 0, whatever they held. The calls over chip bytes are lent none: inside they lend wear of
-- length 0, in which nothing is counted.
use Rattle.std.specs.Prelude.{ℕ, ◌+◌, ◌≤◌, not, List, ◌∷◌, eqb, length, get_or, take}
use Rattle.basics.specs.Choice.{if}
use Rattle.basics.specs.Counts.{lies_in}
use Rattle.basics.specs.Lists.{tabulated}
use Rattle.basics.specs.Table.{Cause, cause, unless_refused}
use Rattle.sed1520.specs.BytesRun.{together}
use Rattle.sed1520.specs.Chip.{out_of_range}
use Rattle.sed1520.specs.Cycle.{Reply}
use Rattle.sed1520.specs.Records.{whole_records}
use Rattle.sed1520.specs.Replies.{stores_to}
use Rattle.panel.specs.Chips.{chips_length, panel_in}
use Rattle.panel.specs.Panel.{image_length, Panel, as_panel, panel_run}
use Rattle.panel.specs.Trace.{trace_run}
use Rattle.trace.specs.Replay.{ReplayOutcome, refused_at, ended_bytes, replay_table, replay_bytes_table}
use Rattle.trace.specs.Feed.{PartOutcome, joined_to, part_table, unless_stopped, not_taken, took_part}
use Rattle.trace.specs.FeedInPlace.{feed_in}
use Rattle.trace.specs.declared.progress.Progress.{Progress}
use Rattle.trace.specs.declared.feed.Feed.{Feed}

-- for each of the first n bytes of the image, how many of some answers stored to it
unfoldable pub stores_in : List Reply → ℕ → List ℕ
stores_in answers n = tabulated (λ i. stores_to i answers) 0 n

-- the wear of a run, by its answers: a count for each byte of the image
abbrev pub wear_of : List Reply → List ℕ
wear_of answers = stores_in answers image_length

-- what a call gives back and leaves, and the wear that it leaves
pub record WithWear (A : Type 0) : Type 0 where
  pub outcome : A
  pub wear : List ℕ

-- an outcome with the wear that is left
abbrev pub with_wear : {A : Type 0} → A → List ℕ → WithWear A
with_wear o wear = record { outcome = o; wear = wear }

-- number 1 also where wear is not 640 counts, before the other lines of a table
abbrev pub wear_table : ℕ → List Cause → List Cause
wear_table wear lines = cause 1 0 (not (eqb wear image_length)) ∷ lines

-- numbers 1 to 3 of a replay that is lent wear
abbrev pub replay_wear_table : Panel → List ℕ → List ℕ → List ℕ → List Cause
replay_wear_table p trace answers wear =
    wear_table (length wear) (replay_table (out_of_range p.left) (out_of_range p.right) (length trace) (length p.ram) (length answers))

-- the replay that is lent wear: numbers 1 to 3, which leave the wear as it came, then the records, with the wear of their run
unfoldable pub replay_with_wear : Panel → List ℕ → List ℕ → List ℕ → WithWear ReplayOutcome
replay_with_wear p trace answers wear =
    unless_refused (replay_wear_table p trace answers wear) (λ n at. with_wear (refused_at n at p answers) wear)
    (with_wear (ended_bytes p trace answers) (wear_of (trace_run p trace).answers))

-- the answers to the records that a part of a feed completes, up to the first that is refused
abbrev pub part_replies : Feed → List ℕ → List ℕ → List Reply
part_replies f ram part = (trace_run (as_panel f.chips.left f.chips.right ram) (joined_to f.progress part)).answers

-- numbers 1, 13 and 2 of a part that is lent wear
abbrev pub part_wear_table : Feed → List ℕ → List ℕ → List ℕ → List ℕ → List Cause
part_wear_table f ram part answers wear =
    wear_table (length wear)
    (part_table (out_of_range f.chips.left) (out_of_range f.chips.right) f.progress (length ram) (length part) (length answers))

-- a part that is lent wear, given to a feed: a stopped feed repeats, before any other test; numbers 1, 13 and 2; these leave the wear as it came.
-- Then the records, with the wear of their run
unfoldable pub part_with_wear : Feed → List ℕ → List ℕ → List ℕ → List ℕ → WithWear PartOutcome
part_with_wear f ram part answers wear =
    let bytes = joined_to f.progress part in
    unless_stopped f.progress.ending (λ n at. with_wear (not_taken f ram answers n at) wear)
    (unless_refused (part_wear_table f ram part answers wear) (λ n at. with_wear (not_taken f ram answers n at) wear)
    (with_wear (took_part f bytes (ended_bytes (as_panel f.chips.left f.chips.right ram) bytes answers)) (wear_of (part_replies f ram part))))

-- wear of any length after a replay over chip bytes: as it came where numbers 1 to 3 refuse, else that of the run
unfoldable pub replay_wear : List ℕ → List ℕ → List ℕ → List ℕ → List ℕ → List ℕ
replay_wear chips ram trace answers wear =
    unless_refused (replay_bytes_table chips (length trace) (length ram) (length answers)) (λ n at. wear)
    (stores_in (trace_run (panel_in chips ram) trace).answers (length wear))

-- wear of any length after a part is given to a feed that is open: as it came where numbers 1, 13 and 2 refuse, else that of the run
unfoldable pub open_part_wear : Feed → List ℕ → List ℕ → List ℕ → List ℕ → List ℕ
open_part_wear f ram part answers wear =
    unless_refused
    (part_table (out_of_range f.chips.left) (out_of_range f.chips.right) f.progress (length ram) (length part) (length answers)) (λ n at. wear)
    (stores_in (part_replies f ram part) (length wear))

-- wear of any length after a part is given over chip bytes: as it came where the feed is stopped or the chips are not 24 bytes
unfoldable pub part_wear : List ℕ → Progress → List ℕ → List ℕ → List ℕ → List ℕ → List ℕ
part_wear chips t ram part answers wear =
    unless_stopped t.ending (λ n at. wear)
    (if (not (eqb (length chips) chips_length)) wear (open_part_wear (feed_in chips t) ram part answers wear))

-- no count is over a limit
abbrev pub AtMost : ℕ → List ℕ → Type 0
AtMost most wear = (i : ℕ) → get_or wear i 0 ≤ most

-- wear with one store more for each byte from one place up to another, which is not counted
unfoldable pub raised : List ℕ → ℕ → ℕ → List ℕ
raised wear from to = tabulated (λ i. get_or wear i 0 + if (lies_in from to i) 1 0) 0 (length wear)

-- wear with the stores of some answers added
unfoldable pub worn : List ℕ → List Reply → List ℕ
worn wear answers = tabulated (λ i. get_or wear i 0 + stores_to i answers) 0 (length wear)

-- the answers to the records that a trace begins with and that run together, over chip bytes
abbrev pub replies_together : List ℕ → List ℕ → List ℕ → List Reply
replies_together chips ram trace = let rs = whole_records trace in (panel_run (panel_in chips ram) (take (together rs) rs)).answers
