-- The numbers that a replay and the calls of a feed give, each exactly when its table says so.
use Rattle.std.specs.Prelude.{ℕ, ◌≡◌, List, eqb, length}
use Rattle.basics.specs.Choice.{if}
use Rattle.basics.specs.Table.{First, ExactlyWhen}
use Rattle.basics.specs.Verdict.{verdict}
use Rattle.panel.specs.Chips.{panel_in}
use Rattle.panel.specs.Panel.{Panel, as_panel}
use Rattle.sed1520.specs.Chip.{out_of_range}
use Rattle.sed1520.specs.declared.registers.Chip.{Chip}
use Rattle.trace.specs.Feed.{begun, joined_to, feed_table, part_table, open_of, took_part, part_of, close_of}
use Rattle.trace.specs.Replay.{tally_verdict, ended_bytes, replay_table, replay_of, replay_bytes_table, replay_in_place}
use Rattle.sed1520.specs.Replies.{in_place, nothing_run}
use Rattle.trace.specs.declared.progress.Ending.TheVariants.{Open}
use Rattle.trace.specs.declared.feed.Feed.{Feed}

-- a replay by value gives numbers 1 to 3 exactly when their lines say so, else the number and the place of the records' run
abbrev pub ReplayNumbers : Type 0
ReplayNumbers =
    (p : Panel) (trace answers : List ℕ)
    → ExactlyWhen (replay_table (out_of_range p.left) (out_of_range p.right) (length trace) (length p.ram) (length answers))
    (tally_verdict (ended_bytes p trace answers).answer) (tally_verdict (replay_of p trace answers).answer)

-- a replay over chip bytes gives numbers 1 to 3 exactly when their lines say so of the bytes as they lie, else number and place of the records' run
abbrev pub ReplayBytesNumbers : Type 0
ReplayBytesNumbers =
    (chips ram trace answers : List ℕ)
    → ExactlyWhen (replay_bytes_table chips (length trace) (length ram) (length answers))
    (tally_verdict (ended_bytes (panel_in chips ram) trace answers).answer) (tally_verdict (replay_in_place chips ram trace answers).answer)

-- a replay over chip bytes that one of numbers 1 to 3 refuses leaves all that was lent as it came
abbrev pub EveryRefusalBefore : Type 0
EveryRefusalBefore =
    (chips ram trace answers : List ℕ) (n at : ℕ) → First (replay_bytes_table chips (length trace) (length ram) (length answers)) n at
    → replay_in_place chips ram trace answers ≡ in_place (nothing_run n at) chips ram answers

-- the calls of a feed that is not stopped give 1, 13 and 2 exactly when their lines say so; else an opening gives 0, a part the number of its
-- records' run, and a close 3 or 0, with the records since the opening as place
pub record FeedNumbers : Type 0 where
  pub opened : (left right : Chip) → ExactlyWhen (feed_table (out_of_range left) (out_of_range right) (begun Open)) (verdict 0 0)
      (tally_verdict (open_of left right).tally)
  pub part : (f : Feed) (ram part answers : List ℕ) → f.progress.ending ≡ Open → let bytes = joined_to f.progress part in
      ExactlyWhen (part_table (out_of_range f.chips.left) (out_of_range f.chips.right) f.progress (length ram) (length part) (length answers))
      (tally_verdict (took_part f bytes (ended_bytes (as_panel f.chips.left f.chips.right ram) bytes answers)).answer)
      (tally_verdict (part_of f ram part answers).answer)
  pub closed : (f : Feed) → f.progress.ending ≡ Open
      → ExactlyWhen (feed_table (out_of_range f.chips.left) (out_of_range f.chips.right) f.progress)
      (verdict (if (eqb f.progress.kept 0) 0 3) f.progress.records) (tally_verdict (close_of f).tally)
