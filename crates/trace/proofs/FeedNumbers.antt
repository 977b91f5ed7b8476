-- The numbers of a feed's calls by their tables.
use mathlib.Core.Path.{refl}
use lib.Dec.{eqb}
use lib.ListN.{length}
use Rattle.basics.specs.Choice.{if}
use Rattle.basics.specs.Verdict.{verdict}
use Rattle.basics.proofs.Table.{table-as, exactly-when}
use Rattle.panel.specs.Panel.{as_panel}
use Rattle.trace.specs.Feed.{begun, joined_to, as_feed, feed_table, part_table, open_of, PartOutcome, took_part, open_part, open_close}
use Rattle.trace.specs.Refusals.{FeedNumbers}
use Rattle.trace.specs.Replay.{tally_verdict, ended_bytes}
use Rattle.trace.specs.declared.progress.Ending.TheVariants.{Open}
use Rattle.trace.specs.declared.feed.Fed.{Fed}
use Rattle.trace.proofs.FeedCases.{of_feed, goes_on, closes}

pub feed-numbers : FeedNumbers
unfolding open_of open_part open_close
feed-numbers =
    record {
      opened = λ left right. let lines = of_feed feed_table (as_feed left right (begun Open)) in
          rw (table-as (λ (d : Fed). tally_verdict d.tally) lines (λ n at. refl) refl) (exactly-when lines (verdict 0 0));
      part = λ f ram part answers e.
          let lines = of_feed part_table f (length ram) (length part) (length answers) in
          let bytes = joined_to f.progress part in
          let run = took_part f bytes (ended_bytes (as_panel f.chips.left f.chips.right ram) bytes answers) in
          rw (goes_on f ram part answers e)
          (rw (table-as (λ (o : PartOutcome). tally_verdict o.answer) lines (λ n at. refl) refl) (exactly-when lines (tally_verdict run.answer)));
      closed = λ f e.
          let lines = of_feed feed_table f in
          rw (closes f e)
          (rw (table-as (λ (d : Fed). tally_verdict d.tally) lines (λ n at. refl) refl)
          (exactly-when lines (verdict (if (eqb f.progress.kept 0) 0 3) f.progress.records)));
    }
