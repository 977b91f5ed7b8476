-- Calls that are lent wear by their tables: as without it, their numbers, and what a refusal leaves.
use mathlib.Core.Path.{refl, ap, ◌∙◌}
use Rattle.basics.proofs.Table.{first-refuses, table-as, exactly-when}
use Rattle.panel.specs.Panel.{as_panel}
use Rattle.trace.specs.Feed.{PartOutcome, joined_to, not_taken, took_part}
use Rattle.trace.specs.Replay.{ReplayOutcome, tally_verdict, refused_at, ended_bytes}
use Rattle.trace.specs.Wear.{WithWear, with_wear, replay_wear_table, replay_with_wear, part_wear_table}
use Rattle.trace.specs.WearPromises.{AsWithoutWear, WearNumbers, WearStays}
use Rattle.trace.proofs.WithWear.{with-wear, part-with-wear, part-stopped, part-open}

pub as-without-wear : AsWithoutWear
as-without-wear =
    record {
      replay = λ p trace answers wear h. ap (λ (o : WithWear ReplayOutcome). o.outcome) (with-wear p trace answers wear h);
      part = λ f ram part answers wear h. ap (λ (o : WithWear PartOutcome). o.outcome) (part-with-wear f ram part answers wear h);
    }

pub wear-numbers : WearNumbers
unfolding replay_with_wear
wear-numbers =
    record {
      replay = λ p trace answers wear.
          let lines = replay_wear_table p trace answers wear in
          rw (table-as (λ (o : WithWear ReplayOutcome). tally_verdict o.outcome.answer) lines (λ n at. refl) refl)
          (exactly-when lines (tally_verdict (ended_bytes p trace answers).answer));
      part = λ f ram part answers wear e.
          let lines = part_wear_table f ram part answers wear in
          let bytes = joined_to f.progress part in
          rw (part-open f ram part answers wear e)
          (rw (table-as (λ (o : WithWear PartOutcome). tally_verdict o.outcome.answer) lines (λ n at. refl) refl)
          (exactly-when lines (tally_verdict (took_part f bytes (ended_bytes (as_panel f.chips.left f.chips.right ram) bytes answers)).answer)));
    }

pub wear-stays : WearStays
unfolding replay_with_wear
wear-stays =
    record {
      replay = λ p trace answers wear. first-refuses (λ n at. with_wear (refused_at n at p answers) wear) _ (replay_wear_table p trace answers wear);
      part = λ f ram part answers wear n at e first.
          part-open f ram part answers wear e
          ∙ first-refuses (λ n at. with_wear (not_taken f ram answers n at) wear) _ (part_wear_table f ram part answers wear) n at first;
      stopped = part-stopped;
    }
