-- What becomes of wear, by the cases of a call: refused, it is as it came; else it is counted from 0.
use Prim.Native.Nat.{ℕ}
use mathlib.Core.Path.{◌≡◌}
use mathlib.Core.List.{List}
use lib.ListN.{length}
use borrow.Author.Tests.{eq-eqb, ne_eqb}
use Rattle.basics.specs.Table.{First, NoneHolds}
use Rattle.basics.proofs.Table.{first-refuses, none-refuses}
use Rattle.panel.specs.Chips.{panel_in}
use Rattle.panel.specs.Trace.{trace_run}
use Rattle.trace.specs.Feed.{part_table}
use Rattle.trace.specs.FeedInPlace.{feed_in}
use Rattle.trace.specs.Wear.{stores_in, part_replies, replay_wear, open_part_wear, part_wear}
use Rattle.trace.specs.declared.progress.Ending.TheVariants.{Open, Stopped}
use Rattle.trace.specs.declared.progress.Progress.{Progress}
use Rattle.trace.specs.declared.feed.Feed.{Feed}
use Rattle.trace.proofs.FeedCases.{of_feed}
use Rattle.trace.proofs.InPlace.{bytes_table}

-- a replay over chip bytes
module _ (chips ram trace answers wear : List ℕ) where
  pub replay-kept : (n at : ℕ) → First (bytes_table chips ram trace answers) n at → replay_wear chips ram trace answers wear ≡ wear
  unfolding replay_wear
  replay-kept = first-refuses (λ n at. wear) _ (bytes_table chips ram trace answers)

  pub replay-counted : NoneHolds (bytes_table chips ram trace answers)
      → replay_wear chips ram trace answers wear ≡ stores_in (trace_run (panel_in chips ram) trace).answers (length wear)
  unfolding replay_wear
  replay-counted = none-refuses (λ n at. wear) _ (bytes_table chips ram trace answers)

-- a part given to a feed that is open
module _ (f : Feed) (ram part answers wear : List ℕ) where
  pub open_kept : (n at : ℕ) → First (of_feed part_table f (length ram) (length part) (length answers)) n at
      → open_part_wear f ram part answers wear ≡ wear
  unfolding open_part_wear
  open_kept = first-refuses (λ n at. wear) _ (of_feed part_table f (length ram) (length part) (length answers))

  pub open-counted : NoneHolds (of_feed part_table f (length ram) (length part) (length answers))
      → open_part_wear f ram part answers wear ≡ stores_in (part_replies f ram part) (length wear)
  unfolding open_part_wear
  open-counted = none-refuses (λ n at. wear) _ (of_feed part_table f (length ram) (length part) (length answers))

-- a part given over chip bytes
module _ (chips : List ℕ) (t : Progress) (ram part answers wear : List ℕ) where
  pub stopped-kept : (n at : ℕ) → t.ending ≡ Stopped n at → part_wear chips t ram part answers wear ≡ wear
  unfolding part_wear
  stopped-kept n at e = rw e

  module _ (still : t.ending ≡ Open) where
    pub chips-kept : (length chips ≡ 24 → ⊥) → part_wear chips t ram part answers wear ≡ wear
    unfolding part_wear
    chips-kept h = rw (still, ne_eqb (length chips) 24 h)

    pub as-open : length chips ≡ 24 → part_wear chips t ram part answers wear ≡ open_part_wear (feed_in chips t) ram part answers wear
    unfolding part_wear
    as-open h = rw (still, eq-eqb (length chips) 24 h)
