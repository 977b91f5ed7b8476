-- What holds of a feed's call in each way that it can go, where it repeats, refuses or is done, holds of the call.
use Prim.Native.Nat.{ℕ}
use mathlib.Core.Path.{◌≡◌}
use mathlib.Core.List.{List}
use lib.Dec.{eqb}
use lib.ListN.{length}
use Rattle.basics.specs.Choice.{if}
use Rattle.basics.specs.Table.{First}
use Rattle.basics.proofs.Table.{each_line}
use Rattle.sed1520.specs.declared.registers.Chip.{Chip}
use Rattle.panel.specs.Panel.{as_panel}
use Rattle.trace.specs.Replay.{ReplayOutcome, ended_bytes}
use Rattle.trace.specs.Feed.{begun, joined_to, as_feed, feed_table, part_table, PartOutcome, fed_with, not_taken, took_part, stopped_with}
use Rattle.trace.specs.Feed.{open_of, open_part, part_of, open_close, close_of}
use Rattle.trace.specs.declared.progress.Ending.TheVariants.{Open, Stopped}
use Rattle.trace.specs.declared.feed.Feed.{Feed}
use Rattle.trace.specs.declared.feed.Fed.{Fed}
use Rattle.trace.proofs.FeedCases.{of_feed, PartRight, part_right, by-ending}

module _ (P : Fed → Type 0) where
  pub open-ways : (left right : Chip) → let f = as_feed left right (begun Open) in
      ((n at : ℕ) → First (of_feed feed_table f) n at → P (fed_with (as_feed left right (begun (Stopped n at))) n at))
      → P (fed_with f 0 0) → P (open_of left right)
  unfolding open_of
  open-ways left right refused done =
      let f = as_feed left right (begun Open) in
      each_line (λ n at. fed_with (as_feed left right (begun (Stopped n at))) n at) (fed_with f 0 0) P (of_feed feed_table f) refused (λ _. done)

  pub close-ways : (f : Feed) → ((n at : ℕ) → f.progress.ending ≡ Stopped n at → P (fed_with f n at))
      → ((n at : ℕ) → First (of_feed feed_table f) n at → P (fed_with f n at))
      → (f.progress.ending ≡ Open → P (stopped_with f (if (eqb f.progress.kept 0) 0 3))) → P (close_of f)
  unfolding close_of open_close
  close-ways f repeated refused done =
      by-ending P f.progress.ending repeated
      (λ e. each_line (fed_with f) (stopped_with f (if (eqb f.progress.kept 0) 0 3)) P (of_feed feed_table f) refused (λ _. done e))

-- a part's records, run
abbrev pub part_run : Feed → List ℕ → List ℕ → List ℕ → ReplayOutcome
part_run f ram part answers = ended_bytes (as_panel f.chips.left f.chips.right ram) (joined_to f.progress part) answers

module _ (P : PartOutcome → Type 0) (f : Feed) (ram part answers : List ℕ) where
  pub part-ways : ((n at : ℕ) → f.progress.ending ≡ Stopped n at → P (not_taken f ram answers n at))
      → ((n at : ℕ) → First (of_feed part_table f (length ram) (length part) (length answers)) n at → P (not_taken f ram answers n at))
      → (f.progress.ending ≡ Open → PartRight f (length ram) (length part) (length answers)
      → P (took_part f (joined_to f.progress part) (part_run f ram part answers)))
      → P (part_of f ram part answers)
  unfolding part_of open_part
  part-ways repeated refused taken =
      by-ending P f.progress.ending repeated
      (λ e. each_line (not_taken f ram answers) (took_part f (joined_to f.progress part) (part_run f ram part answers)) P
      (of_feed part_table f (length ram) (length part) (length answers)) refused
      (λ none. taken e (part_right f (length ram) (length part) (length answers) none)))
