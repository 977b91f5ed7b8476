-- A replay and a part that are lent wear: without 640 counts they are refused; with them they are the replay and the part, and the wear is that of
-- the inner function over the bytes of both chips.
use Prim.Native.Nat.{ℕ}
use mathlib.Core.Path.{◌≡◌, refl, ap, ◌∙◌}
use mathlib.Core.List.{List}
use lib.ListN.{length}
use borrow.Author.Tests.{eq-eqb, ne_eqb}
use Rattle.basics.specs.Table.{Cause, unless_refused}
use Rattle.basics.proofs.Table.{table-both}
use Rattle.panel.specs.Chips.{chips_bytes, panel_in}
use Rattle.panel.specs.Panel.{Panel, as_panel}
use Rattle.panel.specs.Trace.{trace_run}
use Rattle.panel.proofs.TwoChips.{two-length, two-there}
use Rattle.sed1520.specs.declared.registers.Chip.{Chip}
use Rattle.trace.specs.Replay.{refused_at, ended_bytes, replay_of}
use Rattle.trace.specs.Feed.{as_feed, joined_to, part_table, unless_stopped, PartOutcome, not_taken, took_part, open_part, part_of}
use Rattle.trace.specs.Wear.{wear_of, WithWear, with_wear, replay_with_wear, part_replies, part_wear_table, part_with_wear}
use Rattle.trace.specs.Wear.{replay_wear, open_part_wear, part_wear}
use Rattle.trace.specs.declared.progress.Ending.{Ending}
use Rattle.trace.specs.declared.progress.Ending.TheVariants.{Open, Stopped}
use Rattle.trace.specs.declared.progress.Progress.{Progress}
use Rattle.trace.specs.declared.feed.Feed.{Feed}
use Rattle.trace.proofs.FeedCases.{of_feed}
use Rattle.trace.proofs.InPlace.{same_lines, panel-there}
use Rattle.trace.proofs.ReplayNumbers.{table}

-- an outcome and the wear left, each known
pub both_left : {A : Type 0} {o o' : A} {wear wear' : List ℕ} → o ≡ o' → wear ≡ wear' → with_wear o wear ≡ with_wear o' wear'
both_left {o' = o'} {wear = wear} e w = ap (λ o. with_wear o wear) e ∙ ap (with_wear o') w

-- the replay
module _ (p : Panel) (trace answers wear : List ℕ) where
  -- the wear that it leaves
  abbrev pub replay_leaves : List ℕ
  replay_leaves = unless_refused (table p trace answers) (λ n at. wear) (wear_of (trace_run p trace).answers)

  pub wear-refused : (length wear ≡ 640 → ⊥) → replay_with_wear p trace answers wear ≡ with_wear (refused_at 1 0 p answers) wear
  unfolding replay_with_wear
  wear-refused h = rw (ne_eqb (length wear) 640 h)

  pub with-wear : length wear ≡ 640 → replay_with_wear p trace answers wear ≡ with_wear (replay_of p trace answers) replay_leaves
  unfolding replay_with_wear replay_of
  with-wear h = rw (eq-eqb (length wear) 640 h) (table-both with_wear (table p trace answers) (λ n at. refused_at n at p answers) _ (λ n at. wear) _)

pub wear-over-bytes : (left right : Chip) (ram trace answers wear : List ℕ) → length wear ≡ 640
    → replay_wear (chips_bytes left right) ram trace answers wear ≡ replay_leaves (as_panel left right ram) trace answers wear
unfolding replay_wear
wear-over-bytes left right ram trace answers wear h =
    let chips = chips_bytes left right in
    let size = two-length left right in
    let on = panel-there left right ram in
    rw (eq-eqb (length chips) 24 size, h)
    (ap (λ (t : List Cause). unless_refused t (λ n at. wear) (wear_of (trace_run (panel_in chips ram) trace).answers))
    (same_lines chips ram trace answers size)
    ∙ ap (λ (q : Panel). replay_leaves q trace answers wear) on)

-- a part of a feed
module _ (f : Feed) (ram part answers wear : List ℕ) where
  -- the wear that it leaves
  abbrev pub part_leaves : List ℕ
  part_leaves = unless_stopped f.progress.ending (λ n at. wear) (open_part_wear f ram part answers wear)

  -- what it comes to where the feed is open
  abbrev pub open_leaves : WithWear PartOutcome
  open_leaves =
      let bytes = joined_to f.progress part in
      unless_refused (part_wear_table f ram part answers wear) (λ n at. with_wear (not_taken f ram answers n at) wear)
      (with_wear (took_part f bytes (ended_bytes (as_panel f.chips.left f.chips.right ram) bytes answers)) (wear_of (part_replies f ram part)))

  by-its-ending : {e : Ending} → f.progress.ending ≡ e
      → part_with_wear f ram part answers wear ≡ unless_stopped e (λ n at. with_wear (not_taken f ram answers n at) wear) open_leaves
  unfolding part_with_wear
  by-its-ending is = ap (λ (e : Ending). unless_stopped e (λ n at. with_wear (not_taken f ram answers n at) wear) open_leaves) is

  pub part-stopped : (n at : ℕ) → f.progress.ending ≡ Stopped n at
      → part_with_wear f ram part answers wear ≡ with_wear (not_taken f ram answers n at) wear
  part-stopped n at = by-its-ending

  pub part-open : f.progress.ending ≡ Open → part_with_wear f ram part answers wear ≡ open_leaves
  part-open = by-its-ending

  pub part-wear-refused : (length wear ≡ 640 → ⊥)
      → part_with_wear f ram part answers wear
      ≡ with_wear (unless_stopped f.progress.ending (not_taken f ram answers) (not_taken f ram answers 1 0)) wear
  unfolding part_with_wear
  part-wear-refused h = rw (ne_eqb (length wear) 640 h) (stop f.progress.ending)
    where
      stop : (e : Ending) → unless_stopped e (λ n at. with_wear (not_taken f ram answers n at) wear) (with_wear (not_taken f ram answers 1 0) wear)
          ≡ with_wear (unless_stopped e (not_taken f ram answers) (not_taken f ram answers 1 0)) wear
      stop Open = refl
      stop (Stopped n at) = refl

  pub part-with-wear : length wear ≡ 640 → part_with_wear f ram part answers wear ≡ with_wear (part_of f ram part answers) part_leaves
  unfolding part_with_wear part_of open_part open_part_wear
  part-with-wear h = rw (eq-eqb (length wear) 640 h, h) (stop f.progress.ending)
    where
      lines_of : List Cause
      lines_of = of_feed part_table f (length ram) (length part) (length answers)

      bytes : List ℕ
      bytes = joined_to f.progress part

      took : PartOutcome
      took = took_part f bytes (ended_bytes (as_panel f.chips.left f.chips.right ram) bytes answers)

      stop : (e : Ending)
          → unless_stopped e (λ n at. with_wear (not_taken f ram answers n at) wear)
          (unless_refused lines_of (λ n at. with_wear (not_taken f ram answers n at) wear) (with_wear took (wear_of (part_replies f ram part))))
          ≡ with_wear (unless_stopped e (not_taken f ram answers) (unless_refused lines_of (not_taken f ram answers) took))
          (unless_stopped e (λ n at. wear) (unless_refused lines_of (λ n at. wear) (wear_of (part_replies f ram part))))
      stop Open = table-both with_wear lines_of (not_taken f ram answers) took (λ n at. wear) _
      stop (Stopped n at) = refl

pub part-wear-over-bytes : (left right : Chip) (t : Progress) (ram part answers wear : List ℕ)
    → part_wear (chips_bytes left right) t ram part answers wear ≡ part_leaves (as_feed left right t) ram part answers wear
unfolding part_wear
part-wear-over-bytes left right t ram part answers wear =
    rw (eq-eqb (length (chips_bytes left right)) 24 (two-length left right))
    (rw (two-there left right))
