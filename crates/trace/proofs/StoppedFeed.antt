-- A stopped feed repeats and changes nothing; a call refused by 1, 13 or 2 leaves an open one as it was.
use Prim.Native.Nat.{ℕ, ◌-◌, ◌*◌}
use native.Mathlib.Omega.{arith}
use mathlib.Core.Path.{◌≡◌, refl, sym, ◌∙◌}
use mathlib.Core.Bool.{true, false, true≢false}
use mathlib.Core.List.{List, [], ◌∷◌}
use mathlib.Core.Logic.{⊎_elim}
use lib.Dec.{eqb}
use lib.ListN.{length}
use borrow.Author.Tests.{ne_eqb}
use Rattle.basics.specs.Choice.{if}
use Rattle.basics.specs.Table.{Cause, First, NoneHolds}
use Rattle.basics.proofs.Table.{each_line, first_or_none}
use Rattle.basics.proofs.Tests.{when}
use Rattle.sed1520.specs.declared.registers.Chip.{Chip}
use Rattle.panel.specs.Panel.{as_panel, Whole}
use Rattle.panel.specs.Trace.{trace_run}
use Rattle.trace.specs.Replay.{ReplayOutcome, ended, ended_bytes}
use Rattle.trace.specs.Feed.{begun, joined_to, as_feed, feed_table, part_table, fed_with, open_of, part_outcome, fed_by}
use Rattle.trace.specs.Feed.{not_taken, moved_on, took_part, part_of, stopped_with, open_close, close_of}
use Rattle.trace.specs.FeedPromises.{Part, given, fed_parts, refuses_part, StoppedRepeats, RefusedAsIfNot}
use Rattle.trace.specs.declared.progress.Ending.TheVariants.{Open, Stopped}
use Rattle.trace.specs.declared.feed.Feed.{Feed}
use Rattle.trace.specs.declared.feed.Fed.{Fed}
use Rattle.trace.proofs.FeedCases.{of_feed, state-two, part_right, part-refuses, by-ending, stays-stopped, goes_on, closes}
use Rattle.trace.proofs.FeedCases.{part-refused, part-taken}
use Rattle.trace.proofs.RunNumbers.{own-number, run-number}

module _ (f : Feed) (n at : ℕ) (stopped : f.progress.ending ≡ Stopped n at) where
  repeats-part : (ram bytes answers : List ℕ) → part_of f ram bytes answers ≡ not_taken f ram answers n at
  repeats-part ram bytes answers = stays-stopped f ram bytes answers n at stopped

  repeats-parts : (ram : List ℕ) (xs : List Part) → fed_parts (fed_with f n at) ram xs ≡ part_outcome (fed_with f n at) ram []
  unfolding fed_parts
  repeats-parts ram [] = refl
  repeats-parts ram (x ∷ xs) =
      let none : 2 * (f.progress.records - f.progress.records) ≡ 0 = omega arith in
      rw (repeats-part ram x.bytes x.buffer) (rw (none, repeats-parts ram xs))

  repeats-close : close_of f ≡ fed_with f n at
  unfolding close_of
  repeats-close = rw stopped

-- what a call gave back says how its feed is stopped
abbrev Stops : Fed → Type 0
Stops d = d.feed.progress.ending ≡ Stopped d.tally.number d.tally.place

open-stops : (left right : Chip) → ((open_of left right).tally.number ≡ 0 → ⊥) → Stops (open_of left right)
unfolding open_of
open-stops left right =
    let f = as_feed left right (begun Open) in
    each_line (λ n at. fed_with (as_feed left right (begun (Stopped n at))) n at) (fed_with f 0 0) (λ (d : Fed). (d.tally.number ≡ 0 → ⊥) → Stops d)
    (of_feed feed_table f) (λ n at _ _. refl) (λ _ h. absurd (h refl))

-- records run on a feed stop it where one is refused
run-stops : (f : Feed) (bytes : List ℕ) (o : ReplayOutcome) → (o.answer.number ≡ 0 → ⊥) → Stops (fed_by (took_part f bytes o))
unfolding moved_on
run-stops f bytes o h = rw (ne_eqb o.answer.number 0 h)

module _ (f : Feed) (ram part answers : List ℕ) (is_open : f.progress.ending ≡ Open) where
  abbrev lines : List Cause
  lines = of_feed part_table f (length ram) (length part) (length answers)

  abbrev outcome : ReplayOutcome
  outcome = ended_bytes (as_panel f.chips.left f.chips.right ram) (joined_to f.progress part) answers

  taken_here : NoneHolds lines → part_of f ram part answers ≡ took_part f (joined_to f.progress part) outcome
  taken_here none = goes_on f ram part answers is_open ∙ part-taken f ram part answers none

  refused-here : (n at : ℕ) → First lines n at → part_of f ram part answers ≡ not_taken f ram answers n at
  refused-here n at first = goes_on f ram part answers is_open ∙ part-refused f ram part answers n at first

  part-stops : let d = fed_by (part_of f ram part answers) in (d.tally.number ≡ 0 → ⊥) → refuses_part d.tally.number ≡ false → Stops d
  part-stops h taken =
      ⊎_elim
      (λ first. let is = refused-here _ _ first.1.1 in
      absurd (true≢false (sym (part-refuses f _ _ _ _ _ first.1.1) ∙ rw is at taken)))
      (λ none. let is = taken_here none in
      rw is (run-stops f (joined_to f.progress part) outcome (λ z. h (rw is z))))
      (first_or_none lines)

  as-it-came : let o = part_of f ram part answers in refuses_part o.answer.number ≡ true
      → o ≡ not_taken f ram answers o.answer.number o.answer.place
  unfolding ended
  as-it-came refused =
      ⊎_elim
      (λ first. rw (refused-here _ _ first.1.1))
      (λ none. let right = part_right f _ _ _ none in
      let whole : Whole (as_panel f.chips.left f.chips.right ram) =
      record { left = right.state.left; right = right.state.right; image = right.sizes.image } in
      let bytes = joined_to f.progress part in
      let own = own-number (trace_run (as_panel f.chips.left f.chips.right ram) bytes).number (run-number _ whole bytes) in
      absurd (true≢false (sym (rw (taken_here none) at refused) ∙ own)))
      (first_or_none lines)

close-stops : (f : Feed) → f.progress.ending ≡ Open → ((close_of f).tally.number ≡ 2 → ⊥) → Stops (close_of f)
unfolding open_close
close-stops f is_open =
    rw (closes f is_open)
    (each_line (fed_with f) (stopped_with f (if (eqb f.progress.kept 0) 0 3)) (λ (d : Fed). (d.tally.number ≡ 2 → ⊥) → Stops d)
    (of_feed feed_table f) (λ n at first h. absurd (h (state-two f n at first)))
    (λ _ h. refl))

close-refused : (f : Feed) → f.progress.ending ≡ Open → (close_of f).tally.number ≡ 2 → (close_of f).feed ≡ f
unfolding open_close
close-refused f is_open =
    rw (closes f is_open)
    (each_line (fed_with f) (stopped_with f (if (eqb f.progress.kept 0) 0 3)) (λ (d : Fed). d.tally.number ≡ 2 → d.feed ≡ f) (of_feed feed_table f)
    (λ n at _ _. refl)
    (λ _. when (λ (n : ℕ). n ≡ 2 → (stopped_with f n).feed ≡ f) (eqb f.progress.kept 0) (λ _ e. absurd (omega arith))
    (λ _ e. absurd (omega arith))))

-- what holds of a stopped feed and of an open one holds of any feed
either_way : {P : Type 0} (f : Feed) → ((n at : ℕ) → f.progress.ending ≡ Stopped n at → P) → (f.progress.ending ≡ Open → P) → P
either_way {P} f = by-ending (λ (_ : Unit {0}). P) f.progress.ending {repeat = λ n at. tt} {go = tt}

pub stopped-repeats : StoppedRepeats
stopped-repeats =
    record {
      repeats = λ f n at e. record { part = repeats-part f n at e; parts = repeats-parts f n at e; close = repeats-close f n at e };
      after_open = open-stops;
      after-part = λ f ram bytes answers.
          either_way f (λ n at e h taken. rw (repeats-part f n at e ram bytes answers) e) (part-stops f ram bytes answers);
      after-close = λ f. either_way f (λ n at e h. rw (repeats-close f n at e) e) (close-stops f);
    }

as-if-not : (d : Fed) (ram : List ℕ) (x y : Part) (xs : List Part) → d.feed.progress.ending ≡ Open
    → refuses_part (given d.feed ram x).answer.number ≡ true → fed_parts d ram (x ∷ y ∷ xs) ≡ fed_parts d ram (y ∷ xs)
unfolding fed_parts
as-if-not d ram x y xs is_open refused =
    let f = d.feed in
    let none : 2 * (f.progress.records - f.progress.records) ≡ 0 = omega arith in
    rw (as-it-came f ram x.bytes x.buffer is_open refused) (rw none)

pub refused-as-if-not : RefusedAsIfNot
refused-as-if-not = record { part = as-it-came; next = as-if-not; close = close-refused }
