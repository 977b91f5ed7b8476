-- The tables of a feed's calls: what holds where no line refuses, and each call by its table.
use Prim.Native.Nat.{ℕ, ◌+◌, ◌≤◌}
use native.Mathlib.Omega.{arith}
use mathlib.Core.Path.{◌≡◌, refl, ap}
use mathlib.Core.Bool.{Bool, true, not}
use mathlib.Core.List.{List}
use lib.Dec.{ltb, eqb}
use lib.ListN.{length}
use borrow.Author.Tests.{le-ltb, ltb-false, not-false}
use Rattle.basics.specs.Choice.{if}
use Rattle.basics.specs.Table.{First, NoneHolds}
use Rattle.basics.specs.Verdict.{verdict}
use Rattle.basics.specs.Verdict.{Verdict}
use Rattle.basics.proofs.Table.{first-refuses, none-refuses, each_line, of-first, refusing-line, passing-table}
use Rattle.basics.proofs.Tests.{neither}
use Rattle.sed1520.specs.Chip.{in_range, out_of_range}
use Rattle.sed1520.specs.declared.registers.Chip.{Chip}
use Rattle.panel.specs.Panel.{as_panel}
use Rattle.trace.specs.Replay.{ended_bytes}
use Rattle.trace.specs.Feed.{begun, joined_to, completed_by, progress_wrong, as_feed, feed_table, part_table, state_verdict, part_verdict, fed_with}
use Rattle.trace.specs.Feed.{open_of, unless_stopped, not_taken, took_part, open_part, part_of, stopped_with, open_close, close_of}
use Rattle.trace.specs.FeedPromises.{refuses_part}
use Rattle.trace.specs.declared.progress.Progress.{Progress}
use Rattle.trace.specs.declared.progress.Ending.{Ending}
use Rattle.trace.specs.declared.progress.Ending.TheVariants.{Open, Stopped}
use Rattle.trace.specs.declared.feed.Feed.{Feed}
use Rattle.trace.proofs.ReplayNumbers.{Sizes, sizes-right, right-sizes}

-- what is asked of a feed by whether either chip is out of range and by its progress
abbrev pub of_feed : {A : Type 0} → (Bool → Bool → Progress → A) → Feed → A
of_feed asked f = asked (out_of_range f.chips.left) (out_of_range f.chips.right) f.progress

-- number 2 has no cause
pub record StateRight (f : Feed) : Type 0 where
  pub left : in_range f.chips.left ≡ true
  pub right : in_range f.chips.right ≡ true
  pub few : f.progress.kept ≤ 3
  pub compared : f.progress.compared ≤ f.progress.records
  pub differing : f.progress.differing ≤ f.progress.compared

-- none of numbers 1, 13 and 2
pub record PartRight (f : Feed) (ram part answers : ℕ) : Type 0 where
  pub sizes : Sizes part (completed_by f.progress.kept part) ram answers
  pub countable : f.progress.records + completed_by f.progress.kept part ≤ 4294967295
  pub state : StateRight f

pub state-right : (f : Feed) → NoneHolds (of_feed feed_table f) → StateRight f
unfolding progress_wrong
state-right f none =
    let t = f.progress in
    let kept = neither (ltb 3 t.kept) _ none.1.1.0 in
    let counts = neither (ltb t.records t.compared) (ltb t.compared t.differing) kept.1 in
    record {
      left = not-false (in_range f.chips.left) none.0;
      right = not-false (in_range f.chips.right) none.1.0;
      few = ltb-false 3 t.kept kept.0;
      compared = ltb-false t.records t.compared counts.0;
      differing = ltb-false t.compared t.differing counts.1;
    }

pub right-state : (f : Feed) → StateRight f → NoneHolds (of_feed feed_table f)
unfolding progress_wrong
right-state f s =
    let t = f.progress in (
      ap not s.left,
      (
        ap not s.right,
        (
          rw (le-ltb 3 t.kept s.few, le-ltb t.records t.compared s.compared)
              (le-ltb t.compared t.differing s.differing),
          tt,
        ),
      ),
    )

-- number 2 is the only one of a feed, at places up to 3
pub state-two : (f : Feed) (n at : ℕ) → First (of_feed feed_table f) n at → n ≡ 2
state-two f = of-first (λ n at. n ≡ 2) (of_feed feed_table f) (λ _. refl, λ _. (λ _. refl, λ _. (λ _. refl, λ _. tt)))

pub state-low : (f : Feed) (n at : ℕ) → First (of_feed feed_table f) n at → at ≤ 3
state-low f = of-first (λ n at. at ≤ 3) (of_feed feed_table f) (λ _. omega arith, λ _. (λ _. omega arith, λ _. (λ _. omega arith, λ _. tt)))

pub state-place : (f : Feed) → (of_feed state_verdict f).place ≤ 3
unfolding state_verdict
state-place f = each_line verdict (verdict 0 0) (λ (v : Verdict). v.place ≤ 3) (of_feed feed_table f) (state-low f) (λ _. omega arith)

-- code that computes the verdict first
module _ (f : Feed) (v : Verdict) (e : v ≡ of_feed state_verdict f) where
  pub state-line : (v.number ≡ 0 → ⊥) → First (of_feed feed_table f) v.number v.place
  unfolding state_verdict
  state-line = refusing-line (of_feed feed_table f) v 0 e

  pub state-passed : v.number ≡ 0 → NoneHolds (of_feed feed_table f)
  unfolding state_verdict
  state-passed = passing-table (of_feed feed_table f) v 0 e (λ z. omega arith, (λ z. omega arith, (λ z. omega arith, tt)))

module _ (f : Feed) (ram part answers : ℕ) (v : Verdict) (e : v ≡ of_feed part_verdict f ram part answers) where
  pub part-line : (v.number ≡ 0 → ⊥) → First (of_feed part_table f ram part answers) v.number v.place
  unfolding part_verdict
  part-line = refusing-line (of_feed part_table f ram part answers) v 0 e

  pub part-passed : v.number ≡ 0 → NoneHolds (of_feed part_table f ram part answers)
  unfolding part_verdict
  part-passed =
      passing-table (of_feed part_table f ram part answers) v 0 e
      (λ z. omega arith, (λ z. omega arith, (λ z. omega arith, (λ z. omega arith, (λ z. omega arith, tt)))))

module _ (f : Feed) (ram part answers : ℕ) where
  abbrev more : ℕ
  more = completed_by f.progress.kept part

  pub part_right : NoneHolds (of_feed part_table f ram part answers) → PartRight f ram part answers
  part_right none =
      record {
        sizes = sizes-right part more ram answers none.0;
        countable = ltb-false 4294967295 (f.progress.records + more) none.1.0;
        state = state-right f none.1.1;
      }

  pub right-part : PartRight f ram part answers → NoneHolds (of_feed part_table f ram part answers)
  right-part r =
      let s = r.sizes in (
        right-sizes part more ram answers s.short s.image s.space,
        (le-ltb 4294967295 (f.progress.records + more) r.countable, right-state f r.state),
      )

  -- a part is refused before its first record by 1, 13 or 2
  pub part-refuses : (n at : ℕ) → First (of_feed part_table f ram part answers) n at → refuses_part n ≡ true
  part-refuses =
      of-first (λ n at. refuses_part n ≡ true) (of_feed part_table f ram part answers)
      (λ _. refl, λ _. (λ _. refl, λ _. (λ _. refl, λ _. (λ _. refl, λ _. (λ _. refl, λ _. tt)))))

  pub part_low : (n at : ℕ) → First (of_feed part_table f ram part answers) n at → at ≤ 3
  part_low =
      of-first (λ n at. at ≤ 3) (of_feed part_table f ram part answers)
      (λ _. omega arith, λ _. (λ _. omega arith, λ _. (λ _. omega arith, λ _. (λ _. omega arith, λ _. (λ _. omega arith, λ _. tt)))))

-- the opening
module _ (left right : Chip) where
  abbrev pub opened : Feed
  opened = as_feed left right (begun Open)

  pub open-refused : (n at : ℕ) → First (of_feed feed_table opened) n at
      → open_of left right ≡ fed_with (as_feed left right (begun (Stopped n at))) n at
  unfolding open_of
  open-refused = first-refuses (λ n at. fed_with (as_feed left right (begun (Stopped n at))) n at) (fed_with opened 0 0) (of_feed feed_table opened)

  pub open_done : NoneHolds (of_feed feed_table opened) → open_of left right ≡ fed_with opened 0 0
  unfolding open_of
  open_done = none-refuses (λ n at. fed_with (as_feed left right (begun (Stopped n at))) n at) (fed_with opened 0 0) (of_feed feed_table opened)

-- what holds of a stopped feed's answer and of an open one's
pub by-ending : {A : Type 0} (P : A → Type 0) (e : Ending) {repeat : ℕ → ℕ → A} {go : A} → ((n at : ℕ) → e ≡ Stopped n at → P (repeat n at))
    → (e ≡ Open → P go) → P (unless_stopped e repeat go)
by-ending P Open repeated goes = goes refl
by-ending P (Stopped n at) repeated goes = repeated n at refl

-- a part given to a feed that is stopped
pub stays-stopped : (f : Feed) (ram part answers : List ℕ) (n at : ℕ) → f.progress.ending ≡ Stopped n at
    → part_of f ram part answers ≡ not_taken f ram answers n at
unfolding part_of
stays-stopped f ram part answers n at e = rw e

-- a part given to a feed that is open, and its closing
pub goes_on : (f : Feed) (ram part answers : List ℕ) → f.progress.ending ≡ Open → part_of f ram part answers ≡ open_part f ram part answers
unfolding part_of
goes_on f ram part answers e = rw e

pub closes : (f : Feed) → f.progress.ending ≡ Open → close_of f ≡ open_close f
unfolding close_of
closes f e = rw e

-- a part given to an open feed, by its table
module _ (f : Feed) (ram part answers : List ℕ) where
  abbrev bytes : List ℕ
  bytes = joined_to f.progress part

  pub part-refused : (n at : ℕ) → First (of_feed part_table f (length ram) (length part) (length answers)) n at
      → open_part f ram part answers ≡ not_taken f ram answers n at
  unfolding open_part
  part-refused = first-refuses (not_taken f ram answers) _ (of_feed part_table f (length ram) (length part) (length answers))

  pub part-taken : NoneHolds (of_feed part_table f (length ram) (length part) (length answers))
      → open_part f ram part answers ≡ took_part f bytes (ended_bytes (as_panel f.chips.left f.chips.right ram) bytes answers)
  unfolding open_part
  part-taken = none-refuses (not_taken f ram answers) _ (of_feed part_table f (length ram) (length part) (length answers))

-- the closing of an open feed, by its table
module _ (f : Feed) where
  pub close-refused : (n at : ℕ) → First (of_feed feed_table f) n at → open_close f ≡ fed_with f n at
  unfolding open_close
  close-refused = first-refuses (fed_with f) _ (of_feed feed_table f)

  pub close_passed : NoneHolds (of_feed feed_table f) → open_close f ≡ stopped_with f (if (eqb f.progress.kept 0) 0 3)
  unfolding open_close
  close_passed = none-refuses (fed_with f) _ (of_feed feed_table f)
