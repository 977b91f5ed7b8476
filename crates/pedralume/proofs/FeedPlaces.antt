-- The progress that 24 bytes stand for fits them again, and the place that a call of the feed gives back fits 32 bits.
use Prim.Native.Nat.{ℕ, ◌+◌, ◌<◌}
use native.Mathlib.Omega.{arith}
use mathlib.Core.Path.{◌≡◌, refl, ap}
use mathlib.Core.Bool.{not}
use mathlib.Core.List.{List}
use lib.Dec.{eqb}
use lib.ListN.{length, get_or, drop}
use Rattle.basics.proofs.Tests.{when}
use Rattle.sed1520.specs.declared.registers.Chip.{Chip}
use Rattle.panel.specs.Panel.{as_panel}
use Rattle.sed1520.specs.Replies.{InPlace}
use Rattle.trace.specs.Feed.{begun, joined_to, as_feed, PartOutcome, moved_on}
use Rattle.trace.specs.Feed.{open_of, part_of, close_of}
use Rattle.trace.specs.FeedInPlace.{feed_in, part_in_place}
use Rattle.sed1520.specs.declared.tally.Tally.{Tally}
use Rattle.trace.specs.declared.progress.Ending.{Ending}
use Rattle.trace.specs.declared.progress.Ending.TheVariants.{Open, Stopped}
use Rattle.trace.specs.declared.progress.Progress.{Progress}
use Rattle.trace.specs.declared.feed.Feed.{Feed}
use Rattle.trace.specs.declared.feed.Fed.{Fed}
use Rattle.trace.specs.declared.feed.FedInPlace.{FedInPlace}
use Rattle.trace.proofs.Bounds.{tally-few}
use Rattle.trace.proofs.FeedCases.{part_low, state-low, by-ending, goes_on}
use Rattle.trace.proofs.KeptOver.{joined_length}
use Rattle.pedralume.specs.FeedBytes.{number_byte, stop_place, word_at, marks_right, progress_in}
use Rattle.pedralume.specs.FeedPromises.{BytesFit, Fits}
use Rattle.pedralume.proofs.BytesFit.{drop-fit}
use Rattle.pedralume.proofs.FeedWays.{open-ways, close-ways, part-ways}

module _ (b : List ℕ) (fit : BytesFit b) where
  word_fits : (at : ℕ) → word_at b at < 4294967296
  word_fits at = omega (arith, fit.each at, fit.each (at + 1), fit.each (at + 2), fit.each (at + 3))

  pub in-fits : Fits (progress_in b)
  unfolding progress_in
  in-fits =
      record {
        kept = fit.each 0;
        first = fit.each 1;
        second = fit.each 2;
        third = fit.each 3;
        records = word_fits 12;
        compared = when (λ (n : ℕ). n < 4294967296) (marks_right b) (λ _. word_fits 16) (λ _. omega arith);
        differing = when (λ (n : ℕ). n < 4294967296) (marks_right b) (λ _. word_fits 20) (λ _. omega arith);
        number = when (λ (e : Ending). number_byte e < 256) (eqb (get_or b 4 0) 1) (λ _. fit.each 5) (λ _. omega arith);
        place = when (λ (e : Ending). stop_place e < 4294967296) (eqb (get_or b 4 0) 1) (λ _. word_fits 8) (λ _. omega arith);
      }

-- a progress read from a feed's bytes, behind its chips, fits
pub read_fits : (feed : List ℕ) → ((i : ℕ) → get_or feed i 0 < 256) → (behind : List ℕ) → behind ≡ drop 24 feed
    → (t : Progress) → t ≡ progress_in behind → Fits t
read_fits feed fit behind part t e = rw (e, part) (in-fits (drop 24 feed) (drop-fit 24 feed (record { each = fit })))

-- a count gone on by a run
pub moved-records : (t : Progress) (bytes : List ℕ) (ran : Tally) → (moved_on t bytes ran).records ≡ t.records + ran.place
unfolding moved_on
moved-records t bytes ran = when (λ (n : Progress). n.records ≡ t.records + ran.place) (eqb ran.number 0) (λ _. refl) (λ _. refl)

abbrev Coded : Tally → Type 0
Coded r = r.place < 4294967296

abbrev FedCoded : Fed → Type 0
FedCoded o = Coded o.tally

abbrev PartCoded : PartOutcome → Type 0
PartCoded o = Coded o.answer

-- a stopped feed's place
stopped-place : (t : Progress) → Fits t → (n at : ℕ) → t.ending ≡ Stopped n at → at < 4294967296
stopped-place t fits n at e = rw (ap stop_place e) at fits.place

module _ (f : Feed) (fits : Fits f.progress) where
  pub part-place : (ram part answers : List ℕ) → PartCoded (part_of f ram part answers)
  part-place ram part answers =
      let bytes = joined_to f.progress part in
      part-ways PartCoded f ram part answers (stopped-place f.progress fits)
      (λ n at first. omega (arith, part_low f (length ram) (length part) (length answers) n at first))
      (λ _ right. let few = tally-few (as_panel f.chips.left f.chips.right ram) bytes answers refl in
      rw (moved-records f.progress bytes) (omega (arith, few.place-few, joined_length f.progress right.state.few part, right.countable)))

  pub close-place : FedCoded (close_of f)
  close-place =
      close-ways FedCoded f (stopped-place f.progress fits) (λ n at first. omega (arith, state-low f n at first)) (λ _. fits.records)

pub open_place : (left right : Chip) → FedCoded (open_of left right)
open_place left right =
    open-ways FedCoded left right (λ n at first. omega (arith, state-low (as_feed left right (begun Open)) n at first)) (omega arith)

pub in-place-place : (chips ram part answers : List ℕ) (t : Progress) → Fits t → (i : InPlace FedInPlace) → i ≡ part_in_place chips t ram part answers
    → Coded i.answer.tally
unfolding part_in_place
in-place-place chips ram part answers t fits i e =
    rw e (by-ending InPlaceTold t.ending (stopped-place t fits)
    (λ is_open. when InPlaceTold (not (eqb (length chips) 24)) (λ _. omega arith)
    (λ _. rw (goes_on (feed_in chips t) ram part answers is_open) at (part-place (feed_in chips t) fits ram part answers))))
  where
    InPlaceTold : InPlace FedInPlace → Type 0
    InPlaceTold o = Coded o.answer.tally
