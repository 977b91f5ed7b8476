-- The progress after a call of the feed fits its bytes again.
use Prim.Native.Nat.{ℕ, ◌+◌, ◌*◌, ◌/◌, ◌<◌}
use native.Mathlib.Omega.{arith}
use mathlib.Core.Path.{◌≡◌, refl}
use mathlib.Core.Bool.{true}
use mathlib.Core.List.{List, []}
use lib.Dec.{eqb}
use lib.ListN.{length}
use Rattle.basics.proofs.Tests.{when}
use Rattle.sed1520.specs.declared.registers.Chip.{Chip}
use Rattle.panel.specs.Panel.{as_panel, Whole}
use Rattle.panel.specs.Promises.{is_record_number}
use Rattle.trace.specs.Replay.{ended}
use Rattle.sed1520.specs.Replies.{tally}
use Rattle.trace.specs.Feed.{begun, joined_to, cut_off, as_feed, PartOutcome, counted_on}
use Rattle.trace.specs.Feed.{moved_on, stopped_with, open_of, part_of, close_of}
use Rattle.sed1520.specs.declared.tally.Tally.{Tally}
use Rattle.trace.specs.declared.progress.Ending.{Ending}
use Rattle.trace.specs.declared.progress.Ending.TheVariants.{Open, Stopped}
use Rattle.trace.specs.declared.progress.Progress.{Progress}
use Rattle.trace.specs.declared.feed.Feed.{Feed}
use Rattle.trace.specs.declared.feed.Fed.{Fed}
use Rattle.trace.proofs.Bounds.{tally-few}
use Rattle.trace.proofs.FeedCases.{PartRight, state-two, state-low}
use Rattle.trace.proofs.KeptOver.{joined_length, cut-off-length}
use Rattle.trace.proofs.RunNumbers.{run-number, low-number}
use Rattle.pedralume.specs.FeedBytes.{number_byte, stop_place}
use Rattle.pedralume.specs.FeedPromises.{BytesFit, Fits}
use Rattle.pedralume.proofs.FeedWays.{part_run, open-ways, close-ways, part-ways}
use Rattle.pedralume.proofs.BytesFit.{no_byte, byte_more, append-fit, take-fit, drop-fit}

-- the number of a part's records, run on a whole panel
module _ (f : Feed) (ram part answers : List ℕ) (right : PartRight f (length ram) (length part) (length answers)) where
  pub part-number : is_record_number (part_run f ram part answers).answer.number ≡ true
  unfolding ended
  part-number =
      let whole : Whole (as_panel f.chips.left f.chips.right ram) =
      record { left = right.state.left; right = right.state.right; image = right.sizes.image } in
      run-number (as_panel f.chips.left f.chips.right ram) whole (joined_to f.progress part)

abbrev FedFits : Fed → Type 0
FedFits o = Fits o.feed.progress

abbrev PartFits : PartOutcome → Type 0
PartFits o = Fits o.lent.state.progress

-- counts that fit, with bytes to keep over and an ending that fit
module _ (t : Progress) (ran : Tally) (records : t.records + ran.place < 4294967296) (compared : t.compared + ran.compared < 4294967296)
    (differing : t.differing + ran.differing < 4294967296) where
  counted-fits : (rest : List ℕ) (e : Ending) → length rest < 256 → BytesFit rest → number_byte e < 256 → stop_place e < 4294967296
      → Fits (counted_on t ran rest e)
  counted-fits rest e short fit number place =
      record {
        kept = short;
        first = fit.each 0;
        second = fit.each 1;
        third = fit.each 2;
        records = records;
        compared = compared;
        differing = differing;
        number = number;
        place = place;
      }

  moved-fits : (bytes : List ℕ) → BytesFit bytes → ran.number < 256 → Fits (moved_on t bytes ran)
  unfolding moved_on
  moved-fits bytes fit number =
      when Fits (eqb ran.number 0)
      (λ _. let few : length (cut_off bytes) < 256 = omega (arith, cut-off-length bytes) in
      counted-fits (cut_off bytes) Open few (drop-fit (4 * (length bytes / 4)) bytes fit) (omega arith) (omega arith))
      (λ _. counted-fits [] (Stopped ran.number (t.records + ran.place)) (omega arith) no_byte number records)

joined-fit : (t : Progress) (part : List ℕ) → Fits t → BytesFit part → BytesFit (joined_to t part)
joined-fit t part fits fit =
    let kept = byte_more t.first fits.first (byte_more t.second fits.second (byte_more t.third fits.third no_byte)) in
    append-fit _ part (take-fit t.kept _ kept) fit

module _ (f : Feed) (fits : Fits f.progress) where
  pub part-fits : (ram part answers : List ℕ) → BytesFit part → Fits (part_of f ram part answers).lent.state.progress
  part-fits ram part answers fit =
      let t = f.progress in
      let bytes = joined_to t part in
      let ran = (part_run f ram part answers).answer in
      part-ways PartFits f ram part answers (λ n at _. fits) (λ n at _. fits)
      (λ _ right. let few = tally-few (as_panel f.chips.left f.chips.right ram) bytes answers refl in
      let state = right.state in
      let size = joined_length t state.few part in
      let n = low-number ran.number (part-number f ram part answers right) in
      moved-fits t ran
      (omega (arith, few.place-few, size, right.countable))
      (omega (arith, few.compared-few, size, right.countable, state.compared))
      (omega (arith, few.differing-few, size, right.countable, state.compared, state.differing))
      bytes (joined-fit t part fits fit) (omega (arith, n)))

  pub close-fits : FedFits (close_of f)
  close-fits =
      close-ways FedFits f (λ n at _. fits) (λ n at _. fits)
      (λ _. stopped-fits (when (λ (n : ℕ). n < 256) (eqb f.progress.kept 0) (λ _. omega arith) (λ _. omega arith)))
    where
      stopped-fits : {n : ℕ} → n < 256 → FedFits (stopped_with f n)
      stopped-fits h =
          record {
            kept = fits.kept;
            first = fits.first;
            second = fits.second;
            third = fits.third;
            records = fits.records;
            compared = fits.compared;
            differing = fits.differing;
            number = h;
            place = fits.records;
          }

begun-fits : (e : Ending) → number_byte e < 256 → stop_place e < 4294967296 → Fits (begun e)
begun-fits e number place =
    counted-fits (begun Open) (tally 0 0 0 0) (omega arith) (omega arith) (omega arith) [] e (omega arith) no_byte number place

pub open-fits : (left right : Chip) → FedFits (open_of left right)
open-fits left right =
    let f = as_feed left right (begun Open) in
    open-ways FedFits left right
    (λ n at first. begun-fits (Stopped n at) (omega (arith, state-two f n at first)) (omega (arith, state-low f n at first)))
    (begun-fits Open (omega arith) (omega arith))
