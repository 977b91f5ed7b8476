-- A feed and its bytes: each is read back from the other; and the 64-bit number taken apart.
use Prim.Native.Nat.{ℕ, ◌/◌, ◌%◌, ◌<◌}
use native.Mathlib.Omega.{arith}
use mathlib.Core.Path.{◌≡◌, refl, ◌∙◌}
use lib.ListN.{length, take, drop, length-append}
use lib.Seq.{take_at, drop_at}
use Rattle.basics.specs.Bytes.{as_word}
use Rattle.panel.specs.Chips.{chips_bytes}
use Rattle.panel.proofs.TwoChips.{two-length, two-there}
use Rattle.trace.specs.FeedInPlace.{feed_in}
use Rattle.trace.specs.declared.progress.Ending.{Ending}
use Rattle.trace.specs.declared.progress.Ending.TheVariants.{Open, Stopped}
use Rattle.trace.specs.declared.progress.Progress.{Progress}
use Rattle.trace.specs.declared.feed.Feed.{Feed}
use Rattle.pedralume.specs.FeedBytes.{stopped_byte, feed_bytes, progress_bytes, marks_right, progress_in}
use Rattle.pedralume.specs.FeedPromises.{BytesFit, Fits, FeedUnpacks, FeedBytesUndo}
use Rattle.pedralume.proofs.BytesFit.{no_byte, byte_more, number_more}
use Rattle.pedralume.proofs.FeedBack.{back}
use Rattle.pedralume.proofs.FeedPlaces.{open_place, part-place, close-place}

pub feed-unpacks : FeedUnpacks
feed-unpacks =
    record {
      number_of = λ n at h. omega arith;
      place_of = λ n at h. omega arith;
      open-place = open_place;
      part-place = λ f ram part answers fits. part-place f fits ram part answers;
      close-place = close-place;
    }

number-back : (n : ℕ) → as_word (n % 256) (n / 256 % 256) (n / 65536 % 256) (n / 16777216) ≡ n
number-back n = omega arith

abbrev as_progress : ℕ → ℕ → ℕ → ℕ → ℕ → ℕ → ℕ → Ending → Progress
as_progress kept first second third records compared differing ending =
    record {
      kept = kept;
      first = first;
      second = second;
      third = third;
      records = records;
      compared = compared;
      differing = differing;
      ending = ending;
    }

-- by how a feed's ending is marked
ending_there : (kept first second third records compared differing : ℕ) (e : Ending)
    → let t = as_progress kept first second third records compared differing e in progress_in (progress_bytes t) ≡ t
unfolding progress_in progress_bytes marks_right
ending_there kept first second third records compared differing Open = rw (number-back records, number-back compared, number-back differing)
ending_there kept first second third records compared differing (Stopped n at) =
    rw (number-back at, number-back records, number-back compared, number-back differing)

pub there : (t : Progress) → progress_in (progress_bytes t) ≡ t
there t = ending_there t.kept t.first t.second t.third t.records t.compared t.differing t.ending

pub progress-length : (t : Progress) → length (progress_bytes t) ≡ 24
unfolding progress_bytes
progress-length t = refl

pub feed-length : (f : Feed) → length (feed_bytes f) ≡ 48
feed-length f =
    length-append (chips_bytes f.chips.left f.chips.right) (progress_bytes f.progress)
    ∙ omega (arith, two-length f.chips.left f.chips.right, progress-length f.progress)

-- a feed's bytes taken apart
module _ (f : Feed) where
  pub front : take 24 (feed_bytes f) ≡ chips_bytes f.chips.left f.chips.right
  front = take_at (chips_bytes f.chips.left f.chips.right) (progress_bytes f.progress) 24 (two-length f.chips.left f.chips.right)

  pub behind : drop 24 (feed_bytes f) ≡ progress_bytes f.progress
  behind = drop_at (chips_bytes f.chips.left f.chips.right) (progress_bytes f.progress) 24 (two-length f.chips.left f.chips.right)

  feed-there : feed_in (take 24 (feed_bytes f)) (progress_in (drop 24 (feed_bytes f))) ≡ f
  feed-there = rw (front, behind) (rw (two-there f.chips.left f.chips.right, there f.progress))

stopped-small : (e : Ending) → stopped_byte e < 256
stopped-small Open = omega arith
stopped-small (Stopped n at) = omega arith

bytes : (t : Progress) → Fits t → BytesFit (progress_bytes t)
unfolding progress_bytes
bytes t fits =
    byte_more _ fits.kept (byte_more _ fits.first (byte_more _ fits.second (byte_more _ fits.third
    (byte_more _ (stopped-small t.ending) (byte_more _ fits.number (byte_more 0 (omega arith) (byte_more 0 (omega arith)
    (number_more _ fits.place (number_more _ fits.records (number_more _ fits.compared (number_more _ fits.differing no_byte)))))))))))

pub feed-bytes-undo : FeedBytesUndo
feed-bytes-undo =
    record { there = there; feed-there = feed-there; back = back; bytes = bytes; progress-length = progress-length; feed-length = feed-length }
