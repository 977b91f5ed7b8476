-- The calls on a feed's bytes give back and leave what the feed by value does, and its progress fits again.
use Prim.Native.Nat.{ℕ}
use mathlib.Core.Path.{◌≡◌, refl, sym, ap, ◌∙◌}
use mathlib.Core.Bool.{Bool, true, false, ◌&&◌, true≢false}
use mathlib.Core.List.{List}
use lib.Dec.{eqb}
use lib.ListN.{length, take, drop}
use borrow.Author.Tests.{eq-eqb}
use Rattle.basics.specs.Choice.{if}
use Rattle.basics.specs.Verdict.{result_of}
use Rattle.basics.proofs.Tests.{when}
use Rattle.sed1520.specs.ChipBytes.{bytes_pass}
use Rattle.sed1520.specs.declared.registers.Chip.{Chip}
use Rattle.panel.specs.Chips.{chips_bytes, chips_in}
use Rattle.panel.proofs.TwoChips.{two-length, two-there}
use Rattle.sed1520.specs.Replies.{InPlace, in_place}
use Rattle.trace.specs.Feed.{begun, as_feed, PartOutcome, fed_by}
use Rattle.trace.specs.Feed.{open_of, part_of, close_of}
use Rattle.trace.specs.FeedInPlace.{feed_in, part_over_bytes, part_in_place}
use Rattle.trace.specs.declared.progress.Ending.TheVariants.{Open}
use Rattle.trace.specs.declared.progress.Progress.{Progress}
use Rattle.trace.specs.declared.feed.Feed.{Feed}
use Rattle.trace.specs.declared.feed.Fed.{Fed}
use Rattle.trace.specs.declared.feed.FedInPlace.{FedInPlace}
use Rattle.trace.proofs.PartCases.{on-bytes, by_value}
use Rattle.trace.proofs.RunNumbers.{own-number}
use Rattle.pedralume.specs.FeedBytes.{progress_bytes, feed_bytes, progress_in}
use Rattle.pedralume.specs.FeedCall.{tally_packed, stays, open_call, part_call, close_call}
use Rattle.pedralume.specs.FeedPromises.{FeedCallsFollow}
use Rattle.pedralume.proofs.FeedCallCases.{part-whole, close-whole}
use Rattle.pedralume.proofs.FeedWays.{part_run, open-ways, close-ways, part-ways}
use Rattle.pedralume.proofs.FeedFits.{part-number, open-fits, part-fits, close-fits}
use Rattle.pedralume.proofs.FeedUndo.{there, feed-length, front, behind}

read : (f : Feed) → f.progress ≡ progress_in (drop 24 (feed_bytes f))
read f = sym (ap progress_in (behind f) ∙ there f.progress)

-- where the feed's bytes stay, so does the progress
module _ (f : Feed) where
  abbrev Kept : Fed → Type 0
  Kept o = stays f.progress.ending o.tally.number ≡ true → o.feed.progress ≡ f.progress

  part-kept : (ram part answers : List ℕ) → Kept (fed_by (part_of f ram part answers))
  part-kept ram part answers =
      part-ways (λ (o : PartOutcome). Kept (fed_by o)) f ram part answers (λ n at _ _. refl) (λ n at _ _. refl)
      (λ e right s. let number = (part_run f ram part answers).answer.number in
      absurd (true≢false (sym (rw e at s) ∙ own-number number (part-number f ram part answers right))))

  close-kept : Kept (close_of f)
  close-kept =
      close-ways Kept f (λ n at _ _. refl) (λ n at _ _. refl)
      (λ e s. absurd (true≢false (sym (rw e at s) ∙ when (λ (n : ℕ). stays Open n ≡ false) (eqb f.progress.kept 0) (λ _. refl) (λ _. refl))))

-- a close leaves the chips as they came
abbrev SameChips : Feed → Fed → Type 0
SameChips f o = chips_bytes f.chips.left f.chips.right ≡ chips_bytes o.feed.chips.left o.feed.chips.right

close-chips : (f : Feed) → SameChips f (close_of f)
close-chips f = close-ways (SameChips f) f (λ n at _. refl) (λ n at _. refl) (λ _. refl)

-- the bytes behind the chips, kept or written
written : (t next : Progress) (s : Bool) → (s ≡ true → next ≡ t) → if s (progress_bytes t) (progress_bytes next) ≡ progress_bytes next
written t next true h = rw (h refl)
written t next false h = refl

-- the chips' bytes are those of the chips that they are read as
abbrev Own : List ℕ → Type 0
Own chips = chips_bytes (chips_in chips).left (chips_in chips).right ≡ chips

own : (left right : Chip) → Own (chips_bytes left right)
own left right = rw (two-there left right)

module _ (f : Feed) (ram part answers : List ℕ) where
  abbrev o : PartOutcome
  o = part_of f ram part answers

  abbrev i : InPlace FedInPlace
  i = part_in_place (chips_bytes f.chips.left f.chips.right) f.progress ram part answers

  over-bytes : i ≡ part_over_bytes (chips_bytes f.chips.left f.chips.right) o
  over-bytes = on-bytes f.chips.left f.chips.right f.progress ram part answers

  chips-own : Own i.lent.state
  chips-own =
      rw over-bytes
      (when Own (bytes_pass (take 12 (chips_bytes f.chips.left f.chips.right)) && bytes_pass (drop 12 (chips_bytes f.chips.left f.chips.right)))
      (λ _. own o.lent.state.chips.left o.lent.state.chips.right) (λ _. own f.chips.left f.chips.right))

  chips-after : i.lent.state ≡ chips_bytes o.lent.state.chips.left o.lent.state.chips.right
  chips-after =
      sym chips-own
      ∙ ap (λ (p : PartOutcome). chips_bytes p.lent.state.chips.left p.lent.state.chips.right)
      (by_value f.chips.left f.chips.right f.progress ram part answers _ refl i refl)

  part-follows : part_call (feed_bytes f) ram part answers
      ≡ in_place (tally_packed o.answer) (feed_bytes o.lent.state) o.lent.ram o.lent.answers
  part-follows =
      let e : i ≡ part_in_place (take 24 (feed_bytes f)) f.progress ram part answers = rw (front f) in
      let done = part-whole (feed_bytes f) ram part answers (feed-length f) f.progress (read f) i e in
      let next = o.lent.state.progress in
      let kept = written f.progress next (stays f.progress.ending o.answer.number) (part-kept f ram part answers) in
      done ∙ rw (chips-after, over-bytes, behind f, kept)

module _ (f : Feed) where
  close_follows : let o = close_of f in close_call (feed_bytes f) ≡ result_of (tally_packed o.tally) (feed_bytes o.feed)
  close_follows =
      let o = close_of f in
      let e : o ≡ close_of (feed_in (take 24 (feed_bytes f)) f.progress) = rw (front f) (rw (two-there f.chips.left f.chips.right)) in
      let done = close-whole (feed_bytes f) (feed-length f) f.progress (read f) o e in
      let kept = written f.progress o.feed.progress (stays f.progress.ending o.tally.number) (close-kept f) in
      done ∙ rw (front f, behind f, kept) (rw (close-chips f))

open-chips : (left right : Chip) → let after = (open_of left right).feed in chips_bytes left right ≡ chips_bytes after.chips.left after.chips.right
open-chips left right = open-ways (SameChips (as_feed left right (begun Open))) left right (λ n at _. refl) refl

open-follows : (feed : List ℕ) (left right : Chip) → length feed ≡ 48 → let o = open_of left right in
    open_call feed (chips_bytes left right) ≡ result_of (tally_packed o.tally) (feed_bytes o.feed)
unfolding open_call
open-follows feed left right h =
    rw (eq-eqb (length feed) 48 h, eq-eqb (length (chips_bytes left right)) 24 (two-length left right), two-there left right)
    (rw (← open-chips left right))

pub feed-calls-follow : FeedCallsFollow
feed-calls-follow =
    record {
      opened = open-follows;
      opened-fits = open-fits;
      part = part-follows;
      part-fits = λ f ram part answers fits fit. part-fits f fits ram part answers fit;
      closed = close_follows;
      closed-fits = close-fits;
    }
