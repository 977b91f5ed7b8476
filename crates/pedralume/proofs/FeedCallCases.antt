-- The feed's calls past the test of the length of the feed's bytes.
use Prim.Native.Nat.{ℕ}
use mathlib.Core.Path.{◌≡◌}
use mathlib.Core.List.{List, ◌++◌}
use lib.ListN.{length, take, drop}
use borrow.Author.Tests.{eq-eqb, ne_eqb}
use Rattle.basics.specs.Verdict.{CallResult, result_of}
use Rattle.sed1520.specs.Replies.{InPlace, in_place}
use Rattle.trace.specs.Feed.{close_of}
use Rattle.trace.specs.FeedInPlace.{feed_in, part_in_place}
use Rattle.trace.specs.declared.progress.Progress.{Progress}
use Rattle.trace.specs.declared.feed.Fed.{Fed}
use Rattle.trace.specs.declared.feed.FedInPlace.{FedInPlace}
use Rattle.pedralume.specs.FeedBytes.{progress_in}
use Rattle.pedralume.specs.FeedCall.{feed_packed, tally_packed, kept_or, open_call, part_call, close_call}

module _ (feed ram part answers : List ℕ) where
  pub part_length : (length feed ≡ 48 → ⊥) → part_call feed ram part answers ≡ in_place (feed_packed 1 0) feed ram answers
  unfolding part_call
  part_length h = rw (ne_eqb (length feed) 48 h)

  -- what a part leaves, from what it gave over the chips
  abbrev pub in_place_call : Progress → InPlace FedInPlace → InPlace ℕ
  in_place_call t i =
      let r = i.answer.tally in
      in_place (tally_packed r) (i.lent.state ++ kept_or t.ending r.number (drop 24 feed) i.answer.progress) i.lent.ram i.lent.answers

  module _ (h : length feed ≡ 48) (t : Progress) where
    pub part-whole : t ≡ progress_in (drop 24 feed) → (i : InPlace FedInPlace) → i ≡ part_in_place (take 24 feed) t ram part answers
        → part_call feed ram part answers ≡ in_place_call t i
    unfolding part_call
    part-whole read i went = rw (eq-eqb (length feed) 48 h, went, read)

module _ (feed : List ℕ) where
  pub close-length : (length feed ≡ 48 → ⊥) → close_call feed ≡ result_of (feed_packed 1 0) feed
  unfolding close_call
  close-length h = rw (ne_eqb (length feed) 48 h)

  -- what a close leaves, from what it gave
  abbrev pub close_left : Progress → Fed → CallResult ℕ (List ℕ)
  close_left t o = result_of (tally_packed o.tally) (take 24 feed ++ kept_or t.ending o.tally.number (drop 24 feed) o.feed.progress)

  module _ (h : length feed ≡ 48) (t : Progress) where
    pub close-whole : t ≡ progress_in (drop 24 feed) → (o : Fed) → o ≡ close_of (feed_in (take 24 feed) t) → close_call feed ≡ close_left t o
    unfolding close_call
    close-whole read o closed = rw (eq-eqb (length feed) 48 h, closed, read)

module _ (feed chips : List ℕ) where
  pub open-feed : (length feed ≡ 48 → ⊥) → open_call feed chips ≡ result_of (feed_packed 1 0) feed
  unfolding open_call
  open-feed h = rw (ne_eqb (length feed) 48 h)

  module _ (h : length feed ≡ 48) where
    pub open-chips : (length chips ≡ 24 → ⊥) → open_call feed chips ≡ result_of (feed_packed 1 0) feed
    unfolding open_call
    open-chips k = rw (eq-eqb (length feed) 48 h, ne_eqb (length chips) 24 k)
