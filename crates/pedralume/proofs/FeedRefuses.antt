-- The bytes of a stopped feed; what the calls refuse, where every buffer stays as it came but at an opening by 2; and the numbers that they give
-- where they do not refuse.
use Prim.Native.Nat.{ℕ, ◌%◌}
use native.Mathlib.Omega.{arith}
use mathlib.Core.Path.{◌≡◌, refl, sym, ap, subst, ◌∙◌}
use mathlib.Core.Bool.{Bool, true, false, not, ◌||◌, or-true, or-false}
use mathlib.Core.List.{List, [], ◌∷◌, ◌++◌}
use mathlib.Core.Logic.{inl, inr, ⊎_elim}
use lib.Dec.{ltb, eqb}
use lib.ListN.{length, get_or, take, drop, take-append-drop}
use lib.Seq.{get_or-drop, length-take-le}
use borrow.Author.Tests.{eqb-true, eqb-false, eq-eqb, ne_eqb}
use Rattle.basics.specs.Choice.{if}
use Rattle.basics.specs.Table.{Cause, cause, left_then_right, First, NoneHolds}
use Rattle.basics.specs.Verdict.{result_of}
use Rattle.basics.proofs.Tests.{tested}
use Rattle.sed1520.specs.ChipBytes.{bytes_pass}
use Rattle.panel.specs.Chips.{chips_in}
use Rattle.panel.proofs.TwoChips.{left-passes, right-passes}
use Rattle.trace.specs.Replay.{ReplayOutcome, sizes_wrong}
use Rattle.sed1520.specs.Replies.{in_place}
use Rattle.trace.specs.Feed.{begun, joined_to, completed_by, too_many, progress_wrong, feed_table, part_table, fed_with, took_part, close_of}
use Rattle.trace.specs.FeedInPlace.{feed_in, fed_in_place, part_in_place}
use Rattle.trace.specs.FeedPromises.{refuses_part}
use Rattle.trace.specs.declared.progress.Ending.TheVariants.{Open, Stopped}
use Rattle.trace.specs.declared.progress.Progress.{Progress}
use Rattle.trace.specs.declared.feed.Feed.{Feed}
use Rattle.trace.proofs.FeedCases.{of_feed, state-two, part_right, part-refuses, part-taken, open-refused, closes, close-refused, close_passed}
use Rattle.trace.proofs.PartCases.{still-stopped, still_open, not_taken_lem}
use Rattle.trace.proofs.RunNumbers.{own-number, low-number}
use Rattle.trace.proofs.StoppedFeed.{stopped-repeats}
use Rattle.pedralume.specs.FeedBytes.{word_at, progress_bytes, marks_right, progress_in}
use Rattle.pedralume.specs.FeedCall.{feed_packed, tally_packed, stays, open_call, part_call, close_call}
use Rattle.pedralume.specs.FeedPromises.{StoppedBytesRepeat, feed_bytes_table, part_call_table, FeedCallsRefuse}
use Rattle.pedralume.proofs.FeedCallCases.{part_length, part-whole, close-length, close-whole, open-feed, open-chips}
use Rattle.pedralume.proofs.FeedWays.{part_run}
use Rattle.pedralume.proofs.FeedFits.{part-number}
use Rattle.pedralume.proofs.FeedUndo.{feed-unpacks}

-- a refusal that stays leaves the buffers as they came
module _ (feed : List ℕ) (h : length feed ≡ 48) (n at : ℕ) where
  abbrev t : Progress
  t = progress_in (drop 24 feed)

  pub chips-length : length (take 24 feed) ≡ 24
  chips-length = length-take-le 24 feed (omega arith)

  module _ (same : stays t.ending n ≡ true) where
    pub part_stays : (ram part answers : List ℕ)
        → part_in_place (take 24 feed) t ram part answers ≡ in_place (fed_in_place t n at) (take 24 feed) ram answers
        → part_call feed ram part answers ≡ in_place (feed_packed n at) feed ram answers
    part_stays ram part answers e =
        part-whole feed ram part answers h t refl _ (sym e) ∙ rw same (rw (take-append-drop 24 feed))

    pub close-stays : close_of (feed_in (take 24 feed) t) ≡ fed_with (feed_in (take 24 feed) t) n at
        → close_call feed ≡ result_of (feed_packed n at) feed
    close-stays e = close-whole feed h t refl _ (sym e) ∙ rw same (rw (take-append-drop 24 feed))

-- the bytes of a stopped feed
module _ (feed : List ℕ) (one : get_or feed 28 0 ≡ 1) where
  is-stopped : (progress_in (drop 24 feed)).ending ≡ Stopped (get_or feed 29 0) (word_at feed 32)
  unfolding progress_in
  is-stopped = simp get_or-drop (rw (eq-eqb (get_or feed 28 0) 1 one))

pub stopped-bytes-repeat : StoppedBytesRepeat
stopped-bytes-repeat =
    record {
      part =
          λ feed ram part answers h one. let e = is-stopped feed one in
          part_stays feed h _ _ (rw e) ram part answers (still-stopped _ ram part answers _ _ _ e);
      closed = λ feed h one. let e = is-stopped feed one in close-stays feed h _ _ (rw e) (stopped-repeats.repeats _ _ _ e).close;
    }

-- counts that stand for wrong marks are wrong
stand-in : (few m : Bool) (r a d : ℕ) → (few || (ltb r (if m a 0) || ltb (if m a 0) (if m d 1))) ≡ (few || (ltb r a || (ltb a d || not m)))
stand-in few true r a d = ap (λ (t : Bool). few || (ltb r a || t)) (sym (or-false (ltb a d)))
stand-in few false r a d =
    ap (λ (t : Bool). few || t) (or-true (ltb r 0))
    ∙ sym (ap (λ (t : Bool). few || t) (ap (λ (t : Bool). ltb r a || t) (or-true (ltb a d)) ∙ or-true (ltb r a)))

-- the progress read from the bytes behind the chips is wrong exactly where these bytes are
same-wrong : (b : List ℕ) → progress_wrong (progress_in b)
    ≡ (ltb 3 (get_or b 0 0) || (ltb (word_at b 12) (word_at b 16) || (ltb (word_at b 16) (word_at b 20) || not (marks_right b))))
unfolding progress_in progress_wrong
same-wrong b = stand-in (ltb 3 (get_or b 0 0)) (marks_right b) (word_at b 12) (word_at b 16) (word_at b 20)

-- the lines of the feed that is read are those of the bytes
module _ (feed : List ℕ) (h : length feed ≡ 48) where
  abbrev read : Feed
  read = feed_in (take 24 feed) (progress_in (drop 24 feed))

  same-state : of_feed feed_table read ≡ feed_bytes_table feed
  same-state =
      let size = chips-length feed h 0 0 in
      rw (left-passes (take 24 feed) size _ refl, right-passes (take 24 feed) size _ refl, same-wrong (drop 24 feed))

  same-part : (ram part answers : ℕ) → of_feed part_table read ram part answers ≡ part_call_table feed ram part answers
  unfolding progress_in
  same-part ram part answers =
      let b = drop 24 feed in
      let more = completed_by (get_or b 0 0) part in
      ap (λ (t : List Cause). cause 1 0 (sizes_wrong part more ram answers) ∷ cause 13 0 (too_many (word_at b 12) more) ∷ t) same-state

  is_open : (get_or feed 28 0 ≡ 1 → ⊥) → (progress_in (drop 24 feed)).ending ≡ Open
  unfolding progress_in
  is_open other = simp get_or-drop (rw (ne_eqb (get_or feed 28 0) 1 other))

  module _ (other : get_or feed 28 0 ≡ 1 → ⊥) (n at : ℕ) where
    part-call-refused : (ram part answers : List ℕ) → First (part_call_table feed (length ram) (length part) (length answers)) n at
        → part_call feed ram part answers ≡ in_place (feed_packed n at) feed ram answers
    part-call-refused ram part answers first =
        let size = chips-length feed h 0 0 in
        let lines = same-part (length ram) (length part) (length answers) in
        let line = subst (λ (t : List Cause). First t n at) (sym lines) first in
        let e = is_open other in
        part_stays feed h n at (rw e (part-refuses read (length ram) (length part) (length answers) n at line)) ram part answers
        (still_open _ ram part answers _ size e ∙ sym (not_taken_lem _ ram part answers _ size n at line))

    close-call-refused : First (feed_bytes_table feed) n at → close_call feed ≡ result_of (feed_packed n at) feed
    close-call-refused first =
        let line = subst (λ (t : List Cause). First t n at) (sym same-state) first in
        let e = is_open other in
        close-stays feed h n at (rw (e, state-two read n at line)) (closes read e ∙ close-refused read n at line)

  -- taken, a part gives a record's own number
  module _ (ram part answers : List ℕ) (other : get_or feed 28 0 ≡ 1 → ⊥)
      (none : NoneHolds (part_call_table feed (length ram) (length part) (length answers))) where
    abbrev outcome : ReplayOutcome
    outcome = part_run read ram part answers

    passed : NoneHolds (of_feed part_table read (length ram) (length part) (length answers))
    passed = subst NoneHolds (sym (same-part (length ram) (length part) (length answers))) none

    given : (part_call feed ram part answers).answer ≡ tally_packed (took_part read (joined_to read.progress part) outcome).answer
    given =
        let is = still_open (take 24 feed) ram part answers _ (chips-length feed h 0 0) (is_open other) in
        rw (part-whole feed ram part answers h _ refl _ (sym is)) (rw (part-taken read ram part answers passed))

    part-call-taken : refuses_part ((part_call feed ram part answers).answer % 256) ≡ false
    part-call-taken =
        let own = part-number read ram part answers (part_right read _ _ _ passed) in
        let low = low-number outcome.answer.number own in
        rw (given, feed-unpacks.number_of outcome.answer.number _ (omega (arith, low))) (own-number outcome.answer.number own)

  close-call-done : (get_or feed 28 0 ≡ 1 → ⊥) → NoneHolds (feed_bytes_table feed)
      → (close_call feed).answer ≡ feed_packed (if (eqb (get_or (drop 24 feed) 0 0) 0) 0 3) (word_at (drop 24 feed) 12)
  unfolding progress_in
  close-call-done other none =
      rw (close-whole feed h _ refl _ (sym (closes read (is_open other) ∙ close_passed read (subst NoneHolds (sym same-state) none))))

-- an opening's number 2
module _ (feed chips : List ℕ) (h : length feed ≡ 48) (k : length chips ≡ 24) (n at : ℕ) where
  open-call-state : First (left_then_right 2 (not (bytes_pass (take 12 chips))) (not (bytes_pass (drop 12 chips))) []) n at
      → open_call feed chips ≡ result_of (feed_packed n at) (chips ++ progress_bytes (begun (Stopped n at)))
  unfolding open_call
  open-call-state first =
      let line : First (of_feed feed_table (feed_in chips (begun Open))) n at =
      rw (left-passes chips k _ refl, right-passes chips k _ refl)
      (⊎_elim (λ here. inl here) (λ later. inr (later.0, ⊎_elim (λ here. inl here) (λ none. absurd none.1) later.1)) first) in
      rw (eq-eqb (length feed) 48 h, eq-eqb (length chips) 24 k, open-refused (chips_in chips).left (chips_in chips).right n at line)

open-sizes : (feed chips : List ℕ) → (length chips ≡ 24 → ⊥) → open_call feed chips ≡ result_of (feed_packed 1 0) feed
open-sizes feed chips wrong =
    ⊎_elim
    (λ t. open-chips feed chips (eqb-true (length feed) 48 t) wrong)
    (λ t. open-feed feed chips (eqb-false (length feed) 48 t))
    (tested (eqb (length feed) 48))

pub feed-calls-refuse : FeedCallsRefuse
feed-calls-refuse =
    record {
      open-feed = open-feed;
      open-chips = open-sizes;
      open-state = open-call-state;
      part-feed = part_length;
      part = λ feed ram part answers h other n at. part-call-refused feed h other n at ram part answers;
      part-taken = λ feed ram part answers h. part-call-taken feed h ram part answers;
      close-feed = close-length;
      close-state = close-call-refused;
      close-done = close-call-done;
    }
