-- One part more: a feed that took some bytes takes the next ones, and is then the feed that took all of them.
use Prim.Native.Nat.{ℕ, ◌+◌, ◌-◌, ◌*◌, ◌/◌, ◌%◌, ◌≤◌}
use native.Mathlib.Omega.{arith}
use mathlib.Core.Path.{◌≡◌, sym, ap, subst, ◌∙◌}
use mathlib.Core.Bool.{true, false, true≢false}
use mathlib.Core.List.{List, [], ◌++◌, append-nil}
use mathlib.Core.Logic.{⊎_elim}
use lib.Dec.{eqb}
use lib.ListN.{length, drop, length-append}
use lib.Seq.{take_at}
use borrow.Author.Tests.{eqb-true, eqb-false, eq-eqb, ne_eqb}
use Rattle.basics.specs.Run.{Run, as_run}
use Rattle.basics.specs.Table.{First, NoneHolds}
use Rattle.basics.proofs.Lists.{flat_append}
use Rattle.basics.proofs.Run.{run_ends, run_join, run-cut, answers-bound}
use Rattle.basics.proofs.Table.{first_or_none}
use Rattle.basics.proofs.Tests.{tested}
use Rattle.sed1520.specs.Cycle.{Reply}
use Rattle.panel.specs.Panel.{Whole}
use Rattle.panel.specs.Panel.{Panel, panel_step, panel_run}
use Rattle.sed1520.specs.Records.{front, whole_records}
use Rattle.panel.proofs.PanelLaws.{after-whole}
use Rattle.sed1520.proofs.Records.{records-length}
use Rattle.panel.specs.Trace.{trace_run}
use Rattle.trace.specs.Replay.{ended, ended_bytes}
use Rattle.sed1520.specs.Replies.{compared_in, differing_in, reply_bytes, replies_bytes, tally}
use Rattle.trace.specs.Feed.{keeping, cut_off, joined_to, completed_by, as_feed, part_table, PartOutcome, fed_by}
use Rattle.trace.specs.Feed.{not_taken, moved_on, took_part, part_of}
use Rattle.trace.specs.Wear.{part_replies}
use Rattle.trace.specs.FeedPromises.{Part, given, own_answers, refuses_part, feed_after, fed_after}
use Rattle.trace.specs.declared.progress.Progress.{Progress}
use Rattle.trace.specs.declared.progress.Ending.TheVariants.{Open}
use Rattle.trace.specs.declared.feed.Feed.{Feed}
use Rattle.trace.specs.declared.feed.Fed.{Fed}
use Rattle.sed1520.proofs.Counts.{compared-bound, compared-join, differing-compared, differing-join, differing-front}
use Rattle.trace.proofs.FeedCases.{of_feed, StateRight, right-part, part-refuses, part-refused, part-taken}
use Rattle.trace.proofs.Joined.{replies-length}
use Rattle.trace.proofs.KeptOver.{cut-off-length, cut-off-on, records-on, kept_back}

-- what a part that is taken leaves: what it gives back, the image, and its own answers
pub record Takes (f : Feed) (ram : List ℕ) (x : Part) (before after : Run Panel Reply) (bytes : List ℕ) : Type 0 where
  pub tally : (given f ram x).answer ≡ (fed_after after bytes).tally
  pub feed : (given f ram x).lent.state ≡ (fed_after after bytes).feed
  pub image : (given f ram x).lent.ram ≡ after.state.ram
  pub answers : replies_bytes before.answers ++ own_answers f (given f ram x) ≡ replies_bytes after.answers

module _ (p : Panel) (bytes : List ℕ) (x : Part) where
  abbrev before : Run Panel Reply
  before = trace_run p bytes

  abbrev next : List ℕ
  next = cut_off bytes ++ x.bytes

  abbrev second : Run Panel Reply
  second = panel_run before.state (whole_records next)

  abbrev after : Run Panel Reply
  after = trace_run p (bytes ++ x.bytes)

  f : Feed
  f = feed_after before bytes

  -- a stopped feed
  module _ (refused : before.number ≡ 0 → ⊥) where
    pub same-run : after ≡ before
    same-run = rw (records-on bytes x.bytes) (run-cut panel_step p (whole_records bytes) (whole_records next) refused)

    stopped-part : given f before.state.ram x ≡ not_taken f before.state.ram x.buffer before.number (length before.answers)
    unfolding part_of f
    stopped-part = rw (ne_eqb before.number 0 refused)

    same-fed : fed_after after (bytes ++ x.bytes) ≡ fed_after before bytes
    same-fed =
        rw (same-run, records-on bytes x.bytes, ne_eqb before.number 0 refused)
        (rw (differing-front before.answers (whole_records bytes) (whole_records next) (answers-bound panel_step (whole_records bytes) p)))

    takes-nothing : Takes f before.state.ram x before after (bytes ++ x.bytes)
    unfolding f
    takes-nothing =
        let none : 2 * (length before.answers - length before.answers) ≡ 0 = omega arith in
        record {
          tally = ap (λ (o : PartOutcome). o.answer) stopped-part ∙ sym (ap (λ (d : Fed). d.tally) same-fed);
          feed = ap (λ (o : PartOutcome). o.lent.state) stopped-part ∙ sym (ap (λ (d : Fed). d.feed) same-fed);
          image = ap (λ (o : PartOutcome). o.lent.ram) stopped-part ∙ rw same-run;
          answers = rw stopped-part (rw (none, same-run) (append-nil (replies_bytes before.answers)));
        }

  -- an open one
  module _ (done : before.number ≡ 0) where
    few : length (cut_off bytes) ≤ 3
    few = omega (arith, cut-off-length bytes)

    t : Progress
    t = keeping (cut_off bytes) (length before.answers) (compared_in before.answers) (differing_in before.answers (whole_records bytes)) Open

    still_open : f ≡ as_feed before.state.left before.state.right t
    unfolding f t
    still_open = rw (eq-eqb before.number 0 done)

    joined-next : joined_to t x.bytes ≡ next
    unfolding t
    joined-next = rw (kept_back (cut_off bytes) _ _ _ Open few)

    all : length before.answers ≡ length (whole_records bytes)
    all = (run_ends panel_step (front []) (whole_records bytes) p).done done

    run_on : after ≡ as_run second.number (before.answers ++ second.answers) second.state
    run_on = rw (records-on bytes x.bytes) (run_join panel_step p (whole_records bytes) (whole_records next) done)

    -- the counts go on to those of all records
    moved : let n = length second.answers in
        moved_on t next (tally second.number n (compared_in second.answers) (differing_in second.answers (whole_records next)))
        ≡ (feed_after after (bytes ++ x.bytes)).progress
    unfolding moved_on t
    moved =
        rw (run_on, records-on bytes x.bytes, cut-off-on bytes x.bytes)
        (rw (
          length-append before.answers second.answers,
          compared-join before.answers second.answers,
          differing-join before.answers second.answers (whole_records bytes) (whole_records next) all,
        )
        (⊎_elim (λ e. rw e) (λ e. rw e) (tested (eqb second.number 0))))

    abbrev g : Feed
    g = as_feed before.state.left before.state.right t

    module _ (none : NoneHolds (of_feed part_table g (length before.state.ram) (length x.bytes) (length x.buffer))) where
      part-is : given f before.state.ram x ≡ took_part g next (ended_bytes before.state next x.buffer)
      unfolding part_of t
      part-is = rw still_open (rw joined-next at (part-taken g before.state.ram x.bytes x.buffer none))

      takes-fed : fed_by (given f before.state.ram x) ≡ fed_after after (bytes ++ x.bytes)
      unfolding ended
      takes-fed = ap fed_by part-is ∙ rw moved (rw run_on)

      -- its answers stand at the front of its buffer
      own-answers : own_answers f (given f before.state.ram x) ≡ replies_bytes second.answers
      unfolding ended f
      own-answers =
          let a = length before.answers in
          let b = length second.answers in
          let buffer = ap (λ (o : PartOutcome). o.lent.answers) part-is in
          let count = rw run_on at (ap (λ (d : Fed). d.feed.progress.records) takes-fed) in
          let behind : 2 * (a + b - a) ≡ 2 * b = omega arith in
          rw (buffer, count) (rw (length-append before.answers second.answers, behind)
          (take_at (replies_bytes second.answers) (drop (2 * b) x.buffer) (2 * b) (replies-length second.answers)))

      takes_all : Takes f before.state.ram x before after (bytes ++ x.bytes)
      unfolding ended
      takes_all =
          record {
            tally = ap (λ (d : Fed). d.tally) takes-fed;
            feed = ap (λ (d : Fed). d.feed) takes-fed;
            image = ap (λ (o : PartOutcome). o.lent.ram) part-is ∙ rw run_on;
            answers = rw (own-answers, run_on) (sym (flat_append reply_bytes before.answers second.answers));
          }

    -- refused before the first record
    refused-first : (n at : ℕ) → First (of_feed part_table g (length before.state.ram) (length x.bytes) (length x.buffer)) n at
        → refuses_part (given f before.state.ram x).answer.number ≡ true
    unfolding part_of t
    refused-first n at first =
        rw still_open (rw (part-refused g before.state.ram x.bytes x.buffer n at first) (part-refuses g _ _ _ n at first))

  -- nothing refuses the part before its first record
  abbrev Passes : Feed → Type 0
  Passes q = NoneHolds (of_feed part_table q (length before.state.ram) (length x.bytes) (length x.buffer))

  -- where nothing refuses it before its first record
  pub takes-if : (before.number ≡ 0
      → NoneHolds (of_feed part_table (feed_after before bytes) (length before.state.ram) (length x.bytes) (length x.buffer)))
      → Takes (feed_after before bytes) before.state.ram x before after (bytes ++ x.bytes)
  unfolding f
  takes-if right =
      ⊎_elim
      (λ z. let done = eqb-true before.number 0 z in takes_all done (subst Passes (still_open done) (right done)))
      (λ z. takes-nothing (eqb-false before.number 0 z))
      (tested (eqb before.number 0))

  pub passed : refuses_part (given (feed_after before bytes) before.state.ram x).answer.number ≡ false → before.number ≡ 0
      → NoneHolds (of_feed part_table (feed_after before bytes) (length before.state.ram) (length x.bytes) (length x.buffer))
  unfolding f
  passed h done =
      ⊎_elim
      (λ first. absurd (true≢false (sym (refused-first done _ _ first.1.1) ∙ h)))
      (λ none. subst Passes (sym (still_open done)) none)
      (first_or_none (of_feed part_table (g done) (length before.state.ram) (length x.bytes) (length x.buffer)))

  pub takes : refuses_part (given (feed_after before bytes) before.state.ram x).answer.number ≡ false
      → Takes (feed_after before bytes) before.state.ram x before after (bytes ++ x.bytes)
  takes h = takes-if (passed h)

  -- the answers of all are those before and then its own
  pub replies-after : before.number ≡ 0 → after.answers ≡ before.answers ++ part_replies (feed_after before bytes) before.state.ram x.bytes
  unfolding f t
  replies-after done =
      let own = ap (λ (q : Feed). part_replies q before.state.ram x.bytes) (still_open done)
      ∙ ap (λ (next : List ℕ). (trace_run before.state next).answers) (joined-next done) in
      ap (λ (r : Run Panel Reply). r.answers) (run_on done) ∙ ap (λ (more : List Reply). before.answers ++ more) (sym own)

-- the feed after bytes is right, while it is open
module _ (p : Panel) (whole : Whole p) (bytes : List ℕ) (done : (trace_run p bytes).number ≡ 0) where
  pub state-after : StateRight (feed_after (trace_run p bytes) bytes)
  state-after =
      let r = trace_run p bytes in
      let then = after-whole (whole_records bytes) p whole in
      rw (eq-eqb r.number 0 done)
      record {
        left = then.left;
        right = then.right;
        few = omega (arith, cut-off-length bytes);
        compared = compared-bound r.answers;
        differing = differing-compared r.answers (whole_records bytes);
      }

  -- and nothing refuses a part that is short, has room, and is countable in all
  pub nothing-refuses : (x : Part) → length x.bytes ≤ 65536 → 2 * completed_by (length bytes % 4) (length x.bytes) ≤ length x.buffer
      → (length bytes + length x.bytes) / 4 ≤ 4294967295
      → let r = trace_run p bytes in
      NoneHolds (of_feed part_table (feed_after r bytes) (length r.state.ram) (length x.bytes) (length x.buffer))
  nothing-refuses x short room countable =
      let r = trace_run p bytes in
      let all = (run_ends panel_step (front []) (whole_records bytes) p).done done in
      let records = records-length (length bytes / 4) bytes in
      let kept = cut-off-length bytes in
      let image = (after-whole (whole_records bytes) p whole).image in
      right-part (feed_after r bytes) _ _ _
      record {
        sizes = record { short = short; image = image; space = rw (eq-eqb r.number 0 done, kept) room };
        countable = rw (eq-eqb r.number 0 done) (omega (arith, all, records, kept));
        state = state-after;
      }
