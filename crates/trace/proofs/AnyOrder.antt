-- A trace that replay accepts, in any order that keeps each chip's own: the runs of both are those of each chip alone, so all that the replay gives
-- and leaves is the same, each record's answer in its place.
use Prim.Native.Nat.{ℕ, ◌+◌, ◌*◌, ◌/◌, ◌%◌, ◌≤◌}
use native.Mathlib.Omega.{arith}
use mathlib.Core.Path.{◌≡◌, refl, sym, ap, ◌∙◌}
use mathlib.Core.Bool.{not, ◌&&◌}
use mathlib.Core.List.{List, [], ◌∷◌, ◌++◌, append-nil, map}
use lib.Dec.{eqb}
use lib.ListN.{length, drop_of_length-le}
use lib.Seq.{take-length}
use borrow.Author.Rules.{rules}
use Rattle.basics.specs.Choice.{if}
use Rattle.basics.specs.Keys.{Answered, with_answer, answered_of_key}
use Rattle.basics.specs.RunByKey.{SameRuns}
use Rattle.basics.proofs.Keys.{same-by-exchanges, answers-looked-at}
use Rattle.basics.proofs.KeySums.{same_count}
use Rattle.basics.proofs.Lists.{tabulated-same}
use Rattle.basics.proofs.Pieces.{pieces-seen}
use Rattle.basics.proofs.Table.{done-passes}
use Rattle.basics.proofs.Tests.{no_other}
use Rattle.sed1520.specs.Cycle.{Reply}
use Rattle.sed1520.specs.Records.{whole_records}
use Rattle.sed1520.specs.Replies.{is_compared, compared_in, differing_in, is_byte, stores_to, reply_bytes, replies_bytes, tallied}
use Rattle.sed1520.specs.declared.bus.Record.{Record}
use Rattle.sed1520.proofs.Records.{records-length}
use Rattle.panel.specs.AnyOrder.{chip_of}
use Rattle.panel.specs.Chips.{as_chips, panel_in}
use Rattle.panel.specs.Panel.{Panel}
use Rattle.panel.specs.Trace.{trace_run}
use Rattle.panel.specs.declared.chips.Chips.{Chips}
use Rattle.panel.proofs.AnyOrder.{runs-in-any-order}
use Rattle.trace.specs.AnyOrder.{Reordered, ReorderedByExchanges, BufferedAnswer, front_answer, answered_of, SameEnd, InAnyOrder}
use Rattle.trace.specs.Feed.{cut_off, PartOutcome, part_outcome}
use Rattle.trace.specs.FeedPromises.{joined_bytes, fed_after}
use Rattle.trace.specs.Promises.{Replayable}
use Rattle.trace.specs.Replay.{ended, ended_bytes, replay_of, rewritten, replay_in_place}
use Rattle.trace.specs.Wear.{stores_in, wear_of, replay_with_wear}
use Rattle.trace.proofs.EveryRun.{every-run}
use Rattle.trace.proofs.Feeds.{feeds-run}
use Rattle.trace.proofs.InPlace.{on-panel, replay-bytes-numbers}
use Rattle.trace.proofs.ReplayNumbers.{passed, runs, replay-numbers}
use Rattle.trace.proofs.WearRefusals.{as-without-wear, wear-numbers}
use Rattle.trace.specs.WearPromises.{parts_of}
use Rattle.trace.proofs.WearFeeds.{wear-adds-up}
use Rattle.trace.proofs.WearSums.{replay-wear}

pub reordered-by-exchanges : ReorderedByExchanges
reordered-by-exchanges trace other =
    let both = same-by-exchanges chip_of (whole_records trace) (whole_records other) in (
      λ reordered. (reordered.size, both.0 reordered.each-chip),
      λ exchanged. record { size = exchanged.0; each-chip = both.1 exchanged.1 },
    )

-- a reply as it stands in the answer buffer
abbrev in_buffer : Reply → BufferedAnswer
in_buffer a = record { kind = a.kind; byte = a.byte }

abbrev seen : Answered Record Reply → Answered Record BufferedAnswer
seen x = with_answer x.asked (in_buffer x.answer)

-- the records of a chip have the answers of their replies
answered-by : (k : ℕ) (trace : List ℕ) (replies : List Reply) (rest : List ℕ) → length replies ≡ length trace / 4
    → answered_of k trace (replies_bytes replies ++ rest) ≡ map seen (answered_of_key chip_of k (whole_records trace) replies)
answered-by k trace replies rest many =
    ap (answered_of_key chip_of k (whole_records trace))
    (pieces-seen front_answer 2 reply_bytes (λ a. refl) in_buffer (λ a more. refl) replies rest (length trace / 4) (omega arith)
    ∙ rw (← many, take-length replies))
    ∙ answers-looked-at chip_of in_buffer k (whole_records trace) replies

-- of whole records nothing is kept over
whole-kept : (bytes : List ℕ) → length bytes % 4 ≡ 0 → cut_off bytes ≡ []
whole-kept bytes cut = drop_of_length-le bytes {i = 4 * (length bytes / 4)} (omega arith)

-- the runs of a trace that is done and of its reordering
module _ (p : Panel) (image : length p.ram ≡ 640) (trace other : List ℕ) (reordered : Reordered trace other)
    (done : (trace_run p trace).number ≡ 0) where
  abbrev replies : List Reply
  replies = (trace_run p trace).answers

  abbrev other_replies : List Reply
  other_replies = (trace_run p other).answers

  same : SameRuns chip_of (whole_records trace) (whole_records other) (trace_run p trace) (trace_run p other)
  same = runs-in-any-order p image (whole_records trace) (whole_records other) done reordered.each-chip

  many : length replies ≡ length trace / 4
  many = (every-run.ends p trace).done done

  many-others : length other_replies ≡ length other / 4
  many-others = (every-run.ends p other).done same.done

  -- a count over answers and records
  counted : (f : Record → Reply → ℕ) (count : List Reply → List Record → ℕ) → count [] [] ≡ 0
      → ((a : Reply) (more : List Reply) (r : Record) (rs : List Record) → count (a ∷ more) (r ∷ rs) ≡ f r a + count more rs)
      → count replies (whole_records trace) ≡ count other_replies (whole_records other)
  counted f count none first =
      same_count f count none first chip_of (whole_records trace) (whole_records other) (trace_run p trace) (trace_run p other) same
      (many ∙ sym (records-length (length trace / 4) trace))
      (many-others ∙ sym (records-length (length other / 4) other))

  same-compared : compared_in replies ≡ compared_in other_replies
  unfolding compared_in
  same-compared = counted (λ r a. if (is_compared a.kind) 1 0) (λ given rs. compared_in given) refl (λ a more r rs. refl)

  same-differing : differing_in replies (whole_records trace) ≡ differing_in other_replies (whole_records other)
  unfolding differing_in
  same-differing = counted (λ r a. if (is_compared a.kind && not (eqb a.byte r.byte)) 1 0) differing_in refl (λ a more r rs. refl)

  same-stores : (i : ℕ) → stores_to i replies ≡ stores_to i other_replies
  unfolding stores_to
  same-stores i = counted (λ r a. if (is_byte i a.stored) 1 0) (λ given rs. stores_to i given) refl (λ a more r rs. refl)

  same-wear : wear_of replies ≡ wear_of other_replies
  unfolding stores_in
  same-wear = tabulated-same _ _ same-stores 0 640

  same_place : length replies ≡ length other_replies
  same_place = many ∙ rw reordered.size (sym many-others)

  same-answers : (rest other_rest : List ℕ) (k : ℕ)
      → answered_of k trace (replies_bytes replies ++ rest) ≡ answered_of k other (replies_bytes other_replies ++ other_rest)
  same-answers rest other_rest k =
      answered-by k trace replies rest many ∙ ap (map seen) (same.answers k) ∙ sym (answered-by k other other_replies other_rest many-others)

  same-tally : tallied (trace_run p trace).number replies (whole_records trace)
      ≡ tallied (trace_run p other).number other_replies (whole_records other)
  same-tally = rw (done, same.done, same_place, same-compared, same-differing)

  same_ended : (answers buffer : List ℕ) → SameEnd trace other (ended_bytes p trace answers) (ended_bytes p other buffer)
  unfolding ended
  same_ended answers buffer =
      record {
        reported = same-tally;
        answers = same-answers _ _;
        state = ap (λ (q : Panel). as_chips q.left q.right) same.state;
        ram = ap (λ (q : Panel). q.ram) same.state;
      }

  -- a feed that took the one or the other, whole
  abbrev feed_of : List ℕ → PartOutcome
  feed_of bytes = let r = trace_run p bytes in part_outcome (fed_after r bytes) r.state.ram (replies_bytes r.answers)

  same-feeds : length trace % 4 ≡ 0 → SameEnd trace other (feed_of trace) (feed_of other)
  same-feeds cut =
      let also : length other % 4 ≡ 0 = rw reordered.size at cut in
      record {
        reported = same-tally;
        answers = simp append-nil at (same-answers [] []);
        state = rw (done, same.done, whole-kept trace cut, whole-kept other also, same_place, same-compared, same-differing, same.state);
        ram = ap (λ (q : Panel). q.ram) same.state;
      }

-- what an accepted replay was lent
pub accepted-lent : (p : Panel) (trace answers : List ℕ) → (replay_of p trace answers).answer.number ≡ 0 → Replayable p trace answers
accepted-lent p trace answers accepted = passed p trace answers (done-passes (replay-numbers p trace answers) (search rules) accepted)

-- a replay of a trace that is accepted, and what its reordering is lent
module _ (p : Panel) (trace answers : List ℕ) (accepted : (replay_of p trace answers).answer.number ≡ 0)
    (other buffer : List ℕ) (reordered : Reordered trace other) (room : 2 * (length other / 4) ≤ length buffer) where
  lent : Replayable p trace answers
  lent = accepted-lent p trace answers accepted

  also-lent : Replayable p other buffer
  also-lent =
      record { size = rw reordered.size at lent.size; space = room; panel = lent.panel; whole = rw reordered.size at lent.whole }

  done : (trace_run p trace).number ≡ 0
  unfolding ended
  done = rw (runs p trace answers lent) at accepted

  same-replays : SameEnd trace other (replay_of p trace answers) (replay_of p other buffer)
  same-replays =
      rw (runs p trace answers lent, runs p other buffer also-lent) (same_ended p lent.panel.image trace other reordered done answers buffer)

  -- and their wear
  same-wears : (wear counts : List ℕ) → length wear ≡ 640 → length counts ≡ 640
      → (replay_with_wear p trace answers wear).wear ≡ (replay_with_wear p other buffer counts).wear
  same-wears wear counts h l =
      replay-wear p trace answers wear lent h
      ∙ same-wear p lent.panel.image trace other reordered done
      ∙ sym (replay-wear p other buffer counts also-lent l)

-- the counts that an accepted replay was lent
pub accepted-wear : (p : Panel) (trace answers wear : List ℕ) → (replay_with_wear p trace answers wear).outcome.answer.number ≡ 0 → length wear ≡ 640
accepted-wear p trace answers wear accepted =
    no_other (length wear) 640 (done-passes (wear-numbers.replay p trace answers wear) (search rules) accepted).0

-- the bytes that an accepted replay was lent
accepted-chips : (chips ram trace answers : List ℕ) → (replay_in_place chips ram trace answers).answer.number ≡ 0 → length chips ≡ 24
accepted-chips chips ram trace answers accepted =
    no_other (length chips) 24 (done-passes (replay-bytes-numbers chips ram trace answers) (search rules) accepted).0

pub in-any-order : InAnyOrder
in-any-order =
    record {
      replay = λ p trace answers wear accepted other buffer counts reordered room size.
          let lent = accepted-wear p trace answers wear accepted in
          let plain = as-without-wear.replay p trace answers wear lent in
          let also = rw plain at accepted in (
            rw (plain, as-without-wear.replay p other buffer counts size) (same-replays p trace answers also other buffer reordered room),
            same-wears p trace answers also other buffer reordered room wear counts lent size,
          );
      in_place = λ chips ram trace answers accepted other buffer reordered room.
          let size = accepted-chips chips ram trace answers accepted in
          let plain = on-panel chips ram trace answers size in
          let same = same-replays (panel_in chips ram) trace answers (rw plain at accepted) other buffer reordered room in
          rw (plain, on-panel chips ram other buffer size)
          (record {
            reported = same.reported;
            answers = same.answers;
            state = ap (λ (c : Chips). rewritten chips c.left c.right) same.state;
            ram = same.ram;
          });
      feeds = λ p whole xs ys taken also accepted reordered cut.
          let fed = feeds-run p whole xs taken in
          rw (fed, feeds-run p whole ys also)
          (same-feeds p whole.image (joined_bytes xs) (joined_bytes ys) reordered (rw fed at accepted) cut);
      feeds-wear = λ p whole xs ys fits fit taken also accepted reordered i below.
          wear-adds-up.parts p whole xs fits taken i below
          ∙ same-stores p whole.image (joined_bytes (parts_of xs)) (joined_bytes (parts_of ys)) reordered
          (rw (feeds-run p whole (parts_of xs) taken) at accepted) i
          ∙ sym (wear-adds-up.parts p whole ys fit also i below);
      both-or-neither = λ p trace answers other buffer reordered room also.
          let back : Reordered other trace = record { size = sym reordered.size; each-chip = λ k. sym (reordered.each-chip k) } in (
            λ accepted. rw (← (same-replays p trace answers accepted other buffer reordered also).reported) accepted,
            λ accepted. rw (← (same-replays p other buffer accepted trace answers back room).reported) accepted,
          );
    }
