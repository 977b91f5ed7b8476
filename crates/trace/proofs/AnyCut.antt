-- A trace given in parts, opened and closed, is as replayed.
use Prim.Native.Nat.{ℕ, ◌*◌, ◌/◌, ◌%◌, ◌≤◌}
use native.Mathlib.Omega.{arith}
use mathlib.Core.Path.{◌≡◌, sym, ap, ◌∙◌}
use mathlib.Core.Bool.{true}
use mathlib.Core.List.{List, [], ◌∷◌, flat_map}
use mathlib.Core.Logic.{⊎_elim}
use lib.Dec.{eqb}
use lib.ListN.{length, drop, length-append}
use lib.Seq.{take_at}
use borrow.Author.Tests.{eqb-true, eqb-false, eq-eqb, ne_eqb}
use Rattle.basics.specs.Choice.{if}
use Rattle.basics.proofs.Tests.{tested}
use Rattle.panel.specs.Panel.{Whole}
use Rattle.panel.specs.Panel.{Panel}
use Rattle.panel.specs.Trace.{trace_run}
use Rattle.trace.specs.Replay.{ended}
use Rattle.sed1520.specs.Replies.{replies_bytes}
use Rattle.trace.specs.Feed.{stopped_with, open_of, close_of}
use Rattle.trace.specs.Promises.{Replayable}
use Rattle.trace.specs.FeedPromises.{Part, joined_bytes, BuffersFit, Taken, feed_after, fed_after, Short, AtAnyCut, ClosesAfter, FeedsClose}
use Rattle.trace.specs.declared.feed.Feed.{Feed}
use Rattle.trace.proofs.FeedCases.{right-state, closes, close_passed}
use Rattle.trace.proofs.EveryRun.{every-run}
use Rattle.trace.proofs.Feeding.{state-after}
use Rattle.trace.proofs.Feeds.{feeds-run, fitting-taken}
use Rattle.trace.proofs.Joined.{replies-length}
use Rattle.trace.proofs.KeptOver.{cut-off-length}
use Rattle.trace.proofs.ReplayNumbers.{runs}

-- parts of a short trace are short
short-parts : (xs : List Part) → length (joined_bytes xs) ≤ 65536 → Short xs
unfolding Short flat_map
short-parts [] h = tt
short-parts (x ∷ xs) h =
    let joined = length-append x.bytes (joined_bytes xs) in
    (omega (arith, joined), short-parts xs (omega (arith, joined)))

-- the close of a feed that is open: 3 where bytes are kept over
module _ (p : Panel) (whole : Whole p) (bytes : List ℕ) (done : (trace_run p bytes).number ≡ 0) where
  abbrev f : Feed
  f = feed_after (trace_run p bytes) bytes

  is_open : eqb (trace_run p bytes).number 0 ≡ true
  is_open = eq-eqb (trace_run p bytes).number 0 done

  kept : f.progress.kept ≡ length bytes % 4
  kept = rw is_open (cut-off-length bytes)

  answered : length (trace_run p bytes).answers ≡ length bytes / 4
  answered = (every-run.ends p bytes).done done

  closed : close_of f ≡ stopped_with f (if (eqb (length bytes % 4) 0) 0 3)
  closed =
      closes f (rw is_open) ∙ close_passed f (right-state f (state-after p whole bytes done))
      ∙ ap (λ n. stopped_with f (if (eqb n 0) 0 3)) kept

  closes-after : ClosesAfter p bytes
  closes-after = record { reported = rw closed (rw answered); left = rw closed; right = rw closed }

pub feeds-close : FeedsClose
feeds-close = closes-after

-- the close after whole records only: it gives back what the last call gave back, and the chips stay
record Closes (p : Panel) (trace : List ℕ) : Type 0 where
  tally : (close_of (feed_after (trace_run p trace) trace)).tally ≡ (fed_after (trace_run p trace) trace).tally
  left : (close_of (feed_after (trace_run p trace) trace)).feed.chips.left ≡ (trace_run p trace).state.left
  right : (close_of (feed_after (trace_run p trace) trace)).feed.chips.right ≡ (trace_run p trace).state.right

module _ (p : Panel) (whole : Whole p) (trace : List ℕ) (size : length trace % 4 ≡ 0) where
  close-stopped : ((trace_run p trace).number ≡ 0 → ⊥) → Closes p trace
  unfolding close_of
  close-stopped h =
      let stopped = ne_eqb (trace_run p trace).number 0 h in
      record { tally = rw stopped; left = rw stopped; right = rw stopped }

  close_open : (trace_run p trace).number ≡ 0 → Closes p trace
  close_open done =
      let end = feeds-close p whole trace done in
      record {
        tally = end.reported ∙ rw (done, size, answered p whole trace done);
        left = end.left;
        right = end.right;
      }

  close-whole-trace : Closes p trace
  close-whole-trace =
      ⊎_elim
      (λ z. close_open (eqb-true (trace_run p trace).number 0 z))
      (λ z. close-stopped (eqb-false (trace_run p trace).number 0 z))
      (tested (eqb (trace_run p trace).number 0))

-- the parts of a trace that numbers 1 to 3 let pass are taken
pub taken-whole : (p : Panel) (trace buffer : List ℕ) → Replayable p trace buffer → (xs : List Part) → joined_bytes xs ≡ trace → BuffersFit 0 xs
    → Taken (open_of p.left p.right).feed p.ram xs
taken-whole p trace buffer r xs joined room =
    fitting-taken p r.panel xs (short-parts xs (rw joined r.size)) room (rw joined (omega (arith, r.size)))

pub at-any-cut : AtAnyCut
unfolding ended
at-any-cut p trace buffer r xs joined room =
    let whole = r.panel in
    let run = trace_run p trace in
    let n = 2 * length run.answers in
    let end = rw joined at (feeds-run p whole xs (taken-whole p trace buffer r xs joined room)) in
    let end-closed = close-whole-trace p whole trace r.whole in
    let replayed = runs p trace buffer r in
    record {
      reported = rw end (rw replayed end-closed.tally);
      panel = rw end (rw replayed (rw (end-closed.left, end-closed.right)));
      answers =
          rw end (rw replayed
          (sym (take_at (replies_bytes run.answers) (drop n buffer) n (replies-length run.answers))));
    }
