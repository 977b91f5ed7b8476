-- For every k up to the place, the replay of the first k records is done and leaves what the whole replay had after k.
use Prim.Native.Nat.{ℕ, suc, ◌*◌, ◌/◌, ◌<◌, ◌≤◌}
use native.Mathlib.Omega.{arith}
use mathlib.Core.Path.{◌≡◌, ◌∙◌}
use mathlib.Core.List.{List, [], ◌∷◌, ◌++◌}
use lib.ListN.{length, get_or, take, drop}
use lib.Seq.{length-take-le}
use Rattle.basics.specs.Run.{as_run}
use Rattle.basics.proofs.Run.{run-prefix, answers-bound, Next, run-next}
use Rattle.panel.specs.Panel.{Panel, outcome_of, stepped, panel_step, after}
use Rattle.sed1520.specs.Cycle.{reply_of}
use Rattle.sed1520.specs.Records.{front, whole_records}
use Rattle.sed1520.proofs.Records.{records-length, record-at, records-prefix}
use Rattle.trace.specs.Replay.{panel_after, ended, replay_of}
use Rattle.trace.specs.Promises.{Replayable, replies_to, AfterEach, AfterEachRecord}
use Rattle.sed1520.proofs.Counts.{differing-prefix}
use Rattle.trace.proofs.ReplayNumbers.{runs}

-- no more replies than the trace has records
pub replies-bound : (p : Panel) (trace : List ℕ) → length (replies_to p trace) ≤ length trace / 4
replies-bound p trace = omega (arith, answers-bound panel_step (whole_records trace) p, records-length (length trace / 4) trace)

module _ (p : Panel) (trace answers : List ℕ) (r : Replayable p trace answers) (k : ℕ) (h : k ≤ (replay_of p trace answers).answer.place) where
  replied-to : k ≤ length (replies_to p trace)
  unfolding ended
  replied-to = rw (runs p trace answers r) at h

  recorded : k ≤ length trace / 4
  recorded = omega (arith, replied-to, replies-bound p trace)

  bytes : length (take (4 * k) trace) ≡ 4 * k
  bytes = length-take-le (4 * k) trace (omega (arith, recorded))

  prefix-runs : Replayable p (take (4 * k) trace) answers
  prefix-runs =
      record {
        size = omega (arith, r.size, bytes, recorded);
        space = omega (arith, r.space, bytes, recorded);
        panel = r.panel;
        whole = omega (arith, bytes);
      }

  prefix-records : whole_records (take (4 * k) trace) ≡ take k (whole_records trace)
  prefix-records =
      let e : length (take (4 * k) trace) / 4 ≡ k = omega (arith, bytes) in
      rw e (records-prefix k (length trace / 4) trace recorded (omega arith))

  -- the replay of the first k records
  prefix : replay_of p (take (4 * k) trace) answers
      ≡ ended (as_run 0 (take k (replies_to p trace)) (after p (take k (whole_records trace)))) (take k (whole_records trace)) answers
  prefix = runs p (take (4 * k) trace) answers prefix-runs ∙ rw prefix-records (rw (run-prefix panel_step k (whole_records trace) p replied-to))

  replied-length : length (take k (replies_to p trace)) ≡ k
  replied-length = length-take-le k (replies_to p trace) replied-to

  pub panel-then : panel_after (replay_of p (take (4 * k) trace) answers) ≡ after p (take k (whole_records trace))
  unfolding ended
  panel-then = rw prefix

module _ (p : Panel) (trace answers : List ℕ) (r : Replayable p trace answers) (k : ℕ) (h : k ≤ (replay_of p trace answers).answer.place) where
  -- the record at k
  module _ (l : k < (replay_of p trace answers).answer.place) where
    on-records : Next panel_step (front []) k (whole_records trace) p
    on-records = run-next panel_step (front []) k (whole_records trace) p (replied-to p trace answers r (suc k) l)

    there : get_or (whole_records trace) k (front []) ≡ front (drop (4 * k) trace)
    there = record-at (length trace / 4) k trace (front []) (omega (arith, recorded p trace answers r (suc k) l))

    answer : let a = (outcome_of (panel_after (replay_of p (take (4 * k) trace) answers)) (front (drop (4 * k) trace))).answer in
        (a.number ≡ 0) × (take (suc k) (replies_to p trace) ≡ take k (replies_to p trace) ++ (reply_of a ∷ []))
    answer = rw (panel-then p trace answers r k h, ← there) (on-records.accepted, on-records.answer)

    next : panel_after (replay_of p (take (4 * suc k) trace) answers)
        ≡ stepped (panel_after (replay_of p (take (4 * k) trace) answers)) (front (drop (4 * k) trace))
    next = rw (panel-then p trace answers r (suc k) l, panel-then p trace answers r k h, ← there) on-records.state

  pub after-each : AfterEach p trace answers k
  unfolding ended
  after-each =
      let first = prefix p trace answers r k h in
      let many = replied-length p trace answers r k h in
      record {
        number = rw first;
        place = rw first many;
        compared = rw first;
        differing = rw first (differing-prefix k (replies_to p trace) (whole_records trace));
        panel = rw first;
        answer = answer;
        next = next;
        answers-then = rw (first, many);
      }

pub after-each-record : AfterEachRecord
after-each-record = after-each
