-- How a replay ends: the records before the place stand, and a refused one is refused where they lead.
use Prim.Native.Nat.{ℕ, ◌/◌}
use native.Mathlib.Omega.{arith}
use mathlib.Core.Path.{◌≡◌, sym, ◌∙◌}
use mathlib.Core.List.{List, []}
use lib.ListN.{length}
use lib.Seq.{take-length}
use Rattle.basics.proofs.Run.{RunEnds, run_ends}
use Rattle.panel.specs.Panel.{Panel, panel_step}
use Rattle.sed1520.specs.Records.{front, whole_records}
use Rattle.sed1520.proofs.Records.{records-length, record-at}
use Rattle.panel.specs.Trace.{trace_run}
use Rattle.trace.specs.Replay.{ended, replay_of}
use Rattle.trace.specs.Promises.{Replayable, replies_to, Ends, EveryReplayEnds}
use Rattle.trace.proofs.AfterEach.{after-each}
use Rattle.trace.proofs.ReplayNumbers.{runs}

module _ (p : Panel) (trace answers : List ℕ) (r : Replayable p trace answers) where
  abbrev run : RunEnds panel_step (front []) p (whole_records trace)
  run = run_ends panel_step (front []) (whole_records trace) p

  all : length (whole_records trace) ≡ length trace / 4
  all = records-length (length trace / 4) trace

  pub ends : Ends p trace answers
  unfolding ended
  ends =
      let whole = runs p trace answers r in
      let before = after-each p trace answers r (replay_of p trace answers).answer.place (omega arith) in
      record {
        as_before =
            rw (before.compared, before.differing, before.panel, before.answers-then)
            (rw whole (rw (take-length (replies_to p trace), ← run.state)));
        panel = rw whole run.state;
        done = λ e. rw whole (run.done (rw whole at e) ∙ all);
        before = λ h. rw whole (let less = run.before (λ e. h (rw whole e)) in omega (arith, all));
        refused = λ h.
            let h' : (trace_run p trace).number ≡ 0 → ⊥ = λ e. h (rw whole e) in
            let less = run.before h' in
            let there = record-at (length trace / 4) (length (replies_to p trace)) trace (front []) (omega (arith, all)) in
            rw (whole, sym there) (run.refused h');
      }

pub every-replay-ends : EveryReplayEnds
every-replay-ends = ends
