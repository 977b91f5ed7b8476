-- Each record of a run, and how it ends, for any bytes, however many.
use Prim.Native.Nat.{ℕ, ◌*◌, ◌/◌, ◌≤◌}
use native.Mathlib.Omega.{arith}
use mathlib.Core.Path.{◌≡◌}
use mathlib.Core.List.{List, []}
use lib.ListN.{length, take}
use lib.Seq.{length-take-le}
use Rattle.basics.proofs.Run.{run-prefix, run-next, run_ends}
use Rattle.panel.specs.Panel.{Panel, panel_step}
use Rattle.sed1520.specs.Records.{front, whole_records}
use Rattle.panel.proofs.PanelLaws.{after-whole}
use Rattle.sed1520.proofs.Records.{records-length, record-at, records-prefix}
use Rattle.trace.specs.Promises.{replies_to}
use Rattle.trace.specs.FeedPromises.{EachRecord, RunEnded, EveryRun}
use Rattle.trace.proofs.AfterEach.{replies-bound}

module _ (p : Panel) (bytes : List ℕ) where
  each : (k : ℕ) → k ≤ length (replies_to p bytes) → EachRecord p bytes k
  each k h =
      let within = replies-bound p bytes in
      let cut : length (take (4 * k) bytes) / 4 ≡ k = omega (arith, length-take-le (4 * k) bytes (omega (arith, within))) in
      let first = records-prefix k (length bytes / 4) bytes (omega (arith, within)) (omega arith) in
      record {
        cut = rw (cut, first) (run-prefix panel_step k (whole_records bytes) p h);
        answer = λ l.
            let next = run-next panel_step (front []) k (whole_records bytes) p l in
            rw (← record-at (length bytes / 4) k bytes (front []) (omega (arith, within))) (next.accepted, next.answer);
        next = λ l.
            let next = run-next panel_step (front []) k (whole_records bytes) p l in
            rw (← record-at (length bytes / 4) k bytes (front []) (omega (arith, within))) next.state;
      }

  ends : RunEnded p bytes
  ends =
      let run = run_ends panel_step (front []) (whole_records bytes) p in
      let all = records-length (length bytes / 4) bytes in
      record {
        state = run.state;
        done = λ e. let answered = run.done e in omega (arith, all);
        before = λ h. let less = run.before h in omega (arith, all);
        refused = λ h.
            let less = run.before h in
            rw (← record-at (length bytes / 4) (length (replies_to p bytes)) bytes (front []) (omega (arith, all))) (run.refused h);
      }

pub every-run : EveryRun
every-run = record { each = each; ends = ends; whole = λ p whole bytes. after-whole (whole_records bytes) p whole }
