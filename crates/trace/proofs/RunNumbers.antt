-- The number of a run on a whole panel is a record's own: done, or one that refuses no part.
use Prim.Native.Nat.{ℕ, ◌≤◌}
use native.Mathlib.Omega.{arith}
use mathlib.Core.Path.{◌≡◌}
use mathlib.Core.Bool.{true, false, ◌&&◌, ◌||◌}
use mathlib.Core.List.{List, []}
use mathlib.Core.Logic.{◌⊎◌, inl, inr, ⊎_elim}
use lib.Dec.{leb, eqb}
use lib.ListN.{length, get_or}
use borrow.Author.Tests.{eqb-true, eqb-false, ne_eqb, leb-true}
use Rattle.basics.proofs.Run.{run_ends}
use Rattle.basics.proofs.Tests.{tested, either, both}
use Rattle.panel.specs.Panel.{Whole}
use Rattle.panel.specs.Panel.{Panel, panel_step}
use Rattle.panel.specs.Promises.{is_record_number}
use Rattle.sed1520.specs.Records.{front, whole_records}
use Rattle.panel.proofs.PanelLaws.{after-whole}
use Rattle.panel.proofs.RecordNumbers.{every-record-number}
use Rattle.trace.specs.FeedPromises.{refuses_part}
use Rattle.panel.specs.Trace.{trace_run}

module _ (n : ℕ) (own : is_record_number n ≡ true) where
  -- done, 4 to 8, or 14
  ways : (eqb n 0 ≡ true) ⊎ (((leb 4 n && leb n 8) ≡ true) ⊎ (eqb n 14 ≡ true))
  ways = ⊎_elim inl (λ other. inr (either (leb 4 n && leb n 8) (eqb n 14) other)) (either (eqb n 0) ((leb 4 n && leb n 8) || eqb n 14) own)

  pub own-number : refuses_part n ≡ false
  own-number =
      ⊎_elim
      (λ z. rw (eqb-true n 0 z))
      (⊎_elim
      (λ r. let range = both (leb 4 n) (leb n 8) r in
      let from = leb-true 4 n range.0 in
      let to = leb-true n 8 range.1 in
      rw (ne_eqb n 1 (λ z. absurd (omega arith)), ne_eqb n 2 (λ z. absurd (omega arith)), ne_eqb n 13 (λ z. absurd (omega arith))))
      (λ z. rw (eqb-true n 14 z)))
      ways

  pub low-number : n ≤ 14
  low-number =
      ⊎_elim
      (λ z. let e = eqb-true n 0 z in omega arith)
      (⊎_elim (λ r. let to = leb-true n 8 (both (leb 4 n) (leb n 8) r).1 in omega arith) (λ z. let e = eqb-true n 14 z in omega arith))
      ways

pub run-number : (p : Panel) → Whole p → (bytes : List ℕ) → is_record_number (trace_run p bytes).number ≡ true
run-number p whole bytes =
    let r = trace_run p bytes in
    ⊎_elim
    (λ z. rw (eqb-true r.number 0 z))
    (λ z. let why = (run_ends panel_step (front []) (whole_records bytes) p).refused (eqb-false r.number 0 z) in
    let at-it = get_or (whole_records bytes) (length r.answers) (front []) in
    rw why at (every-record-number r.state (after-whole (whole_records bytes) p whole) at-it))
    (tested (eqb r.number 0))
