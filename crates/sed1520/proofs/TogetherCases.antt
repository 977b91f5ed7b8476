-- The records that a trace begins with and that run together, by their cases: a length is wrong, there is none, the first is refused, it runs alone,
-- or those like it run with it.
use Prim.Native.Nat.{ℕ, suc, ◌*◌, ◌/◌, ◌<◌, ◌≤◌}
use native.Mathlib.Omega.{arith}
use mathlib.Core.Path.{◌≡◌, refl, ◌∙◌}
use mathlib.Core.Bool.{true, false, not, or-true}
use mathlib.Core.List.{List, [], ◌∷◌, flat_map}
use lib.Dec.{eqb}
use lib.ListN.{length, take, drop, length-drop}
use borrow.Author.Tests.{eq-eqb, ne_eqb, eqb-true, lt-ltb, le-ltb}
use Rattle.basics.specs.Lists.{leading, pieces}
use Rattle.basics.specs.Run.{Step, run_of}
use Rattle.basics.proofs.LeadingRun.{leading-most}
use Rattle.basics.proofs.RunOfPart.{Each, each-leading}
use Rattle.basics.proofs.Tests.{both, when}
use Rattle.sed1520.specs.BytesRun.{BytesAndRam, with_ram, moves_data, carries, together, answered_alone, run_first, run_together}
use Rattle.sed1520.specs.Cycle.{Reply}
use Rattle.sed1520.specs.Records.{front, whole_records}
use Rattle.sed1520.specs.Replies.{compared_in, differing_in, in_place, nothing_run}
use Rattle.sed1520.specs.declared.bus.Record.{Record}
use Rattle.sed1520.proofs.BytesSteps.{accepted}

-- the first of a trace's records
pub first-record : (trace : List ℕ) → 4 ≤ length trace → whole_records trace ≡ front trace ∷ whole_records (drop 4 trace)
unfolding pieces
first-record trace h =
    let many : length trace / 4 ≡ suc (length (drop 4 trace) / 4) = rw length-drop (omega arith) in
    rw many

no_record : (trace : List ℕ) → length trace < 4 → whole_records trace ≡ []
unfolding pieces
no_record trace h = let none : length trace / 4 ≡ 0 = omega arith in rw none

-- of some records at least one runs, and no more than there are
pub together-some : (rs : List Record) → 0 < length rs → 1 ≤ together rs
unfolding together
together-some [] h = absurd (omega arith)
together-some (r ∷ rs) h = omega arith

pub together-most : (rs : List Record) → together rs ≤ length rs
unfolding together
together-most [] = omega arith
together-most (r ∷ rs) =
    let alike = carries r.lines r.chip in
    when (λ n. suc n ≤ suc (length rs)) (moves_data r.lines) (λ _. omega (arith, leading-most alike r rs)) (λ _. omega arith)

-- the records that run together have the lines of the first and name its chip
module _ (P : Record → Type 0) (r : Record) (alike : (q : Record) → q.lines ≡ r.lines → q.chip ≡ r.chip → P q) where
  pub together-alike : (rs : List Record) → Each P (take (together (r ∷ rs)) (r ∷ rs))
  unfolding together
  together-alike rs = (
    alike r refl refl,
    when (λ n. Each P (take n rs)) (moves_data r.lines) (λ _. each-leading (carries r.lines r.chip) P carried rs) (λ _. tt),
  )
    where
      carried : (q : Record) → carries r.lines r.chip q ≡ true → P q
      carried q e =
          let lines = both (eqb q.lines r.lines) _ e in
          alike q (eqb-true q.lines r.lines lines.0) (eqb-true q.chip r.chip (both (eqb q.chip r.chip) _ lines.1).0)

-- a data record runs with those like it, any other alone
module _ (r : Record) (rs : List Record) where
  pub with-those-alike : moves_data r.lines ≡ true → r.spare ≡ 0 → together (r ∷ rs) ≡ leading (carries r.lines r.chip) (r ∷ rs)
  unfolding together leading
  with-those-alike is-data last = rw (eq-eqb r.lines r.lines refl, eq-eqb r.chip r.chip refl, last) (rw is-data)

  pub alone : (moves_data r.lines ≡ false) → together (r ∷ rs) ≡ 1
  unfolding together
  alone h = rw h

module _ (step : BytesAndRam → Record → Step BytesAndRam Reply) (bytes size : ℕ) (b ram trace answers : List ℕ) where
  pub bytes-wrong : (length b ≡ bytes → ⊥) → run_together step bytes size b ram trace answers ≡ in_place (nothing_run 1 0) b ram answers
  unfolding run_together
  bytes-wrong h = rw (ne_eqb (length b) bytes h)

  pub ram-wrong : (length ram ≡ size → ⊥) → run_together step bytes size b ram trace answers ≡ in_place (nothing_run 1 0) b ram answers
  unfolding run_together
  ram-wrong h = rw (ne_eqb (length ram) size h, or-true (not (eqb (length b) bytes)))

  pub answers-short : length answers < 2 * (length trace / 4)
      → run_together step bytes size b ram trace answers ≡ in_place (nothing_run 1 0) b ram answers
  unfolding run_together
  answers-short h =
      rw (lt-ltb (length answers) (2 * (length trace / 4)) h, or-true (not (eqb (length ram) size)), or-true (not (eqb (length b) bytes)))

  module _ (right : length b ≡ bytes) (half : length ram ≡ size) (room : 2 * (length trace / 4) ≤ length answers) where
    abbrev s : BytesAndRam
    s = with_ram b ram

    pub runs : let rs = whole_records trace in run_together step bytes size b ram trace answers ≡ run_first step (together rs) rs b ram answers
    unfolding run_together
    runs = rw (eq-eqb (length b) bytes right, eq-eqb (length ram) size half, le-ltb (length answers) (2 * (length trace / 4)) room)

    pub none_runs : length trace < 4 → run_together step bytes size b ram trace answers ≡ in_place (nothing_run 0 0) b ram answers
    unfolding together run_of flat_map compared_in differing_in
    none_runs h = runs ∙ rw (no_record trace h)

    module _ (some : 4 ≤ length trace) where
      abbrev r : Record
      r = front trace

      pub some-run : let rs = r ∷ whole_records (drop 4 trace) in
          run_together step bytes size b ram trace answers ≡ run_first step (together rs) rs b ram answers
      some-run = runs ∙ rw (first-record trace some)

      pub refused-first : ((step s r).number ≡ 0 → ⊥)
          → run_together step bytes size b ram trace answers ≡ in_place (nothing_run (step s r).number 0) b ram answers
      unfolding together run_of flat_map compared_in differing_in
      refused-first h = some-run ∙ rw (ne_eqb (step s r).number 0 h)

      pub runs-alone : (moves_data r.lines ≡ false) → (a : Reply) (next : BytesAndRam) → step s r ≡ accepted a next
          → let o = answered_alone r a answers in
          run_together step bytes size b ram trace answers ≡ in_place o.answer next.bytes next.ram o.lent
      unfolding run_of
      runs-alone h a next e = some-run ∙ rw (alone r (whole_records (drop 4 trace)) h) (rw e)

      pub leading-runs : moves_data r.lines ≡ true → r.spare ≡ 0
          → let rs = whole_records trace in
          run_together step bytes size b ram trace answers ≡ run_first step (leading (carries r.lines r.chip) rs) rs b ram answers
      leading-runs is-data last = some-run ∙ rw (with-those-alike r (whole_records (drop 4 trace)) is-data last, ← first-record trace some)
