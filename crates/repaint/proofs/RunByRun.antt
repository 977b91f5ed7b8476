-- The columns of a page gone through run by run: where the next run begins, and where it ends.
use Prim.Native.Nat.{ℕ, zero, suc, ◌+◌, ◌-◌, ◌<◌, ◌≤◌}
use native.Mathlib.Omega.{arith}
use mathlib.Core.Path.{◌≡◌, refl, sym, ap, ◌∙◌}
use mathlib.Core.Bool.{Bool, true, false, not, true≢false}
use mathlib.Core.List.{List, ◌++◌, append-nil}
use mathlib.Core.Logic.{⊎_elim}
use lib.Dec.{eqb}
use borrow.Author.Tests.{eqb-true, eqb-false, not-true, not-false}
use Rattle.basics.proofs.Lists.{joined-split}
use Rattle.basics.proofs.Tests.{tested}
use Rattle.sed1520.specs.declared.registers.Chip.{Chip}
use Rattle.sed1520.specs.declared.bus.Record.{Record}
use Rattle.frame.specs.Frame.{segments}
use Rattle.repaint.specs.Repaint.{run_records}
use Rattle.repaint.specs.Sparing.{passes_before, column_records, chosen_columns, next_column}
use Rattle.repaint.proofs.ChosenColumns.{run-columns, gap-columns}
use Rattle.repaint.proofs.NextColumn.{Next, next-is}

-- a run begins at column j, unless that is past the last
pub record Begins (test : ℕ → Bool) (j : ℕ) : Type 0 where
  pub within : j ≤ segments
  pub passes : j < segments → test j ≡ true
  pub unpreceded : j < segments → passes_before test j ≡ false

-- the run from column j on ends just before this one
pub record Goes (test : ℕ → Bool) (j end : ℕ) : Type 0 where
  pub longer : j < end
  pub within : end ≤ segments
  pub passes : (i : ℕ) → j ≤ i → i < j + (end - j) → test i ≡ true
  pub ends : end < segments → test end ≡ false

module _ (test : ℕ → Bool) where
  pub run-goes : (j end : ℕ) → j < segments → Begins test j → end ≡ next_column (λ i. not (test i)) j (segments - j) → Goes test j end
  run-goes j end inside begins is =
      let next = next-is (λ i. not (test i)) j (segments - j) is in
      let from = next.from in
      let to = next.to in
      record {
        longer =
            ⊎_elim
            (λ t. let e = eqb-true end j t in
            absurd (true≢false (sym (begins.passes inside) ∙ rw e at (not-true (test end) (next.found (omega arith))))))
            (λ t. let d = eqb-false end j t in omega arith)
            (tested (eqb end j));
        within = omega arith;
        passes = λ i h b. not-false (test i) (next.before i h (omega arith));
        ends = λ h. not-true (test end) (next.found (omega arith));
      }

  -- at the column past a run no run begins, since that does not pass
  pub past-run : {j end : ℕ} → Goes test j end → end < segments → test end ≡ true → passes_before test end ≡ false
  past-run goes h passes = absurd (true≢false (sym passes ∙ goes.ends h))

  -- past columns that do not pass, none passes just before; where there is no column between, this is given
  unpreceded : (j from : ℕ) → from ≤ j → ((i : ℕ) → from ≤ i → i < j → test i ≡ false) → (j ≡ from → passes_before test j ≡ false)
      → passes_before test j ≡ false
  unpreceded zero from h fails first = refl
  unpreceded (suc j) from h fails first =
      ⊎_elim
      (λ t. first (eqb-true (suc j) from t))
      (λ t. let d = eqb-false (suc j) from t in fails j (omega arith) (omega arith))
      (tested (eqb (suc j) from))

  -- the next run from a column on, at which one begins only if no column passes just before it: where it begins, and the columns up to there
  module _ (from at : ℕ) (inside : from ≤ segments) (is : at ≡ next_column test from (segments - from))
      (first : from < segments → test from ≡ true → passes_before test from ≡ false) where
    searched : Next test from (segments - from) at
    searched = next-is test from (segments - from) is

    pub run-begins : Begins test at
    run-begins =
        let to = searched.to in
        record {
          within = omega arith;
          passes = λ h. searched.found (omega arith);
          unpreceded = λ h.
              unpreceded at from searched.from searched.before
              (λ e. let found = searched.found (omega arith) in rw e (first (omega arith) (rw e at found)));
        }

    pub gap-passed : from ≤ at
    gap-passed = searched.from

    pub gap-records : (c : Chip) (k : ℕ) (picture : List ℕ) (r : ℕ)
        → chosen_columns c k picture r test 0 at ≡ chosen_columns c k picture r test 0 from
    gap-records c k picture r =
        let f = column_records c k picture r test in
        let h = searched.from in
        let all : at ≡ from + (at - from) = omega arith in
        let here : 0 + from ≡ from = omega arith in
        ap (λ n. chosen_columns c k picture r test 0 n) all
        ∙ joined-split f 0 from (at - from)
        ∙ rw (here, gap-columns c k picture r test (at - from) from (λ i l b. searched.before i l (omega arith)), append-nil)

  -- a run written after the columns before it
  pub run-added : (c : Chip) (k : ℕ) (picture : List ℕ) (r j : ℕ) → passes_before test j ≡ false
      → (n : ℕ) → ((i : ℕ) → j ≤ i → i < j + n → test i ≡ true) → 0 < n
      → chosen_columns c k picture r test 0 (j + n) ≡ chosen_columns c k picture r test 0 j ++ run_records c k picture r j n
  run-added c k picture r j before n passes some =
      let here : 0 + j ≡ j = omega arith in
      let next : n ≡ suc (n - 1) = omega arith in
      joined-split (column_records c k picture r test) 0 j n
      ∙ rw (here, next)
      (ap (λ (rs : List Record). chosen_columns c k picture r test 0 j ++ rs)
      (run-columns c k picture r test (n - 1) j before (λ i h b. passes i h (omega arith))))
