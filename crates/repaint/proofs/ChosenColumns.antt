-- The columns of a hidden page that pass a test: how many records write them, at most 63, none where no column passes; and where all pass, they are
-- those of the repaint's page.
use Prim.Native.Nat.{ℕ, zero, suc, ◌+◌, ◌<◌, ◌≤◌}
use native.Mathlib.Omega.{arith}
use native.Mathlib.Numerals.{add-one}
use mathlib.Core.Path.{◌≡◌, refl, sym, ap, ◌∙◌}
use mathlib.Core.Bool.{Bool, true, false, not, ◌&&◌, true≢false}
use mathlib.Core.List.{List, [], ◌∷◌, ◌++◌}
use mathlib.Core.Logic.{⊎_elim}
use lib.Dec.{eqb}
use lib.ListN.{length, length-append}
use borrow.Author.Tests.{ne_eqb}
use Rattle.basics.specs.Choice.{if}
use Rattle.basics.specs.Counts.{sum_below, count_below}
use Rattle.basics.specs.Lists.{joined, tabulated}
use Rattle.basics.proofs.Counts.{sum-next, sum_zeros, sum-is-zero}
use Rattle.basics.proofs.Lists.{joined-next}
use Rattle.basics.proofs.Tests.{tested, when}
use Rattle.sed1520.specs.declared.registers.Chip.{Chip}
use Rattle.sed1520.specs.declared.bus.Record.{Record}
use Rattle.frame.specs.Frame.{segments}
use Rattle.repaint.specs.Repaint.{column_write, column_set, run_records, page_records}
use Rattle.repaint.specs.Sparing.{passes_before, begins, column_records, chosen_columns, chosen_page, chosen_cycles}

pub at_most_one : (t : Bool) → if t 1 0 ≤ 1
at_most_one t = when (λ (n : ℕ). n ≤ 1) t (λ _. omega arith) (λ _. omega arith)

-- how many records one column takes
abbrev pub column_cycles : Bool → Bool → ℕ
column_cycles before here = if (here && not before) 1 0 + if here 1 0

-- the records of a column, by whether the one just before it and the column itself pass
abbrev pub column_by : Chip → ℕ → List ℕ → ℕ → Bool → Bool → ℕ → List Record
column_by c chip picture r before here j =
    if (here && not before) (column_set c chip j ∷ []) [] ++ if here (column_write c chip picture r j ∷ []) []

column-length : (c : Chip) (k : ℕ) (picture : List ℕ) (r : ℕ) (before here : Bool) (j : ℕ)
    → length (column_by c k picture r before here j) ≡ column_cycles before here
column-length c k picture r true true j = refl
column-length c k picture r true false j = refl
column-length c k picture r false true j = refl
column-length c k picture r false false j = refl

module _ (test : ℕ → Bool) where
  -- a count of 0 says that no column passes
  pub none-counted : ((j : ℕ) → j < segments → test j ≡ false) → count_below test segments ≡ 0
  none-counted fails = sum_zeros (λ j. if (test j) 1 0) segments (λ j h. rw (fails j h))

  pub none_passes : count_below test segments ≡ 0 → (j : ℕ) → j < segments → test j ≡ false
  none_passes none j h = fails (test j) (sum-is-zero (λ i. if (test i) 1 0) segments none j h)
    where
      fails : (t : Bool) → ◌≡◌ {A = ℕ} (if t 1 0) 0 → t ≡ false
      fails true e = absurd (omega arith)
      fails false e = refl

  pub some-counted : (j : ℕ) → j < segments → test j ≡ true → eqb (count_below test segments) 0 ≡ false
  some-counted j h passes = ne_eqb (count_below test segments) 0 (λ none. true≢false (sym passes ∙ none_passes none j h))

  -- how many records the first n columns take
  abbrev pub columns_cycles : ℕ → ℕ
  columns_cycles n = count_below (begins test) n + count_below test n

  cycles-next : (n : ℕ) → columns_cycles (suc n) ≡ columns_cycles n + column_cycles (passes_before test n) (test n)
  cycles-next n = rw (← add-one n) (omega (arith, sum-next (λ i. if (begins test i) 1 0) n, sum-next (λ i. if (test i) 1 0) n))

  -- one for each column, and one more where the last of them passes
  pub cycles-few : (n : ℕ) → columns_cycles n ≤ n + if (passes_before test n) 1 0
  unfolding sum_below
  cycles-few zero = omega arith
  cycles-few (suc n) = step (passes_before test n) (test n) (cycles-next n) (cycles-few n)
    where
      step : (before here : Bool) {all so_far : ℕ} → all ≡ so_far + column_cycles before here → so_far ≤ n + if before 1 0 → all ≤ suc n + if here 1 0
      step true true e h = omega arith
      step true false e h = omega arith
      step false true e h = omega arith
      step false false e h = omega arith

  pub chosen-few : chosen_cycles test ≤ 63
  unfolding chosen_cycles
  chosen-few =
      when (λ (n : ℕ). n ≤ 63) (eqb (count_below test segments) 0)
      (λ _. omega arith)
      (λ _. omega (arith, cycles-few segments, at_most_one (passes_before test segments)))

  module _ (c : Chip) (k : ℕ) (picture : List ℕ) (r : ℕ) where
    pub columns-length : (n : ℕ) → length (chosen_columns c k picture r test 0 n) ≡ columns_cycles n
    unfolding joined sum_below
    columns-length zero = refl
    columns-length (suc n) =
        let f = column_records c k picture r test in
        let more = rw (add-one n) at (joined-next f n) in
        ap length more
        ∙ length-append (chosen_columns c k picture r test 0 n) (f n)
        ∙ rw (columns-length n, column-length c k picture r (passes_before test n) (test n) n, cycles-next n)

    pub chosen-length : length (chosen_page c k picture r test) ≡ chosen_cycles test
    unfolding chosen_page chosen_cycles
    chosen-length =
        ⊎_elim (λ t. rw t) (λ t. rw t (omega (arith, columns-length segments))) (tested (eqb (count_below test segments) 0))

    -- no column passes
    pub none-chosen : ((j : ℕ) → j < segments → test j ≡ false) → chosen_page c k picture r test ≡ []
    unfolding chosen_page
    none-chosen fails = rw (none-counted fails)

-- columns that all pass, after one that does or as the beginning of a run; and columns none of which does
module _ (c : Chip) (k : ℕ) (picture : List ℕ) (r : ℕ) (test : ℕ → Bool) where
  preceded-columns : (n j : ℕ) → passes_before test j ≡ true → ((i : ℕ) → j ≤ i → i < j + n → test i ≡ true)
      → chosen_columns c k picture r test j n ≡ tabulated (column_write c k picture r) j n
  unfolding joined
  preceded-columns zero j before passes = refl
  preceded-columns (suc n) j before passes =
      let here = passes j (omega arith) (omega arith) in
      rw (before, here, preceded-columns n (j + 1) (rw (add-one j) here) (λ i h b. passes i (omega arith) (omega arith)))

  pub run-columns : (n j : ℕ) → passes_before test j ≡ false → ((i : ℕ) → j ≤ i → i < j + suc n → test i ≡ true)
      → chosen_columns c k picture r test j (suc n) ≡ run_records c k picture r j (suc n)
  unfolding joined
  run-columns n j before passes =
      let here = passes j (omega arith) (omega arith) in
      rw (before, here, preceded-columns n (j + 1) (rw (add-one j) here) (λ i h b. passes i (omega arith) (omega arith)))

  pub gap-columns : (n j : ℕ) → ((i : ℕ) → j ≤ i → i < j + n → test i ≡ false) → chosen_columns c k picture r test j n ≡ []
  unfolding joined
  gap-columns zero j fails = refl
  gap-columns (suc n) j fails =
      rw (fails j (omega arith) (omega arith), gap-columns n (j + 1) (λ i h b. fails i (omega arith) (omega arith)))

-- every column passes
abbrev pub every : ℕ → Bool
every j = true

every-counted : (n : ℕ) → count_below every n ≡ n
unfolding sum_below
every-counted zero = refl
every-counted (suc n) = rw (every-counted n) (omega arith)

pub all-chosen : (c : Chip) (k : ℕ) (picture : List ℕ) (r : ℕ) → chosen_page c k picture r every ≡ page_records c k picture r
unfolding chosen_page page_records
all-chosen c k picture r = rw (every-counted segments, run-columns c k picture r every 60 0 refl (λ i h b. refl))
