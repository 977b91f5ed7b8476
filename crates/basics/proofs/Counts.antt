-- Sums over the numbers below a bound, the sum of a list, and numbers from one on and below another.
use Prim.Native.Nat.{ℕ, zero, suc, ◌+◌, ◌*◌, ◌<◌, ◌≤◌}
use native.Mathlib.Omega.{arith}
use native.Mathlib.Numerals.{add-one}
use mathlib.Core.Path.{◌≡◌, refl, ap, ◌∙◌}
use mathlib.Core.Logic.{⊎_elim}
use mathlib.Core.Bool.{false}
use mathlib.Core.List.{List, [], ◌∷◌, ◌++◌}
use lib.Dec.{leb, eqb}
use borrow.Author.Tests.{eqb-true, eqb-false, leb-true, leb-false, lt-ltb, le-ltb, le-leb, lt-leb}
use Rattle.basics.specs.Choice.{if}
use Rattle.basics.specs.Counts.{sum_below, total, lies_in}
use Rattle.basics.specs.Lists.{joined, tabulated}
use Rattle.basics.proofs.Lists.{joined-more}
use Rattle.basics.proofs.Tests.{tested}

module _ (f : ℕ → ℕ) where
  pub sum-none : sum_below f 0 ≡ 0
  unfolding sum_below
  sum-none = refl

  pub sum-next : (n : ℕ) → sum_below f (n + 1) ≡ f n + sum_below f n
  unfolding sum_below
  sum-next n = rw (add-one n)

  pub sum_first : (n : ℕ) → sum_below f (suc n) ≡ f 0 + sum_below (λ i. f (suc i)) n
  unfolding sum_below
  sum_first zero = refl
  sum_first (suc n) = let rest = sum_first n in omega (arith, rest)

  pub sum_zeros : (n : ℕ) → ((i : ℕ) → i < n → f i ≡ 0) → sum_below f n ≡ 0
  unfolding sum_below
  sum_zeros zero h = refl
  sum_zeros (suc n) h = rw (h n (omega arith), sum_zeros n (λ i l. h i (omega arith)))

  -- a sum is 0 only where all of it is
  pub sum-is-zero : (n : ℕ) → sum_below f n ≡ 0 → (i : ℕ) → i < n → f i ≡ 0
  unfolding sum_below
  sum-is-zero zero e i h = absurd (omega arith)
  sum-is-zero (suc n) e i h =
      ⊎_elim
      (λ t. rw (eqb-true i n t) (omega arith))
      (λ t. sum-is-zero n (omega arith) i (omega (arith, eqb-false i n t)))
      (tested (eqb i n))

  -- where the function gives the same from one number on
  pub sum_alike : (step j n : ℕ) → ((i : ℕ) → j ≤ i → i < j + n → f i ≡ step) → sum_below f (j + n) ≡ sum_below f j + step * n
  sum_alike step j zero h = let e : j + 0 ≡ j = omega arith in rw e (omega arith)
  sum_alike step j (suc n) h =
      let e : j + suc n ≡ j + n + 1 = omega arith in
      let more : step * suc n ≡ step + step * n = omega arith in
      rw e (omega (arith, sum-next (j + n), h (j + n) (omega arith) (omega arith), sum_alike step j n (λ i l m. h i l (omega arith)), more))

  pub sum-at-most : (most n : ℕ) → ((i : ℕ) → i < n → f i ≤ most) → sum_below f n ≤ most * n
  unfolding sum_below
  sum-at-most most zero h = omega arith
  sum-at-most most (suc n) h = let rest = sum-at-most most n (λ i l. h i (omega arith)) in omega (arith, h n (omega arith))

pub sum_same : (f g : ℕ → ℕ) (n : ℕ) → ((i : ℕ) → i < n → f i ≡ g i) → sum_below f n ≡ sum_below g n
unfolding sum_below
sum_same f g zero h = refl
sum_same f g (suc n) h = rw (h n (omega arith), sum_same f g n (λ i l. h i (omega arith)))

-- where all but one are 0, the sum is that one
pub sum_one : (f : ℕ → ℕ) (k n : ℕ) → k < n → ((i : ℕ) → i < n → (i ≡ k → ⊥) → f i ≡ 0) → sum_below f n ≡ f k
unfolding sum_below
sum_one f k zero l h = absurd (omega arith)
sum_one f k (suc n) l h =
    ⊎_elim
    (λ t. let e = eqb-true k n t in rw (e, sum_zeros f n (λ i below. h i (omega arith) (omega arith))) (omega arith))
    (λ t. let d = eqb-false k n t in
    rw (h n (omega arith) (λ e. d (omega arith)), sum_one f k n (omega arith) (λ i below. h i (omega arith))) (omega arith))
    (tested (eqb k n))

-- two functions added
pub sum-plus : (f g : ℕ → ℕ) (n : ℕ) → sum_below (λ i. f i + g i) n ≡ sum_below f n + sum_below g n
unfolding sum_below
sum-plus f g zero = refl
sum-plus f g (suc n) = rw (sum-plus f g n) (omega arith)

-- the sum of a list, and of the values that a function gives
pub total-append : (xs ys : List ℕ) → total (xs ++ ys) ≡ total xs + total ys
unfolding total
total-append [] ys = omega arith
total-append (x ∷ xs) ys = rw (total-append xs ys) (omega arith)

pub total-tabulated : (f : ℕ → ℕ) (n : ℕ) → total (tabulated f 0 n) ≡ sum_below f n
unfolding total sum_below joined
total-tabulated f zero = refl
total-tabulated f (suc n) =
    let here : 0 + n ≡ n = omega arith in
    ap total (joined-more (λ i. f i ∷ []) 0 n)
    ∙ total-append (tabulated f 0 n) (f (0 + n) ∷ [])
    ∙ rw (total-tabulated f n, here) (omega arith)

-- no number lies from a number on and below it; and one more number at the front
pub lies-in-none : (n i : ℕ) → lies_in n n i ≡ false
lies-in-none n i = ⊎_elim (λ t. rw t (le-ltb i n (leb-true n i t))) (λ t. rw t) (tested (leb n i))

pub lies-first : (from to i : ℕ) → from + 1 ≤ to → ◌≡◌ {A = ℕ} (if (eqb i from) 1 0 + if (lies_in (from + 1) to i) 1 0) (if (lies_in from to i) 1 0)
lies-first from to i more =
    ⊎_elim
    (λ t. let e = eqb-true i from t in
    rw (t, lt-leb (from + 1) i (omega arith), le-leb from i (omega arith), lt-ltb i to (omega arith)) (omega arith))
    (λ t. ⊎_elim
    (λ s. let l = leb-true (from + 1) i s in rw (t, s, le-leb from i (omega arith)) (omega arith))
    (λ s. let l = leb-false (from + 1) i s in let d = eqb-false i from t in rw (t, s, lt-leb from i (omega arith)) (omega arith))
    (tested (leb (from + 1) i)))
    (tested (eqb i from))
