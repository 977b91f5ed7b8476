-- The next column that passes a test: it is this one or one further on, and what is known of it.
use Prim.Native.Nat.{ℕ, zero, suc, ◌+◌, ◌<◌, ◌≤◌}
use native.Mathlib.Omega.{arith}
use mathlib.Core.Path.{◌≡◌}
use mathlib.Core.Bool.{Bool, true, false}
use mathlib.Core.Logic.{⊎_elim}
use lib.Dec.{eqb}
use borrow.Author.Tests.{eqb-true, eqb-false}
use Rattle.basics.proofs.Tests.{tested}
use Rattle.repaint.specs.Sparing.{next_column}

module _ (test : ℕ → Bool) where
  module _ (j : ℕ) {n m : ℕ} (more : n ≡ suc m) where
    pub next_here : test j ≡ true → next_column test j n ≡ j
    unfolding next_column
    next_here passes = rw (more, passes)

    pub next-later : test j ≡ false → next_column test j n ≡ next_column test (j + 1) m
    unfolding next_column
    next-later fails = rw (more, fails)

  -- a column is the first of n, from column j on, that passes, or the one past them
  pub record Next (j n at : ℕ) : Type 0 where
    pub from : j ≤ at
    pub to : at ≤ j + n
    pub before : (i : ℕ) → j ≤ i → i < at → test i ≡ false
    pub found : at < j + n → test at ≡ true

  next-column : (n j : ℕ) → Next j n (next_column test j n)
  unfolding next_column
  next-column zero j =
      record { from = omega arith; to = omega arith; before = λ i h b. absurd (omega arith); found = λ h. absurd (omega arith) }
  next-column (suc n) j =
      ⊎_elim
      (λ t. rw t (record { from = omega arith; to = omega arith; before = λ i h b. absurd (omega arith); found = λ h. t }))
      (λ t. let rest = next-column n (j + 1) in
      let from = rest.from in
      let to = rest.to in
      rw t
      (record {
        from = omega arith;
        to = omega arith;
        before = λ i h b.
            ⊎_elim (λ u. rw (eqb-true i j u) t) (λ u. rest.before i (omega (arith, eqb-false i j u)) b) (tested (eqb i j));
        found = λ h. rest.found (omega arith);
      }))
      (tested (test j))

  pub next-is : (j n : ℕ) {at : ℕ} → at ≡ next_column test j n → Next j n at
  next-is j n is = rw is (next-column n j)
