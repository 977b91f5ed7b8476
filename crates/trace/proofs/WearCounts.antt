-- Wear counted on: one store more from place to place, and the stores of answers.
use Prim.Native.Nat.{ℕ, ◌+◌, ◌<◌}
use native.Mathlib.Omega.{arith}
use mathlib.Core.Path.{◌≡◌, refl, sym, ◌∙◌}
use mathlib.Core.List.{List, [], ◌++◌}
use mathlib.Core.Logic.{⊎_elim}
use lib.Dec.{ltb}
use lib.ListN.{length, get_or, replicate, length-replicate, get_or-replicate, get_or-eq_default}
use borrow.Author.Tests.{ltb-true, ltb-false}
use Rattle.basics.specs.Choice.{if}
use Rattle.basics.specs.Counts.{sum_below, total, lies_in}
use Rattle.basics.proofs.Counts.{lies-in-none, total-tabulated}
use Rattle.basics.proofs.Lists.{tabulated-is, tabulated-same, tabulated-length, tabulated-at}
use Rattle.basics.proofs.Tests.{tested}
use Rattle.sed1520.specs.Cycle.{Reply}
use Rattle.sed1520.specs.Replies.{stores_to}
use Rattle.sed1520.proofs.Counts.{stores-bound, stores-join}
use Rattle.trace.specs.Wear.{stores_in, AtMost, raised, worn}

-- no place, nothing counted
pub raised-none : (wear : List ℕ) (at : ℕ) → raised wear at at ≡ wear
unfolding raised
raised-none wear at = sym (tabulated-is _ 0 (length wear) wear refl (λ i h. rw (lies-in-none at i) (omega arith)))

-- no wear, nothing counted
pub worn-no-wear : (wear : List ℕ) (answers : List Reply) → length wear ≡ 0 → wear ≡ worn wear answers
unfolding worn
worn-no-wear wear answers none = tabulated-is _ 0 (length wear) wear refl (λ i h. absurd (omega arith))

-- answers that store nowhere, nothing counted
pub worn-unstored : (wear : List ℕ) (answers : List Reply) → ((i : ℕ) → stores_to i answers ≡ 0) → wear ≡ worn wear answers
unfolding worn
worn-unstored wear answers none = tabulated-is _ 0 (length wear) wear refl (λ i _. omega (arith, none i))

-- places counted one by one are the stores of answers that store to each of them once
pub raised-worn : (wear : List ℕ) (from to : ℕ) (answers : List Reply) → ((i : ℕ) → stores_to i answers ≡ if (lies_in from to i) 1 0)
    → raised wear from to ≡ worn wear answers
unfolding raised worn
raised-worn wear from to answers same = tabulated-same _ _ (λ i. rw (same i)) 0 (length wear)

module _ (wear : List ℕ) (answers : List Reply) where
  pub worn-length : length (worn wear answers) ≡ length wear
  unfolding worn
  worn-length = tabulated-length _ 0 (length wear)

  pub worn-at : (i : ℕ) → i < length wear → get_or (worn wear answers) i 0 ≡ get_or wear i 0 + stores_to i answers
  unfolding worn
  worn-at i h = let e : 0 + i ≡ i = omega arith in rw e at (tabulated-at (λ i. get_or wear i 0 + stores_to i answers) 0 (length wear) i 0 h)

-- more answers behind
pub worn-more : (wear : List ℕ) (answers more : List Reply) → worn (worn wear answers) more ≡ worn wear (answers ++ more)
unfolding worn
worn-more wear answers more =
    let once = worn-length wear answers in
    tabulated-is _ 0 (length wear) (worn (worn wear answers) more) (worn-length (worn wear answers) more ∙ once)
    (λ i h. worn-at (worn wear answers) more i (omega (arith, once))
    ∙ omega (arith, worn-at wear answers i h, stores-join i answers more))

-- counted on from 0, the wear is that of the answers; no count grows by more than there are answers
pub worn-cleared : (n : ℕ) (answers : List Reply) → worn (replicate n 0) answers ≡ stores_in answers n
unfolding worn stores_in
worn-cleared n answers =
    let zeros : List ℕ = replicate n 0 in
    let size : length zeros ≡ n = length-replicate n 0 in
    tabulated-is _ 0 n (worn zeros answers) (worn-length zeros answers ∙ size)
    (λ i h. worn-at zeros answers i (omega (arith, size)) ∙ omega (arith, get_or-replicate {A = ℕ} n i 0 0 h))

-- each count of a run's wear, and their sum
pub stores_at : (answers : List Reply) (n i : ℕ) → i < n → get_or (stores_in answers n) i 0 ≡ stores_to i answers
unfolding stores_in
stores_at answers n i h = let e : 0 + i ≡ i = omega arith in rw e at (tabulated-at (λ i. stores_to i answers) 0 n i 0 h)

pub stores-total : (answers : List Reply) (n : ℕ) → total (stores_in answers n) ≡ sum_below (λ i. stores_to i answers) n
unfolding stores_in
stores-total answers n = total-tabulated (λ i. stores_to i answers) n

pub none-counted : (n : ℕ) → AtMost 0 (replicate n 0)
none-counted n i =
    ⊎_elim
    (λ t. omega (arith, get_or-replicate {A = ℕ} n i 0 0 (ltb-true i n t)))
    (λ t. let size : length {A = ℕ} (replicate n 0) ≡ n = length-replicate n 0 in
    omega (arith, get_or-eq_default {A = ℕ} (replicate n 0) 0 {n = i} (omega (arith, size, ltb-false i n t))))
    (tested (ltb i n))

-- no answers, nothing is counted
pub worn-no-answers : (wear : List ℕ) → wear ≡ worn wear []
unfolding stores_to
worn-no-answers wear = worn-unstored wear [] (λ i. refl)

pub worn-bound : (most : ℕ) (wear : List ℕ) (answers : List Reply) → AtMost most wear → AtMost (most + length answers) (worn wear answers)
unfolding worn
worn-bound most wear answers few i =
    ⊎_elim
    (λ t. omega (arith, worn-at wear answers i (ltb-true i (length wear) t), few i, stores-bound i answers))
    (λ t. rw (get_or-eq_default (worn wear answers) 0 {n = i} (omega (arith, worn-length wear answers, ltb-false i (length wear) t)))
    (omega arith))
    (tested (ltb i (length wear)))
