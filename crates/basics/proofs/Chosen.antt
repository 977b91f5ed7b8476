-- The list of an element for each number that a test holds of: it has those and no others, in the order of the numbers.
use Prim.Native.Nat.{ℕ, zero, suc, ◌+◌, ◌<◌, ◌≤◌}
use native.Mathlib.Omega.{arith}
use mathlib.Core.Path.{◌≡◌, sym, ap, ◌∙◌}
use mathlib.Core.Bool.{Bool, true, false, true≢false}
use mathlib.Core.List.{List, [], ◌∷◌, ◌++◌}
use mathlib.Core.Logic.{⊎_elim}
use lib.Dec.{eqb}
use lib.ListN.{length, get_or}
use borrow.Author.Tests.{eqb-true, eqb-false}
use Rattle.basics.specs.Choice.{if}
use Rattle.basics.specs.Lists.{joined}
use Rattle.basics.proofs.Tests.{tested, when}

-- the list of an element for each of the n numbers from `at` on that a test holds of
abbrev pub chosen_from : {A : Type 0} → (ℕ → Bool) → (ℕ → A) → ℕ → ℕ → List A
chosen_from test f at n = joined (λ k. if (test k) (f k ∷ []) []) at n

pub chosen-few : {A : Type 0} (test : ℕ → Bool) (f : ℕ → A) (at n : ℕ) → length (chosen_from test f at n) ≤ n
unfolding joined
chosen-few test f at zero = omega arith
chosen-few {A} test f at (suc n) =
    let rest = chosen-few test f (at + 1) n in
    when (λ (l : List A). length (l ++ chosen_from test f (at + 1) n) ≤ suc n) (test at) (λ _. omega arith) (λ _. omega arith)

-- elements whose numbers `index` gives back
module _ {A : Type 0} (test : ℕ → Bool) (f : ℕ → A) (index : A → ℕ) (indexed : (k : ℕ) → index (f k) ≡ k) (none : A) where
  -- the element of one of the n numbers from `at` on, of which the test holds
  pub record Chosen (at n : ℕ) (a : A) : Type 0 where
    pub from : at ≤ index a
    pub below : index a < at + n
    pub holds : test (index a) ≡ true
    pub itself : a ≡ f (index a)

  -- some element is that of number k
  abbrev pub Has : List A → ℕ → Type 0
  Has l k = (i : ℕ) × ((i < length l) × (index (get_or l i none) ≡ k))

  -- each element is one of these, each of these is there, and they stand in order
  pub record ChosenList (at n : ℕ) (l : List A) : Type 0 where
    pub each : (i : ℕ) → i < length l → Chosen at n (get_or l i none)
    pub every : (k : ℕ) → at ≤ k → k < at + n → test k ≡ true → Has l k
    pub order : (i j : ℕ) → i < j → j < length l → index (get_or l i none) < index (get_or l j none)

  chosen-later : {at n : ℕ} {a : A} → Chosen (at + 1) n a → Chosen at (suc n) a
  chosen-later c = record { from = omega arith; below = omega arith; holds = c.holds; itself = c.itself }

  first-chosen : (at n : ℕ) (l : List A) → test at ≡ true → ChosenList (at + 1) n l → ChosenList at (suc n) (f at ∷ l)
  first-chosen at n l t rest = record { each = each; every = every; order = order }
    where
      each : (i : ℕ) → i < suc (length l) → Chosen at (suc n) (get_or (f at ∷ l) i none)
      each zero h = record {
        from = omega (arith, indexed at);
        below = omega (arith, indexed at);
        holds = rw (indexed at) t;
        itself = rw (indexed at);
      }
      each (suc i) h = chosen-later (rest.each i (omega arith))

      every : (k : ℕ) → at ≤ k → k < at + suc n → test k ≡ true → Has (f at ∷ l) k
      every k from below holds =
          ⊎_elim
          (λ same. (0, (omega arith, indexed at ∙ sym (eqb-true k at same))))
          (λ other. let later = rest.every k (omega (arith, eqb-false k at other)) (omega arith) holds in
          (suc later.0, (omega arith, later.1.1)))
          (tested (eqb k at))

      order : (i j : ℕ) → i < j → j < suc (length l) → index (get_or (f at ∷ l) i none) < index (get_or (f at ∷ l) j none)
      order i zero less h = absurd (omega arith)
      order zero (suc j) less h = omega (arith, indexed at, (rest.each j (omega arith)).from)
      order (suc i) (suc j) less h = rest.order i j (omega arith) (omega arith)

  not_first : (at n : ℕ) (l : List A) → test at ≡ false → ChosenList (at + 1) n l → ChosenList at (suc n) l
  not_first at n l t rest =
      record {
        each = λ i h. chosen-later (rest.each i h);
        every = λ k from below holds.
            let other : k ≡ at → ⊥ = λ same. true≢false (sym holds ∙ ap test same ∙ t) in
            rest.every k (omega arith) (omega arith) holds;
        order = rest.order;
      }

  pub chosen-list : (at n : ℕ) → ChosenList at n (chosen_from test f at n)
  unfolding joined
  chosen-list at zero =
      record { each = λ i h. absurd (omega arith); every = λ k from below holds. absurd (omega arith); order = λ i j less h. absurd (omega arith) }
  chosen-list at (suc n) =
      let rest = chosen-list (at + 1) n in
      when (λ (l : List A). ChosenList at (suc n) (l ++ chosen_from test f (at + 1) n)) (test at)
      (λ t. first-chosen at n _ t rest)
      (λ t. not_first at n _ t rest)
