-- A sum over a list is the sum over its keys' sublists. So lists that differ in the order between keys alone have the same sum, whatever is summed.
use Prim.Native.Nat.{ℕ, suc, ◌+◌, ◌<◌, ◌≤◌}
use native.Mathlib.Omega.{arith}
use mathlib.Core.Path.{◌≡◌, refl, sym, ◌∙◌}
use mathlib.Core.List.{List, [], ◌∷◌, map, cons≢nil, zip_with}
use mathlib.Core.Logic.{⊎_elim}
use lib.Dec.{eqb, ltb}
use lib.ListN.{length}
use borrow.Author.Tests.{eq-eqb, ne_eqb, ltb-true, ltb-false}
use Rattle.basics.specs.Choice.{if}
use Rattle.basics.specs.Counts.{sum_below, total}
use Rattle.basics.specs.Keys.{of_key, SameByKey, Answered, with_answers}
use Rattle.basics.specs.Run.{Run}
use Rattle.basics.specs.RunByKey.{SameRuns}
use Rattle.basics.proofs.Counts.{sum_zeros, sum_one, sum_same, sum-plus}
use Rattle.basics.proofs.Keys.{of-own-key, of-other-key}
use Rattle.basics.proofs.Tests.{tested}

module _ {X : Type 0} (key : X → ℕ) where
  -- no element has a key from a bound on
  abbrev KeysBelow : ℕ → List X → Type 0
  KeysBelow n xs = (k : ℕ) → n ≤ k → of_key key k xs ≡ []

  -- every list has such a bound
  keys_below : (xs : List X) → (n : ℕ) × KeysBelow n xs
  unfolding of_key
  keys_below [] = (0, λ k _. refl)
  keys_below (x ∷ xs) =
      let rest = keys_below xs in
      (suc (key x) + rest.0, λ k from. of-other-key key k x xs (λ same. omega arith) ∙ rest.1 k (omega arith))

  module _ (x : X) (xs : List X) (n : ℕ) (below : KeysBelow n (x ∷ xs)) where
    first_below : key x < n
    first_below =
        ⊎_elim
        (λ t. ltb-true (key x) n t)
        (λ t. absurd (cons≢nil (sym (of-own-key key (key x) x xs refl) ∙ below (key x) (ltb-false (key x) n t))))
        (tested (ltb (key x) n))

    rest_below : KeysBelow n xs
    rest_below k from = sym (of-other-key key k x xs (λ same. omega (arith, first_below))) ∙ below k from

  module _ (f : X → ℕ) where
    pub sum-by-key : (n : ℕ) (xs : List X) → KeysBelow n xs → total (map f xs) ≡ sum_below (λ k. total (map f (of_key key k xs))) n
    unfolding total of_key
    sum-by-key n [] below = sym (sum_zeros _ n (λ k _. refl))
    sum-by-key n (x ∷ xs) below =
        let own : ℕ → ℕ = λ k. if (eqb (key x) k) (f x) 0 in
        let one = sum_one own (key x) n (first_below x xs n below) (λ k _ other. rw (ne_eqb (key x) k (λ same. other (sym same)))) in
        let rest = sum-by-key n xs (rest_below x xs n below) in
        sym
        (sum_same _ (λ k. own k + total (map f (of_key key k xs))) n
        (λ k _. ⊎_elim (λ t. rw t) (λ t. rw t (omega arith)) (tested (eqb (key x) k)))
        ∙ sum-plus own (λ k. total (map f (of_key key k xs))) n
        ∙ rw (one, eq-eqb (key x) (key x) refl, ← rest))

    pub same_sum : (xs ys : List X) → SameByKey key xs ys → total (map f xs) ≡ total (map f ys)
    same_sum xs ys same =
        let bound = keys_below xs in
        let n = bound.0 in
        sum-by-key n xs bound.1
        ∙ sum_same _ _ n (λ k _. rw (same k))
        ∙ sym (sum-by-key n ys (λ k from. sym (same k) ∙ bound.1 k from))

-- a count over answers and their records, one by one, is the sum over the records with their answers; so it is the same in another order between keys
module _ {R A : Type 0} (f : R → A → ℕ) (count : List A → List R → ℕ) (none : count [] [] ≡ 0)
    (first : (a : A) (more : List A) (r : R) (rs : List R) → count (a ∷ more) (r ∷ rs) ≡ f r a + count more rs) where
  count-answered : (rs : List R) (answers : List A) → length answers ≡ length rs
      → count answers rs ≡ total (map (λ (x : Answered R A). f x.asked x.answer) (with_answers rs answers))
  unfolding total zip_with
  count-answered [] [] h = none
  count-answered [] (a ∷ answers) h = absurd (omega arith)
  count-answered (r ∷ rs) [] h = absurd (omega arith)
  count-answered (r ∷ rs) (a ∷ answers) h = first a answers r rs ∙ rw (count-answered rs answers (omega arith))

  pub same_count : {S : Type 0} (key : R → ℕ) (rs others : List R) (one other : Run S A) → SameRuns key rs others one other
      → length one.answers ≡ length rs → length other.answers ≡ length others → count one.answers rs ≡ count other.answers others
  same_count key rs others one other same all also =
      count-answered rs one.answers all
      ∙ same_sum (λ (x : Answered R A). key x.asked) _ (with_answers rs one.answers) (with_answers others other.answers) same.answers
      ∙ sym (count-answered others other.answers also)
