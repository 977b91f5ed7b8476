-- Lists joined one after the other: one more at the end, and where a place of one lies where all have one width.
use Prim.Native.Nat.{ℕ, zero, suc, ◌+◌, ◌*◌, ◌<◌, ◌≤◌}
use native.Mathlib.Omega.{arith}
use native.Mathlib.Numerals.{add-one}
use mathlib.Core.Path.{◌≡◌, refl, sym, ◌∙◌}
use mathlib.Core.List.{List, [], ◌∷◌, ◌++◌, append_assoc, append-nil}
use mathlib.Core.List.{flat_map}
use lib.ListN.{length, get_or, length-append, get_or-append}
use lib.Seq.{get_or-append-add, ext_get_or}
use Rattle.basics.specs.Lists.{joined, tabulated}

module _ {A : Type 0} (f : ℕ → List A) where
  pub joined-more : (at n : ℕ) → joined f at (suc n) ≡ joined f at n ++ f (at + n)
  unfolding joined
  joined-more at zero = let e : at + 0 ≡ at = omega arith in rw (e, append-nil)
  joined-more at (suc n) = let e : at + 1 + n ≡ at + suc n = omega arith in rw (joined-more (at + 1) n, e) (simp append_assoc)

  pub joined-split : (at m n : ℕ) → joined f at (m + n) ≡ joined f at m ++ joined f (at + m) n
  unfolding joined
  joined-split at zero n = let e : 0 + n ≡ n = omega arith in let here : at + 0 ≡ at = omega arith in rw (e, here)
  joined-split at (suc m) n =
      let e : suc m + n ≡ suc (m + n) = omega arith in
      let next : at + 1 + m ≡ at + suc m = omega arith in
      rw (e, joined-split (at + 1) m n, next) (simp append_assoc)

  -- from 0 on, as a loop counts
  pub joined-next : (n : ℕ) → joined f 0 (n + 1) ≡ joined f 0 n ++ f n
  joined-next n = let e : 0 + n ≡ n = omega arith in rw (add-one n, joined-more 0 n, e)

  pub joined-bound : (most : ℕ) → ((i : ℕ) → length (f i) ≤ most) → (at n : ℕ) → length (joined f at n) ≤ most * n
  unfolding joined
  joined-bound most short at zero = omega arith
  joined-bound most short at (suc n) =
      let e : most * suc n ≡ most + most * n = omega arith in
      omega (arith, length-append (f at) (joined f (at + 1) n), short at, joined-bound most short (at + 1) n)

  module _ (width : ℕ) (wide : (i : ℕ) → length (f i) ≡ width) where
    pub joined_length : (at n : ℕ) → length (joined f at n) ≡ width * n
    unfolding joined
    joined_length at zero = omega arith
    joined_length at (suc n) =
        let e : width * suc n ≡ width + width * n = omega arith in
        length-append (f at) (joined f (at + 1) n) ∙ rw (wide at, joined_length (at + 1) n, e)

    pub joined_at : (at n r i : ℕ) (d : A) → r < n → i < width → get_or (joined f at n) (i + width * r) d ≡ get_or (f (at + r)) i d
    unfolding joined
    joined_at at zero r i d h l = absurd (omega arith)
    joined_at at (suc n) zero i d h l =
        let here : i + width * 0 ≡ i = omega arith in
        let first : at + 0 ≡ at = omega arith in
        rw (here, first) (get_or-append (f at) (joined f (at + 1) n) d i (omega (arith, wide at)))
    joined_at at (suc n) (suc r) i d h l =
        let further : i + width * suc r ≡ width + (i + width * r) = omega arith in
        let next : at + 1 + r ≡ at + suc r = omega arith in
        let past = rw wide at (get_or-append-add (f at) (joined f (at + 1) n) (i + width * r) d) in
        rw (further, past) (joined_at (at + 1) n r i d (omega arith) l ∙ rw next)

module _ {A : Type 0} (f : ℕ → A) where
  pub tabulated-length : (at n : ℕ) → length (tabulated f at n) ≡ n
  tabulated-length at n = joined_length (λ i. f i ∷ []) 1 (λ i. refl) at n ∙ omega arith

  pub tabulated-at : (at n i : ℕ) (d : A) → i < n → get_or (tabulated f at n) i d ≡ f (at + i)
  tabulated-at at n i d h =
      let e : 0 + 1 * i ≡ i = omega arith in
      rw e at (joined_at (λ i. f i ∷ []) 1 (λ i. refl) at n i 0 d h (omega arith))

  -- a list whose values are those that the function gives
  pub tabulated-is : (d : A) (n : ℕ) (l : List A) → length l ≡ n → ((i : ℕ) → i < n → get_or l i d ≡ f i) → l ≡ tabulated f 0 n
  tabulated-is d n l size same =
      ext_get_or d l (tabulated f 0 n) (size ∙ sym (tabulated-length 0 n))
      (λ i h. let e : 0 + i ≡ i = omega arith in same i (omega arith) ∙ sym (rw e at (tabulated-at 0 n i d (omega arith))))

-- two functions that give the same
pub tabulated-same : {A : Type 0} (f g : ℕ → A) → ((i : ℕ) → f i ≡ g i) → (at n : ℕ) → tabulated f at n ≡ tabulated g at n
unfolding joined
tabulated-same f g same at zero = refl
tabulated-same f g same at (suc n) = rw (same at, tabulated-same f g same (at + 1) n)

-- lists put in place of elements: joined, and their length where all have one width
module _ {A B : Type 0} (f : A → List B) where
  pub flat_append : (xs ys : List A) → flat_map f (xs ++ ys) ≡ flat_map f xs ++ flat_map f ys
  unfolding flat_map
  flat_append [] ys = refl
  flat_append (x ∷ xs) ys = rw (flat_append xs ys) (simp append_assoc)

  pub flat-length : (width : ℕ) → ((x : A) → length (f x) ≡ width) → (xs : List A) → length (flat_map f xs) ≡ width * length xs
  unfolding flat_map
  flat-length width wide [] = omega arith
  flat-length width wide (x ∷ xs) =
      let e : width * suc (length xs) ≡ width + width * length xs = omega arith in
      length-append (f x) (flat_map f xs) ∙ rw (wide x, flat-length width wide xs, e)
