-- Lists whose elements have a key: the elements of one key, of two lists joined; two lists that have the same elements of each key in the same order
-- are those that exchanges of neighbours with different keys lead to.
use Prim.Native.Nat.{ℕ}
use mathlib.Core.Path.{◌≡◌, refl, sym, ap, ◌∙◌}
use mathlib.Core.List.{List, [], ◌∷◌, ◌++◌, map, zip_with, nil≢cons, head-eq_of_cons-eq, tail-eq_of_cons-eq}
use mathlib.Core.Logic.{⊎_elim, ◌↔◌}
use lib.Dec.{eqb}
use borrow.Author.Tests.{eq-eqb, ne_eqb, eqb-true, eqb-false}
use Rattle.basics.specs.Keys.{of_key, SameByKey, Exchange, Exchanges, Answered, with_answer, answered_of_key}
use Rattle.basics.specs.Keys.Exchanges.{none, more}
use Rattle.basics.proofs.RunOfPart.{Each}
use Rattle.basics.proofs.Tests.{tested, choice-of}

module _ {R : Type 0} (key : R → ℕ) where
  module _ (k : ℕ) (r : R) (rs : List R) where
    pub of-own-key : key r ≡ k → of_key key k (r ∷ rs) ≡ r ∷ of_key key k rs
    unfolding of_key
    of-own-key e = rw (eq-eqb (key r) k e)

    pub of-other-key : (key r ≡ k → ⊥) → of_key key k (r ∷ rs) ≡ of_key key k rs
    unfolding of_key
    of-other-key other = rw (ne_eqb (key r) k other)

  pub of-key-append : (k : ℕ) (rs qs : List R) → of_key key k (rs ++ qs) ≡ of_key key k rs ++ of_key key k qs
  unfolding of_key
  of-key-append k [] qs = refl
  of-key-append k (r ∷ rs) qs =
      ⊎_elim
      (λ t. let e = eqb-true (key r) k t in rw (of-own-key k r (rs ++ qs) e, of-own-key k r rs e, of-key-append k rs qs))
      (λ t. let e = eqb-false (key r) k t in rw (of-other-key k r (rs ++ qs) e, of-other-key k r rs e, of-key-append k rs qs))
      (tested (eqb (key r) k))

  -- an exchange leaves each key its elements in their order
  exchange-keeps : {one other : List R} → Exchange key one other → SameByKey key one other
  unfolding of_key
  exchange-keeps x k =
      let was = of-key-append k x.before (x.first ∷ x.second ∷ x.behind) in
      let is = of-key-append k x.before (x.second ∷ x.first ∷ x.behind) in
      rw (x.was, x.is, was, is)
      (ap (λ (rest : List R). of_key key k x.before ++ rest)
      (⊎_elim
      (λ t. let first = eqb-true (key x.first) k t in
      rw (t, ne_eqb (key x.second) k (λ second. x.different (first ∙ sym second))))
      (λ t. rw t)
      (tested (eqb (key x.first) k))))

  exchanges-keep : {one other : List R} → Exchanges key one other → SameByKey key one other
  exchanges-keep none k = refl
  exchanges-keep (more x xs) k = exchange-keeps x k ∙ exchanges-keep xs k

  -- exchanges one after the other, and behind a first element
  exchanges-join : {rs qs others : List R} → Exchanges key rs qs → Exchanges key qs others → Exchanges key rs others
  exchanges-join none ys = ys
  exchanges-join (more x xs) ys = more x (exchanges-join xs ys)

  exchanges-behind : (r : R) {rs qs : List R} → Exchanges key rs qs → Exchanges key (r ∷ rs) (r ∷ qs)
  exchanges-behind r none = none
  exchanges-behind r (more x xs) =
      more (record {
        before = r ∷ x.before;
        first = x.first;
        second = x.second;
        behind = x.behind;
        different = x.different;
        was = ap (λ (l : List R). r ∷ l) x.was;
        is = ap (λ (l : List R). r ∷ l) x.is;
      })
      (exchanges-behind r xs)

  -- an element goes by exchanges behind those before it that have other keys
  moved-behind : (r : R) (before rest : List R) → Each (λ q. key r ≡ key q → ⊥) before → Exchanges key (r ∷ (before ++ rest)) (before ++ (r ∷ rest))
  moved-behind r [] rest others = none
  moved-behind r (q ∷ before) rest others =
      more (record { before = []; first = r; second = q; behind = before ++ rest; different = others.0; was = refl; is = refl })
      (exchanges-behind q (moved-behind r before rest others.1))

  -- where the first element of a key stands
  record FirstOf (r : R) (qs : List R) : Type 0 where
    before : List R
    rest : List R
    others : Each (λ q. key r ≡ key q → ⊥) before
    is : qs ≡ before ++ (r ∷ rest)

  first_of : (r : R) (following qs : List R) → of_key key (key r) qs ≡ r ∷ following → FirstOf r qs
  unfolding of_key
  first_of r following [] e = absurd (nil≢cons e)
  first_of r following (q ∷ qs) e =
      ⊎_elim
      (λ t. record { before = []; rest = qs; others = tt; is = ap (λ (x : R). x ∷ qs) (head-eq_of_cons-eq (rw t at e)) })
      (λ t. let found = first_of r following qs (rw t at e) in
      record {
        before = q ∷ found.before;
        rest = found.rest;
        others = (λ same. eqb-false (key q) (key r) t (sym same), found.others);
        is = ap (λ (l : List R). q ∷ l) found.is;
      })
      (tested (eqb (key q) (key r)))

  -- no elements of any key, no elements
  no-elements : (qs : List R) → SameByKey key [] qs → [] ≡ qs
  unfolding of_key
  no-elements [] same = refl
  no-elements (q ∷ qs) same = absurd (nil≢cons (same (key q) ∙ of-own-key (key q) q qs refl))

  same-behind : (r : R) (rs qs : List R) → SameByKey key (r ∷ rs) (r ∷ qs) → SameByKey key rs qs
  unfolding of_key
  same-behind r rs qs same k =
      ⊎_elim (λ t. tail-eq_of_cons-eq (rw t at (same k))) (λ t. rw t at (same k)) (tested (eqb (key r) k))

  by-exchanges : (rs qs : List R) → SameByKey key rs qs → Exchanges key rs qs
  by-exchanges [] qs same = rw (← no-elements qs same) none
  by-exchanges (r ∷ rs) qs same =
      let found = first_of r (of_key key (key r) rs) qs (sym (same (key r)) ∙ of-own-key (key r) r rs refl) in
      let moved = moved-behind r found.before found.rest found.others in
      let rest : SameByKey key rs (found.before ++ found.rest) =
      same-behind r rs (found.before ++ found.rest) (λ k. same k ∙ ap (of_key key k) found.is ∙ sym (exchanges-keep moved k)) in
      rw found.is (exchanges-join (exchanges-behind r (by-exchanges rs (found.before ++ found.rest) rest)) moved)

  -- the same elements of each key in the same order: what exchanges of neighbours with different keys lead to, and nothing else
  pub same-by-exchanges : (rs qs : List R) → SameByKey key rs qs ↔ Exchanges key rs qs
  same-by-exchanges rs qs = (by-exchanges rs qs, exchanges-keep)

-- answers looked at: the records of a key have what is seen of theirs
module _ {R A B : Type 0} (key : R → ℕ) (look : A → B) (k : ℕ) where
  abbrev seen : Answered R A → Answered R B
  seen x = with_answer x.asked (look x.answer)

  pub answers-looked-at : (rs : List R) (answers : List A) → answered_of_key key k rs (map look answers) ≡ map seen (answered_of_key key k rs answers)
  unfolding of_key zip_with
  answers-looked-at [] answers = refl
  answers-looked-at (r ∷ rs) [] = refl
  answers-looked-at (r ∷ rs) (a ∷ answers) =
      rw (answers-looked-at rs answers)
      (choice-of (map seen) (eqb (key r) k) (with_answer r a ∷ answered_of_key key k rs answers) (answered_of_key key k rs answers))
