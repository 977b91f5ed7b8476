-- Lists whose elements have a key: the elements of one key, lists that differ in the order between keys alone, and records with their answers.
use Rattle.std.specs.Prelude.{ℕ, ◌≡◌, eqb}
use mathlib.Core.List.{List, [], ◌∷◌, ◌++◌, zip_with}
use Rattle.basics.specs.Choice.{if}

-- the elements of a list that have a key, in the list's order
unfoldable pub of_key : {R : Type 0} → (R → ℕ) → ℕ → List R → List R
of_key key k [] = []
of_key key k (r ∷ rs) = if (eqb (key r) k) (r ∷ of_key key k rs) (of_key key k rs)

-- for every key, the elements that have it, taken out of both lists, are the same list
abbrev pub SameByKey : {R : Type 0} → (R → ℕ) → List R → List R → Type 0
SameByKey key one other = (k : ℕ) → of_key key k one ≡ of_key key k other

-- the other list is the one with two neighbours of different keys exchanged
pub record Exchange {R : Type 0} (key : R → ℕ) (one other : List R) : Type 0 where
  pub before : List R
  pub first : R
  pub second : R
  pub behind : List R
  pub different : key first ≡ key second → ⊥
  pub was : one ≡ before ++ (first ∷ second ∷ behind)
  pub is : other ≡ before ++ (second ∷ first ∷ behind)

-- any number of such exchanges, one after the other, lead from one list to the other
pub data Exchanges {R : Type 0} (key : R → ℕ) : List R → List R → Type 0 where
  none : {rs : List R} → Exchanges key rs rs
  more : {rs qs others : List R} → Exchange key rs qs → Exchanges key qs others → Exchanges key rs others

-- a record and its answer
pub record Answered (R A : Type 0) : Type 0 where
  pub asked : R
  pub answer : A

-- a record with an answer
abbrev pub with_answer : {R A : Type 0} → R → A → Answered R A
with_answer r a = record { asked = r; answer = a }

-- records one after the other, each with its answer, as far as there are answers
abbrev pub with_answers : {R A : Type 0} → List R → List A → List (Answered R A)
with_answers rs answers = zip_with with_answer rs answers

-- the records that have a key, each with its answer
abbrev pub answered_of_key : {R A : Type 0} → (R → ℕ) → ℕ → List R → List A → List (Answered R A)
answered_of_key key k rs answers = of_key (λ x. key x.asked) k (with_answers rs answers)
