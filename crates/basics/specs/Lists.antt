-- Lists built piece by piece, bytes cut into pieces, and the front of a list that passes a test.
use Rattle.std.specs.Prelude.{ℕ, zero, suc, ◌+◌, Bool, List, [], ◌∷◌, ◌++◌, drop}
use Rattle.basics.specs.Choice.{if}

-- the lists that a function gives at a number and the next ones, n in all, joined
unfoldable pub joined : {A : Type 0} → (ℕ → List A) → ℕ → ℕ → List A
joined f at zero = []
joined f at (suc n) = f at ++ joined f (at + 1) n

-- the values that a function gives at a number and the next ones, n in all
abbrev pub tabulated : {A : Type 0} → (ℕ → A) → ℕ → ℕ → List A
tabulated f at n = joined (λ i. f i ∷ []) at n

-- n values read from bytes: the first at their front, each next one a piece further on; a read sees all the bytes that are left
unfoldable pub pieces : {A : Type 0} → (List ℕ → A) → ℕ → List ℕ → ℕ → List A
pieces read size bytes zero = []
pieces read size bytes (suc n) = read bytes ∷ pieces read size (drop size bytes) n

-- how many values at the front of a list pass a test, before the first that does not
unfoldable pub leading : {A : Type 0} → (A → Bool) → List A → ℕ
leading test [] = 0
leading test (a ∷ more) = if (test a) (suc (leading test more)) 0
