-- Sums and counts over the numbers below a bound, and the sum of a list.
use Rattle.std.specs.Prelude.{ℕ, zero, suc, ◌+◌, Bool, ◌&&◌, List, [], ◌∷◌, ltb, leb}
use Rattle.basics.specs.Choice.{if}

-- the sum of what a function gives for the numbers below n
unfoldable pub sum_below : (ℕ → ℕ) → ℕ → ℕ
sum_below f zero = 0
sum_below f (suc n) = f n + sum_below f n

-- how many numbers below n pass a test
abbrev pub count_below : (ℕ → Bool) → ℕ → ℕ
count_below test n = sum_below (λ i. if (test i) 1 0) n

-- the sum of a list of numbers
unfoldable pub total : List ℕ → ℕ
total [] = 0
total (n ∷ ns) = n + total ns

-- whether a number lies from one number on and below another
abbrev pub lies_in : ℕ → ℕ → ℕ → Bool
lies_in from to i = leb from i && ltb i to
