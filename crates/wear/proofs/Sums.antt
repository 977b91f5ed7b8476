-- The sum of the counts, as `sum` gives it.
use Prim.Native.Nat.{ℕ}
use mathlib.Core.Path.{◌≡◌, refl}
use mathlib.Core.List.{List, [], ◌∷◌}
use Rattle.std.specs.List.{sum}
use Rattle.std.proofs.lemmas.List.Sums.{sum_by-cons}
use Rattle.basics.specs.Counts.{total}

pub sum-total : (counts : List ℕ) → sum counts ≡ total counts
unfolding total
sum-total [] = refl
sum-total (n ∷ ns) = rw (sum_by-cons (λ (x : ℕ). x) n ns, sum-total ns)
