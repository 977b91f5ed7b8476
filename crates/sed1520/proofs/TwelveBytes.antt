-- Twelve bytes one by one: what holds of every list of twelve bytes spelled out holds of every list that is twelve long.
use Prim.Native.Nat.{ℕ, zero, suc, ◌+◌}
use native.Mathlib.Omega.{arith}
use mathlib.Core.Path.{◌≡◌, ◌∙◌}
use mathlib.Core.List.{List, [], ◌∷◌}
use lib.ListN.{length, get_or, drop, drop_of_length-le}
use lib.Seq.{drop-cons}

-- a list spelled out by its elements
unfoldable pub spelled : ℕ → ℕ → List ℕ → List ℕ
spelled i zero l = []
spelled i (suc n) l = get_or l i 0 ∷ spelled (suc i) n l

pub spelled_out : (i n : ℕ) (l : List ℕ) → length l ≡ i + n → drop i l ≡ spelled i n l
unfolding spelled
spelled_out i zero l h = drop_of_length-le l {i = i} (omega arith)
spelled_out i (suc n) l h = drop-cons l i 0 (omega arith) ∙ rw (spelled_out (suc i) n l (omega arith))

-- twelve bytes by what stands at each place
abbrev pub twelve_by : (ℕ → ℕ) → List ℕ
twelve_by at = at 0 ∷ at 1 ∷ at 2 ∷ at 3 ∷ at 4 ∷ at 5 ∷ at 6 ∷ at 7 ∷ at 8 ∷ at 9 ∷ at 10 ∷ at 11 ∷ []

pub twelve : (P : List ℕ → Type 0) (b : List ℕ) → length b ≡ 12 → ((at : ℕ → ℕ) → P (twelve_by at)) → P b
unfolding spelled
twelve P b h each = rw (spelled_out 0 12 b h) (each (λ i. get_or b i 0))
