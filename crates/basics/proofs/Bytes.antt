-- Buffers compared byte by byte, and bytes copied to a buffer.
use Prim.Native.Nat.{ℕ}
use native.Mathlib.Omega.{arith}
use mathlib.Core.Path.{◌≡◌, refl}
use mathlib.Core.Bool.{true, false, false≢true}
use mathlib.Core.List.{List, [], ◌∷◌, append-nil}
use mathlib.Core.Logic.{⊎_elim}
use lib.Dec.{eqb}
use lib.ListN.{length, drop_of_length-le}
use lib.Seq.{take_all}
use borrow.Author.Tests.{eqb-true, eq-eqb}
use Rattle.basics.specs.Bytes.{same_bytes, copied}
use Rattle.basics.proofs.Tests.{tested, both}

pub same_bytes_lem : (one other : List ℕ) → same_bytes one other ≡ true → one ≡ other
unfolding same_bytes
same_bytes_lem [] [] e = refl
same_bytes_lem [] (b ∷ rest) e = absurd (false≢true e)
same_bytes_lem (a ∷ more) [] e = absurd (false≢true e)
same_bytes_lem (a ∷ more) (b ∷ rest) e =
    let each = both (eqb a b) _ e in
    rw (eqb-true a b each.0, same_bytes_lem more rest each.1)

self-same : (bytes : List ℕ) → same_bytes bytes bytes ≡ true
unfolding same_bytes
self-same [] = refl
self-same (a ∷ more) = rw (eq-eqb a a refl, self-same more)

pub are-same : (one other : List ℕ) → one ≡ other → same_bytes one other ≡ true
are-same one other e = rw e (self-same other)

pub not_same : (one other : List ℕ) → (one ≡ other → ⊥) → same_bytes one other ≡ false
not_same one other h = ⊎_elim (λ t. absurd (h (same_bytes_lem one other t))) (λ t. t) (tested (same_bytes one other))

-- a buffer of the same length becomes the bytes
pub copied-whole : (from to : List ℕ) → length from ≡ length to → copied from to ≡ from
copied-whole from to e = rw (take_all (length to) from (omega arith), drop_of_length-le to {i = length from} (omega arith), append-nil)
