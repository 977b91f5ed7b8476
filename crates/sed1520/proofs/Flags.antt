-- The flags, the latch's mark and the last byte of a chip's bytes: what follows from their test.
use Prim.Native.Nat.{ℕ, ◌<◌}
use mathlib.Core.Path.{◌≡◌, refl}
use mathlib.Core.Bool.{Bool, true, false, ◌||◌, false≢true}
use mathlib.Core.List.{List, [], ◌∷◌}
use mathlib.Core.Logic.{⊎_elim}
use lib.Dec.{ltb, eqb}
use lib.ListN.{get_or}
use borrow.Author.Tests.{ltb-true, eqb-true}
use Rattle.std.specs.Int.{from_bool}
use Rattle.basics.proofs.Tests.{both, either}
use Rattle.sed1520.specs.ChipBytes.{bit, flag_places, flags_at, flags_right}

-- a flag converted to a byte by the library
pub from-flag : (flag : Bool) → from_bool flag ≡ bit flag
from-flag true = refl
from-flag false = refl

-- whether a place is among those listed
abbrev pub listed : List ℕ → ℕ → Bool
listed [] place = false
listed (p ∷ ps) place = eqb place p || listed ps place

module _ (b : List ℕ) where
  flag-below : (places : List ℕ) (place : ℕ) → listed places place ≡ true → flags_at places b ≡ true → get_or b place 0 < 2
  unfolding flags_at
  flag-below [] place is e = absurd (false≢true is)
  flag-below (p ∷ ps) place is e =
      let each = both (ltb (get_or b p 0) 2) _ e in
      ⊎_elim
      (λ here. rw (eqb-true place p here) (ltb-true (get_or b p 0) 2 each.0))
      (λ later. flag-below ps place later each.1)
      (either (eqb place p) _ is)

  pub flag-right : (place : ℕ) → listed flag_places place ≡ true → flags_right b ≡ true → get_or b place 0 < 2
  unfolding flags_right
  flag-right place is e = flag-below flag_places place is (both (flags_at flag_places b) _ e).0

  pub last-right : flags_right b ≡ true → get_or b 11 0 ≡ 0
  unfolding flags_right
  last-right e = eqb-true (get_or b 11 0) 0 (both (flags_at flag_places b) _ e).1
