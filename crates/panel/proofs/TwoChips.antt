-- Both chips and their 24 bytes: each way undoes the other, and number 2 of the chips is that of the bytes.
use Prim.Native.Nat.{ℕ}
use mathlib.Core.Path.{◌≡◌, refl, ◌∙◌}
use mathlib.Core.Bool.{Bool, true, ◌&&◌}
use mathlib.Core.List.{List}
use lib.ListN.{length, take, drop, take-append-drop}
use borrow.Author.Tests.{eq-eqb}
use Rattle.sed1520.specs.Chip.{in_range}
use Rattle.sed1520.specs.ChipBytes.{chip_bytes, bytes_pass, chip_in}
use Rattle.sed1520.specs.declared.registers.Chip.{Chip}
use Rattle.sed1520.proofs.ChipBytesUndo.{there, back, passes, chip-passes, passed}
use Rattle.panel.specs.Chips.{chips_bytes, as_chips, chips_in, BothPass}
use Rattle.panel.specs.Promises.{TwoChipsUndo}

pub two-chips : (chips : List ℕ) → length chips ≡ 24 → chips_in chips ≡ as_chips (chip_in (take 12 chips)) (chip_in (drop 12 chips))
unfolding chips_in
two-chips chips h = rw (eq-eqb (length chips) 24 h)

-- number 2 of two chips is that of their bytes
module _ (chips : List ℕ) (size : length chips ≡ 24) (t : Bool) where
  pub left-passes : bytes_pass (take 12 chips) ≡ t → in_range (chips_in chips).left ≡ t
  left-passes e = rw (two-chips chips size) (passes (take 12 chips) ∙ e)

  pub right-passes : bytes_pass (drop 12 chips) ≡ t → in_range (chips_in chips).right ≡ t
  right-passes e = rw (two-chips chips size) (passes (drop 12 chips) ∙ e)

module _ (left right : Chip) where
  pub two-length : length (chips_bytes left right) ≡ 24
  unfolding chip_bytes
  two-length = refl

  pub two-there : chips_in (chips_bytes left right) ≡ as_chips left right
  unfolding chip_bytes
  two-there = two-chips (chips_bytes left right) refl ∙ rw (there left, there right)

  pub two-pass : (bytes_pass (take 12 (chips_bytes left right)) && bytes_pass (drop 12 (chips_bytes left right))) ≡ (in_range left && in_range right)
  unfolding chip_bytes
  two-pass = rw (chip-passes left, chip-passes right)

-- the bytes of two chips in range, with the whole image, fit
pub two-fit : (left right : Chip) (ram : List ℕ) → in_range left ≡ true → in_range right ≡ true → length ram ≡ 640
    → BothPass (chips_bytes left right) ram
unfolding chip_bytes
two-fit left right ram l r image =
    record { size = two-length left right; left = chip-passes left ∙ l; right = chip-passes right ∙ r; image = image }

pub two_back : (chips : List ℕ) → length chips ≡ 24 → bytes_pass (take 12 chips) ≡ true → bytes_pass (drop 12 chips) ≡ true
    → chips_bytes (chips_in chips).left (chips_in chips).right ≡ chips
two_back chips h l r =
    let left = passed (take 12 chips) l in
    let right = passed (drop 12 chips) r in
    rw (two-chips chips h, back (take 12 chips) left.size left.flags, back (drop 12 chips) right.size right.flags)
    (take-append-drop 12 chips)

pub two-chips-undo : TwoChipsUndo
two-chips-undo = record { there = two-there; back = two_back }
