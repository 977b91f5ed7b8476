-- The byte of a segment by what its chip's switches say.
use Prim.Native.Nat.{ℕ, ◌+◌, ◌*◌, ◌<◌}
use native.Mathlib.Omega.{arith}
use mathlib.Core.Path.{◌≡◌, refl, ◌∙◌}
use mathlib.Core.Bool.{Bool, true, false, not, ◌&&◌}
use mathlib.Core.List.{List}
use mathlib.Core.Logic.{⊎_elim}
use lib.Dec.{leb}
use borrow.Author.Tests.{le-leb, lt-leb, leb-true, leb-false}
use Rattle.basics.specs.Choice.{if}
use Rattle.basics.proofs.Tests.{tested, when}
use Rattle.sed1520.specs.declared.registers.Chip.{Chip}
use Rattle.frame.specs.Frame.{ram_column, line_bit, pixel, packed_pixels, frame_byte}
use Rattle.frame.proofs.Packing.{packed-same}

-- a segment's column is one of the 80
pub column-near : (c : Chip) (n : ℕ) → n < 80 → ram_column c n < 80
column-near c n h = when (λ (k : ℕ). k < 80) c.reverse (λ _. omega arith) (λ _. omega arith)

-- whether a row of band r is hidden by the duty goes by r
hidden-row : (duty : Bool) (r i : ℕ) → i < 8 → (not duty && leb 16 (8 * r + i)) ≡ (not duty && leb 2 r)
hidden-row true r i h = refl
hidden-row false r i h =
    ⊎_elim
    (λ t. let l = leb-true 2 r t in rw (t, le-leb 16 (8 * r + i) (omega arith)))
    (λ t. let l = leb-false 2 r t in rw (t, lt-leb 16 (8 * r + i) (omega arith)))
    (tested (leb 2 r))

-- eight pixels under the same switches
switched : (off static hidden : Bool) (f : ℕ → ℕ) (at : ℕ)
    → packed_pixels (λ row. if off 0 (if static 1 (if hidden 0 (f row)))) at 8 ≡ if off 0 (if static 255 (if hidden 0 (packed_pixels f at 8)))
unfolding packed_pixels
switched true static hidden f at = refl
switched false true hidden f at = refl
switched false false true f at = refl
switched false false false f at = refl

module _ (c : Chip) (ram : List ℕ) (n r : ℕ) where
  abbrev hidden : Bool
  hidden = not c.duty_32 && leb 2 r

  abbrev lines : ℕ → ℕ
  lines = line_bit ram (ram_column c n)

  pub segment-byte : frame_byte c ram n r
      ≡ if (not c.display_on) 0 (if c.static_on 255 (if hidden 0 (packed_pixels lines (c.start_line + 8 * r) 8)))
  unfolding frame_byte pixel
  segment-byte =
      packed-same 8 (pixel c ram n) (λ line. if (not c.display_on) 0 (if c.static_on 1 (if hidden 0 (lines line)))) (8 * r)
      (c.start_line + 8 * r)
      (λ i h.
      let e : c.start_line + (8 * r + i) ≡ c.start_line + 8 * r + i = omega arith in
      rw (hidden-row c.duty_32 r i h, e))
      ∙ switched (not c.display_on) c.static_on hidden lines (c.start_line + 8 * r)
