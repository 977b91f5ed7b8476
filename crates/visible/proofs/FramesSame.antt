-- Two panels have the same frame exactly when no pixel of either half differs.
use Prim.Native.Nat.{ℕ, ◌+◌, ◌*◌, ◌/◌, ◌%◌, ◌<◌}
use native.Mathlib.Omega.{arith}
use mathlib.Core.Path.{◌≡◌, sym, ap, ◌∙◌}
use mathlib.Core.Bool.{not, true≢false}
use mathlib.Core.List.{List}
use mathlib.Core.Logic.{⊎_elim}
use lib.Dec.{eqb, ltb}
use lib.ListN.{get_or}
use borrow.Author.Tests.{eq-eqb, eqb-true, ltb-true, ltb-false}
use Rattle.basics.specs.Bytes.{same_bytes}
use Rattle.basics.specs.Choice.{if}
use Rattle.basics.proofs.Bytes.{are-same, not_same}
use Rattle.basics.proofs.Counts.{sum_zeros, sum-is-zero}
use Rattle.basics.proofs.Tests.{tested}
use Rattle.panel.specs.Panel.{Panel, chip_at, ram_at}
use Rattle.sed1520.specs.declared.registers.Chip.{Chip}
use Rattle.frame.specs.Frame.{segments, pixel, frame_byte, frame_of, frame_place}
use Rattle.frame.proofs.HalfLaws.{half-laws}
use Rattle.frame.proofs.Places.{same-places}
use Rattle.visible.specs.Changes.{segment_changed, half_changed, pixels_changed}

-- a pixel counted as none does not differ
not-counted : (a b : ℕ) → ◌≡◌ {A = ℕ} (if (not (eqb a b)) 1 0) 0 → a ≡ b
not-counted a b e = ⊎_elim (λ t. eqb-true a b t) (λ t. absurd (let one = rw t at e in omega arith)) (tested (eqb a b))

module _ (c : Chip) (ram : List ℕ) (d : Chip) (other : List ℕ) where
  -- a half without a changed pixel, and one whose bytes are the same
  pixels-equal : half_changed c ram d other ≡ 0 → (n row : ℕ) → n < segments → row < 32 → pixel c ram n row ≡ pixel d other n row
  unfolding half_changed
  pixels-equal none n row driven h =
      not-counted _ _ (sum-is-zero _ 32 (sum-is-zero (segment_changed c ram d other) segments none n driven) row h)

  none-changed : ((n r : ℕ) → n < segments → r < 4 → frame_byte c ram n r ≡ frame_byte d other n r) → half_changed c ram d other ≡ 0
  unfolding half_changed
  none-changed same =
      sum_zeros (segment_changed c ram d other) segments (λ n driven.
      sum_zeros _ 32 (λ row h.
      let whole : 8 * (row / 8) + row % 8 ≡ row = omega arith in
      let bit = half-laws.bit c ram n (row / 8) (row % 8) (omega arith) in
      let bit' = half-laws.bit d other n (row / 8) (row % 8) (omega arith) in
      let equal = sym (rw whole at bit) ∙ rw (same n (row / 8) driven (omega arith)) (rw whole at bit') in
      rw (eq-eqb (pixel c ram n row) (pixel d other n row) equal)))

module _ (p q : Panel) where
  pub no-pixels-same : pixels_changed p q 0 ≡ 0 → pixels_changed p q 1 ≡ 0 → frame_of p ≡ frame_of q
  no-pixels-same left right =
      same-places (frame_of p) (frame_of q) (half-laws.whole p) (half-laws.whole q) (λ k n r side driven band.
      half-laws.place p k n r driven band
      ∙ half-laws.by-pixels _ _ _ _ n (λ line h. pixels-equal _ _ _ _ (none k side) n line driven h) r band
      ∙ sym (half-laws.place q k n r driven band))
    where
      none : (k : ℕ) → k < 2 → pixels_changed p q k ≡ 0
      none k side =
          ⊎_elim
          (λ t. let e : k ≡ 0 = omega (arith, ltb-true k 1 t) in rw e left)
          (λ t. let e : k ≡ 1 = omega (arith, ltb-false k 1 t) in rw e right)
          (tested (ltb k 1))

  pub same-no-pixels : frame_of p ≡ frame_of q → (k : ℕ) → pixels_changed p q k ≡ 0
  same-no-pixels same k =
      none-changed (chip_at p k) (ram_at p k) (chip_at q k) (ram_at q k) (λ n r driven band.
      sym (half-laws.place p k n r driven band) ∙ ap (λ (f : List ℕ). get_or f (frame_place k n r) 0) same ∙ half-laws.place q k n r driven band)

  -- so the bytes are the same exactly when both counts are 0
  pub frames-by-counts : same_bytes (frame_of p) (frame_of q) ≡ eqb (pixels_changed p q 0 + pixels_changed p q 1) 0
  frames-by-counts =
      ⊎_elim
      (λ t. let none = eqb-true (pixels_changed p q 0 + pixels_changed p q 1) 0 t in
      rw t (are-same (frame_of p) (frame_of q) (no-pixels-same (omega arith) (omega arith))))
      (λ t. rw t (not_same (frame_of p) (frame_of q) (λ same.
      let none = eq-eqb (pixels_changed p q 0 + pixels_changed p q 1) 0 (rw (same-no-pixels same 0, same-no-pixels same 1)) in
      true≢false (sym none ∙ t))))
      (tested (eqb (pixels_changed p q 0 + pixels_changed p q 1) 0))
