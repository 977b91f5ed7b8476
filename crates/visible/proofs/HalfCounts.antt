-- How many pixels of a half differ: by segments as they are drawn, none where the same is shown, and those of one segment where all others show
-- the same.
use Prim.Native.Nat.{ℕ, zero, suc, ◌+◌, ◌*◌, ◌<◌, ◌≤◌}
use native.Mathlib.Omega.{arith}
use native.Mathlib.Numerals.{add-one}
use mathlib.Core.Path.{◌≡◌, refl, ◌∙◌}
use mathlib.Core.Bool.{Bool, not}
use mathlib.Core.List.{List, map}
use lib.Dec.{eqb}
use borrow.Author.Tests.{eq-eqb}
use Rattle.std.specs.List.{sum, range_with_len}
use Rattle.std.proofs.lemmas.List.FromFn.{sum_by-map-range_with_len_more}
use Rattle.basics.specs.Choice.{if}
use Rattle.basics.specs.Counts.{sum_below, count_below}
use Rattle.basics.proofs.Counts.{sum_same, sum_zeros, sum_one, sum-at-most}
use Rattle.basics.proofs.Tests.{when}
use Rattle.sed1520.specs.Laws.{Fit}
use Rattle.sed1520.specs.declared.registers.Chip.{Chip}
use Rattle.frame.specs.Frame.{segments, pixel, segment_pixels}
use Rattle.frame.specs.Laws.{SameShown}
use Rattle.frame.proofs.HalfLaws.{half-laws}
use Rattle.frame.proofs.Lines.{rows-packed}
use Rattle.frame.proofs.Packing.{packed-bit}
use Rattle.frame.proofs.Pixels.{pixel-small}
use Rattle.visible.specs.Changes.{segment_changed, half_changed}
use Rattle.visible.specs.Sight.{bits_differing}

-- a count is at most what it is taken over
count-at-most : (test : ℕ → Bool) (n : ℕ) → count_below test n ≤ n
count-at-most test n =
    let most = sum-at-most (λ i. if (test i) 1 0) 1 n (λ i _. when (λ (k : ℕ). k ≤ 1) (test i) (λ _. omega arith) (λ _. omega arith)) in
    omega (arith, most)

-- a list's sum, where it is of the numbers below a bound
sum-listed : (f : ℕ → ℕ) (n : ℕ) → sum (map f (range_with_len 0 n)) ≡ sum_below f n
unfolding sum_below
sum-listed f zero = refl
sum-listed f (suc n) =
    let more = rw (add-one n) at (sum_by-map-range_with_len_more (λ x. x) f 0 n n (omega arith)) in
    omega (arith, more, sum-listed f n)

module _ (c : Chip) (ram : List ℕ) (d : Chip) (other : List ℕ) where
  pub segment-counted : Fit c ram → Fit d other → (n : ℕ) → n < segments
      → bits_differing (segment_pixels c ram n).pixels (segment_pixels d other n).pixels ≡ segment_changed c ram d other n
  segment-counted fit fit' n driven =
      sum_same _ _ 32 (λ row h.
      let e : 0 + row ≡ row = omega arith in
      rw (
        rows-packed c ram n fit driven,
        rows-packed d other n fit' driven,
        packed-bit (pixel c ram n) (pixel-small c ram n) 32 0 row h,
        packed-bit (pixel d other n) (pixel-small d other n) 32 0 row h,
        e,
      ))

  -- the pixels of the segments as they are drawn, added up
  abbrev pub drawn : ℕ → ℕ
  drawn n = bits_differing (segment_pixels c ram n).pixels (segment_pixels d other n).pixels

  pub half-summed : Fit c ram → Fit d other → sum (map drawn (range_with_len 0 segments)) ≡ half_changed c ram d other
  unfolding half_changed
  half-summed fit fit' = sum-listed drawn segments ∙ sum_same drawn (segment_changed c ram d other) segments (segment-counted fit fit')

  pub same-segment : (n : ℕ) → SameShown c d ram other n → segment_changed c ram d other n ≡ 0
  same-segment n same =
      sum_zeros _ 32 (λ row h. rw (half-laws.pixels c d ram other n row h same, eq-eqb (pixel d other n row) (pixel d other n row) refl))

  pub same_half : ((n : ℕ) → n < segments → SameShown c d ram other n) → half_changed c ram d other ≡ 0
  unfolding half_changed
  same_half same = sum_zeros (segment_changed c ram d other) segments (λ n h. same-segment n (same n h))

  pub one-segment : (k : ℕ) → k < segments → ((n : ℕ) → n < segments → (n ≡ k → ⊥) → SameShown c d ram other n)
      → half_changed c ram d other ≡ segment_changed c ram d other k
  unfolding half_changed
  one-segment k h same = sum_one (segment_changed c ram d other) k segments h (λ n l apart. same-segment n (same n l apart))

  pub segment-few : (n : ℕ) → segment_changed c ram d other n ≤ 32
  segment-few n = count-at-most (λ row. not (eqb (pixel c ram n row) (pixel d other n row))) 32

  pub few : (n : ℕ) → sum_below (segment_changed c ram d other) n ≤ 32 * n
  few n = sum-at-most (segment_changed c ram d other) 32 n (λ i _. segment-few i)

  pub half-few : half_changed c ram d other < 65536
  unfolding half_changed
  half-few = omega (arith, few segments)
