-- Pixels packed into a number, and eight RAM lines taken out of two pages at once.
use Prim.Native.Nat.{ℕ, zero, suc, ◌+◌, ◌-◌, ◌*◌, ◌/◌, ◌%◌, ◌^◌, ◌<◌, ◌≤◌}
use native.Mathlib.Omega.{arith}
use mathlib.Core.Path.{◌≡◌, refl, ◌∙◌}
use mathlib.Core.List.{List}
use mathlib.Core.Logic.{⊎_elim}
use lib.Dec.{ltb}
use lib.Pow.{shr-shr, mod-pow-add, field, mod-mod-pow}
use borrow.Author.Tests.{ltb-true, ltb-false}
use Rattle.sed1520.specs.Memory.{byte_at}
use Rattle.basics.proofs.Tests.{tested}
use Rattle.frame.specs.Frame.{line_bit, packed_pixels}

-- the next place, and the next bit
pub next : (at i : ℕ) → at + 1 + i ≡ at + suc i
next at i = omega arith

pub halved : (x i : ℕ) → x / 2 / 2 ^ i ≡ x / 2 ^ suc i
halved x i = let up : 1 + i ≡ suc i = omega arith in shr-shr x 1 i ∙ rw up

-- the same pixels pack to the same number
pub packed-same : (n : ℕ) (f g : ℕ → ℕ) (at to : ℕ) → ((i : ℕ) → i < n → f (at + i) ≡ g (to + i)) → packed_pixels f at n ≡ packed_pixels g to n
unfolding packed_pixels
packed-same zero f g at to h = refl
packed-same (suc n) f g at to h =
    let from : at + 0 ≡ at = omega arith in
    let onto : to + 0 ≡ to = omega arith in
    let first = rw (from, onto) at (h 0 (omega arith)) in
    let rest = packed-same n f g (at + 1) (to + 1) (λ i l. rw (next at i, next to i) (h (suc i) (omega arith))) in
    rw (first, rest)

-- the bits of a number pack to the number, up to so many
pub packed-bits : (n : ℕ) (f : ℕ → ℕ) (at x : ℕ) → ((i : ℕ) → i < n → f (at + i) ≡ x / 2 ^ i % 2) → packed_pixels f at n ≡ x % 2 ^ n
unfolding packed_pixels
packed-bits zero f at x h = omega arith
packed-bits (suc n) f at x h =
    let at_first : at + 0 ≡ at = omega arith in
    let first = rw at_first at (h 0 (omega arith)) in
    let rest = packed-bits n f (at + 1) (x / 2) (λ i l. rw (next at i, halved x i) (h (suc i) (omega arith))) in
    let more : suc n ≡ n + 1 = omega arith in
    rw (rest, more, mod-pow-add x n 1) (omega arith)

-- bit b of packed pixels is the b-th of them, where each is 0 or 1
pub packed-bit : (f : ℕ → ℕ) → ((i : ℕ) → f i < 2) → (n at b : ℕ) → b < n → packed_pixels f at n / 2 ^ b % 2 ≡ f (at + b)
unfolding packed_pixels
packed-bit f small zero at b h = absurd (omega arith)
packed-bit f small (suc n) at zero h = let e : at + 0 ≡ at = omega arith in rw e (omega (arith, small at))
packed-bit f small (suc n) at (suc b) h =
    let rest = packed_pixels f (at + 1) n in
    let half : (f at + 2 * rest) / 2 ≡ rest = omega (arith, small at) in
    rw (← halved (f at + 2 * rest) b, half, ← next at b) (packed-bit f small n (at + 1) b (omega arith))

-- two numbers in one, the second above w bits: its bits below w are those of the first, from w on those of the second
module _ (w wide upper lower : ℕ) (low : wide % 2 ^ w ≡ upper) (high : wide / 2 ^ w ≡ lower) where
  pub wide-upper : (k : ℕ) → k < w → upper / 2 ^ k % 2 ≡ wide / 2 ^ k % 2
  wide-upper k h =
      let all : w - 1 - k + 1 + k ≡ w = omega arith in
      let cut = rw (all, low) at (field wide (w - 1 - k + 1) k) in
      rw cut (mod-mod-pow (wide / 2 ^ k) (w - 1 - k) 1)

  pub wide-lower : (k : ℕ) → w ≤ k → lower / 2 ^ (k - w) % 2 ≡ wide / 2 ^ k % 2
  wide-lower k h =
      let all : w + (k - w) ≡ k = omega arith in
      let cut = rw (all, high) at (shr-shr wide w (k - w)) in
      rw cut

-- the eight lines from a line on, out of its page and the one after it, counted round
module _ (ram : List ℕ) (column line : ℕ) (near : line < 64) where
  abbrev upper : ℕ
  upper = byte_at ram (line % 32 / 8) column

  abbrev lower : ℕ
  lower = byte_at ram ((line % 32 / 8 + 1) % 4) column

  module _ (byte : upper < 256) where
    each : (i : ℕ) → i < 8 → line_bit ram column (line + i) ≡ (upper + 256 * lower) / 2 ^ (line % 8) / 2 ^ i % 2
    each i h =
        let k = line % 8 + i in
        rw (shr-shr (upper + 256 * lower) (line % 8) i)
        (⊎_elim
        (λ t.
        let l = ltb-true k 8 t in
        let page : (line + i) % 32 / 8 ≡ line % 32 / 8 = omega arith in
        let bit : (line + i) % 8 ≡ k = omega arith in
        rw (page, bit) (wide-upper 8 (upper + 256 * lower) upper lower (omega arith) (omega arith) k l))
        (λ t.
        let l = ltb-false k 8 t in
        let page : (line + i) % 32 / 8 ≡ (line % 32 / 8 + 1) % 4 = omega arith in
        let bit : (line + i) % 8 ≡ k - 8 = omega arith in
        rw (page, bit) (wide-lower 8 (upper + 256 * lower) upper lower (omega arith) (omega arith) k l))
        (tested (ltb k 8)))

    pub lines-wide : packed_pixels (line_bit ram column) line 8 ≡ (upper + 256 * lower) / 2 ^ (line % 8) % 256
    lines-wide = packed-bits 8 (line_bit ram column) line ((upper + 256 * lower) / 2 ^ (line % 8)) each
