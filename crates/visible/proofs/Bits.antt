-- The bits in which two numbers differ, counted by an exclusive or.
use Prim.Native.Nat.{ℕ, zero, suc, ◌+◌, ◌*◌, ◌/◌, ◌%◌, ◌^◌, ◌<◌}
use native.Mathlib.Omega.{arith}
use mathlib.Core.Path.{◌≡◌, refl, ap, ◌∙◌}
use mathlib.Core.Bool.{not}
use lib.Bits.{bit_xor, differ, xor_step}
use lib.Count.{ones, ones_in, ones_step}
use lib.Dec.{eqb}
use lib.Pow.{shr_lt}
use Rattle.basics.specs.Choice.{if}
use Rattle.basics.specs.Counts.{sum_below}
use Rattle.basics.proofs.Counts.{sum_first, sum_same}
use Rattle.basics.proofs.Tests.{when}
use Rattle.frame.proofs.Packing.{halved}

-- whether bit b differs, as a count
abbrev apart : ℕ → ℕ → ℕ → ℕ
apart one other b = if (not (eqb (one / 2 ^ b % 2) (other / 2 ^ b % 2))) 1 0

-- two digits differ or not
digits : (a b : ℕ) → a < 2 → b < 2 → differ a b ≡ if (not (eqb a b)) 1 0
digits zero zero h l = refl
digits zero (suc zero) h l = refl
digits (suc zero) zero h l = refl
digits (suc zero) (suc zero) h l = refl
digits (suc (suc a)) b h l = absurd (omega arith)
digits zero (suc (suc b)) h l = absurd (omega arith)
digits (suc zero) (suc (suc b)) h l = absurd (omega arith)

pub ones-differing : (n one other : ℕ) → one < 2 ^ n → other < 2 ^ n → ones (bit_xor one other) ≡ sum_below (apart one other) n
unfolding sum_below ones ones_in
ones-differing zero one other h l =
    let a : one ≡ 0 = omega arith in
    let b : other ≡ 0 = omega arith in
    rw (a, b)
ones-differing (suc n) one other h l =
    let rest = bit_xor (one / 2) (other / 2) in
    let digit : ℕ = if (not (eqb (one % 2) (other % 2))) 1 0 in
    let here = xor_step one other ∙ ap (λ (d : ℕ). rest * 2 + d) (digits (one % 2) (other % 2) (omega arith) (omega arith)) in
    let small : digit < 2 = when (λ (d : ℕ). d < 2) (not (eqb (one % 2) (other % 2))) (λ _. omega arith) (λ _. omega arith) in
    let low : (rest * 2 + digit) % 2 ≡ digit = omega arith in
    let high : (rest * 2 + digit) / 2 ≡ rest = omega arith in
    let next : n + 1 ≡ suc n = omega arith in
    let more = ones-differing n (one / 2) (other / 2) (shr_lt n 1 (rw next h)) (shr_lt n 1 (rw next l)) in
    let shifted = sum_same (apart (one / 2) (other / 2)) (λ i. apart one other (suc i)) n (λ i _. rw (halved one i, halved other i)) in
    let whole : one / 2 ^ 0 ≡ one = omega arith in
    let whole' : other / 2 ^ 0 ≡ other = omega arith in
    ones_step (bit_xor one other)
    ∙ rw (here, low, high, more, shifted, sum_first (apart one other) n) (rw (whole, whole'))
