-- The digits of a number, and the lengths of what is made of them.
use Prim.Native.Nat.{ℕ, zero, suc, ◌+◌, ◌-◌, ◌/◌, ◌%◌, ◌^◌, ◌<◌, ◌≤◌}
use native.Mathlib.Omega.{arith}
use mathlib.Core.Path.{◌≡◌}
use mathlib.Core.List.{List, [], ◌∷◌, ◌++◌}
use lib.Dec.{ltb}
use lib.ListN.{length, length-append}
use borrow.Author.Tests.{lt-ltb, le-ltb}
use Rattle.std.specs.Fmt as printed
use Rattle.std.proofs.lemmas.Fmt.{AppendsLastDigit, decimal_from_appends, length-decimal-le}
use Rattle.basics.proofs.Tests.{when}
use Rattle.console.specs.Text.{decimal, decimal_digits, end_line}

-- at most so many digits
digits-bound : (most n : ℕ) → length (decimal most n) ≤ most
unfolding decimal
digits-bound zero n = omega arith
digits-bound (suc most) n =
    when (λ (ds : List ℕ). length ds ≤ suc most) (ltb n 10) (λ _. omega arith)
    (λ _. omega (arith, digits-bound most (n / 10), length-append (decimal most (n / 10)) ((48 + n % 10) ∷ [])))

pub number_bound : (n : ℕ) → length (decimal_digits n) ≤ 20
number_bound n = digits-bound 20 n

pub end-bound : (number place compared differing : ℕ) → length (end_line number place compared differing) ≤ 88
unfolding end_line
end-bound number place compared differing =
    simp length-append
    (omega (arith, number_bound number, number_bound place, number_bound compared, number_bound differing))

pub no-digits : (most n : ℕ) → most ≡ 0 → decimal most n ≡ []
unfolding decimal
no-digits most n e = rw e

pub one-digit : (most n : ℕ) → 0 < most → n < 10 → decimal most n ≡ (48 + n) ∷ []
unfolding decimal
one-digit zero n h l = absurd (omega arith)
one-digit (suc most) n h l = rw (lt-ltb n 10 l)

pub more-digits : (most n : ℕ) → 0 < most → 10 ≤ n → decimal most n ≡ decimal (most - 1) (n / 10) ++ ((48 + n % 10) ∷ [])
unfolding decimal
more-digits zero n h l = absurd (omega arith)
more-digits (suc most) n h l = let e : suc most - 1 ≡ most = omega arith in rw (le-ltb n 10 l, e)

appends : AppendsLastDigit decimal
unfolding decimal
appends = record { one = λ k n h. rw (lt-ltb n 10 h); more = λ k n h. rw (le-ltb n 10 h) }

-- the digits are what `{}` prints
pub as_printed : (n : ℕ) → n < 2 ^ 64 → decimal_digits n ≡ printed.decimal n
as_printed n h = decimal_from_appends decimal appends 20 n h (length-decimal-le 20 n (omega arith) (omega arith) h)
