-- Lists whose elements fit a byte, put together and taken apart.
use Prim.Native.Nat.{ℕ, zero, suc, ◌+◌, ◌/◌, ◌%◌, ◌<◌}
use native.Mathlib.Omega.{arith}
use mathlib.Core.List.{List, [], ◌∷◌, ◌++◌}
use lib.ListN.{get_or, take, drop}
use lib.Seq.{get_or-drop}
use Rattle.pedralume.specs.FeedPromises.{BytesFit}

pub no_byte : BytesFit []
no_byte = record { each = λ i. omega arith }

-- one byte more, and four of a number
pub byte_more : {b : List ℕ} (n : ℕ) → n < 256 → BytesFit b → BytesFit (n ∷ b)
byte_more {b} n h fit = record { each = each }
  where
    each : (i : ℕ) → get_or (n ∷ b) i 0 < 256
    each zero = h
    each (suc i) = fit.each i

pub number_more : {b : List ℕ} (n : ℕ) → n < 4294967296 → BytesFit b → BytesFit (n % 256 ∷ n / 256 % 256 ∷ n / 65536 % 256 ∷ n / 16777216 ∷ b)
number_more n h fit =
    byte_more (n % 256) (omega arith) (byte_more (n / 256 % 256) (omega arith)
    (byte_more (n / 65536 % 256) (omega arith) (byte_more (n / 16777216) (omega arith) fit)))

pub append-fit : (a b : List ℕ) → BytesFit a → BytesFit b → BytesFit (a ++ b)
append-fit [] b fa fb = fb
append-fit (x ∷ a) b fa fb = byte_more x (fa.each 0) (append-fit a b (record { each = λ i. fa.each (suc i) }) fb)

pub take-fit : (n : ℕ) (b : List ℕ) → BytesFit b → BytesFit (take n b)
take-fit zero b fit = no_byte
take-fit (suc n) [] fit = no_byte
take-fit (suc n) (x ∷ b) fit = byte_more x (fit.each 0) (take-fit n b (record { each = λ i. fit.each (suc i) }))

pub drop-fit : (n : ℕ) (b : List ℕ) → BytesFit b → BytesFit (drop n b)
drop-fit n b fit = record { each = λ i. rw (get_or-drop n b i 0) (fit.each (n + i)) }
