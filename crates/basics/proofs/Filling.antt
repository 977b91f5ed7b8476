-- A buffer filled from the front: it begins with the bytes put so far and goes on as it was.
use Prim.Native.Nat.{ℕ, suc, ◌+◌, ◌-◌, ◌<◌, ◌≤◌}
use native.Mathlib.Omega.{arith}
use native.Mathlib.Numerals.{add-one}
use mathlib.Core.Path.{◌≡◌, refl, ◌∙◌}
use mathlib.Core.List.{List, [], ◌∷◌, ◌++◌, append_assoc, append-nil}
use lib.ListN.{length, take, drop, set, length-append, length-take, length-drop, drop_of_length-le}
use lib.Seq.{take_at, drop_at, drop-drop, drop-cons, set_at}
use Rattle.basics.proofs.Parts.{rest}

pub record Begun (old front : List ℕ) (at : ℕ) (now : List ℕ) : Type 0 where
  pub size : length front ≡ at
  pub bytes : now ≡ front ++ drop at old

pub begun-none : (old : List ℕ) → Begun old [] 0 old
begun-none old = record { size = refl; bytes = refl }

pub begun_first : (old front : List ℕ) {at : ℕ} {now : List ℕ} → length front ≡ at → now ≡ front ++ drop at old → Begun old front at now
begun_first old front size bytes = record { size = size; bytes = bytes }

module _ {old front : List ℕ} {at : ℕ} {now : List ℕ} (begun : Begun old front at now) where
  before : take at now ≡ front
  before = rw begun.bytes (take_at front (drop at old) at begun.size)

  pub still : drop at now ≡ drop at old
  still = rw begun.bytes (drop_at front (drop at old) at begun.size)

  pub begun-length : at ≤ length old → length now ≡ length old
  begun-length h = rw (begun.bytes, length-append, length-drop) (omega (arith, begun.size))

  -- full
  pub begun_all : length old ≤ at → now ≡ front
  begun_all h = begun.bytes ∙ rw (drop_of_length-le old {i = at} h, append-nil)

  -- one byte more
  pub begun-byte : (v : ℕ) → at < length old → Begun old (front ++ (v ∷ [])) (at + 1) (set now at v)
  begun-byte v h =
      record {
        size = length-append front (v ∷ []) ∙ omega (arith, begun.size);
        bytes = rw (begun.bytes, drop-cons old at 0 h, add-one at, set_at front _ (drop (suc at) old) v at begun.size) (simp append_assoc);
      }

  -- bytes put to the front of the rest, lent as a part
  pub begun-rest : (more : List ℕ) {n : ℕ} {part : List ℕ} → length more ≡ n
      → part ≡ more ++ drop n (take (length now - at) (drop at now))
      → Begun old (front ++ more) (at + n) (take at now ++ (part ++ drop (length now - at) (drop at now)))
  begun-rest more {n} {part} size e =
      let past : drop (length now - at) (drop at now) ≡ [] = drop_of_length-le (drop at now) {i = length now - at} (simp length-drop (omega arith)) in
      record {
        size = length-append front more ∙ omega (arith, begun.size, size);
        bytes = rw (past, append-nil, before, e, rest now at, still, drop-drop n at old) (simp append_assoc);
      }

  -- the next n bytes, lent as a part
  pub begun-width : (n : ℕ) → at + n ≤ length old → length (take (at + n - at) (drop at now)) ≡ n
  begun-width n h = simp (length-take, length-drop) (omega (arith, begun-length (omega arith)))

  -- the next n bytes, lent as a part and filled whole
  pub begun-part : (more : List ℕ) (n : ℕ) {part : List ℕ} → length more ≡ n → part ≡ more
      → Begun old (front ++ more) (at + n) (take at now ++ (part ++ drop (at + n - at) (drop at now)))
  begun-part more n size e =
      let width : at + n - at ≡ n = omega arith in
      record {
        size = length-append front more ∙ omega (arith, begun.size, size);
        bytes = rw (width, before, e, still, drop-drop n at old) (simp append_assoc);
      }
