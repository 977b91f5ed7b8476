-- Two parts of n bytes, one after the other: a part as a slice lends it, and put back as a slice takes it back.
use Prim.Native.Nat.{ℕ, ◌+◌, ◌-◌, ◌<◌, ◌≤◌}
use native.Mathlib.Omega.{arith}
use mathlib.Core.Path.{◌≡◌, refl, ◌∙◌}
use mathlib.Core.Bool.{Bool, true, false}
use mathlib.Core.List.{List, [], ◌++◌, append-nil}
use mathlib.Core.Logic.{⊎_elim}
use lib.Dec.{eqb}
use lib.ListN.{length, get_or, take, drop, set, length-append, length-drop, take-append-drop, drop_of_length-le}
use lib.Seq.{take_all, take_at, drop_at, length-take-le, take-set-lt, take-set-le, drop-set-lt, drop-set-add, get_or-take, get_or-drop}
use Rattle.basics.specs.Choice.{if}
use Rattle.basics.specs.Halves.{part_start, part_at, part_put}
use Rattle.basics.proofs.Tests.{tested, when}

-- nothing stands past the end of a part
past : (n : ℕ) (l : List ℕ) → length l ≡ n → drop n l ≡ []
past n l h = drop_of_length-le l {i = n} (omega arith)

-- both parts of a buffer written one after the other
pub both-written : (n : ℕ) (l r blank first second : List ℕ) → length l ≡ n → length blank ≡ n → first ≡ l → second ≡ r
    → take n (first ++ blank) ++ (second ++ drop n (drop n (first ++ blank))) ≡ l ++ r
both-written n l r blank first second hl hb is-l is-r =
    rw (is-l, is-r, take_at l blank n hl, drop_at l blank n hl, past n blank hb, append-nil)

-- part k of two, which begins at s
module _ (n k s : ℕ) (bytes : List ℕ) (two : length bytes ≡ n + n) (start : s ≡ part_start n k) where
  at_front : eqb k 0 ≡ true → s ≡ 0
  at_front l = rw (start, l)

  at-rear : eqb k 0 ≡ false → s ≡ n
  at-rear r = rw (start, r)

  size : s + n - s ≡ n
  size = omega arith

  last : length (drop n bytes) ≡ n
  last = simp length-drop (omega arith)

  pub part-lent : take (s + n - s) (drop s bytes) ≡ part_at n k bytes
  part-lent =
      ⊎_elim
      (λ l. rw (size, at_front l, l))
      (λ r. rw (size, at-rear r, r) (take_all n (drop n bytes) (omega (arith, last))))
      (tested (eqb k 0))

  pub part-back : (part : List ℕ) → take s bytes ++ (part ++ drop (s + n - s) (drop s bytes)) ≡ part_put n k bytes part
  part-back part =
      ⊎_elim
      (λ l. rw (size, at_front l, l))
      (λ r. rw (size, at-rear r, r) (rw (past n (drop n bytes) last, append-nil)))
      (tested (eqb k 0))

pub start-within : (n k s : ℕ) → s ≡ part_start n k → s ≤ n
start-within n k s start = rw start (when (λ (m : ℕ). m ≤ n) (eqb k 0) (λ _. omega arith) (λ _. omega arith))

-- a part put back as it was
pub same_back : (n k : ℕ) (bytes : List ℕ) → part_put n k bytes (part_at n k bytes) ≡ bytes
same_back n k bytes = back (eqb k 0)
  where
    back : (t : Bool) → if t (if t (take n bytes) (drop n bytes) ++ drop n bytes) (take n bytes ++ if t (take n bytes) (drop n bytes)) ≡ bytes
    back true = take-append-drop n bytes
    back false = take-append-drop n bytes

module _ (n k : ℕ) (bytes : List ℕ) (two : length bytes ≡ n + n) where
  pub part_length : length (part_at n k bytes) ≡ n
  part_length =
      when (λ (l : List ℕ). length l ≡ n) (eqb k 0) (λ _. length-take-le n bytes (omega arith)) (λ _. simp length-drop (omega arith))

  module _ (part : List ℕ) (whole : length part ≡ n) where
    front_length : length (take n bytes) ≡ n
    front_length = length-take-le n bytes (omega arith)

    pub put-own : part_at n k (part_put n k bytes part) ≡ part
    put-own = at (eqb k 0)
      where
        at : (t : Bool) → let put = if t (part ++ drop n bytes) (take n bytes ++ part) in if t (take n put) (drop n put) ≡ part
        at true = take_at part (drop n bytes) n whole
        at false = drop_at (take n bytes) part n front_length

    pub put_other : (j : ℕ) → (eqb j 0 ≡ eqb k 0 → ⊥) → part_at n j (part_put n k bytes part) ≡ part_at n j bytes
    put_other j h = at (eqb j 0) (eqb k 0) h
      where
        at : (s t : Bool) → (s ≡ t → ⊥) → let put = if t (part ++ drop n bytes) (take n bytes ++ part) in
            if s (take n put) (drop n put) ≡ if s (take n bytes) (drop n bytes)
        at true true h = absurd (h refl)
        at true false h = take_at (take n bytes) part n front_length
        at false true h = drop_at part (drop n bytes) n whole
        at false false h = absurd (h refl)

    pub put_front : take n (part_put n k bytes part) ≡ if (eqb k 0) part (take n bytes)
    put_front = at (eqb k 0)
      where
        at : (t : Bool) → take n (if t (part ++ drop n bytes) (take n bytes ++ part)) ≡ if t part (take n bytes)
        at true = take_at part (drop n bytes) n whole
        at false = take_at (take n bytes) part n front_length

    pub put-rear : drop n (part_put n k bytes part) ≡ if (eqb k 0) (drop n bytes) part
    put-rear = at (eqb k 0)
      where
        at : (t : Bool) → drop n (if t (part ++ drop n bytes) (take n bytes ++ part)) ≡ if t (drop n bytes) part
        at true = drop_at part (drop n bytes) n whole
        at false = drop_at (take n bytes) part n front_length

    pub put-length : length (part_put n k bytes part) ≡ n + n
    put-length =
        when (λ (l : List ℕ). length l ≡ n + n) (eqb k 0)
        (λ _. length-append part (drop n bytes) ∙ omega (arith, length-drop n bytes))
        (λ _. length-append (take n bytes) part ∙ omega (arith, front_length))

    -- put in place twice, the second stands
    pub put-again : (other : List ℕ) → part_put n k (part_put n k bytes part) other ≡ part_put n k bytes other
    put-again other = at (eqb k 0)
      where
        at : (t : Bool) → let put = if t (part ++ drop n bytes) (take n bytes ++ part) in
            if t (other ++ drop n put) (take n put ++ other) ≡ if t (other ++ drop n bytes) (take n bytes ++ other)
        at true = rw (drop_at part (drop n bytes) n whole)
        at false = rw (take_at (take n bytes) part n front_length)

-- a byte set in a part is set in the whole
pub put-set : (n k : ℕ) (bytes : List ℕ) (at b : ℕ) → at < n → part_put n k bytes (set (part_at n k bytes) at b) ≡ set bytes (part_start n k + at) b
put-set n k bytes at b within = side (eqb k 0)
  where
    side : (t : Bool) → let part = set (if t (take n bytes) (drop n bytes)) at b in
        if t (part ++ drop n bytes) (take n bytes ++ part) ≡ set bytes (if t 0 n + at) b
    side true =
        let e : 0 + at ≡ at = omega arith in
        rw (e, ← take-set-lt n bytes at b within, ← drop-set-lt n bytes at b within) (take-append-drop n (set bytes at b))
    side false =
        rw (← take-set-le n bytes (n + at) b (omega arith), ← drop-set-add n bytes at b) (take-append-drop n (set bytes (n + at) b))

-- a byte of a part is one of the whole
pub part-byte : (n k : ℕ) (bytes : List ℕ) (i : ℕ) → i < n → get_or (part_at n k bytes) i 0 ≡ get_or bytes (part_start n k + i) 0
part-byte n k bytes i within = side (eqb k 0)
  where
    side : (t : Bool) → get_or (if t (take n bytes) (drop n bytes)) i 0 ≡ get_or bytes (if t 0 n + i) 0
    side true = let e : 0 + i ≡ i = omega arith in rw e (get_or-take n bytes i 0 within)
    side false = get_or-drop n bytes i 0
