-- Bytes cut into pieces of one size, each read as a value: how many, which one stands where, the first of them, two lists of bytes joined, and
-- values written as pieces and read back, both ways.
use Prim.Native.Nat.{ℕ, zero, suc, ◌+◌, ◌*◌, ◌<◌, ◌≤◌}
use native.Mathlib.Omega.{arith}
use native.Mathlib.Nat.{le_trans, mul-le-mul_left}
use mathlib.Core.Path.{◌≡◌, refl, sym, ap, ◌∙◌}
use mathlib.Core.List.{List, [], ◌∷◌, ◌++◌, map, map-id, flat_map, append_assoc}
use lib.ListN.{length, get_or, take, drop, length-drop, take-append-drop}
use lib.Seq.{length-take-le, take-add, drop_at, drop-drop, drop-append-le}
use Rattle.basics.specs.Lists.{pieces}

no_bytes : (bytes : List ℕ) → length bytes ≡ 0 → bytes ≡ []
no_bytes [] h = refl
no_bytes (b ∷ bytes) h = absurd (omega arith)

module _ {A : Type 0} (read : List ℕ → A) (size : ℕ) where
  pub pieces-length : (n : ℕ) (bytes : List ℕ) → length (pieces read size bytes n) ≡ n
  unfolding pieces
  pieces-length zero bytes = refl
  pieces-length (suc n) bytes = ap suc (pieces-length n (drop size bytes))

  pub piece-at : (n i : ℕ) (bytes : List ℕ) (d : A) → i < n → get_or (pieces read size bytes n) i d ≡ read (drop (size * i) bytes)
  unfolding pieces
  piece-at zero i bytes d h = absurd (omega arith)
  piece-at (suc n) zero bytes d h = let e : size * 0 ≡ 0 = omega arith in rw e
  piece-at (suc n) (suc i) bytes d h =
      let e : size * suc i ≡ size + size * i = omega arith in
      piece-at n i (drop size bytes) d (omega arith) ∙ rw (e, drop-drop (size * i) size bytes)

  pub pieces-take : (k n : ℕ) (bytes : List ℕ) → k ≤ n → take k (pieces read size bytes n) ≡ pieces read size bytes k
  unfolding pieces
  pieces-take zero n bytes h = refl
  pieces-take (suc k) zero bytes h = absurd (omega arith)
  pieces-take (suc k) (suc n) bytes h = rw (pieces-take k n (drop size bytes) (omega arith))

  -- a piece is read from its own bytes alone
  module _ (own : (bytes more : List ℕ) → size ≤ length bytes → read (bytes ++ more) ≡ read bytes) where
    pub pieces-front : (n : ℕ) (bytes more : List ℕ) → size * n ≤ length bytes → pieces read size (bytes ++ more) n ≡ pieces read size bytes n
    unfolding pieces
    pieces-front zero bytes more h = refl
    pieces-front (suc n) bytes more h =
        let e : size * suc n ≡ size + size * n = omega arith in
        let rest = pieces-front n (drop size bytes) more (simp length-drop (omega arith)) in
        rw (own bytes more (omega arith), drop-append-le size bytes more (omega arith), rest)

    pub pieces-join : (m n : ℕ) (bytes more : List ℕ) → length bytes ≡ size * m
        → pieces read size (bytes ++ more) (m + n) ≡ pieces read size bytes m ++ pieces read size more n
    unfolding pieces
    pieces-join zero n bytes more h =
        let none : bytes ≡ [] = no_bytes bytes (omega arith) in
        let all : 0 + n ≡ n = omega arith in
        rw (none, all)
    pieces-join (suc m) n bytes more h =
        let e : size * suc m ≡ size + size * m = omega arith in
        let next : suc m + n ≡ suc (m + n) = omega arith in
        let rest = pieces-join m n (drop size bytes) more (simp length-drop (omega arith)) in
        rw (next, own bytes more (omega arith), drop-append-le size bytes more (omega arith), rest)

    -- the first k of them
    pub pieces-prefix : (k n : ℕ) (bytes : List ℕ) → k ≤ n → size * n ≤ length bytes
        → pieces read size (take (size * k) bytes) k ≡ take k (pieces read size bytes n)
    pieces-prefix k n bytes h l =
        let within : size * k ≤ length bytes = le_trans (mul-le-mul_left size h) l in
        let all = pieces-front k (take (size * k) bytes) (drop (size * k) bytes) (omega (arith, length-take-le (size * k) bytes within)) in
        let whole = rw (take-append-drop (size * k) bytes) at all in
        sym whole ∙ sym (pieces-take k n bytes h)

  -- what is read of values written as pieces
  module _ {X : Type 0} (write : X → List ℕ) (wide : (x : X) → length (write x) ≡ size) (look : X → A)
      (seen : (x : X) (more : List ℕ) → read (write x ++ more) ≡ look x) where
    pub pieces-seen : (xs : List X) (rest : List ℕ) (k : ℕ) → k ≤ length xs → pieces read size (flat_map write xs ++ rest) k ≡ map look (take k xs)
    unfolding pieces flat_map
    pieces-seen xs rest zero h = refl
    pieces-seen [] rest (suc k) h = absurd (omega arith)
    pieces-seen (x ∷ xs) rest (suc k) h =
        let more = flat_map write xs ++ rest in
        rw (append_assoc (write x) (flat_map write xs) rest, seen x more, drop_at (write x) more size (wide x))
        (rw (pieces-seen xs rest k (omega arith)))

  -- values written as pieces and read back
  module _ (write : A → List ℕ) (wide : (x : A) → length (write x) ≡ size) where
    pub pieces-back : ((x : A) (more : List ℕ) → read (write x ++ more) ≡ x) → (xs : List A) (rest : List ℕ) (k : ℕ) → k ≤ length xs
        → pieces read size (flat_map write xs ++ rest) k ≡ take k xs
    pieces-back back xs rest k h = pieces-seen write wide (λ x. x) back xs rest k h ∙ map-id (take k xs)

    pub pieces-there : ((bytes : List ℕ) → size ≤ length bytes → write (read bytes) ≡ take size bytes) → (n : ℕ) (bytes : List ℕ)
        → size * n ≤ length bytes → flat_map write (pieces read size bytes n) ≡ take (size * n) bytes
    unfolding pieces flat_map
    pieces-there there zero bytes h = let e : size * 0 ≡ 0 = omega arith in rw e
    pieces-there there (suc n) bytes h =
        let e : size * suc n ≡ size + size * n = omega arith in
        rw (there bytes (omega arith), pieces-there there n (drop size bytes) (simp length-drop (omega arith)), e, take-add size (size * n) bytes)
