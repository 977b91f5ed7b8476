-- Records as bytes, both ways: how many, which one stands where, the first of them, two lists joined, written and read back, read and written back.
use Prim.Native.Nat.{ℕ, ◌+◌, ◌*◌, ◌/◌, ◌%◌, ◌<◌, ◌≤◌}
use native.Mathlib.Omega.{arith}
use mathlib.Core.Path.{◌≡◌, refl, sym, ◌∙◌}
use mathlib.Core.List.{List, [], ◌∷◌, ◌++◌}
use lib.ListN.{length, get_or, take, drop, length-append, get_or-append}
use lib.Seq.{take-length, get_or-drop}
use Rattle.basics.proofs.Lists.{flat_append, flat-length}
use Rattle.basics.proofs.Pieces.{pieces-length, piece-at, pieces-join, pieces-prefix, pieces-back, pieces-there}
use Rattle.sed1520.specs.Records.{record_bytes, records_bytes, front, records_in, whole_records}
use Rattle.sed1520.specs.declared.bus.Record.{Record}

-- a record is read from its own four bytes
front-own : (bytes more : List ℕ) → 4 ≤ length bytes → front (bytes ++ more) ≡ front bytes
front-own bytes more h = rw (at 0 (omega arith), at 1 (omega arith), at 2 (omega arith), at 3 (omega arith))
  where
    at : (i : ℕ) → i < 4 → get_or (bytes ++ more) i 0 ≡ get_or bytes i 0
    at i l = get_or-append bytes more 0 i (omega arith)

-- four bytes are their record's
pub front-there : (bytes : List ℕ) → 4 ≤ length bytes → record_bytes (front bytes) ≡ take 4 bytes
front-there [] h = absurd (omega arith)
front-there (a ∷ []) h = absurd (omega arith)
front-there (a ∷ b ∷ []) h = absurd (omega arith)
front-there (a ∷ b ∷ c ∷ []) h = absurd (omega arith)
front-there (a ∷ b ∷ c ∷ d ∷ rest) h = refl

-- the record in four bytes from a place on, as code reads it
abbrev pub record_from : List ℕ → ℕ → Record
record_from bytes at =
    record { lines = get_or bytes at 0; chip = get_or bytes (at + 1) 0; byte = get_or bytes (at + 2) 0; spare = get_or bytes (at + 3) 0 }

pub front_at : (bytes : List ℕ) (at : ℕ) → record_from bytes at ≡ front (drop at bytes)
front_at bytes at =
    let e : at + 0 ≡ at = omega arith in
    rw (get_or-drop at bytes 0 0, get_or-drop at bytes 1 0, get_or-drop at bytes 2 0, get_or-drop at bytes 3 0, e)

pub records-length : (n : ℕ) (bytes : List ℕ) → length (records_in bytes n) ≡ n
records-length = pieces-length front 4

pub record-at : (n i : ℕ) (bytes : List ℕ) (none : Record) → i < n → get_or (records_in bytes n) i none ≡ front (drop (4 * i) bytes)
record-at = piece-at front 4

pub records-prefix : (k n : ℕ) (bytes : List ℕ) → k ≤ n → 4 * n ≤ length bytes → records_in (take (4 * k) bytes) k ≡ take k (records_in bytes n)
records-prefix = pieces-prefix front 4 front-own

pub records-join : (m n : ℕ) (bytes more : List ℕ) → length bytes ≡ 4 * m
    → records_in (bytes ++ more) (m + n) ≡ records_in bytes m ++ records_in more n
records-join = pieces-join front 4 front-own

-- the whole records of bytes cut at a multiple of four
pub whole-records-join : (bytes more : List ℕ) → length bytes % 4 ≡ 0 → whole_records (bytes ++ more) ≡ whole_records bytes ++ whole_records more
whole-records-join bytes more h =
    let all : length (bytes ++ more) / 4 ≡ length bytes / 4 + length more / 4 = rw length-append (omega arith) in
    rw all (records-join (length bytes / 4) (length more / 4) bytes more (omega arith))

pub bytes-append : (rs more : List Record) → records_bytes (rs ++ more) ≡ records_bytes rs ++ records_bytes more
bytes-append = flat_append record_bytes

pub bytes-length : (rs : List Record) → length (records_bytes rs) ≡ 4 * length rs
bytes-length = flat-length record_bytes 4 (λ r. refl)

pub records-back : (rs : List Record) (rest : List ℕ) (k : ℕ) → k ≤ length rs → records_in (records_bytes rs ++ rest) k ≡ take k rs
records-back = pieces-back front 4 record_bytes (λ r. refl) (λ r more. refl)

-- the record in its place there
pub record-back : (rs : List Record) (rest : List ℕ) (none : Record) (k : ℕ) → k < length rs
    → front (drop (4 * k) (records_bytes rs ++ rest)) ≡ get_or rs k none
record-back rs rest none k h =
    sym (record-at (length rs) k (records_bytes rs ++ rest) none h) ∙ rw (records-back rs rest (length rs) (omega arith), take-length)

pub records-there : (n : ℕ) (bytes : List ℕ) → 4 * n ≤ length bytes → records_bytes (records_in bytes n) ≡ take (4 * n) bytes
records-there = pieces-there front 4 record_bytes (λ r. refl) front-there
