-- Two parts of n bytes, one after the other: part 0 at the front, any other at the rear.
use Rattle.std.specs.Prelude.{ℕ, List, ◌++◌, eqb, take, drop}
use Rattle.basics.specs.Choice.{if}

-- where part k begins
abbrev pub part_start : ℕ → ℕ → ℕ
part_start n k = if (eqb k 0) 0 n

-- part k of two parts of n bytes
abbrev pub part_at : ℕ → ℕ → List ℕ → List ℕ
part_at n k bytes = if (eqb k 0) (take n bytes) (drop n bytes)

-- part k replaced, the other as it was
abbrev pub part_put : ℕ → ℕ → List ℕ → List ℕ → List ℕ
part_put n k bytes part = if (eqb k 0) (part ++ drop n bytes) (take n bytes ++ part)
