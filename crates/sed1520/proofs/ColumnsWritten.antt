-- The columns that data writes moved on: none where the bytes stay, and none by other records.
use Prim.Native.Nat.{ℕ}
use native.Mathlib.Omega.{arith}
use mathlib.Core.Path.{◌≡◌}
use mathlib.Core.List.{List}
use mathlib.Core.Logic.{⊎_elim}
use lib.Dec.{eqb}
use Rattle.basics.proofs.Tests.{tested}
use Rattle.sed1520.specs.BytesRun.{columns_written}
use Rattle.sed1520.specs.Records.{front}

pub none-moved : (trace : List ℕ) (start : ℕ) (b : List ℕ) → 0 ≡ columns_written trace start b b
none-moved trace start b = ⊎_elim (λ t. rw t (omega arith)) (λ t. rw t) (tested (eqb (front trace).lines 3))
