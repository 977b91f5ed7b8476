-- Which columns number 2 lets pass.
use Prim.Native.Nat.{ℕ, ◌<◌, ◌≤◌}
use native.Mathlib.Omega.{arith}
use mathlib.Core.Path.{◌≡◌}
use mathlib.Core.Bool.{Bool, true, false}
use borrow.Author.Rules.{rules}
use Rattle.sed1520.specs.Chip.{column_stop, in_range, with_column, with_modify}
use Rattle.sed1520.specs.ColumnPromises.{ColumnRange}
use Rattle.sed1520.specs.declared.registers.Chip.{Chip}
use Rattle.sed1520.proofs.ChipRange.{ranges, in-range, out_of_range}

up_to : (c : Chip) → in_range c ≡ true → (n : ℕ) → n ≤ column_stop → (in_range (with_column n c) ≡ true) × (in_range (with_modify true n c) ≡ true)
up_to c e n h =
    let r = ranges c e in
    (in-range (with_column n c) (search rules), in-range (with_modify true n c) (search rules))

past : (c : Chip) (n : ℕ) → column_stop < n → (in_range (with_column n c) ≡ false) × ((on : Bool) → in_range (with_modify on n c) ≡ false)
past c n h = (
  out_of_range (with_column n c) (λ r. absurd (omega (arith, r.column))),
  λ on. out_of_range (with_modify on n c) (λ r. absurd (omega (arith, r.saved))),
)

pub column-range : ColumnRange
column-range = record { up_to = up_to; past = past }
