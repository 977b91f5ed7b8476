-- `sed1520::registers::Chip::data_write` meets its contract, past the last column and below it.
use Prim.Native.Nat.{ℕ, ◌+◌, ◌<◌, ◌≤◌}
use mathlib.Core.Path.{◌≡◌, sym}
use mathlib.Core.List.{List}
use Rattle.sed1520.specs.Chip.{staled, with_column}
use Rattle.sed1520.specs.Cycle.{outcome, answered, wrote_to, data_write}
use Rattle.sed1520.specs.Memory.{image_index, byte_set}
use Rattle.sed1520.specs.declared.registers.Chip.{Chip}
use Rattle.sed1520.proofs.ActionCases.{data-write-stored, data-write-stopped}

-- what is handed back is the chip made stale, with the column counted on where the byte is stored
module _ (k b : ℕ) (c next : Chip) (ram : List ℕ) (stale : next ≡ staled c) where
  stopped : 80 ≤ c.column → outcome (answered 0 0 next) ram ≡ data_write k b c ram
  stopped full = rw stale (sym (data-write-stopped c ram full k b))

  stored : c.column < 80
      → outcome (wrote_to (image_index k c.page c.column) (with_column (c.column + 1) next)) (byte_set ram c.page c.column b)
      ≡ data_write k b c ram
  stored room = rw stale (sym (data-write-stored c ram room k b))
