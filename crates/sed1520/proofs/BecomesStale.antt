-- A page set and a data write leave the read latch stale with the byte that it had.
use Prim.Native.Nat.{ℕ, ◌+◌, ◌<◌}
use native.Mathlib.Omega.{arith}
use mathlib.Core.List.{List}
use Rattle.sed1520.specs.Command.{first}
use Rattle.sed1520.specs.Cycle.{execute}
use Rattle.sed1520.specs.Laws.{sent, Fit}
use Rattle.sed1520.specs.LatchPromises.{Stales, LatchBecomesStale}
use Rattle.sed1520.specs.declared.registers.Chip.{Chip}
use Rattle.sed1520.specs.declared.commands.Opcode.TheVariants.{Page}
use Rattle.sed1520.proofs.ActionCases.{data-write-done, data-write-stale}
use Rattle.sed1520.proofs.ColumnRefusals.{no-column-set}
use Rattle.sed1520.proofs.SentRecords.{write-cycle, command-cycle}

module _ (c : Chip) (ram : List ℕ) (fit : Fit c ram) (k : ℕ) (addressed : k < 2) where
  page-set : (n : ℕ) → n < 4 → Stales (sent 2 k (first Page + n)) c ram
  unfolding execute
  page-set n h =
      let done = command-cycle c ram fit k addressed Page n h (no-column-set (first Page + n) c.modify (omega arith)) in
      record { number = rw done; latch = rw done }

  data-write : (b : ℕ) → Stales (sent 3 k b) c ram
  data-write b =
      let done = write-cycle c ram fit k addressed b in
      record { number = rw done (data-write-done c ram k b); latch = rw done (data-write-stale c ram k b) }

pub latch-becomes-stale : LatchBecomesStale
latch-becomes-stale = record { page-set = page-set; data-write = data-write }
