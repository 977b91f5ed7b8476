-- Counting reaches the column at which it stops, and stays there.
use Prim.Native.Nat.{ℕ, suc, ◌<◌}
use native.Mathlib.Omega.{arith}
use mathlib.Core.Path.{◌≡◌, ◌∙◌}
use mathlib.Core.Bool.{false}
use mathlib.Core.List.{List}
use Rattle.sed1520.specs.Chip.{column_stop, latched, read_kind, staled}
use Rattle.sed1520.specs.ColumnPromises.{CountingStops}
use Rattle.sed1520.specs.Cycle.{outcome, answered, data_read, cycle_of}
use Rattle.sed1520.specs.Laws.{sent, Fit}
use Rattle.sed1520.specs.declared.registers.Chip.{Chip}
use Rattle.sed1520.proofs.ActionCases.{data-write-stored, data-write-stopped, after-read-counted, after-read-stopped}
use Rattle.sed1520.proofs.SentRecords.{write-cycle, read-cycle}

module _ (c : Chip) (ram : List ℕ) (fit : Fit c ram) (k : ℕ) (addressed : k < 2) (b : ℕ) where
  module _ (last : suc c.column ≡ column_stop) where
    by-write : (cycle_of (sent 3 k b) c ram).answer.chip.column ≡ column_stop
    by-write = rw (write-cycle c ram fit k addressed b) (rw (data-write-stored c ram (omega arith) k b) (omega arith))

    by_read : c.modify ≡ false → (cycle_of (sent 5 k b) c ram).answer.chip.column ≡ column_stop
    unfolding data_read
    by_read off = rw (read-cycle c ram fit k addressed b) (rw (after-read-counted c ram (omega arith) off) (omega arith))

  module _ (stopped : c.column ≡ column_stop) where
    write-stays : cycle_of (sent 3 k b) c ram ≡ outcome (answered 0 0 (staled c)) ram
    write-stays = write-cycle c ram fit k addressed b ∙ data-write-stopped c ram (omega arith) k b

    read_stays : cycle_of (sent 5 k b) c ram ≡ outcome (answered (read_kind c.latch) (latched c.latch) (staled c)) ram
    unfolding data_read
    read_stays = read-cycle c ram fit k addressed b ∙ rw (after-read-stopped c ram (omega arith))

pub counting-stops : CountingStops
counting-stops =
    record {
      reached = λ c ram fit last k addressed b. (by-write c ram fit k addressed b last, by_read c ram fit k addressed b last);
      stays = λ c ram fit stopped k addressed b. (write-stays c ram fit k addressed b stopped, read_stays c ram fit k addressed b stopped);
    }
