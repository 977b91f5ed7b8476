-- `sed1520::registers::Chip::after_read` meets its contract: at the stop, and below it with read-modify-write off and on.
use native.Mathlib.Omega.{arith}
use mathlib.Core.Path.{sym}
use borrow.Author.Tests.{not-true, not-false}
use Rattle.sed1520.proofs.ActionCases.{after-read-kept, after-read-counted, after-read-stopped}
use Rattle.sed1520.proofs.registers.Chip.after_read.Goals as goal
use Rattle.sed1520.proofs.registers.Chip.after_read.Goals.{then-not-self, else-not-self}

pub returns-then-self-ge-COLUMN_STOP : goal.returns-then-self-ge-COLUMN_STOP
returns-then-self-ge-COLUMN_STOP c =
    rw c.staled.ensures (sym (after-read-stopped _ _ (omega arith)))

pub returns : goal.returns
returns c =
    elim c.if-not-self.branch [
      | then-not-self w ↦
          rw (c.with_latch.ensures, w.self-is, c.load.ensures) (sym (after-read-counted _ _ (omega arith) (not-true _ w.if-not-self.true)))
      | else-not-self w ↦
          rw (c.with_latch.ensures, w.self-is, c.load.ensures) (sym (after-read-kept _ _ (omega arith) (not-false _ w.if-not-self.false)))
    ]
