-- `repaint::chip_plan::HiddenPage::put_writes` meets its contract: the writes so far are at the front.
use Prim.Native.Nat.{◌*◌}
use mathlib.Core.Path.{◌≡◌}
use lib.ListN.{length}
use Rattle.basics.proofs.Filling.{Begun}
use Rattle.repaint.proofs.Bytes.{write_of, written}
use Rattle.repaint.proofs.chip_plan.HiddenPage.put_writes.Given as goal

abbrev pub invariant-loop-j : goal.invariant-loop-j
invariant-loop-j l =
    Begun l.initial.output (written (write_of l.self) 0 l.j) (4 * l.j) l.output × (length l.output ≡ length l.initial.output)
