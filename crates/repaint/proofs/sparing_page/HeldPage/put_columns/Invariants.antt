-- `repaint::sparing_page::HeldPage::put_columns` meets its contract: the columns so far are at the front, and a run begins at the next.
use Prim.Native.Nat.{◌-◌}
use Rattle.frame.specs.Frame.{segments}
use Rattle.repaint.proofs.Bytes.{UpTo}
use Rattle.repaint.proofs.sparing_page.HeldPage.put_columns.Given as goal

abbrev pub invariant-loop-run : goal.invariant-loop-run
invariant-loop-run l = UpTo l.self l.initial.output l.run l.at l.output

abbrev pub decreases-loop-run : goal.decreases-loop-run
decreases-loop-run l = segments - l.run
