-- `repaint::sparing_page::HeldPage::put_run_writes` meets its contract: the writes so far are at the front, and a search for the run's end
-- from here on finds the same column.
use Rattle.repaint.proofs.Bytes.{WritesTo}
use Rattle.repaint.proofs.sparing_page.HeldPage.put_run_writes.Given as goal

abbrev pub invariant-loop-column : goal.invariant-loop-column
invariant-loop-column l = WritesTo l.self l.from l.initial.output l.column l.bytes l.output
