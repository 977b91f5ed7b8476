-- `repaint::sparing_page::HeldPage::next_changed` meets its contract: a search from here on finds the same column.
use Rattle.std.proofs.Common.{◌-◌, ◌≡◌}
use Rattle.frame.specs.Frame.{segments}
use Rattle.repaint.specs.Sparing.{next_column}
use Rattle.repaint.proofs.Bytes.{changed}
use Rattle.repaint.proofs.sparing_page.HeldPage.next_changed.Given as goal

abbrev pub invariant-loop-j : goal.invariant-loop-j
invariant-loop-j l = next_column (changed l.self) l.j (segments - l.j) ≡ next_column (changed l.self) l.from (segments - l.from)
