-- `repaint::sparing_page::HeldPage::differs` meets its contract.
use Rattle.std.proofs.Common.{arith, ◌+◌}
use Rattle.sed1520.proofs.Cells.{within-ram}
use Rattle.repaint.specs.Repaint.{hidden_page, lowest_column}
use Rattle.repaint.proofs.Small.{page-small, column-small}
use Rattle.repaint.proofs.sparing_page.HeldPage.differs.Goals as goal

pub bounds-self-index : goal.bounds-self-index
bounds-self-index c =
    let page = c.args.self.now.page in
    let at = rw (c.number.ensures, c.lowest_column.ensures) at c.index.ensures in
    let below =
    within-ram (hidden_page page.chip page.band) (lowest_column page.chip + c.args.j) (page-small page.chip page.band page.band_bound)
    (omega (arith, column-small page.chip, c.requires)) in
    omega (arith, at, below, c.args.self.now.ram_len)
