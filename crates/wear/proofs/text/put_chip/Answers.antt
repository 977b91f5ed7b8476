-- `wear::text::put_chip` meets its contract. The invariant: the lines of the pages so far are put.
use Rattle.console.proofs.Puts.{no-piece, one-piece-more}
use Rattle.wear.specs.Text.{page_line}
use Rattle.wear.proofs.text.put_chip.Goals as goal

pub loop-page-init : goal.loop-page-init
loop-page-init c = no-piece (page_line c.args.wear.now c.args.chip) c.args.text.now

pub loop-page-preserved : goal.loop-page-preserved
loop-page-preserved c =
    one-piece-more (page_line c.args.wear.now c.args.chip) c.loop-page.page c.loop-page.invariant c.put_page.ensures
