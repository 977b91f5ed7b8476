-- `repaint::chip_plan::put_pages` meets its contract: the lower page, then the upper one.
use mathlib.Core.Path.{◌∙◌}
use Rattle.basics.proofs.Filling.{begun_first, begun-rest}
use Rattle.sed1520.specs.Records.{records_bytes}
use Rattle.sed1520.proofs.Records.{bytes-append}
use Rattle.repaint.specs.Repaint.{page_records}
use Rattle.repaint.proofs.Counts.{page-bytes}
use Rattle.repaint.proofs.chip_plan.put_pages.Goals as goal

pub returns : goal.returns
returns c =
    let at = c.args in
    let lower = page_records at.chip at.which at.picture.now 0 in
    let upper = page_records at.chip at.which at.picture.now 1 in
    let one = begun_first at.output.now (records_bytes lower) (page-bytes at.chip at.which at.picture.now 0) c.put.ensures in
    let two = begun-rest one (records_bytes upper) (page-bytes at.chip at.which at.picture.now 1) c.put-2.ensures in
    two.bytes ∙ rw (bytes-append lower upper)
