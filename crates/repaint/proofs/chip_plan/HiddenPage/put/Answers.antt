-- `repaint::chip_plan::HiddenPage::put` meets its contract, part by part.
use mathlib.Core.Path.{refl}
use mathlib.Core.List.{flat_map}
use Rattle.basics.proofs.Filling.{begun_first, begun-rest}
use Rattle.sed1520.specs.Records.{record_bytes}
use Rattle.frame.specs.Frame.{segments}
use Rattle.repaint.specs.Repaint.{page_set, column_set, page_records}
use Rattle.repaint.proofs.Bytes.{write_of, written, written-length}
use Rattle.repaint.proofs.chip_plan.HiddenPage.put.Goals as goal

pub returns : goal.returns
unfolding flat_map page_records
returns c =
    let page = c.args.self.now in
    let one = begun_first c.args.output.now (record_bytes (page_set page.chip page.which page.band)) refl c.put_page_set.ensures in
    let two = begun-rest one (record_bytes (column_set page.chip page.which 0)) refl c.put_column_set.ensures in
    (begun-rest two (written (write_of page) 0 segments) (written-length (write_of page) 0 segments) c.put_writes.ensures).bytes
