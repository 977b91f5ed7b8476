-- `repaint::sparing_page::HeldPage::put_changed` meets its contract: nothing, or the page and then the columns.
use Rattle.std.proofs.Common.{arith, [], ◌∷◌}
use mathlib.Core.Path.{refl}
use mathlib.Core.List.{flat_map}
use Rattle.basics.proofs.Filling.{begun_first}
use Rattle.sed1520.specs.Records.{records_bytes}
use Rattle.frame.specs.Frame.{segments}
use Rattle.repaint.specs.Repaint.{page_set}
use Rattle.repaint.specs.Sparing.{chosen_page}
use Rattle.repaint.proofs.Bytes.{changed, columns_to, columns-bytes, begun-put, begun-front}
use Rattle.repaint.proofs.ChosenColumns.{some-counted}
use Rattle.repaint.proofs.NextColumn.{Next, next-is}
use Rattle.repaint.proofs.sparing_page.HeldPage.put_changed.Goals as goal

pub overflow_add-result : goal.overflow_add-result
overflow_add-result c = omega (arith, columns-bytes c.args.self.now.page.chip _ _ _ _ _ c.put_columns.ensures)

pub returns : goal.returns
unfolding chosen_page flat_map
returns c =
    let page = c.args.self.now.page in
    let test = changed c.args.self.now in
    let first : Next test 0 segments c.next_changed-first.result = next-is test 0 segments c.next_changed-first.ensures in
    let set = page_set page.chip page.which page.band in
    let one = begun_first c.args.output.now (records_bytes (set ∷ [])) refl c.put_page_set.ensures in
    let rest = columns_to c.args.self.now segments in
    rw (some-counted test c.next_changed-first.result (omega arith) (first.found (omega arith)))
    (begun-front (set ∷ rest) (begun-put (set ∷ []) rest one c.put_columns.ensures))
