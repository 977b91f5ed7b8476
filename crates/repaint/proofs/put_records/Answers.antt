-- `repaint::put_records` meets its contract, part by part.
use mathlib.Core.Path.{refl, ◌∙◌}
use Rattle.basics.proofs.Filling.{begun_first, begun-rest}
use Rattle.sed1520.specs.Records.{record_bytes}
use Rattle.repaint.specs.Repaint.{turn}
use Rattle.repaint.proofs.Bytes.{pages_bytes, in_order}
use Rattle.repaint.proofs.Counts.{pages-bytes}
use Rattle.repaint.proofs.put_records.Goals as goal

pub returns : goal.returns
returns c =
    let at = c.args in
    let picture = at.picture.now in
    let one = begun_first at.output.now (pages_bytes picture at.chips.left 0) (pages-bytes at.chips.left 0 picture) c.put_pages.ensures in
    let two = begun-rest one (pages_bytes picture at.chips.right 1) (pages-bytes at.chips.right 1 picture) c.put_pages-2.ensures in
    let three = begun-rest two (record_bytes (turn at.chips.left 0)) refl c.put_turn.ensures in
    let four = begun-rest three (record_bytes (turn at.chips.right 1)) refl c.put_turn-2.ensures in
    four.bytes ∙ rw (in_order at.chips.left at.chips.right picture)
