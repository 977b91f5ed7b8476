-- `repaint::sparing_page::put_changed_pages` meets its contract: the lower page, then the upper one.
use Rattle.std.proofs.Common.{arith, ℕ, List, ◌++◌}
use lib.ListN.{length-take, length-drop}
use Rattle.sed1520.specs.declared.bus.Record.{Record}
use Rattle.repaint.specs.Sparing.{differs, chosen_page}
use Rattle.repaint.proofs.Bytes.{front-begun, begun-put, begun-front, chosen-bytes}
use Rattle.repaint.proofs.sparing_page.put_changed_pages.Goals as goal

pub slice_bounds-put_changed-count : goal.slice_bounds-put_changed-count
slice_bounds-put_changed-count c = omega (arith, chosen-bytes _ _ _ _ _ _ c.put_changed-first.ensures)

pub slice_bounds-put_changed-start : goal.slice_bounds-put_changed-start
slice_bounds-put_changed-start c = omega (arith, chosen-bytes _ _ _ _ _ _ c.put_changed-first.ensures)

pub put_changed-requires : goal.put_changed-requires
put_changed-requires c =
    simp (length-take, length-drop) (omega (arith, chosen-bytes _ _ _ _ _ _ c.put_changed-first.ensures))

pub overflow_add-result : goal.overflow_add-result
overflow_add-result c = omega (arith, chosen-bytes _ _ _ _ _ _ c.put_changed-first.ensures, chosen-bytes _ _ _ _ _ _ c.put_changed.ensures)

pub returns : goal.returns
returns c =
    let at = c.args in
    let page : ℕ → List Record =
    λ r. chosen_page at.chip at.which at.picture.now r (differs at.chip at.which at.ram.now at.picture.now r)
    in
    begun-front (page 0 ++ page 1)
    (begun-put (page 0) (page 1) (front-begun (page 0) c.put_changed-first.ensures) c.put_changed.ensures)
