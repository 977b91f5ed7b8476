-- `repaint::sparing::put_sparing` meets its contract, part by part.
use Rattle.std.proofs.Common.{arith, ◌+◌, ◌≡◌, [], ◌∷◌, ◌++◌}
use mathlib.Core.List.{append_assoc}
use lib.ListN.{length-take, length-drop}
use Rattle.basics.proofs.Parts.{rest}
use Rattle.panel.specs.Panel.{as_panel, ram_at}
use Rattle.repaint.specs.Repaint.{turn}
use Rattle.repaint.specs.Sparing.{chip_records, sparing_records}
use Rattle.repaint.proofs.Bytes.{front-begun, begun-put, begun-record, begun-front, chip-bytes}
use Rattle.repaint.proofs.sparing.put_sparing.Goals as goal

pub slice_bounds-put_changed_pages-count-3 : goal.slice_bounds-put_changed_pages-count-3
slice_bounds-put_changed_pages-count-3 c = omega (arith, chip-bytes _ _ _ _ _ c.put_changed_pages-half.ensures)

pub slice_bounds-put_changed_pages-start-3 : goal.slice_bounds-put_changed_pages-start-3
slice_bounds-put_changed_pages-start-3 c = omega (arith, chip-bytes _ _ _ _ _ c.put_changed_pages-half.ensures)

pub put_changed_pages-requires-clause-page_length_in_bounds : goal.put_changed_pages-requires-clause-page_length_in_bounds
put_changed_pages-requires-clause-page_length_in_bounds c =
    simp (length-take, length-drop) (omega (arith, chip-bytes _ _ _ _ _ c.put_changed_pages-half.ensures))

pub overflow_add-pages : goal.overflow_add-pages
overflow_add-pages c = omega (arith, chip-bytes _ _ _ _ _ c.put_changed_pages-half.ensures, chip-bytes _ _ _ _ _ c.put_changed_pages.ensures)

pub slice_bounds-put_turn-count : goal.slice_bounds-put_turn-count
slice_bounds-put_turn-count c = omega (arith, chip-bytes _ _ _ _ _ c.put_changed_pages-half.ensures, chip-bytes _ _ _ _ _ c.put_changed_pages.ensures)

pub slice_bounds-put_turn-start : goal.slice_bounds-put_turn-start
slice_bounds-put_turn-start c = omega (arith, chip-bytes _ _ _ _ _ c.put_changed_pages-half.ensures, chip-bytes _ _ _ _ _ c.put_changed_pages.ensures)

pub put_turn-requires : goal.put_turn-requires
put_turn-requires c =
    simp (length-take, length-drop)
    (omega (arith, chip-bytes _ _ _ _ _ c.put_changed_pages-half.ensures, chip-bytes _ _ _ _ _ c.put_changed_pages.ensures))

pub put_turn-requires-2 : goal.put_turn-requires-2
put_turn-requires-2 c =
    simp (length-take, length-drop)
    (omega (arith, chip-bytes _ _ _ _ _ c.put_changed_pages-half.ensures, chip-bytes _ _ _ _ _ c.put_changed_pages.ensures))

pub returns : goal.returns
unfolding sparing_records
returns c =
    let at = c.args in
    let ram = at.ram.now in
    let halves = as_panel at.chips.left at.chips.right ram in
    let lefts = chip_records at.chips.left 0 (ram_at halves 0) at.picture.now in
    let rights = chip_records at.chips.right 1 (ram_at halves 1) at.picture.now in
    let one = front-begun lefts c.put_changed_pages-half.ensures in
    let two = begun-put lefts rights one (rw (rest ram 320) at c.put_changed_pages.ensures) in
    let three = begun-record (lefts ++ rights) (turn at.chips.left 0) two c.put_turn.ensures in
    let four = begun-record ((lefts ++ rights) ++ (turn at.chips.left 0 ∷ [])) (turn at.chips.right 1) three c.put_turn-2.ensures in
    let pages = c.put_changed_pages-half.result + c.put_changed_pages.result in
    let all : pages + 4 + 4 ≡ pages + 8 = omega arith in
    rw (append_assoc (lefts ++ rights) (turn at.chips.left 0 ∷ []) (turn at.chips.right 1 ∷ []), all) at (begun-front _ four)
