-- `repaint::chip_plan::HiddenPage::byte_of` meets its contract.
use native.Mathlib.Omega.{arith}
use Rattle.frame.proofs.Places.{place-laws}
use Rattle.repaint.proofs.Small.{segment-small}
use Rattle.repaint.proofs.chip_plan.HiddenPage.byte_of.Goals as goal

pub bounds-self-place : goal.bounds-self-place
bounds-self-place c =
    let page = c.args.self.now in
    let small = segment-small page.chip c.args.j c.requires in
    let below = place-laws.below page.which c.column_segment.result page.band 2 (rw c.column_segment.ensures small) page.band_bound in
    omega (arith, c.place.ensures, below, page.picture_len)
