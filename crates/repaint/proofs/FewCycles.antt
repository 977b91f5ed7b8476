-- How many cycles a sparing repaint takes: as many as its rule counts, no more than the repaint, two where nothing differs.
use Prim.Native.Nat.{ℕ, ◌<◌}
use native.Mathlib.Omega.{arith}
use mathlib.Core.Path.{◌≡◌, refl, sym, ap, ◌∙◌}
use mathlib.Core.Bool.{false, not}
use mathlib.Core.List.{List, []}
use borrow.Author.Tests.{eq-eqb}
use Rattle.panel.specs.Panel.{Panel, chip_at, ram_at}
use Rattle.frame.specs.Frame.{segments}
use Rattle.repaint.specs.Repaint.{column_segment, picture_byte}
use Rattle.repaint.specs.Sparing.{differs, chosen_page, sparing_pages, sparing_records, sparing_quiet}
use Rattle.repaint.specs.SparingPromises.{BandHeld, CyclesCounted, EqualTakesTwo, NeverMore}
use Rattle.repaint.proofs.Small.{segment-small}
use Rattle.repaint.proofs.ChosenColumns.{none-chosen}
use Rattle.repaint.proofs.Counts.{sparing-length, sparing-few}
use Rattle.repaint.proofs.Page.{column-shown}
use Rattle.repaint.proofs.ReadyChips.{ready-outcome, sparing-outcome}
use Rattle.repaint.proofs.SparingCases.{cycles-counted}

pub all-cycles-counted : CyclesCounted
all-cycles-counted = record { counted = cycles-counted; at_most = λ p picture. omega (arith, sparing-few p picture) }

pub never-more : NeverMore
never-more p ready picture one other sizes sizes' =
    rw (sparing-outcome p ready picture one sizes, ready-outcome p.left p.right ready.left ready.right picture other sizes')
    (omega (arith, sparing-few p picture))

-- no column differs from a band that is held
module _ (p : Panel) (picture : List ℕ) (held : (k r : ℕ) → k < 2 → r < 2 → BandHeld (chip_at p k) k picture r (ram_at p k)) where
  no_difference : (k r : ℕ) → k < 2 → r < 2 → (j : ℕ) → j < segments → differs (chip_at p k) k (ram_at p k) picture r j ≡ false
  no_difference k r side band j h =
      let c = chip_at p k in
      let n = column_segment c j in
      let same = (held k r side band).byte n (segment-small c j h) in
      rw (← column-shown c j h, same) (ap not (eq-eqb (picture_byte picture k n r) (picture_byte picture k n r) refl))

  none-sent : (k r : ℕ) → k < 2 → r < 2 → chosen_page (chip_at p k) k picture r (differs (chip_at p k) k (ram_at p k) picture r) ≡ []
  none-sent k r side band = none-chosen (differs (chip_at p k) k (ram_at p k) picture r) (chip_at p k) k picture r (no_difference k r side band)

  nothing-sent : sparing_pages p picture ≡ []
  nothing-sent =
      rw (
        none-sent 0 0 (omega arith) (omega arith),
        none-sent 0 1 (omega arith) (omega arith),
        none-sent 1 0 (omega arith) (omega arith),
        none-sent 1 1 (omega arith) (omega arith),
      )

pub equal-takes-two : EqualTakesTwo
unfolding sparing_records
equal-takes-two p ready picture buffer sizes held =
    let none = nothing-sent p picture held in
    let quiet : sparing_quiet p picture ≡ 0 = sym (sparing-length p picture) ∙ rw none in
    sparing-outcome p ready picture buffer sizes ∙ rw (quiet, none)
