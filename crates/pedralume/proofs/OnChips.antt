-- The calls that take the chips' bytes and fill a buffer: number 1 by the length of these bytes, and the callee's answer past it.
use Prim.Native.Nat.{ℕ}
use mathlib.Core.Path.{◌≡◌}
use mathlib.Core.List.{List}
use lib.ListN.{length}
use borrow.Author.Tests.{eq-eqb, ne_eqb}
use Rattle.panel.specs.Chips.{chips_in}
use Rattle.basics.specs.Verdict.{CallResult}
use Rattle.sed1520.specs.declared.registers.Chip.{Chip}
use Rattle.frame.proofs.FrameCases as frame
use Rattle.repaint.proofs.RepaintCases as repaint
use Rattle.repaint.proofs.SparingCases as sparing
use Rattle.visible.proofs.ChangesCases as changes
use Rattle.std.proofs.lemmas.Bool.Decides.{nat_tests}
use Rattle.pedralume.specs.Call.{packed_with, on_chips}

module _ (chips buffer : List ℕ) (call : Chip → Chip → CallResult ℕ (List ℕ)) where
  pub wrong-length : (length chips ≡ 24 → ⊥) → on_chips chips buffer call ≡ packed_with buffer 1 0
  unfolding on_chips
  wrong-length h = rw (ne_eqb (length chips) 24 h)

  pub on-chips : length chips ≡ 24 → on_chips chips buffer call ≡ call (chips_in chips).left (chips_in chips).right
  unfolding on_chips
  on-chips h = rw (eq-eqb (length chips) 24 h)

-- what the search needs at these calls: tests of numbers, and that the place that each callee gives fits
pub ruleset call_cases = (nat_tests, frame.places-small, repaint.places-small, sparing.places-small, changes.places-small)
