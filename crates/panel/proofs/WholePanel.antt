-- Either chip of a whole panel fits its half of the image.
use Prim.Native.Nat.{ℕ}
use mathlib.Core.Path.{◌≡◌}
use mathlib.Core.Bool.{true}
use lib.Dec.{eqb}
use Rattle.basics.proofs.Halves.{part_length}
use Rattle.basics.proofs.Tests.{when}
use Rattle.sed1520.specs.Chip.{in_range}
use Rattle.sed1520.specs.Laws.{Fit}
use Rattle.panel.specs.Panel.{Panel, chip_at, ram_at, Whole}
use Rattle.sed1520.specs.declared.registers.Chip.{Chip}

pub whole-fit : (p : Panel) → Whole p → (k : ℕ) → Fit (chip_at p k) (ram_at p k)
whole-fit p whole k =
    record {
      range = when (λ (c : Chip). in_range c ≡ true) (eqb k 0) (λ _. whole.left) (λ _. whole.right);
      bytes = part_length 320 k p.ram whole.image;
    }
