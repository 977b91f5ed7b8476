-- The checked examples of document 01, P1 to P12 (P3 as request C-15 changes it), under one statement.
use Rattle.std.specs.Prelude.{ℕ, ◌≡◌, true, false, List, [], ◌∷◌, length, take, drop}
use Rattle.sed1520.specs.declared.registers.Chip.{Chip}
use Rattle.frame.specs.Examples.{FrameExamples}
use Rattle.repaint.specs.Repaint.{repaint_sizes_wrong, repaint_of}
use Rattle.repaint.specs.TearFree.{Ready}

-- the setting of P12: both chips ready, both start lines 0, left chip reverse; picture and output buffer of the right sizes
pub record LeftReverse (left right : Chip) (picture buffer : List ℕ) : Type 0 where
  pub left-ready : Ready left
  pub right-ready : Ready right
  pub left-line : left.start_line ≡ 0
  pub right-line : right.start_line ≡ 0
  pub reverse : left.reverse ≡ true
  pub sizes : repaint_sizes_wrong (length picture) (length buffer) ≡ false

-- examples P1 to P11, and of P12 the first two records and the last two
pub record Examples : Type 0 where
  pub frame : FrameExamples
  pub p12-first : (left right : Chip) (picture buffer : List ℕ) → LeftReverse left right picture buffer
      → take 8 (repaint_of left right picture buffer).lent ≡ 0x02 ∷ 0x00 ∷ 0xBA ∷ 0x00 ∷ 0x02 ∷ 0x00 ∷ 0x13 ∷ 0x00 ∷ []
  pub p12-last : (left right : Chip) (picture buffer : List ℕ) → LeftReverse left right picture buffer
      → take 8 (drop 1008 (repaint_of left right picture buffer).lent) ≡ 0x02 ∷ 0x00 ∷ 0xD0 ∷ 0x00 ∷ 0x02 ∷ 0x01 ∷ 0xD0 ∷ 0x00 ∷ []
