-- The examples of the frame, from the chips that the commands leave.
use Prim.Native.Nat.{ℕ}
use mathlib.Core.Path.{◌≡◌, ◌∙◌}
use Rattle.sed1520.specs.Chip.{fresh}
use Rattle.panel.specs.Panel.{Panel, chip_at, ram_at}
use Rattle.sed1520.specs.declared.registers.Chip.{Chip}
use Rattle.sed1520.proofs.Examples.{chip-examples, commanded-chips}
use Rattle.frame.specs.Frame.{pixel, frame_byte}
use Rattle.frame.specs.Examples.{HalfAll, FrameExamples}
use Rattle.frame.proofs.Segments.{segment-byte}
use Rattle.frame.proofs.Places.{frame_at}

-- a half whose segments all have one value, by the chip that drives it
half-all : (p : Panel) (chip value : ℕ) {c : Chip} → chip_at p chip ≡ c
    → ((n r : ℕ) → frame_byte c (ram_at p chip) n r ≡ value) → HalfAll p chip value
half-all p chip value e each = record { at = λ n r h l. frame_at p chip n r h l ∙ rw e (each n r) }

pub frame-examples : FrameExamples
unfolding fresh pixel
frame-examples =
    record {
      chip = chip-examples;
      p5-static = rw commanded-chips.static-display-off;
      p5-dark = λ p chip e. half-all p chip 0 (e ∙ commanded-chips.static-display-off) (segment-byte _ (ram_at p chip));
      p5-lit = λ p chip e. half-all p chip 255 (e ∙ commanded-chips.static-display-on) (segment-byte _ (ram_at p chip));
      p8-row-0 = λ ram n. rw commanded-chips.line-31;
      p8-row-1 = λ ram n. rw commanded-chips.line-31;
      p9-forward = rw commanded-chips.forward;
      p9-reverse = rw commanded-chips.reverse;
      p9-first-reverse = rw commanded-chips.reverse;
    }
