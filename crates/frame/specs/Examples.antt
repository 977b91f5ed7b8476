-- The checked examples of document 01 as far as the frame goes: those of the chip, and of what a half shows after a chip's commands, over any RAM.
use Rattle.std.specs.Prelude.{ℕ, ◌/◌, ◌%◌, ◌^◌, ◌<◌, ◌≡◌, true, List, get_or}
use Rattle.sed1520.specs.Memory.{byte_at}
use Rattle.panel.specs.Panel.{Panel, chip_at}
use Rattle.sed1520.specs.Examples.{commanded, ChipExamples}
use Rattle.frame.specs.Frame.{segments, ram_column, pixel, frame_of, frame_place}

-- every byte of a chip's half has this value
pub record HalfAll (p : Panel) (chip value : ℕ) : Type 0 where
  pub at : (n r : ℕ) → n < segments → r < 4 → get_or (frame_of p) (frame_place chip n r) 0 ≡ value

-- the chip's examples with P5, P8 and P9
pub record FrameExamples : Type 0 where
  pub chip : ChipExamples
  pub p5-static : (commanded 0xAE 0xA5).static_on ≡ true
  pub p5-dark : (p : Panel) (chip : ℕ) → chip_at p chip ≡ commanded 0xAE 0xA5 → HalfAll p chip 0
  pub p5-lit : (p : Panel) (chip : ℕ) → chip_at p chip ≡ commanded 0xAF 0xA5 → HalfAll p chip 255
  pub p8-row-0 : (ram : List ℕ) (n : ℕ) → pixel (commanded 0xAF 0xDF) ram n 0 ≡ byte_at ram 3 n / 2 ^ 7 % 2
  pub p8-row-1 : (ram : List ℕ) (n : ℕ) → pixel (commanded 0xAF 0xDF) ram n 1 ≡ byte_at ram 0 n / 2 ^ 0 % 2
  pub p9-forward : ram_column (commanded 0xAF 0xA0) 60 ≡ 60
  pub p9-reverse : ram_column (commanded 0xAF 0xA1) 60 ≡ 19
  pub p9-first-reverse : ram_column (commanded 0xAF 0xA1) 0 ≡ 79
