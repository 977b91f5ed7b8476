-- Each pixel in its bit of its byte.
use Prim.Native.Nat.{ℕ, ◌+◌, ◌*◌, ◌/◌, ◌%◌, ◌^◌, ◌<◌}
use native.Mathlib.Omega.{arith}
use mathlib.Core.Path.{◌≡◌}
use mathlib.Core.Bool.{not, ◌&&◌}
use mathlib.Core.List.{List}
use lib.Dec.{leb}
use Rattle.panel.specs.Panel.{chip_at, ram_at}
use Rattle.sed1520.specs.declared.registers.Chip.{Chip}
use Rattle.basics.proofs.Tests.{when}
use Rattle.frame.specs.Frame.{segments, pixel, frame_byte}
use Rattle.frame.specs.Laws.{EveryPixelPlaced}
use Rattle.frame.proofs.Packing.{packed-bit}
use Rattle.frame.proofs.Places.{column-place, frame_at}

-- a pixel is 0 or 1
pub pixel-small : (c : Chip) (ram : List ℕ) (n row : ℕ) → pixel c ram n row < 2
unfolding pixel
pixel-small c ram n row =
    when Small (not c.display_on) (λ _. omega arith)
    (λ _. when Small c.static_on (λ _. omega arith)
    (λ _. when Small (not c.duty_32 && leb 16 row) (λ _. omega arith) (λ _. omega arith)))
  where
    Small : ℕ → Type 0
    Small k = k < 2

pub byte-bit : (c : Chip) (ram : List ℕ) (n r b : ℕ) → b < 8 → frame_byte c ram n r / 2 ^ b % 2 ≡ pixel c ram n (8 * r + b)
unfolding frame_byte
byte-bit c ram n r b h = packed-bit (pixel c ram n) (pixel-small c ram n) 8 (8 * r) b h

pub every-pixel-placed : EveryPixelPlaced
every-pixel-placed p x r b column row bit =
    let k = x / segments in
    let byte = rw (column-place x r column) at (frame_at p k (x % segments) r (omega arith) row) in
    rw byte (byte-bit (chip_at p k) (ram_at p k) (x % segments) r b bit)
