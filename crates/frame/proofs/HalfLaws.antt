-- The laws of one half.
use Prim.Native.Nat.{ℕ, ◌+◌, ◌*◌, ◌/◌, ◌%◌, ◌<◌, ◌≤◌}
use native.Mathlib.Omega.{arith}
use mathlib.Core.Path.{◌≡◌, refl, ap, ◌∙◌}
use mathlib.Core.Bool.{Bool, true, false, not, ◌&&◌}
use mathlib.Core.List.{List}
use mathlib.Core.Logic.{⊎_elim}
use lib.Dec.{leb}
use borrow.Author.Tests.{le-leb, lt-leb}
use Rattle.basics.specs.Choice.{if}
use Rattle.sed1520.specs.Chip.{fresh, with_display, with_static, with_duty, with_reverse, with_start_line}
use Rattle.sed1520.specs.Laws.{ShownRegisters}
use Rattle.sed1520.specs.Memory.{byte_at}
use Rattle.sed1520.specs.declared.registers.Chip.{Chip}
use Rattle.frame.specs.Frame.{ram_column, line_bit, pixel, frame_byte}
use Rattle.frame.specs.Laws.{SameShown, TwoPages, HalfLaws}
use Rattle.frame.proofs.Packing.{packed-same, packed-bits}
use Rattle.frame.proofs.Pixels.{byte-bit}
use Rattle.frame.proofs.Places.{frame-length, frame_at}
use Rattle.frame.proofs.Segments.{column-near, segment-byte}

-- a pixel under equal switches, from values that are equal where RAM is shown
shown-same : (on static hidden : Bool) {a b : ℕ} → ((on && (not static && not hidden)) ≡ true → a ≡ b)
    → if (not on) 0 (if static 1 (if hidden 0 a)) ≡ if (not on) 0 (if static 1 (if hidden 0 b))
shown-same false static hidden same = refl
shown-same true true hidden same = refl
shown-same true false true same = refl
shown-same true false false same = same refl

-- a chip by the registers that are shown
abbrev showing : ShownRegisters → Chip
showing s =
    with_start_line s.line (with_reverse s.reverse (with_duty s.duty (with_static s.static (with_display s.display fresh))))

half-by-pixels : (c d : Chip) (ram other : List ℕ) (n : ℕ) → ((row : ℕ) → row < 32 → pixel c ram n row ≡ pixel d other n row)
    → (r : ℕ) → r < 4 → frame_byte c ram n r ≡ frame_byte d other n r
unfolding frame_byte
half-by-pixels c d ram other n same r h =
    packed-same 8 (pixel c ram n) (pixel d other n) (8 * r) (8 * r) (λ i l. same (8 * r + i) (omega arith))

module _ (c d : Chip) (ram other : List ℕ) (n : ℕ) (same : SameShown c d ram other n) where
  pixel-same : (row : ℕ) → row < 32 → pixel c ram n row ≡ pixel d other n row
  unfolding pixel
  pixel-same row h =
      shown-same c.display_on c.static_on (not c.duty_32 && leb 16 row) (λ on. let byte = same.bytes row h on in rw byte)
      ∙ ap (λ (s : ShownRegisters). pixel (showing s) other n row) same.registers

  half-depends : (r : ℕ) → r < 4 → frame_byte c ram n r ≡ frame_byte d other n r
  half-depends = half-by-pixels c d ram other n pixel-same

module _ (c : Chip) (ram : List ℕ) (n r : ℕ) (pages : TwoPages c) where
  half-lower : 2 ≤ r → frame_byte c ram n r ≡ 0
  half-lower h = rw (segment-byte c ram n r, pages.display, pages.static, pages.duty, le-leb 2 r h)

  half-upper : r < 2 → frame_byte c ram n r ≡ byte_at ram (c.start_line / 8 + r) (ram_column c n) % 256
  half-upper h =
      let line = c.start_line in
      let whole : line % 8 ≡ 0 = ⊎_elim (λ e. omega arith) (λ e. omega arith) pages.line in
      let near : line ≤ 16 = ⊎_elim (λ e. omega arith) (λ e. omega arith) pages.line in
      rw (segment-byte c ram n r, pages.display, pages.static, pages.duty, lt-leb 2 r h)
      (packed-bits 8 (line_bit ram (ram_column c n)) (line + 8 * r) (byte_at ram (line / 8 + r) (ram_column c n))
      (λ i l.
      let page : (line + 8 * r + i) % 32 / 8 ≡ line / 8 + r = omega arith in
      let bit : (line + 8 * r + i) % 8 ≡ i = omega arith in
      rw (page, bit)))

pub half-laws : HalfLaws
half-laws =
    record {
      column = λ c n h. column-near c n (omega arith);
      whole = frame-length;
      place = frame_at;
      pixels = λ c d ram other n row h same. pixel-same c d ram other n same row h;
      by-pixels = half-by-pixels;
      bit = byte-bit;
      depends = λ c d ram other n r h same. half-depends c d ram other n same r h;
      upper = half-upper;
      lower = half-lower;
    }
