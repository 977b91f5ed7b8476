-- The 32 lines of a column as one number, from line 0 or from any other on, and the 32 pixels of a segment out of them.
use Prim.Native.Nat.{ℕ, suc, ◌+◌, ◌-◌, ◌*◌, ◌/◌, ◌%◌, ◌^◌, ◌<◌, ◌≤◌}
use native.Mathlib.Omega.{arith}
use mathlib.Core.Path.{◌≡◌, refl, sym, ◌∙◌}
use mathlib.Core.Bool.{Bool, true, false, not, ◌&&◌, or-true}
use mathlib.Core.List.{List}
use mathlib.Core.Logic.{⊎_elim}
use lib.Dec.{ltb, leb, eqb}
use lib.ListN.{length}
use lib.Pow.{shr-shr}
use borrow.Author.Tests.{ltb-true, ltb-false, le-leb, lt-leb, eq-eqb}
use Rattle.basics.specs.Choice.{if}
use Rattle.basics.specs.Verdict.{verdict}
use Rattle.basics.proofs.Table.{table-as, exactly-when}
use Rattle.basics.proofs.Tests.{tested}
use Rattle.sed1520.specs.Memory.{byte_at}
use Rattle.sed1520.specs.declared.registers.Chip.{Chip}
use Rattle.sed1520.specs.Laws.{Fit}
use Rattle.frame.specs.Frame.{segments, ram_column, line_bit, pixel, packed_pixels, segment_rows, segment_table, segment_pixels}
use Rattle.frame.specs.Laws.{SegmentNumbers}
use Rattle.frame.specs.Frame.{Segment}
use Rattle.frame.proofs.Packing.{packed-same, packed-bits, packed-bit, wide-upper, wide-lower}

-- eight pixels, and those behind them
first-eight : (f : ℕ → ℕ) (at n : ℕ) → packed_pixels f at (suc (suc (suc (suc (suc (suc (suc (suc n))))))))
    ≡ packed_pixels f at 8 + 0x100 * packed_pixels f (at + 1 + 1 + 1 + 1 + 1 + 1 + 1 + 1) n
unfolding packed_pixels
first-eight f at n = omega arith

module _ (ram : List ℕ) (column : ℕ) where
  abbrev lit : ℕ → ℕ
  lit = line_bit ram column

  abbrev lines : ℕ
  lines = packed_pixels lit 0 32

  -- the eight lines of a page are its byte
  page-lines : (page : ℕ) → page < 4 → byte_at ram page column < 256 → packed_pixels lit (8 * page) 8 ≡ byte_at ram page column
  page-lines page h byte =
      packed-bits 8 lit (8 * page) (byte_at ram page column)
      (λ i l.
      let here : (8 * page + i) % 32 / 8 ≡ page = omega arith in
      let bit : (8 * page + i) % 8 ≡ i = omega arith in
      rw (here, bit))
      ∙ omega arith

  pub four-pages : ((page : ℕ) → byte_at ram page column < 256)
      → lines ≡ byte_at ram 0 column + 0x100 * byte_at ram 1 column + 0x10000 * byte_at ram 2 column + 0x1000000 * byte_at ram 3 column
  four-pages byte =
      rw (first-eight lit 0 24, first-eight lit 8 16, first-eight lit 16 8)
      (rw (
        page-lines 0 (omega arith) (byte 0),
        page-lines 1 (omega arith) (byte 1),
        page-lines 2 (omega arith) (byte 2),
        page-lines 3 (omega arith) (byte 3),
      ) (omega arith))

  line-bit : (k : ℕ) → k < 32 → lines / 2 ^ k % 2 ≡ lit k
  line-bit k h = let e : 0 + k ≡ k = omega arith in packed-bit lit (λ i. omega arith) 32 0 k h ∙ rw e

  lines-small : lines < 2 ^ 32
  lines-small =
      let e = packed-bits 32 lit 0 lines (λ i h. let e : 0 + i ≡ i = omega arith in rw e (sym (line-bit i h))) in
      omega (arith, e)

  same_line : (i k : ℕ) → i % 32 ≡ k % 32 → lit i ≡ lit k
  same_line i k e = let bit : i % 8 ≡ k % 8 = omega arith in rw (e, bit)

  -- the lines once more above themselves, begun at a line
  module _ (line : ℕ) where
    abbrev twice : ℕ
    twice = lines + 2 ^ 32 * lines

    low : twice % 2 ^ 32 ≡ lines
    low = omega (arith, lines-small)

    high : twice / 2 ^ 32 ≡ lines
    high = omega (arith, lines-small)

    each : (i : ℕ) → i < 32 → lit (line + i) ≡ twice / 2 ^ (line % 32) / 2 ^ i % 2
    each i h =
        let k = line % 32 + i in
        rw (shr-shr twice (line % 32) i)
        (⊎_elim
        (λ t.
        let l = ltb-true k 32 t in
        same_line (line + i) k (omega arith) ∙ (sym (line-bit k l) ∙ wide-upper 32 twice lines lines low high k l))
        (λ t.
        let l = ltb-false k 32 t in
        same_line (line + i) (k - 32) (omega arith) ∙ (sym (line-bit (k - 32) (omega arith)) ∙ wide-lower 32 twice lines lines low high k l))
        (tested (ltb k 32)))

    abbrev pub turned : ℕ
    turned = twice / 2 ^ (line % 32) % 2 ^ 32

    lines-turned : packed_pixels lit line 32 ≡ turned
    lines-turned = packed-bits 32 lit line (twice / 2 ^ (line % 32)) each

    upper-lines : packed_pixels lit line 16 ≡ turned % 2 ^ 16
    upper-lines = packed-bits 16 lit line (twice / 2 ^ (line % 32)) (λ i h. each i (omega arith)) ∙ omega arith

-- 32 pixels by what their chip's switches say
switched : (off static duty : Bool) (f : ℕ → ℕ)
    → packed_pixels (λ row. if off 0 (if static 1 (if (not duty && leb 16 row) 0 (f row)))) 0 32
    ≡ if off 0 (if static 0xFFFFFFFF (if duty (packed_pixels f 0 32) (packed_pixels f 0 16)))
unfolding packed_pixels
switched true static duty f = refl
switched false true duty f = refl
switched false false true f = refl
switched false false false f = refl

module _ (c : Chip) (ram : List ℕ) (n : ℕ) where
  -- the lines that a segment shows, from its chip's start line on
  abbrev shown : ℕ → ℕ
  shown = packed_pixels (line_bit ram (ram_column c n)) c.start_line

  from_start : (rows : ℕ) → packed_pixels (λ row. line_bit ram (ram_column c n) (c.start_line + row)) 0 rows ≡ shown rows
  from_start rows =
      packed-same rows (λ row. line_bit ram (ram_column c n) (c.start_line + row)) (line_bit ram (ram_column c n)) 0 c.start_line
      (λ i h. let e : 0 + i ≡ i = omega arith in rw e)

  segment-shown : segment_rows c ram n
      ≡ if (not c.display_on) 0 (if c.static_on 0xFFFFFFFF (if c.duty_32 (shown 32) (shown 16)))
  unfolding pixel
  segment-shown =
      switched (not c.display_on) c.static_on c.duty_32 (λ row. line_bit ram (ram_column c n) (c.start_line + row))
      ∙ rw (from_start 32, from_start 16)

  pub segment-dark : not c.display_on ≡ true → segment_rows c ram n ≡ 0
  segment-dark off = segment-shown ∙ rw off

  module _ (on : not c.display_on ≡ false) where
    pub segment-lit : c.static_on ≡ true → segment_rows c ram n ≡ 0xFFFFFFFF
    segment-lit static = segment-shown ∙ rw (on, static)

    module _ (ram-shown : c.static_on ≡ false) where
      pub segment-lines : c.duty_32 ≡ true → segment_rows c ram n ≡ turned ram (ram_column c n) c.start_line
      segment-lines duty = segment-shown ∙ rw (on, ram-shown, duty) (lines-turned ram (ram_column c n) c.start_line)

      pub segment-upper : c.duty_32 ≡ false → segment_rows c ram n ≡ turned ram (ram_column c n) c.start_line % 2 ^ 16
      segment-upper duty = segment-shown ∙ rw (on, ram-shown, duty) (upper-lines ram (ram_column c n) c.start_line)

  -- a segment that its chip does not drive has no pixels, and one that it drives those of its rows
  pub no-segment : segments ≤ n → (segment_pixels c ram n).pixels ≡ 0
  unfolding segment_pixels
  no-segment past = rw (le-leb segments n past, or-true (not (eqb (length ram) 320)))

  pub rows-packed : Fit c ram → n < segments → (segment_pixels c ram n).pixels ≡ segment_rows c ram n
  unfolding segment_pixels
  rows-packed fit driven = rw (eq-eqb (length ram) 320 fit.bytes, lt-leb segments n driven, fit.range)

pub segment-numbers : SegmentNumbers
unfolding segment_pixels
segment-numbers c ram n =
    rw (table-as (λ (s : Segment). verdict s.number 0) (segment_table c ram n) (λ number at. refl) refl)
    (exactly-when (segment_table c ram n) (verdict 0 0))
