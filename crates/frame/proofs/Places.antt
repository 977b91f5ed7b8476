-- Where a byte of a frame stands: the laws of the places, and the byte that a frame has there.
use Prim.Native.Nat.{ℕ, ◌+◌, ◌-◌, ◌*◌, ◌/◌, ◌%◌, ◌<◌, ◌≤◌}
use native.Mathlib.Omega.{arith}
use mathlib.Core.Path.{◌≡◌, refl, sym, ◌∙◌}
use mathlib.Core.List.{List, ◌++◌, append_assoc}
use mathlib.Core.Logic.{⊎_elim}
use lib.Dec.{eqb}
use lib.ListN.{length, get_or, take, drop, length-append, get_or-append}
use lib.Seq.{get_or-append-add, ext_get_or}
use borrow.Author.Tests.{eqb-true, eqb-false}
use Rattle.basics.specs.Halves.{part_start}
use Rattle.basics.specs.Lists.{joined}
use Rattle.basics.proofs.Halves.{start-within}
use Rattle.basics.proofs.Filling.{Begun, begun-width, begun-part}
use Rattle.basics.proofs.Parts.{rest}
use Rattle.basics.proofs.Lists.{joined-next, joined_length, joined_at, tabulated-length, tabulated-at}
use Rattle.basics.proofs.Tests.{tested, when}
use Rattle.panel.specs.Panel.{Panel, chip_at, ram_at}
use Rattle.sed1520.specs.declared.registers.Chip.{Chip}
use Rattle.frame.specs.Frame.{segments, columns, frame_length, frame_byte, half_band, frame_band, frame_of, frame_place}
use Rattle.frame.specs.Laws.{PlaceLaws}

-- the place of a column of the panel
pub column-place : (x r : ℕ) → x < columns → frame_place (x / segments) (x % segments) r ≡ x + columns * r
unfolding frame_place
column-place x r h =
    when (λ (s : ℕ). s + x % segments + columns * r ≡ x + columns * r) (eqb (x / segments) 0)
    (λ t. omega (arith, eqb-true (x / segments) 0 t))
    (λ t. omega (arith, eqb-false (x / segments) 0 t))

pub place-laws : PlaceLaws
unfolding frame_place
place-laws =
    record {
      below = λ chip n r bands h l. omega (arith, start-within segments chip (part_start segments chip) refl);
      further = λ chip n r bands. omega arith;
      every = λ i bands h. record {
        chip = i % columns / segments;
        segment = i % columns % segments;
        band = i / columns;
        either = omega arith;
        driven = omega arith;
        within = omega arith;
        here = sym (column-place (i % columns) (i / columns) (omega arith) ∙ omega arith);
      };
    }

-- a band of the frame: its length, and the byte of a segment in either half
pub half_length : (c : Chip) (ram : List ℕ) (r : ℕ) → length (half_band segments c ram r) ≡ segments
half_length c ram r = tabulated-length (λ n. frame_byte c ram n r) 0 segments

half_at : (c : Chip) (ram : List ℕ) (r n : ℕ) → n < segments → get_or (half_band segments c ram r) n 0 ≡ frame_byte c ram n r
half_at c ram r n h = let e : 0 + n ≡ n = omega arith in tabulated-at (λ n. frame_byte c ram n r) 0 segments n 0 h ∙ rw e

module _ (p : Panel) (r : ℕ) where
  abbrev left : List ℕ
  left = half_band segments p.left (ram_at p 0) r

  abbrev right : List ℕ
  right = half_band segments p.right (ram_at p 1) r

  pub band-length : length (frame_band p r) ≡ columns
  unfolding frame_band
  band-length = length-append left right ∙ rw (half_length p.left (ram_at p 0) r, half_length p.right (ram_at p 1) r)

  band-at : (k n : ℕ) → n < segments → get_or (frame_band p r) (part_start segments k + n) 0 ≡ frame_byte (chip_at p k) (ram_at p k) n r
  unfolding frame_band
  band-at k n h =
      let first = half_length p.left (ram_at p 0) r in
      let e : 0 + n ≡ n = omega arith in
      ⊎_elim
      (λ t. rw (t, e, get_or-append left right 0 n (omega arith)) (half_at p.left (ram_at p 0) r n h))
      (λ t. rw t (rw first at (get_or-append-add left right n 0) ∙ half_at p.right (ram_at p 1) r n h))
      (tested (eqb k 0))

module _ (p : Panel) where
  pub frame-length : length (frame_of p) ≡ frame_length
  unfolding frame_of
  frame-length = joined_length (frame_band p) columns (band-length p) 0 4

  pub frame_at : (chip n r : ℕ) → n < segments → r < 4
      → get_or (frame_of p) (frame_place chip n r) 0 ≡ frame_byte (chip_at p chip) (ram_at p chip) n r
  unfolding frame_of frame_place
  frame_at chip n r h l =
      let e : 0 + r ≡ r = omega arith in
      let inside = start-within segments chip (part_start segments chip) refl in
      joined_at (frame_band p) columns (band-length p) 0 4 r (part_start segments chip + n) 0 l (omega arith) ∙ rw e (band-at p r chip n h)

-- two frames with the same byte at every place of either half are the same
pub same-places : (one other : List ℕ) → length one ≡ frame_length → length other ≡ frame_length
    → ((k n r : ℕ) → k < 2 → n < segments → r < 4 → get_or one (frame_place k n r) 0 ≡ get_or other (frame_place k n r) 0) → one ≡ other
same-places one other h l at = ext_get_or 0 one other (h ∙ sym l) (λ i below. at_place i (omega arith))
  where
    at_place : (i : ℕ) → i < frame_length → get_or one i 0 ≡ get_or other i 0
    at_place i below =
        let place = place-laws.every i 4 below in
        rw place.here (at place.chip place.segment place.band place.either place.driven place.within)

-- a band more in a buffer: its left half filled, then its right one
pub band-begun : (p : Panel) (r : ℕ) {old now one two : List ℕ} → Begun old (joined (frame_band p) 0 r) (columns * r) now
    → columns * (r + 1) ≤ length old
    → let middle = columns * r + segments in let end = middle + segments in
    one ≡ half_band (length (take (middle - columns * r) (drop (columns * r) now))) p.left (ram_at p 0) r
    → let half = take (columns * r) now ++ (one ++ drop (middle - columns * r) (drop (columns * r) now)) in
    two ≡ half_band (length (take (end - middle) (drop middle half))) p.right (take (length p.ram - 320) (drop 320 p.ram)) r
    → Begun old (joined (frame_band p) 0 (r + 1)) (columns * (r + 1)) (take middle half ++ (two ++ drop (end - middle) (drop middle half)))
unfolding frame_band
band-begun p r begun room is-left is_right =
    let next : columns * (r + 1) ≡ columns * r + segments + segments = omega arith in
    let left = rw (begun-width begun segments (omega arith)) at is-left in
    let one = half_band segments p.left (ram_at p 0) r in
    let two = half_band segments p.right (ram_at p 1) r in
    let half = begun-part begun one segments (half_length _ _ r) left in
    let right = rw (begun-width half segments (omega arith), rest p.ram 320) at is_right in
    rw (joined-next (frame_band p) r, next, ← append_assoc (joined (frame_band p) 0 r) one two)
    (begun-part half two segments (half_length _ _ r) right)
