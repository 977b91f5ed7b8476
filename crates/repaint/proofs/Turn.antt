-- A start line turned, on either chip: the half then shows its part of the picture, dark below, and its chip is ready again.
use Prim.Native.Nat.{ℕ, ◌+◌, ◌-◌, ◌/◌, ◌%◌, ◌<◌, ◌≤◌}
use native.Mathlib.Omega.{arith}
use mathlib.Core.Path.{◌≡◌, refl, sym, ap, ◌∙◌}
use mathlib.Core.Bool.{true, ◌||◌}
use mathlib.Core.List.{List}
use mathlib.Core.Logic.{⊎_elim}
use lib.Dec.{eqb, ltb}
use lib.ListN.{length, get_or, replicate, get_or-replicate, get_or-append}
use lib.Seq.{get_or-append-add}
use borrow.Author.Tests.{ltb-true, ltb-false}
use Rattle.basics.proofs.Tests.{tested, when}
use Rattle.sed1520.specs.Chip.{with_start_line}
use Rattle.sed1520.specs.Memory.{byte_at}
use Rattle.panel.specs.Panel.{Panel, chip_at, ram_at, outcome_of, stepped}
use Rattle.sed1520.specs.Laws.{ShownRegisters, PaintRegisters, paint_registers, Accepts}
use Rattle.panel.specs.Panel.{Whole}
use Rattle.sed1520.specs.declared.registers.Chip.{Chip}
use Rattle.sed1520.proofs.CycleLaws.{cycle-laws}
use Rattle.panel.proofs.WholePanel.{whole-fit}
use Rattle.frame.specs.Frame.{segments, ram_column, frame_byte, frame_of, frame_place}
use Rattle.frame.specs.Laws.{TwoPages}
use Rattle.frame.proofs.HalfLaws.{half-laws}
use Rattle.frame.proofs.Places.{place-laws}
use Rattle.repaint.specs.Repaint.{hidden_page, picture_byte, picture_length, turned_line, turn}
use Rattle.repaint.specs.TearFree.{Ready, SameHalf, wanted}
use Rattle.repaint.proofs.Sides.{Moved, taken, moved}
use Rattle.repaint.proofs.Quiet.{shown_page, Still, two-pages}
use Rattle.repaint.proofs.Small.{line_small}
use Rattle.repaint.specs.SparingPromises.{BandHeld}

-- a chip d that was c before its start line turned, with both bands of the picture's half in RAM
pub record Turned (c : Chip) (k : ℕ) (picture : List ℕ) (d : Chip) (ram : List ℕ) : Type 0 where
  pub ready : Ready d
  pub line : d.start_line ≡ turned_line c
  pub reverse : d.reverse ≡ c.reverse
  pub bands : (r : ℕ) → r < 2 → BandHeld c k picture r ram

-- the turned start line shows the hidden pages
turned-page : (c : Chip) (r : ℕ) → turned_line c / 8 + r ≡ hidden_page c r
turned-page c r = ⊎_elim (λ t. rw t (omega arith)) (λ t. rw t (omega arith)) (tested (eqb c.start_line 0))

-- the upper bytes of the frame that a picture asks for are the picture's, the lower ones 0
module _ (picture : List ℕ) (size : length picture ≡ picture_length) (k n : ℕ) (segment : n < segments) where
  upper-wanted : (r : ℕ) → r < 2 → get_or (wanted picture) (frame_place k n r) 0 ≡ picture_byte picture k n r
  upper-wanted r h =
      let below = place-laws.below k n r 2 segment h in
      get_or-append picture (replicate picture_length 0) 0 (frame_place k n r) (omega arith)

  lower-wanted : (r : ℕ) → r < 4 → 2 ≤ r → get_or (wanted picture) (frame_place k n r) 0 ≡ 0
  lower-wanted r h l =
      let two : r ≡ 2 + (r - 2) = omega arith in
      let past = rw size at (get_or-append-add picture (replicate picture_length 0) (frame_place k n (r - 2)) 0) in
      rw (two, place-laws.further k n (r - 2) 2)
      (past ∙ get_or-replicate picture_length (frame_place k n (r - 2)) 0 0 (place-laws.below k n (r - 2) 2 segment (omega arith)))

-- a half whose start line is turned shows what the picture asks for
module _
    (c : Chip) (k : ℕ) (picture : List ℕ) (size : length picture ≡ picture_length) (bytes : (i : ℕ) → get_or picture i 0 < 256)
    (d : Chip) (ram : List ℕ) (turned : Turned c k picture d ram) (n r : ℕ) (segment : n < segments) where
  pages : TwoPages d
  pages = two-pages d turned.ready

  band-shown : r < 2 → byte_at ram (shown_page d r) (ram_column d n) ≡ picture_byte picture k n r
  band-shown h = rw (turned.line, turned.reverse, turned-page c r) ((turned.bands r h).byte n segment)

  upper : r < 2 → frame_byte d ram n r ≡ get_or (wanted picture) (frame_place k n r) 0
  upper h =
      let byte : picture_byte picture k n r % 256 ≡ picture_byte picture k n r = omega (arith, bytes (frame_place k n r)) in
      half-laws.upper d ram n r pages h ∙ rw (band-shown h) byte ∙ sym (upper-wanted picture size k n segment r h)

  wanted-byte : r < 4 → frame_byte d ram n r ≡ get_or (wanted picture) (frame_place k n r) 0
  wanted-byte h =
      ⊎_elim
      (λ t. upper (ltb-true r 2 t))
      (λ t. let l = ltb-false r 2 t in half-laws.lower d ram n r pages l ∙ sym (lower-wanted picture size k n segment r h l))
      (tested (ltb r 2))

pub half-wanted : (c : Chip) (k : ℕ) (picture : List ℕ) → length picture ≡ picture_length → ((i : ℕ) → get_or picture i 0 < 256) → (t : Panel)
    → Turned c k picture (chip_at t k) (ram_at t k) → SameHalf k (frame_of t) (wanted picture)
half-wanted c k picture size bytes t turned =
    record { at = λ n r h l. half-laws.place t k n r h l ∙ wanted-byte c k picture size bytes (chip_at t k) (ram_at t k) turned n r h l }

-- what turning the start line of chip k does to a panel q, where that chip was c when the repaint began
pub record TurnDone (c : Chip) (k : ℕ) (picture : List ℕ) (q s : Panel) : Type 0 where
  pub taken : (outcome_of q (turn c k)).answer.number ≡ 0
  pub own : Turned c k picture (chip_at s k) (ram_at s k)
  pub own-ram : ram_at s k ≡ ram_at q k
  pub whole : Whole s
  pub other-chip : (j : ℕ) → (eqb j 0 ≡ eqb k 0 → ⊥) → chip_at s j ≡ chip_at q j
  pub other-ram : (j : ℕ) → (eqb j 0 ≡ eqb k 0 → ⊥) → ram_at s j ≡ ram_at q j

module _
    (c : Chip) (ready : Ready c) (k : ℕ) (chip : k < 2) (picture : List ℕ) (q : Panel) (whole : Whole q)
    (ram : List ℕ) (still : Still c (chip_at q k) ram (ram_at q k)) (bands : (r : ℕ) → r < 2 → BandHeld c k picture r (ram_at q k)) where
  abbrev next : PaintRegisters
  next = paint_registers (with_start_line (turned_line c) (chip_at q k))

  accepts : Accepts (turn c k) (chip_at q k) (ram_at q k) next (ram_at q k)
  accepts = cycle-laws.start-line-set (chip_at q k) (ram_at q k) (whole-fit q whole k) k chip (turned_line c) (line_small c)

  move : Moved q (stepped q (turn c k)) k next (ram_at q k)
  move = moved q whole (turn c k) next (ram_at q k) accepts

  turned-ready : Ready (chip_at (stepped q (turn c k)) k)
  turned-ready =
      let after = move.registers-after in
      let shown = sym still.shown in
      let line = ap (λ (g : PaintRegisters). g.shown.line) after in
      record {
        range = (whole-fit (stepped q (turn c k)) move.whole k).range;
        display = ap (λ (g : PaintRegisters). g.shown.display) after ∙ ap (λ (s : ShownRegisters). s.display) shown ∙ ready.display;
        static = ap (λ (g : PaintRegisters). g.shown.static) after ∙ ap (λ (s : ShownRegisters). s.static) shown ∙ ready.static;
        duty = ap (λ (g : PaintRegisters). g.shown.duty) after ∙ ap (λ (s : ShownRegisters). s.duty) shown ∙ ready.duty;
        line = rw line (when (λ n. (eqb n 0 || eqb n 16) ≡ true) (eqb c.start_line 0) (λ _. refl) (λ _. refl));
        modify = ap (λ (g : PaintRegisters). g.modify) after ∙ sym still.modify ∙ ready.modify;
      }

  pub turn-done : TurnDone c k picture q (stepped q (turn c k))
  turn-done =
      let after = move.registers-after in
      record {
        taken = taken q whole (turn c k) next (ram_at q k) accepts;
        own = record {
          ready = turned-ready;
          line = ap (λ (g : PaintRegisters). g.shown.line) after;
          reverse = ap (λ (g : PaintRegisters). g.shown.reverse) after ∙ ap (λ (s : ShownRegisters). s.reverse) (sym still.shown);
          bands = λ r h. rw move.ram-after (bands r h);
        };
        own-ram = move.ram-after;
        whole = move.whole;
        other-chip = move.other-chip;
        other-ram = move.other-ram;
      }
