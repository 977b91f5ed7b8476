-- A panel that shows what it showed: switches, start lines and the bytes of the shown pages as they were.
use Prim.Native.Nat.{ℕ, ◌+◌, ◌/◌, ◌<◌}
use native.Mathlib.Omega.{arith}
use mathlib.Core.Path.{◌≡◌, refl, sym, ap, ◌∙◌}
use mathlib.Core.Bool.{true}
use mathlib.Core.List.{List}
use mathlib.Core.Logic.{inl, inr, ⊎_elim}
use lib.Dec.{eqb, ltb}
use lib.ListN.{length}
use borrow.Author.Tests.{eqb-true, ltb-true, ltb-false}
use Rattle.basics.proofs.Tests.{tested, either, when}
use Rattle.sed1520.specs.Chip.{in_range}
use Rattle.sed1520.specs.Memory.{byte_at}
use Rattle.panel.specs.Panel.{Panel, chip_at, ram_at}
use Rattle.sed1520.specs.Laws.{ShownRegisters, shown_by, PaintRegisters}
use Rattle.panel.specs.Panel.{Whole}
use Rattle.sed1520.specs.declared.registers.Chip.{Chip}
use Rattle.panel.proofs.WholePanel.{whole-fit}
use Rattle.frame.specs.Frame.{segments, frame_length, ram_column, frame_byte, frame_of}
use Rattle.frame.specs.Laws.{TwoPages}
use Rattle.frame.proofs.HalfLaws.{half-laws}
use Rattle.frame.proofs.Places.{same-places}
use Rattle.repaint.specs.TearFree.{Ready, BothReady, SameHalf}
use Rattle.repaint.proofs.Sides.{same-side, Moved}

-- the page that a chip shows in band r, by its start line
abbrev pub shown_page : Chip → ℕ → ℕ
shown_page c r = c.start_line / 8 + r

-- one half shows what it showed
pub record Still (c d : Chip) (ram other : List ℕ) : Type 0 where
  pub shown : shown_by c ≡ shown_by d
  pub modify : c.modify ≡ d.modify
  pub kept : (r column : ℕ) → r < 2 → column < 80 → byte_at other (shown_page c r) column ≡ byte_at ram (shown_page c r) column

-- both halves show what they showed
pub record Quiet (p q : Panel) : Type 0 where
  pub whole : Whole q
  pub still : (k : ℕ) → Still (chip_at p k) (chip_at q k) (ram_at p k) (ram_at q k)

-- ready chips, by side
pub ready_at : (p : Panel) → BothReady p → (k : ℕ) → Ready (chip_at p k)
ready_at p ready k = when Ready (eqb k 0) (λ _. ready.left) (λ _. ready.right)

pub ready-whole : (p : Panel) → BothReady p → Whole p
ready-whole p ready = record { left = ready.left.range; right = ready.right.range; image = ready.ram }

pub two-pages : (c : Chip) → Ready c → TwoPages c
two-pages c ready =
    record {
      display = ready.display;
      static = ready.static;
      duty = ready.duty;
      line =
          ⊎_elim
          (λ t. inl (eqb-true c.start_line 0 t))
          (λ t. inr (eqb-true c.start_line 16 t))
          (either (eqb c.start_line 0) (eqb c.start_line 16) ready.line);
    }

-- a chip in range with the shown registers and the mode of a ready chip is ready
pub still-ready : (c d : Chip) → Ready c → in_range d ≡ true → shown_by c ≡ shown_by d → c.modify ≡ d.modify → Ready d
still-ready c d ready range shown modify =
    record {
      range = range;
      display = ap (λ (s : ShownRegisters). s.display) (sym shown) ∙ ready.display;
      static = ap (λ (s : ShownRegisters). s.static) (sym shown) ∙ ready.static;
      duty = ap (λ (s : ShownRegisters). s.duty) (sym shown) ∙ ready.duty;
      line = let line = ap (λ (s : ShownRegisters). s.line) shown in rw (← line) ready.line;
      modify = sym modify ∙ ready.modify;
    }

module _ (p q : Panel) (ready : BothReady p) (quiet : Quiet p q) where
  pub quiet_at : (k : ℕ) → Ready (chip_at q k)
  quiet_at k =
      let still = quiet.still k in
      still-ready (chip_at p k) (chip_at q k) (ready_at p ready k) (whole-fit q quiet.whole k).range still.shown still.modify

  pub quiet-ready : BothReady q
  quiet-ready = record { left = quiet_at 0; right = quiet_at 1; ram = quiet.whole.image }

-- a panel is quiet where it begins
pub quiet-at-start : (p : Panel) → BothReady p → Quiet p p
quiet-at-start p ready = record { whole = ready-whole p ready; still = λ k. record { shown = refl; modify = refl; kept = λ r column h l. refl } }

-- a ready half that shows what it showed has the same bytes in the frame
module _ (c d : Chip) (ram other : List ℕ) (ready : Ready c) (after : Ready d) (still : Still c d ram other) (n r : ℕ) (segment : n < segments) where
  upper-same : r < 2 → frame_byte d other n r ≡ frame_byte c ram n r
  upper-same h =
      let column = ap (λ (s : ShownRegisters). s.reverse) still.shown in
      let line = ap (λ (s : ShownRegisters). s.line) still.shown in
      let kept = still.kept r (ram_column c n) h (half-laws.column c n segment) in
      half-laws.upper d other n r (two-pages d after) h
      ∙ rw (← line, ← column, kept) (sym (half-laws.upper c ram n r (two-pages c ready) h))

  pub byte-same : frame_byte d other n r ≡ frame_byte c ram n r
  byte-same =
      ⊎_elim
      (λ t. upper-same (ltb-true r 2 t))
      (λ t. let below = ltb-false r 2 t in
      half-laws.lower d other n r (two-pages d after) below ∙ sym (half-laws.lower c ram n r (two-pages c ready) below))
      (tested (ltb r 2))

pub half-same : (p q : Panel) (k : ℕ) → Ready (chip_at p k) → Ready (chip_at q k) → Still (chip_at p k) (chip_at q k) (ram_at p k) (ram_at q k)
    → SameHalf k (frame_of q) (frame_of p)
half-same p q k ready after still =
    record {
      at = λ n r h l.
          half-laws.place q k n r h l
          ∙ byte-same (chip_at p k) (chip_at q k) (ram_at p k) (ram_at q k) ready after still n r h
          ∙ sym (half-laws.place p k n r h l);
    }

-- every place of a frame lies in a half
pub halves-same : (one other : List ℕ) → SameHalf 0 one other → SameHalf 1 one other → length one ≡ frame_length → length other ≡ frame_length
    → one ≡ other
halves-same one other left right h l =
    same-places one other h l (λ k n r side segment band.
    ⊎_elim
    (λ t. let e : k ≡ 0 = omega (arith, ltb-true k 1 t) in rw e (left.at n r segment band))
    (λ t. let e : k ≡ 1 = omega (arith, ltb-false k 1 t) in rw e (right.at n r segment band))
    (tested (ltb k 1)))

pub quiet_frame : (p q : Panel) → BothReady p → Quiet p q → frame_of q ≡ frame_of p
quiet_frame p q ready quiet =
    halves-same (frame_of q) (frame_of p) (half 0) (half 1) (half-laws.whole q) (half-laws.whole p)
  where
    half : (k : ℕ) → SameHalf k (frame_of q) (frame_of p)
    half k = half-same p q k (ready_at p ready k) (quiet_at p q ready quiet k) (quiet.still k)

-- a record that leaves what its chip shows, its mode and the shown bytes leaves the panel quiet
pub quiet-moved : (p q s : Panel) (k : ℕ) (next : PaintRegisters) (bytes : List ℕ) → Quiet p q → Moved q s k next bytes
    → shown_by (chip_at q k) ≡ next.shown → (chip_at q k).modify ≡ next.modify
    → ((r column : ℕ) → r < 2 → column < 80
    → byte_at bytes (shown_page (chip_at p k) r) column ≡ byte_at (ram_at q k) (shown_page (chip_at p k) r) column)
    → Quiet p s
quiet-moved p q s k next bytes quiet move shown modify kept =
    record {
      whole = move.whole;
      still = λ j.
          ⊎_elim
          (λ e. rw e own)
          (λ d. rw (move.other-chip j d, move.other-ram j d) (quiet.still j))
          (same-side j k);
    }
  where
    own : Still (chip_at p k) (chip_at s k) (ram_at p k) (ram_at s k)
    own =
        let still = quiet.still k in
        record {
          shown = still.shown ∙ shown ∙ ap (λ (g : PaintRegisters). g.shown) (sym move.registers-after);
          modify = still.modify ∙ modify ∙ ap (λ (g : PaintRegisters). g.modify) (sym move.registers-after);
          kept = λ r column h l. rw move.ram-after (kept r column h l ∙ still.kept r column h l);
        }
