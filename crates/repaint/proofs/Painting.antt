-- Columns of a hidden page written in rising order, those that pass a test: every stop is quiet, afterwards their bytes stand in place, and every
-- other byte is as it was.
use Prim.Native.Nat.{ℕ, zero, suc, ◌+◌, ◌<◌, ◌≤◌}
use native.Mathlib.Omega.{arith}
use native.Mathlib.Numerals.{add-one}
use mathlib.Core.Path.{◌≡◌, refl, sym, ap, ◌∙◌}
use mathlib.Core.Bool.{Bool, true, false, true≢false}
use mathlib.Core.List.{List, [], ◌∷◌, ◌++◌}
use mathlib.Core.Logic.{⊎_elim}
use lib.Dec.{eqb, ltb}
use borrow.Author.Tests.{ltb-true, ltb-false}
use Rattle.basics.specs.Lists.{joined}
use Rattle.basics.proofs.Run.{Stops, stops-none, stops_first, stops_join, state-none, state-first, state-join}
use Rattle.basics.proofs.Tests.{tested}
use Rattle.sed1520.specs.Command.{first}
use Rattle.sed1520.specs.Memory.{byte_at, byte_set}
use Rattle.panel.specs.Panel.{Panel, chip_at, ram_at, outcome_of, stepped, panel_step, after}
use Rattle.sed1520.specs.Laws.{PaintRegisters, paint_registers, sent, Accepts}
use Rattle.sed1520.specs.declared.registers.Chip.{Chip}
use Rattle.sed1520.specs.declared.bus.Record.{Record}
use Rattle.sed1520.specs.declared.commands.Opcode.TheVariants.{Column}
use Rattle.sed1520.proofs.Cells.{read-written, read-other}
use Rattle.sed1520.proofs.CycleLaws.{cycle-laws}
use Rattle.panel.proofs.WholePanel.{whole-fit}
use Rattle.repaint.specs.Repaint.{hidden_page, lowest_column, column_segment, picture_byte, column_write, column_set}
use Rattle.repaint.specs.Sparing.{passes_before, column_records, chosen_columns}
use Rattle.repaint.specs.TearFree.{BothReady}
use Rattle.repaint.proofs.ChosenColumns.{column_by}
use Rattle.repaint.proofs.Sides.{Moved, taken, moved}
use Rattle.repaint.proofs.Quiet.{shown_page, Quiet, ready_at, quiet-moved}

-- paint registers with another page and column
abbrev pub moved_to : PaintRegisters → ℕ → ℕ → PaintRegisters
moved_to a page column = record { shown = a.shown; modify = a.modify; page = page; column = column }

module _ (p : Panel) where
  -- a command that sets page and column alone leaves the panel quiet
  pub record PlaceSet (t s : Panel) (k : ℕ) (r : Record) (page column : ℕ) : Type 0 where
    pub taken : (outcome_of t r).answer.number ≡ 0
    pub move : Moved t s k (moved_to (paint_registers (chip_at t k)) page column) (ram_at t k)
    pub quiet : Quiet p s

  pub place_set : (t : Panel) (k b page column : ℕ) → Quiet p t
      → Accepts (sent 2 k b) (chip_at t k) (ram_at t k) (moved_to (paint_registers (chip_at t k)) page column) (ram_at t k)
      → PlaceSet t (stepped t (sent 2 k b)) k (sent 2 k b) page column
  place_set t k b page column quiet accepts =
      let next = moved_to (paint_registers (chip_at t k)) page column in
      let move = moved t quiet.whole (sent 2 k b) next (ram_at t k) accepts in
      record {
        taken = taken t quiet.whole (sent 2 k b) next (ram_at t k) accepts;
        move = move;
        quiet = quiet-moved p t (stepped t (sent 2 k b)) k next (ram_at t k) quiet move refl refl (λ r column h l. refl);
      }

-- band r of the picture on chip k
module _
    (p : Panel) (ready : BothReady p) (picture : List ℕ) (k : ℕ) (chip : k < 2) (r : ℕ) (near : hidden_page (chip_at p k) r < 4)
    (hidden : (i : ℕ) → i < 2 → shown_page (chip_at p k) i ≡ hidden_page (chip_at p k) r → ⊥) (test : ℕ → Bool) where
  abbrev c : Chip
  c = chip_at p k

  abbrev page : ℕ
  page = hidden_page c r

  abbrev base : ℕ
  base = lowest_column c

  abbrev byte : ℕ → ℕ
  byte j = picture_byte picture k (column_segment c j) r

  abbrev set : ℕ → Record
  set = column_set c k

  abbrev write : ℕ → Record
  write = column_write c k picture r

  -- the chip is at the page, and at column j where the one before it was written
  pub record Stands (q : Panel) (j : ℕ) : Type 0 where
    pub at-page : (chip_at q k).page ≡ page
    pub at-column : passes_before test j ≡ true → (chip_at q k).column ≡ base + j

  -- what the records of n columns from column j on leave
  pub record Wrote (rs : List Record) (q s : Panel) (j n : ℕ) : Type 0 where
    pub stops : Stops panel_step (Quiet p) q rs
    pub quiet : Quiet p s
    pub stands : Stands s (j + n)
    pub written : (i : ℕ) → j ≤ i → i < j + n → test i ≡ true → byte_at (ram_at s k) page (base + i) ≡ byte i
    pub kept : (page' column : ℕ) → column < 80
        → ((i : ℕ) → j ≤ i → i < j + n → test i ≡ true → page' ≡ page → column ≡ base + i → ⊥)
        → byte_at (ram_at s k) page' column ≡ byte_at (ram_at q k) page' column
    pub other-ram : (i : ℕ) → (eqb i 0 ≡ eqb k 0 → ⊥) → ram_at s i ≡ ram_at q i

  -- the write of a column that passes, where the chip stands at it
  module _
      (q : Panel) (j : ℕ) (quiet : Quiet p q) (at-page : (chip_at q k).page ≡ page) (at-column : (chip_at q k).column ≡ base + j)
      (below : base + j < 80) (passes : test j ≡ true) where
    abbrev bytes : List ℕ
    bytes = byte_set (ram_at q k) page (base + j) (byte j)

    abbrev next : PaintRegisters
    next = moved_to (paint_registers (chip_at q k)) page (base + j + 1)

    accepts : Accepts (write j) (chip_at q k) (ram_at q k) next bytes
    accepts =
        rw (at-page, at-column)
        at (cycle-laws.data-write (chip_at q k) (ram_at q k) (whole-fit q quiet.whole k) k chip (byte j) (omega (arith, at-column)))

    write-moved : Moved q (stepped q (write j)) k next bytes
    write-moved = moved q quiet.whole (write j) next bytes accepts

    write-quiet : Quiet p (stepped q (write j))
    write-quiet =
        quiet-moved p q (stepped q (write j)) k next bytes quiet write-moved refl refl
        (λ i column h l. read-other (ram_at q k) page (base + j) (byte j) below _ column l (λ e _. hidden i h e))

    one_written : Wrote (write j ∷ []) q (after q (write j ∷ [])) j 1
    one_written =
        let accepted = taken q quiet.whole (write j) next bytes accepts in
        let column = ap (λ (g : PaintRegisters). g.column) write-moved.registers-after in
        rw (state-first panel_step q (write j) [] accepted, state-none panel_step (stepped q (write j)))
        (record {
          stops = stops_first panel_step quiet accepted (stops-none panel_step write-quiet);
          quiet = write-quiet;
          stands = record { at-page = ap (λ (g : PaintRegisters). g.page) write-moved.registers-after; at-column = λ _. omega (arith, column) };
          written = λ i l h t.
              let e : i ≡ j = omega arith in
              rw (e, write-moved.ram-after)
              (read-written (ram_at q k) page (base + j) (byte j) below (whole-fit q quiet.whole k).bytes near);
          kept = λ page' column h d.
              rw write-moved.ram-after
              (read-other (ram_at q k) page (base + j) (byte j) below page' column h (λ e at. d j (omega arith) (omega arith) passes e at));
          other-ram = write-moved.other-ram;
        })

  -- columns none of which passes
  none_written : (q : Panel) (j n : ℕ) → Quiet p q → Stands q (j + n) → ((i : ℕ) → j ≤ i → i < j + n → test i ≡ true → ⊥)
      → Wrote [] q (after q []) j n
  none_written q j n quiet stands none =
      rw (state-none panel_step q)
      (record {
        stops = stops-none panel_step quiet;
        quiet = quiet;
        stands = stands;
        written = λ i l h t. absurd (none i l h t);
        kept = λ page' column h d. refl;
        other-ram = λ i d. refl;
      })

  -- a column set, then records that leave this
  set_first : (q : Panel) (j n : ℕ) {rs : List Record} {page' column : ℕ} → Quiet p q
      → PlaceSet p q (stepped q (set j)) k (set j) page' column
      → Wrote rs (stepped q (set j)) (after (stepped q (set j)) rs) j n → Wrote (set j ∷ rs) q (after q (set j ∷ rs)) j n
  set_first q j n {rs} quiet first rest =
      rw (state-first panel_step q (set j) rs first.taken)
      (record {
        stops = stops_first panel_step quiet first.taken rest.stops;
        quiet = rest.quiet;
        stands = rest.stands;
        written = rest.written;
        kept = λ page' column h d. rest.kept page' column h d ∙ rw first.move.ram-after;
        other-ram = λ i d. rest.other-ram i d ∙ first.move.other-ram i d;
      })

  -- one column
  one-column : (before here : Bool) (q : Panel) (j : ℕ) → passes_before test j ≡ before → test j ≡ here → Quiet p q → Stands q j → base + j < 80
      → Wrote (column_by c k picture r before here j) q (after q (column_by c k picture r before here j)) j 1
  one-column before false q j was is quiet stands below =
      none_written q j 1 quiet
      (record { at-page = stands.at-page; at-column = λ t. absurd (true≢false (sym t ∙ rw (add-one j) is)) })
      (λ i l h t. let e : i ≡ j = omega arith in true≢false (sym t ∙ rw e is))
  one-column true true q j was is quiet stands below = one_written q j quiet stands.at-page (stands.at-column was) below is
  one-column false true q j was is quiet stands below =
      let off = sym (quiet.still k).modify ∙ (ready_at p ready k).modify in
      let placed =
      place_set p q k (first Column + (base + j)) (chip_at q k).page (base + j) quiet
      (cycle-laws.column-set (chip_at q k) (ram_at q k) (whole-fit q quiet.whole k) k chip (base + j) below off) in
      let registers = placed.move.registers-after in
      set_first q j 1 quiet placed
      (one_written (stepped q (set j)) j placed.quiet
      (ap (λ (g : PaintRegisters). g.page) registers ∙ stands.at-page) (ap (λ (g : PaintRegisters). g.column) registers) below is)

  -- one column, then others
  column-joined : {rs more : List Record} {q t s : Panel} {j n : ℕ} → t ≡ after q rs → base + j < 80
      → Wrote rs q t j 1 → Wrote more t s (j + 1) n → Wrote (rs ++ more) q s j (suc n)
  column-joined {rs} {more} {q} {t} {s} {j} {n} is-t below one rest =
      let all : j + 1 + n ≡ j + suc n = omega arith in
      record {
        stops = stops_join panel_step one.stops (rw is-t at rest.stops);
        quiet = rest.quiet;
        stands = rw all at rest.stands;
        written = λ i l h passes.
            ⊎_elim
            (λ u. let e : i ≡ j = omega (arith, ltb-true i (j + 1) u) in
            rest.kept page (base + i) (omega arith) (λ m from _ _ _ at. omega arith) ∙ one.written i l (omega arith) passes)
            (λ u. rest.written i (omega (arith, ltb-false i (j + 1) u)) (omega arith) passes)
            (tested (ltb i (j + 1)));
        kept = λ page' column h d.
            rest.kept page' column h (λ i l u. d i (omega arith) (omega arith))
            ∙ one.kept page' column h (λ i l u. d i (omega arith) (omega arith));
        other-ram = λ i d. rest.other-ram i d ∙ one.other-ram i d;
      }

  pub wrote : (n j : ℕ) (q : Panel) → Quiet p q → Stands q j → base + (j + n) ≤ 80
      → Wrote (chosen_columns c k picture r test j n) q (after q (chosen_columns c k picture r test j n)) j n
  unfolding joined
  wrote zero j q quiet stands room =
      let none : j + 0 ≡ j = omega arith in none_written q j 0 quiet (rw none stands) (λ i l h. absurd (omega arith))
  wrote (suc n) j q quiet stands room =
      let one = one-column (passes_before test j) (test j) q j refl refl quiet stands (omega arith) in
      let rest = wrote n (j + 1) _ one.quiet one.stands (omega arith) in
      rw (state-join panel_step q (column_records c k picture r test j) (chosen_columns c k picture r test (j + 1) n)
      one.stops.done)
      (column-joined refl (omega arith) one rest)
