-- One hidden page of either chip, of which those columns are written that pass a test and the others hold their byte already. Every stop is quiet;
-- afterwards the page holds its band of the picture, and every other byte is as it was.
use Prim.Native.Nat.{ℕ, ◌+◌, ◌-◌, ◌<◌, ◌≤◌}
use native.Mathlib.Omega.{arith}
use mathlib.Core.Path.{◌≡◌, refl, sym, ap, ◌∙◌}
use mathlib.Core.Bool.{Bool, true, false, true≢false, false≢true}
use mathlib.Core.List.{List, [], ◌∷◌}
use mathlib.Core.Logic.{⊎_elim}
use lib.Dec.{eqb}
use borrow.Author.Tests.{eqb-true}
use Rattle.basics.specs.Choice.{if}
use Rattle.basics.specs.Counts.{count_below}
use Rattle.basics.proofs.Run.{Stops, stops-none, stops_first, state-none, state-first}
use Rattle.basics.proofs.Tests.{tested}
use Rattle.sed1520.specs.Command.{first}
use Rattle.sed1520.specs.Memory.{byte_at}
use Rattle.panel.specs.Panel.{Panel, chip_at, ram_at, stepped, panel_step, after}
use Rattle.sed1520.specs.Laws.{PaintRegisters}
use Rattle.sed1520.specs.declared.registers.Chip.{Chip}
use Rattle.sed1520.specs.declared.bus.Record.{Record}
use Rattle.sed1520.specs.declared.commands.Opcode.TheVariants.{Page}
use Rattle.sed1520.proofs.CycleLaws.{cycle-laws}
use Rattle.panel.proofs.WholePanel.{whole-fit}
use Rattle.frame.specs.Frame.{segments, ram_column}
use Rattle.repaint.specs.Repaint.{hidden_page, lowest_column, column_segment, picture_byte, page_set}
use Rattle.repaint.specs.Sparing.{chosen_columns, chosen_page}
use Rattle.repaint.specs.SparingPromises.{BandHeld}
use Rattle.repaint.specs.TearFree.{Ready, BothReady}
use Rattle.repaint.proofs.Quiet.{shown_page, Quiet, ready_at, two-pages}
use Rattle.repaint.proofs.Small.{segment-small, page-small, column-small}
use Rattle.repaint.proofs.ChosenColumns.{none_passes}
use Rattle.repaint.proofs.Painting.{PlaceSet, place_set, Wrote, wrote}

-- a RAM place among the 61 that band r of the picture is written to
pub record InBand (c : Chip) (r page column : ℕ) : Type 0 where
  pub own-page : page ≡ hidden_page c r
  pub from : lowest_column c ≤ column
  pub below : column < lowest_column c + segments

-- the hidden pages follow each other
pub pages-apart : (c : Chip) (i r : ℕ) → hidden_page c i ≡ hidden_page c r → i ≡ r
pages-apart c i r e = ⊎_elim (λ t. let e' = rw t at e in omega arith) (λ t. rw t at e) (tested (eqb c.start_line 0))

-- a hidden page is not shown
page-hidden : (c : Chip) → Ready c → (i : ℕ) → i < 2 → (r : ℕ) → r < 2 → shown_page c r ≡ hidden_page c i → ⊥
page-hidden c ready i h r l e =
    ⊎_elim (λ z. let e' = rw z at e in omega arith) (λ z. let e' = rw z at e in omega arith) (two-pages c ready).line

-- segments and columns in one direction are each other's
segment-column : (c : Chip) (n : ℕ) → n < segments → ram_column c n ≡ lowest_column c + column_segment c n
segment-column c n h = at c.reverse
  where
    at : (t : Bool) → if t (79 - n) n ≡ if t (80 - segments) 0 + if t (segments - 1 - n) n
    at true = omega arith
    at false = omega arith

segment-twice : (c : Chip) (n : ℕ) → n < segments → column_segment c (column_segment c n) ≡ n
segment-twice c n h = at c.reverse
  where
    at : (t : Bool) → if t (segments - 1 - if t (segments - 1 - n) n) (if t (segments - 1 - n) n) ≡ n
    at true = omega arith
    at false = refl

pub column-shown : (c : Chip) (j : ℕ) → j < segments → ram_column c (column_segment c j) ≡ lowest_column c + j
column-shown c j h = rw (segment-column c (column_segment c j) (segment-small c j h), segment-twice c j h)

module _ (p : Panel) (ready : BothReady p) (picture : List ℕ) where
  -- what writing some columns of band r on chip k leaves
  pub record Painted (rs : List Record) (q s : Panel) (k r : ℕ) : Type 0 where
    pub stops : Stops panel_step (Quiet p) q rs
    pub quiet : Quiet p s
    pub held : BandHeld (chip_at p k) k picture r (ram_at s k)
    pub kept : (page column : ℕ) → column < 80 → (InBand (chip_at p k) r page column → ⊥)
        → byte_at (ram_at s k) page column ≡ byte_at (ram_at q k) page column
    pub other-ram : (j : ℕ) → (eqb j 0 ≡ eqb k 0 → ⊥) → ram_at s j ≡ ram_at q j

  -- the columns that pass a test, where the others hold their byte of the picture already
  module _
      (k : ℕ) (chip : k < 2) (r : ℕ) (band : r < 2) (test : ℕ → Bool) (q : Panel) (quiet : Quiet p q)
      (equal : (j : ℕ) → j < segments → test j ≡ false
      → byte_at (ram_at q k) (hidden_page (chip_at p k) r) (lowest_column (chip_at p k) + j)
      ≡ picture_byte picture k (column_segment (chip_at p k) j) r) where
    abbrev c : Chip
    c = chip_at p k

    abbrev page : ℕ
    page = hidden_page c r

    -- each column holds its byte of the picture
    band-held : (ram : List ℕ)
        → ((j : ℕ) → j < segments → byte_at ram page (lowest_column c + j) ≡ picture_byte picture k (column_segment c j) r)
        → BandHeld c k picture r ram
    band-held ram holds =
        record {
          byte = λ n h.
              rw (segment-column c n h)
              (holds (column_segment c n) (segment-small c n h) ∙ ap (λ m. picture_byte picture k m r) (segment-twice c n h));
        }

    -- no column passes
    nothing : count_below test segments ≡ 0 → Painted [] q (after q []) k r
    nothing none =
        rw (state-none panel_step q)
        (record {
          stops = stops-none panel_step quiet;
          quiet = quiet;
          held = band-held (ram_at q k) (λ j h. equal j h (none_passes test none j h));
          kept = λ page column h out. refl;
          other-ram = λ j d. refl;
        })

    -- the page, then its columns
    abbrev set-page : Record
    set-page = page_set c k r

    abbrev q₁ : Panel
    q₁ = stepped q set-page

    abbrev columns : List Record
    columns = chosen_columns c k picture r test 0 segments

    near : page < 4
    near = page-small c r band

    on-page : PlaceSet p q q₁ k set-page page (chip_at q k).column
    on-page =
        place_set p q k (first Page + page) page (chip_at q k).column quiet
        (cycle-laws.page-set (chip_at q k) (ram_at q k) (whole-fit q quiet.whole k) k chip page near)

    all-wrote : Wrote p ready picture k chip r near (page-hidden c (ready_at p ready k) r band) test columns q₁ (after q₁ columns) 0 segments
    all-wrote =
        wrote p ready picture k chip r near (page-hidden c (ready_at p ready k) r band) test segments 0 q₁ on-page.quiet
        (record {
          at-page = ap (λ (g : PaintRegisters). g.page) on-page.move.registers-after;
          at-column = λ never. absurd (false≢true never);
        })
        (omega (arith, column-small c))

    columns-held : (j : ℕ) → j < segments
        → byte_at (ram_at (after q₁ columns) k) page (lowest_column c + j) ≡ picture_byte picture k (column_segment c j) r
    columns-held j h =
        ⊎_elim
        (λ t. all-wrote.written j (omega arith) (omega arith) t)
        (λ t. all-wrote.kept page (lowest_column c + j) (omega (arith, column-small c))
        (λ i _ _ passes _ at. let e : i ≡ j = omega arith in true≢false (sym passes ∙ rw e t))
        ∙ rw on-page.move.ram-after (equal j h t))
        (tested (test j))

    something : Painted (set-page ∷ columns) q (after q (set-page ∷ columns)) k r
    something =
        rw (state-first panel_step q set-page columns on-page.taken)
        (record {
          stops = stops_first panel_step quiet on-page.taken all-wrote.stops;
          quiet = all-wrote.quiet;
          held = band-held (ram_at (after q₁ columns) k) columns-held;
          kept = λ page' column h out.
              all-wrote.kept page' column h
              (λ i _ below _ same at. out (record { own-page = same; from = omega arith; below = omega arith }))
              ∙ rw on-page.move.ram-after;
          other-ram = λ j d. all-wrote.other-ram j d ∙ on-page.move.other-ram j d;
        })

    pub painted : Painted (chosen_page c k picture r test) q (after q (chosen_page c k picture r test)) k r
    unfolding chosen_page
    painted =
        ⊎_elim
        (λ t. rw t (nothing (eqb-true (count_below test segments) 0 t)))
        (λ t. rw t something)
        (tested (eqb (count_below test segments) 0))
