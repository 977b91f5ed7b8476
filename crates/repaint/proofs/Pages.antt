-- The four hidden pages, one after the other, are the quiet records of a plan, whichever columns are written, where the others hold their byte of
-- the picture when the repaint begins. The repaint writes all, the sparing repaint those that differ.
use Prim.Native.Nat.{ℕ, zero, suc, ◌+◌, ◌<◌}
use native.Mathlib.Omega.{arith}
use mathlib.Core.Path.{◌≡◌, refl, ◌∙◌}
use mathlib.Core.Bool.{Bool, false, true≢false, false≢true}
use mathlib.Core.List.{List, ◌++◌, append_assoc}
use borrow.Author.Tests.{eqb-true, not-false}
use Rattle.basics.proofs.Run.{Stops, stops_join, state-join}
use Rattle.sed1520.specs.Memory.{byte_at}
use Rattle.panel.specs.Panel.{Panel, chip_at, ram_at, panel_step, after}
use Rattle.sed1520.specs.declared.bus.Record.{Record}
use Rattle.frame.specs.Frame.{ram_column}
use Rattle.frame.proofs.HalfLaws.{half-laws}
use Rattle.repaint.specs.Repaint.{hidden_page, lowest_column, column_segment, picture_byte, hidden_pages}
use Rattle.repaint.specs.Sparing.{chosen_page, differs, sparing_pages}
use Rattle.repaint.specs.TearFree.{BothReady}
use Rattle.repaint.proofs.Small.{column-small}
use Rattle.repaint.proofs.Quiet.{Quiet, quiet-at-start}
use Rattle.repaint.proofs.ChosenColumns.{every, all-chosen}
use Rattle.repaint.proofs.Page.{InBand, pages-apart, Painted, painted}
use Rattle.repaint.specs.SparingPromises.{BandHeld}
use Rattle.repaint.proofs.Plan.{Plan}

module _
    (p : Panel) (ready : BothReady p) (picture : List ℕ) (test : ℕ → ℕ → ℕ → Bool)
    (equal : (k r j : ℕ) → test k r j ≡ false
    → byte_at (ram_at p k) (hidden_page (chip_at p k) r) (lowest_column (chip_at p k) + j)
    ≡ picture_byte picture k (column_segment (chip_at p k) j) r) where
  -- the records of a hidden page, by chip and band
  abbrev page : ℕ → ℕ → List Record
  page k r = chosen_page (chip_at p k) k picture r (test k r)

  -- the panel after each page
  abbrev p₁ : Panel
  p₁ = after p (page 0 0)

  abbrev p₂ : Panel
  p₂ = after p₁ (page 0 1)

  abbrev p₃ : Panel
  p₃ = after p₂ (page 1 0)

  abbrev p₄ : Panel
  p₄ = after p₃ (page 1 1)

  -- a page that holds what it held when the repaint began
  next : (k r : ℕ) → k < 2 → r < 2 → (q : Panel) → Quiet p q
      → ((column : ℕ) → column < 80
      → byte_at (ram_at q k) (hidden_page (chip_at p k) r) column ≡ byte_at (ram_at p k) (hidden_page (chip_at p k) r) column)
      → Painted p ready picture (page k r) q (after q (page k r)) k r
  next k r side band q quiet same =
      painted p ready picture k side r band (test k r) q quiet
      (λ j h t. same (lowest_column (chip_at p k) + j) (omega (arith, column-small (chip_at p k))) ∙ equal k r j t)

  -- another page of the same chip is no place of a band
  apart : (k i r : ℕ) {column : ℕ} → (i ≡ r → ⊥) → InBand (chip_at p k) r (hidden_page (chip_at p k) i) column → ⊥
  apart k i r d in-band = d (pages-apart (chip_at p k) i r in-band.own-page)

  first : Painted p ready picture (page 0 0) p p₁ 0 0
  first = next 0 0 (omega arith) (omega arith) p (quiet-at-start p ready) (λ column h. refl)

  second : Painted p ready picture (page 0 1) p₁ p₂ 0 1
  second = next 0 1 (omega arith) (omega arith) p₁ first.quiet (λ column h. first.kept _ column h (apart 0 1 0 (λ e. omega arith)))

  third : Painted p ready picture (page 1 0) p₂ p₃ 1 0
  third = next 1 0 (omega arith) (omega arith) p₂ second.quiet (λ column h. rw (second.other-ram 1 false≢true, first.other-ram 1 false≢true))

  fourth : Painted p ready picture (page 1 1) p₃ p₄ 1 1
  fourth =
      next 1 1 (omega arith) (omega arith) p₃ third.quiet
      (λ column h. third.kept _ column h (apart 1 1 0 (λ e. omega arith)) ∙ rw (second.other-ram 1 false≢true, first.other-ram 1 false≢true))

  abbrev pages : List Record
  pages = (page 0 0 ++ page 0 1) ++ (page 1 0 ++ page 1 1)

  left-painted : after p (page 0 0 ++ page 0 1) ≡ p₂
  left-painted = state-join panel_step p (page 0 0) (page 0 1) first.stops.done

  left-stops : Stops panel_step (Quiet p) p (page 0 0 ++ page 0 1)
  left-stops = stops_join panel_step first.stops second.stops

  right-stops : Stops panel_step (Quiet p) (after p (page 0 0 ++ page 0 1)) (page 1 0 ++ page 1 1)
  right-stops = rw left-painted (stops_join panel_step third.stops fourth.stops)

  all-painted : after p pages ≡ p₄
  all-painted =
      state-join panel_step p (page 0 0 ++ page 0 1) (page 1 0 ++ page 1 1) left-stops.done
      ∙ rw left-painted (state-join panel_step p₂ (page 1 0) (page 1 1) third.stops.done)

  -- each chip's RAM is as its own two pages left it
  left-ram : ram_at p₄ 0 ≡ ram_at p₂ 0
  left-ram = fourth.other-ram 0 true≢false ∙ third.other-ram 0 true≢false

  right-ram : ram_at p₂ 1 ≡ ram_at p 1
  right-ram = second.other-ram 1 false≢true ∙ first.other-ram 1 false≢true

  -- a band held before the other page of its chip is written is held after
  still-held : {rs : List Record} {q s : Panel} (k : ℕ) → Painted p ready picture rs q s k 1 → BandHeld (chip_at p k) k picture 0 (ram_at q k)
      → BandHeld (chip_at p k) k picture 0 (ram_at s k)
  still-held k other held =
      record {
        byte = λ n h. other.kept _ (ram_column (chip_at p k) n) (half-laws.column (chip_at p k) n h) (apart k 0 1 (λ e. omega arith)) ∙ held.byte n h;
      }

  bands-held : (k r : ℕ) → k < 2 → r < 2 → BandHeld (chip_at p k) k picture r (ram_at p₄ k)
  bands-held zero zero side band = rw left-ram (still-held 0 second first.held)
  bands-held zero (suc zero) side band = rw left-ram second.held
  bands-held (suc zero) zero side band = still-held 1 fourth third.held
  bands-held (suc zero) (suc zero) side band = fourth.held
  bands-held zero (suc (suc r)) side band = absurd (omega arith)
  bands-held (suc zero) (suc (suc r)) side band = absurd (omega arith)
  bands-held (suc (suc k)) r side band = absurd (omega arith)

  others-kept : (k : ℕ) → k < 2 → (page column : ℕ) → column < 80 → ((r : ℕ) → r < 2 → InBand (chip_at p k) r page column → ⊥)
      → byte_at (ram_at p₄ k) page column ≡ byte_at (ram_at p k) page column
  others-kept zero side page column h out =
      rw left-ram (second.kept page column h (out 1 (omega arith)) ∙ first.kept page column h (out 0 (omega arith)))
  others-kept (suc zero) side page column h out =
      fourth.kept page column h (out 1 (omega arith)) ∙ third.kept page column h (out 0 (omega arith)) ∙ rw right-ram
  others-kept (suc (suc k)) side page column h out = absurd (omega arith)

  pages-plan : Plan p picture pages
  pages-plan =
      record {
        quiet = stops_join panel_step left-stops right-stops;
        brought = rw all-painted (record { held = bands-held; others = others-kept });
      }

module _ (p : Panel) (ready : BothReady p) (picture : List ℕ) where
  pub whole-plan : Plan p picture (hidden_pages p.left p.right picture)
  whole-plan =
      rw (
        all-chosen p.left 0 picture 0,
        all-chosen p.left 0 picture 1,
        all-chosen p.right 1 picture 0,
        all-chosen p.right 1 picture 1,
        append_assoc,
      )
      at (pages-plan p ready picture (λ k r. every) (λ k r j never. absurd (true≢false never)))

  pub sparing-plan : Plan p picture (sparing_pages p picture)
  sparing-plan =
      pages-plan p ready picture (λ k r. differs (chip_at p k) k (ram_at p k) picture r) (λ k r j same. eqb-true _ _ (not-false _ same))
