-- The bytes that records store to: data writes to one chip, one after the other, store to the bytes from where the first stands up to where the next
-- one would; other records store to none.
use Prim.Native.Nat.{ℕ, ◌+◌, ◌≤◌}
use native.Mathlib.Omega.{arith}
use mathlib.Core.Path.{◌≡◌, refl, ◌∙◌}
use mathlib.Core.Bool.{Bool, true, false}
use mathlib.Core.List.{List, [], ◌∷◌}
use mathlib.Core.Logic.{⊎_elim}
use Rattle.std.specs.Prelude.{None, Some}
use lib.Dec.{ltb, eqb}
use borrow.Author.Tests.{eqb-true}
use Rattle.basics.specs.Choice.{if}
use Rattle.basics.specs.Counts.{lies_in}
use Rattle.basics.specs.Run.{Run, as_run, answered_first}
use Rattle.basics.proofs.Counts.{lies-in-none, lies-first}
use Rattle.basics.proofs.Run.{run-accepted, run-refused, run_none}
use Rattle.basics.proofs.RunOfPart.{Each}
use Rattle.basics.proofs.Tests.{tested, when, own-choice}
use Rattle.sed1520.specs.Cycle.{Reply}
use Rattle.sed1520.specs.Memory.{image_index}
use Rattle.sed1520.specs.Replies.{is_byte, stores_to}
use Rattle.sed1520.specs.declared.registers.Chip.{Chip}
use Rattle.sed1520.specs.declared.bus.Record.{Record}
use Rattle.sed1520.proofs.Cells.{next-cell}
use Rattle.sed1520.proofs.CycleStores.{other-says, Written, write-says}
use Rattle.panel.specs.Panel.{Panel, chip_at, ram_at, outcome_of, stepped, panel_step, panel_run}
use Rattle.panel.specs.Stores.{write_index}

pub stores-none : (i : ℕ) → stores_to i [] ≡ 0
unfolding stores_to
stores-none i = refl

pub stores-first : (i : ℕ) (a : Reply) (more : List Reply) → stores_to i (a ∷ more) ≡ if (is_byte i a.stored) 1 0 + stores_to i more
unfolding stores_to
stores-first i a more = refl

-- records of which none writes data
pub others-store : (i : ℕ) (rs : List Record) → Each (λ (r : Record). r.lines ≡ 3 → ⊥) rs → (p : Panel) → stores_to i (panel_run p rs).answers ≡ 0
unfolding outcome_of
others-store i [] each p = rw (run_none panel_step p) (stores-none i)
others-store i (r ∷ rs) each p =
    ⊎_elim
    (λ t. rw (run-accepted panel_step p r rs t)
    (stores-first i _ _
    ∙ rw (other-says r (chip_at p r.chip) (ram_at p r.chip) each.0) (omega (arith, others-store i rs each.1 (stepped p r)))))
    (λ t. rw (run-refused panel_step p r rs t) (stores-none i))
    (tested (eqb (outcome_of p r).answer.number 0))

-- a data write that stores to a byte, or to none, before those from there on
module _ (from to i : ℕ) (below : Bool) where
  abbrev next : ℕ
  next = if below (from + 1) from

  still-on : next ≤ to → from ≤ to
  still-on = when (λ n. n ≤ to → from ≤ to) below (λ _ h. omega arith) (λ _ h. h)

  one_more : next ≤ to → ◌≡◌ {A = ℕ} (if (is_byte i (if below (Some from) None)) 1 0 + if (lies_in next to i) 1 0) (if (lies_in from to i) 1 0)
  one_more = by below
    where
      by : (t : Bool) → if t (from + 1) from ≤ to
          → ◌≡◌ {A = ℕ} (if (is_byte i (if t (Some from) None)) 1 0 + if (lies_in (if t (from + 1) from) to i) 1 0) (if (lies_in from to i) 1 0)
      by true h = lies-first from to i h
      by false h = omega arith

-- what data writes to one chip store to
module _ (k : ℕ) where
  pub record StoresFrom (p : Panel) (run : Run Panel Reply) : Type 0 where
    pub page : (chip_at run.state k).page ≡ (chip_at p k).page
    pub on : write_index p k ≤ write_index run.state k
    pub stores : (i : ℕ) → stores_to i run.answers ≡ if (lies_in (write_index p k) (write_index run.state k) i) 1 0

  none-stored : (p : Panel) (n : ℕ) → StoresFrom p (as_run n [] p)
  none-stored p n = record { page = refl; on = omega arith; stores = λ i. rw (lies-in-none (write_index p k) i) (stores-none i) }

  -- an accepted data write: what it says, and where it leaves its chip
  module _ (p : Panel) (r : Record) (lines : r.lines ≡ 3) (named : r.chip ≡ k) (done : (outcome_of p r).answer.number ≡ 0) where
    abbrev below : Bool
    below = ltb (chip_at p k).column 80

    written : Written r (chip_at p r.chip) (ram_at p r.chip)
    unfolding outcome_of
    written = write-says r (chip_at p r.chip) (ram_at p r.chip) lines done

    own : chip_at (stepped p r) r.chip ≡ (outcome_of p r).answer.chip
    unfolding stepped
    own = own-choice (eqb r.chip 0) (outcome_of p r).answer.chip p.left p.right

    says : (outcome_of p r).answer.stored ≡ if below (Some (write_index p k)) None
    unfolding outcome_of
    says = rw (← named) written.says

    page-kept : (chip_at (stepped p r) k).page ≡ (chip_at p k).page
    unfolding outcome_of
    page-kept = rw (← named) (rw own written.page)

    moved : write_index (stepped p r) k ≡ if below (write_index p k + 1) (write_index p k)
    unfolding outcome_of
    moved = rw (← named) (rw (own, written.page, written.column) (rw named (counted below (chip_at p k))))
      where
        counted : (t : Bool) (c : Chip) → image_index k c.page (if t (c.column + 1) c.column)
            ≡ if t (image_index k c.page c.column + 1) (image_index k c.page c.column)
        counted true c = rw (next-cell c.page c.column) (omega arith)
        counted false c = refl

    -- and records from there on
    stored-before : (run : Run Panel Reply) → StoresFrom (stepped p r) run → StoresFrom p (answered_first (panel_step p r).answer run)
    stored-before run rest =
        let from = rw moved at rest.on in
        record {
          page = rest.page ∙ page-kept;
          on = still-on (write_index p k) _ 0 below from;
          stores = λ i. stores-first i _ _ ∙ rw (says, rest.stores i, moved) (one_more (write_index p k) _ i below from);
        }

  pub writes-store : (rs : List Record) → Each (λ (r : Record). (r.lines ≡ 3) × (r.chip ≡ k)) rs → (p : Panel) → StoresFrom p (panel_run p rs)
  writes-store [] each p = rw (run_none panel_step p) (none-stored p 0)
  writes-store (r ∷ rs) each p =
      ⊎_elim
      (λ t. rw (run-accepted panel_step p r rs t)
      (stored-before p r each.0.0 each.0.1 (eqb-true (outcome_of p r).answer.number 0 t) _ (writes-store rs each.1 (stepped p r))))
      (λ t. rw (run-refused panel_step p r rs t) (none-stored p _))
      (tested (eqb (outcome_of p r).answer.number 0))
