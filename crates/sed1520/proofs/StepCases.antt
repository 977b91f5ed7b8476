-- Which action a record asks for, and what refuses it, as equations of `step_of` and `cycle_of`.
use Prim.Native.Nat.{ℕ, ◌<◌, ◌≤◌}
use native.Mathlib.Omega.{arith}
use mathlib.Core.Path.{◌≡◌, refl, ◌∙◌}
use mathlib.Core.Bool.{Bool, true, false, not, ◌||◌, or-true}
use mathlib.Core.List.{List}
use mathlib.Core.Logic.{⊎_elim}
use lib.Dec.{leb, eqb}
use lib.ListN.{length}
use borrow.Author.Tests.{le-leb, lt-leb, leb-true, leb-false, eq-eqb, ne_eqb, eqb-false}
use Rattle.basics.specs.Choice.{if}
use Rattle.basics.proofs.Tests.{tested, neither, no_other}
use Rattle.sed1520.specs.Chip.{in_range}
use Rattle.sed1520.specs.Cycle.{bus_refusal, outcome, refusal, command_write, data_write, data_read, status_read}
use Rattle.sed1520.specs.Cycle.{read_line, write_line, action_of, step_of, cycle_of}
use Rattle.sed1520.specs.declared.registers.Chip.{Chip}
use Rattle.sed1520.specs.declared.bus.Record.{Record}
use Rattle.sed1520.specs.Promises.{EveryCycleSteps}

-- the four values of the control lines that ask for an action
module _ (r : Record) (c : Chip) (ram : List ℕ) where
  pub action-command : r.lines ≡ 2 → action_of r c ram ≡ outcome (command_write r.byte c) ram
  unfolding action_of
  action-command h = rw h

  pub action-data-write : r.lines ≡ 3 → action_of r c ram ≡ data_write r.chip r.byte c ram
  unfolding action_of
  action-data-write h = rw h

  pub action-status : r.lines ≡ 4 → action_of r c ram ≡ outcome (status_read c) ram
  unfolding action_of
  action-status h = rw h

  pub action-data-read : r.lines ≡ 5 → action_of r c ram ≡ outcome (data_read c ram) ram
  unfolding action_of
  action-data-read h = rw h

-- what refuses a bus record before any action: numbers 4 (by a spare line, by the fourth byte), 5 and 6
module _ (r : Record) where
  pub refused-line : 8 ≤ r.lines → bus_refusal r ≡ 4
  unfolding bus_refusal
  refused-line h = rw (le-leb 8 r.lines h)

  pub refused-spare : (r.spare ≡ 0 → ⊥) → bus_refusal r ≡ 4
  unfolding bus_refusal
  refused-spare h = rw (ne_eqb r.spare 0 h, or-true (leb 8 r.lines))

  module _ (lines : r.lines < 8) (spare : r.spare ≡ 0) where
    pub refused-chip : 2 ≤ r.chip → bus_refusal r ≡ 5
    unfolding bus_refusal
    refused-chip h = rw (lt-leb 8 r.lines lines, eq-eqb r.spare 0 spare, le-leb 2 r.chip h)

    module _ (chip : r.chip < 2) where
      strobes-decide : bus_refusal r ≡ if (eqb (read_line r.lines) (write_line r.lines)) 6 0
      unfolding bus_refusal
      strobes-decide = rw (lt-leb 8 r.lines lines, eq-eqb r.spare 0 spare, lt-leb 2 r.chip chip)

      pub refused-strobes : read_line r.lines ≡ write_line r.lines → bus_refusal r ≡ 6
      refused-strobes h = strobes-decide ∙ rw (eq-eqb (read_line r.lines) (write_line r.lines) h)

      pub not-refused : (read_line r.lines ≡ write_line r.lines → ⊥) → bus_refusal r ≡ 0
      not-refused h = strobes-decide ∙ rw (ne_eqb (read_line r.lines) (write_line r.lines) h)

-- below 8, RD and WR differ in 2 to 5
pub strobes-differ : (n : ℕ) → 2 ≤ n → n ≤ 5 → read_line n ≡ write_line n → ⊥
strobes-differ n l h e =
    ⊎_elim (λ t. let low = leb-true n 3 t in omega arith) (λ t. let high = leb-false n 3 t in omega arith) (tested (leb n 3))

-- a bus record that asks for an action of a chip
pub record Asks (r : Record) : Type 0 where
  pub from : 2 ≤ r.lines
  pub to : r.lines ≤ 5
  pub chip : r.chip < 2
  pub spare : r.spare ≡ 0

pub asks : (r : Record) → bus_refusal r ≡ 0 → Asks r
unfolding bus_refusal
asks r e =
    let tests = none (leb 8 r.lines || not (eqb r.spare 0)) (leb 2 r.chip) (eqb (read_line r.lines) (write_line r.lines)) e in
    let bits = neither (leb 8 r.lines) _ tests.0 in
    let lines = leb-false 8 r.lines bits.0 in
    let strobes = eqb-false (read_line r.lines) (write_line r.lines) tests.1.1 in
    record { from = omega arith; to = omega arith; chip = leb-false 2 r.chip tests.1.0; spare = no_other r.spare 0 bits.1 }
  where
    none : (a b s : Bool) → ◌≡◌ {A = ℕ} (if a 4 (if b 5 (if s 6 0))) 0 → (a ≡ false) × ((b ≡ false) × (s ≡ false))
    none true b s h = absurd (omega arith)
    none false true s h = absurd (omega arith)
    none false false true h = absurd (omega arith)
    none false false false h = (refl, (refl, refl))

module _ (r : Record) (c : Chip) (ram : List ℕ) where
  -- a bus record that is not refused, and one that is
  pub step-action : bus_refusal r ≡ 0 → step_of r c ram ≡ action_of r c ram
  unfolding step_of
  step-action e = rw e

  pub step-refused : (bus_refusal r ≡ 0 → ⊥) → step_of r c ram ≡ outcome (refusal (bus_refusal r) c) ram
  unfolding step_of
  step-refused h = rw (ne_eqb (bus_refusal r) 0 h)

  -- numbers 1 and 2, and the cycle past them
  pub cycle-length : (length ram ≡ 320 → ⊥) → cycle_of r c ram ≡ outcome (refusal 1 c) ram
  unfolding cycle_of
  cycle-length h = rw (ne_eqb (length ram) 320 h)

  pub cycle-range : length ram ≡ 320 → in_range c ≡ false → cycle_of r c ram ≡ outcome (refusal 2 c) ram
  unfolding cycle_of
  cycle-range h e = rw (eq-eqb (length ram) 320 h, e)

  pub cycle-step : length ram ≡ 320 → in_range c ≡ true → cycle_of r c ram ≡ step_of r c ram
  unfolding cycle_of
  cycle-step h e = rw (eq-eqb (length ram) 320 h, e)

pub every-cycle-steps : EveryCycleSteps
every-cycle-steps r c ram h e = cycle-step r c ram h e
