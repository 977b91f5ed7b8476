-- Two chips on one bus are a step by keys: a record acts on the chip that it names and on that chip's 320 bytes alone. So each chip runs by its own
-- records, in whatever order the chips' records come.
use Prim.Native.Nat.{ℕ, zero, suc, ◌<◌}
use native.Mathlib.Omega.{arith}
use mathlib.Core.Path.{◌≡◌, refl, sym, ap, ◌∙◌, subst}
use mathlib.Core.List.{◌++◌}
use mathlib.Core.Logic.{⊎_elim}
use lib.Dec.{eqb}
use lib.ListN.{length, take, drop, take-append-drop}
use borrow.Author.Tests.{eqb-true, eqb-false}
use Rattle.basics.specs.RunByKey.{OnOwnPart, StepByKey}
use Rattle.basics.proofs.RunByKey.{run-by-key, run-in-any-order}
use Rattle.basics.proofs.Tests.{tested}
use Rattle.sed1520.specs.Cycle.{ChipAndRam, as_step, chip_step}
use Rattle.sed1520.specs.declared.bus.Record.{Record}
use Rattle.sed1520.proofs.CycleNumbers.{accepted-chip}
use Rattle.panel.specs.AnyOrder.{chip_of, ChipPart, chip_and_ram, part_of_chip, alone_step, EachChipAlone, RunsInAnyOrder}
use Rattle.panel.specs.Panel.{Panel, as_panel, outcome_of, stepped, panel_step}
use Rattle.panel.specs.Promises.{Apart}
use Rattle.panel.proofs.PanelLaws.{every-record-apart}

-- there are two chips: a chip that accepts a record alone is one of them
one_of_two : (k : ℕ) (s : ChipPart k) (r : Record) → (alone_step k s r).number ≡ 0 → k < 2
one_of_two zero s r accepted = omega arith
one_of_two (suc zero) s r accepted = omega arith
one_of_two (suc (suc k)) s r accepted = absurd (omega arith)

-- of two chips with different numbers one alone is chip 0
apart : (k j : ℕ) → k < 2 → j < 2 → (j ≡ k → ⊥) → eqb k 0 ≡ eqb j 0 → ⊥
apart k j hk hj other same =
    ⊎_elim
    (λ t. let z = eqb-true j 0 t in let y = eqb-true k 0 (same ∙ t) in other (omega arith))
    (λ t. let z = eqb-false j 0 t in let y = eqb-false k 0 (same ∙ t) in other (omega arith))
    (tested (eqb j 0))

module _ (p : Panel) (image : length p.ram ≡ 640) (r : Record) where
  own : Apart p r
  own = every-record-apart p image r

  -- an accepted record names one of them
  names : (outcome_of p r).answer.number ≡ 0 → r.chip < 2
  names accepted = accepted-chip r _ _ (rw own.own-cycle at accepted)

  -- the chip that it names gives alone what the panel gives, and goes where the panel's goes
  chip-alone : (k : ℕ) → r.chip ≡ k → chip_step (chip_and_ram p k) r ≡ as_step (outcome_of p r) (chip_and_ram (stepped p r) k)
  chip-alone k e = subst (λ k. chip_step (chip_and_ram p k) r ≡ as_step (outcome_of p r) (chip_and_ram (stepped p r) k)) e
      (rw (← own.own-cycle, own.own-chip, own.own-ram))

  alone : (k : ℕ) → r.chip ≡ k → k < 2 → alone_step k (part_of_chip k p) r ≡ as_step (outcome_of p r) (part_of_chip k (stepped p r))
  alone zero e h = chip-alone 0 e
  alone (suc zero) e h = chip-alone 1 e
  alone (suc (suc k)) e h = absurd (omega arith)

  -- the other chip and its bytes stay
  other : r.chip < 2 → (k : ℕ) → (r.chip ≡ k → ⊥) → part_of_chip k (stepped p r) ≡ part_of_chip k p
  other named zero h = let d = apart 0 r.chip (omega arith) named h in rw (own.other-chip 0 d, own.other-ram 0 d)
  other named (suc zero) h = let d = apart 1 r.chip (omega arith) named h in rw (own.other-chip 1 d, own.other-ram 1 d)
  other named (suc (suc k)) h = refl

  on-own-chip : OnOwnPart panel_step chip_of ChipPart part_of_chip alone_step p r
  on-own-chip =
      record {
        accepted = (
          λ accepted. rw (alone r.chip refl (names accepted)) accepted,
          λ accepted. rw (alone r.chip refl (one_of_two r.chip _ r accepted)) at accepted,
        );
        answer = λ accepted. rw (alone r.chip refl (names accepted));
        own-part = λ accepted. rw (alone r.chip refl (names accepted));
        other-part = λ accepted. other (names accepted);
      }

-- a panel is its two chips and their bytes
two-parts : (p q : Panel) → ((k : ℕ) → part_of_chip k p ≡ part_of_chip k q) → p ≡ q
two-parts p q same =
    let joined : take 320 p.ram ++ drop 320 p.ram ≡ q.ram =
    rw (ap (λ (s : ChipAndRam). s.ram) (same 0), ap (λ (s : ChipAndRam). s.ram) (same 1)) (take-append-drop 320 q.ram) in
    let ram = sym (take-append-drop 320 p.ram) ∙ joined in
    let both : as_panel p.left p.right p.ram ≡ as_panel q.left q.right q.ram =
    rw (ap (λ (s : ChipAndRam). s.chip) (same 0), ap (λ (s : ChipAndRam). s.chip) (same 1), ram) in
    both

by-chip : StepByKey panel_step chip_of ChipPart part_of_chip alone_step (λ (p : Panel). length p.ram ≡ 640)
by-chip =
    record {
      on-own-part = on-own-chip;
      fits = λ p r image _. (every-record-apart p image r).image;
      parts-decide = λ p q _ _. two-parts p q;
    }

pub each-chip-alone : EachChipAlone
each-chip-alone p image rs = run-by-key panel_step chip_of ChipPart part_of_chip alone_step by-chip rs p image

pub runs-in-any-order : RunsInAnyOrder
runs-in-any-order p image rs others = run-in-any-order panel_step chip_of ChipPart part_of_chip alone_step by-chip rs others p image
