-- Two chips on one bus: a record changes its own chip and that chip's 320 bytes, and leaves the other chip and its bytes alone.
use mathlib.Core.Path.{◌≡◌, refl, ◌∙◌}
use mathlib.Core.Bool.{Bool, true, false}
use mathlib.Core.List.{List}
use lib.Dec.{eqb}
use Rattle.basics.specs.Choice.{if}
use Rattle.basics.proofs.Halves.{part_length, same_back, put-own, put_other, put-length}
use Rattle.basics.proofs.Run.{run-keeps}
use Rattle.basics.proofs.Tests.{when, own-choice, other-choice}
use Rattle.sed1520.specs.Chip.{in_range}
use Rattle.panel.specs.Panel.{Panel, as_panel, chip_at, ram_at, outcome_of, stepped, panel_step, after, Whole}
use Rattle.panel.specs.Promises.{EveryHalfWhole, EveryRecordApart}
use Rattle.sed1520.specs.declared.registers.Chip.{Chip}
use Rattle.sed1520.specs.declared.bus.Record.{Record}
use Rattle.sed1520.proofs.CycleKeeps.{cycle-keeps}

pub every-half-whole : EveryHalfWhole
every-half-whole p whole k = part_length 320 k p.ram whole

pub every-record-apart : EveryRecordApart
unfolding stepped outcome_of
every-record-apart p whole r =
    let k = r.chip in
    let bytes = (outcome_of p r).ram in
    let half = (cycle-keeps (chip_at p k) (ram_at p k) r).same_size ∙ every-half-whole p whole k in
    record {
      own-cycle = refl;
      panel = refl;
      own-chip = own-choice (eqb k 0) _ _ _;
      own-ram = put-own 320 k p.ram whole bytes half;
      other-chip = λ j h. other-choice (eqb j 0) (eqb k 0) _ _ _ h;
      other-ram = λ j h. put_other 320 k p.ram whole bytes half j h;
      image = put-length 320 k p.ram whole bytes half;
    }

-- the place of every outcome is 0
pub every-place : (p : Panel) (r : Record) → (outcome_of p r).answer.place ≡ 0
unfolding outcome_of
every-place p r = (cycle-keeps (chip_at p r.chip) (ram_at p r.chip) r).place

-- a refused record leaves the whole panel as it was
pub refused-record : (p : Panel) (r : Record) → ((outcome_of p r).answer.number ≡ 0 → ⊥) → stepped p r ≡ p
unfolding stepped outcome_of
refused-record p r h =
    let same = (cycle-keeps (chip_at p r.chip) (ram_at p r.chip) r).refused h in
    rw (same, same_back 320 r.chip p.ram) (put_back (eqb r.chip 0))
  where
    put_back : (t : Bool) → as_panel (if t (if t p.left p.right) p.left) (if t p.right (if t p.left p.right)) p.ram ≡ p
    put_back true = refl
    put_back false = refl

-- chips in range stay in range, and the image keeps its length
pub stepped-whole : (p : Panel) (r : Record) → Whole p → Whole (stepped p r)
unfolding stepped outcome_of
stepped-whole p r whole =
    let within = when (λ (c : Chip). in_range c ≡ true) (eqb r.chip 0) (λ _. whole.left) (λ _. whole.right) in
    let own = (cycle-keeps (chip_at p r.chip) (ram_at p r.chip) r).range within in
    record {
      left = when (λ (c : Chip). in_range c ≡ true) (eqb r.chip 0) (λ _. own) (λ _. whole.left);
      right = when (λ (c : Chip). in_range c ≡ true) (eqb r.chip 0) (λ _. whole.right) (λ _. own);
      image = (every-record-apart p whole.image r).image;
    }

-- after any records, chips in range are in range still, and the image has its length
pub after-whole : (rs : List Record) (p : Panel) → Whole p → Whole (after p rs)
after-whole = run-keeps panel_step Whole (λ p r whole _. stepped-whole p r whole)
