-- A step over the bytes of both chips that number 2 lets pass is the cycle of the chip that the bus record names, and a run over them is the panel's.
use Prim.Native.Nat.{ℕ}
use mathlib.Core.Path.{◌≡◌, refl, sym, ap, ◌∙◌}
use mathlib.Core.Bool.{Bool, true, false}
use mathlib.Core.List.{List, map-id}
use lib.Dec.{eqb}
use lib.ListN.{length, take, drop}
use Rattle.basics.specs.Choice.{if}
use Rattle.basics.specs.Halves.{part_at, part_put}
use Rattle.basics.proofs.Halves.{part_length, put_front, put-rear, put-length}
use Rattle.basics.proofs.Run.{AlikeSteps, run-alike}
use Rattle.basics.proofs.RunOfPart.{step_in}
use Rattle.basics.proofs.Tests.{when, choice-of}
use Rattle.sed1520.specs.Chip.{in_range}
use Rattle.sed1520.specs.ChipBytes.{chip_bytes, bytes_pass, chip_in}
use Rattle.sed1520.specs.BytesRun.{BytesAndRam, with_ram}
use Rattle.sed1520.specs.Cycle.{Reply, as_step}
use Rattle.sed1520.specs.declared.registers.Chip.{Chip}
use Rattle.sed1520.specs.declared.bus.Record.{Record}
use Rattle.sed1520.proofs.CycleKeeps.{cycle-keeps}
use Rattle.sed1520.proofs.BytesSteps.{every-bytes-step}
use Rattle.sed1520.proofs.ChipBytesUndo.{chip-bytes-length, there, passes, chip-passes}
use Rattle.panel.specs.Chips.{panel_in, BothPass}
use Rattle.panel.specs.Panel.{Panel, as_panel, chip_at, put, outcome_of, stepped, panel_step}
use Rattle.panel.specs.Promises.{EveryRecordStep, EveryRecordsRun}
use Rattle.panel.specs.Step.{put_back, chips_step}
use Rattle.panel.proofs.TwoChips.{two-chips}

module _ (r : Record) (chips ram : List ℕ) (fit : BothPass chips ram) where
  -- the bytes of the chip that the bus record names, and its part of the image
  abbrev own : List ℕ
  own = part_at 12 r.chip chips

  abbrev own_ram : List ℕ
  own_ram = part_at 320 r.chip ram

  ram-length : length own_ram ≡ 320
  ram-length = part_length 320 r.chip ram fit.image

  pub own-right : bytes_pass own ≡ true
  own-right = when (λ (b : List ℕ). bytes_pass b ≡ true) (eqb r.chip 0) (λ _. fit.left) (λ _. fit.right)

  pub own-chip : chip_at (panel_in chips ram) r.chip ≡ chip_in own
  own-chip = rw (two-chips chips fit.size) (choice-of chip_in (eqb r.chip 0) (take 12 chips) (drop 12 chips))

  -- the step is the panel's outcome, put back
  on-panel : let o = outcome_of (panel_in chips ram) r in
      chips_step (with_ram chips ram) r ≡ as_step o (put_back r.chip (with_ram chips ram) (with_ram (chip_bytes o.answer.chip) o.ram))
  unfolding outcome_of chips_step
  on-panel = rw own-chip (ap (step_in (put_back r.chip (with_ram chips ram))) (every-bytes-step r own own_ram own-right ram-length))

  -- the chip and its RAM after it fit again
  next-range : in_range (outcome_of (panel_in chips ram) r).answer.chip ≡ true
  unfolding outcome_of
  next-range = (cycle-keeps (chip_at (panel_in chips ram) r.chip) own_ram r).range (rw own-chip (passes own ∙ own-right))

  next-ram : length (outcome_of (panel_in chips ram) r).ram ≡ 320
  unfolding outcome_of
  next-ram = (cycle-keeps (chip_at (panel_in chips ram) r.chip) own_ram r).same_size ∙ ram-length

-- a chip's bytes put in place are that chip put in place, and bytes that passed pass again
module _ (chips ram : List ℕ) (k : ℕ) (next : Chip) (bytes : List ℕ) (fit : BothPass chips ram) where
  put-chips : length (part_put 12 k chips (chip_bytes next)) ≡ 24
  put-chips = put-length 12 k chips fit.size (chip_bytes next) (chip-bytes-length next)

  front : take 12 (part_put 12 k chips (chip_bytes next)) ≡ if (eqb k 0) (chip_bytes next) (take 12 chips)
  front = put_front 12 k chips fit.size (chip_bytes next) (chip-bytes-length next)

  rear : drop 12 (part_put 12 k chips (chip_bytes next)) ≡ if (eqb k 0) (drop 12 chips) (chip_bytes next)
  rear = put-rear 12 k chips fit.size (chip_bytes next) (chip-bytes-length next)

  put-chip : panel_in (part_put 12 k chips (chip_bytes next)) (part_put 320 k ram bytes) ≡ put (panel_in chips ram) k next bytes
  put-chip =
      rw (two-chips (part_put 12 k chips (chip_bytes next)) put-chips, two-chips chips fit.size) (rw (front, rear) (side (eqb k 0)))
    where
      side : (t : Bool)
          → as_panel (chip_in (if t (chip_bytes next) (take 12 chips))) (chip_in (if t (drop 12 chips) (chip_bytes next))) (part_put 320 k ram bytes)
          ≡ as_panel (if t next (chip_in (take 12 chips))) (if t (chip_in (drop 12 chips)) next) (part_put 320 k ram bytes)
      side true = rw (there next)
      side false = rw (there next)

  put_fit : in_range next ≡ true → length bytes ≡ 320 → BothPass (part_put 12 k chips (chip_bytes next)) (part_put 320 k ram bytes)
  put_fit range half =
      record {
        size = put-chips;
        left = rw front (when (λ (b : List ℕ). bytes_pass b ≡ true) (eqb k 0) (λ _. chip-passes next ∙ range) (λ _. fit.left));
        right = rw rear (when (λ (b : List ℕ). bytes_pass b ≡ true) (eqb k 0) (λ _. fit.right) (λ _. chip-passes next ∙ range));
        image = put-length 320 k ram fit.image bytes half;
      }

pub every-record-step : EveryRecordStep
unfolding stepped
every-record-step r chips ram fit =
    let o = outcome_of (panel_in chips ram) r in
    let same = on-panel r chips ram fit in
    record {
      number = rw same;
      answer = rw same;
      panel = rw same (put-chip chips ram r.chip o.answer.chip o.ram fit);
      fit = rw same (put_fit chips ram r.chip o.answer.chip o.ram fit (next-range r chips ram fit) (next-ram r chips ram fit));
    }

-- the bytes of a panel, which number 2 lets pass
record Says (s : BytesAndRam) (p : Panel) : Type 0 where
  passes : BothPass s.bytes s.ram
  is : panel_in s.bytes s.ram ≡ p

step-says : (s : BytesAndRam) (p : Panel) → Says s p → (r : Record) → AlikeSteps chips_step panel_step Says (λ (a : Reply). a) s p r
step-says s p says r =
    let steps = rw says.is at (every-record-step r s.bytes s.ram says.passes) in
    record { number = steps.number; answer = steps.answer; next = record { passes = steps.fit; is = steps.panel } }

pub every-records-run : EveryRecordsRun
every-records-run rs chips ram fit =
    let runs = run-alike chips_step panel_step Says (λ (a : Reply). a) step-says rs (with_ram chips ram) _ (record { passes = fit; is = refl }) in
    record { number = runs.number; answers = sym (map-id _) ∙ runs.answers ∙ map-id _; panel = runs.state.is; fit = runs.state.passes }
