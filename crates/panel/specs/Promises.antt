-- What is proved of two chips on one bus beside the functions' contracts.
use Rattle.std.specs.Prelude.{ℕ, ◌≤◌, ◌≡◌, Bool, true, ◌&&◌, ◌||◌, List, leb, eqb, length, take, drop}
use Rattle.basics.specs.Run.{Step, Run, run_of}
use Rattle.sed1520.specs.Memory.{ram_length}
use Rattle.sed1520.specs.Chip.{column_stop}
use Rattle.sed1520.specs.ChipBytes.{chip_length, bytes_pass}
use Rattle.sed1520.specs.Cycle.{cycle_of, Reply}
use Rattle.sed1520.specs.BytesRun.{BytesAndRam, with_ram}
use Rattle.sed1520.specs.declared.registers.Chip.{Chip}
use Rattle.sed1520.specs.declared.bus.Record.{Record}
use Rattle.panel.specs.Chips.{chips_length, chips_bytes, as_chips, chips_in, panel_in, BothPass}
use Rattle.panel.specs.Panel.{image_length, Panel, chip_at, ram_at, put, outcome_of, stepped, panel_step, panel_run, after, Whole}
use Rattle.panel.specs.Step.{chips_step}

-- each chip has 320 bytes of an image of 640
abbrev pub EveryHalfWhole : Type 0
EveryHalfWhole = (p : Panel) → length p.ram ≡ image_length → (k : ℕ) → length (ram_at p k) ≡ ram_length

-- two chips on one bus: the outcome is that of the cycle of the record's own chip, with its bytes; the panel has that chip and its bytes as
-- its cycle leaves them, the other chip and its bytes as they were
pub record Apart (p : Panel) (r : Record) : Type 0 where
  pub own-cycle : outcome_of p r ≡ cycle_of r (chip_at p r.chip) (ram_at p r.chip)
  pub panel : stepped p r ≡ put p r.chip (outcome_of p r).answer.chip (outcome_of p r).ram
  pub own-chip : chip_at (stepped p r) r.chip ≡ (outcome_of p r).answer.chip
  pub own-ram : ram_at (stepped p r) r.chip ≡ (outcome_of p r).ram
  pub other-chip : (k : ℕ) → (eqb k 0 ≡ eqb r.chip 0 → ⊥) → chip_at (stepped p r) k ≡ chip_at p k
  pub other-ram : (k : ℕ) → (eqb k 0 ≡ eqb r.chip 0 → ⊥) → ram_at (stepped p r) k ≡ ram_at p k
  pub image : length (stepped p r).ram ≡ image_length

-- every record on every panel of 640 bytes leaves the two chips as `Apart` says
abbrev pub EveryRecordApart : Type 0
EveryRecordApart = (p : Panel) → length p.ram ≡ image_length → (r : Record) → Apart p r

-- the bytes of two chips: each way undoes the other, for bytes that number 2 lets pass
pub record TwoChipsUndo : Type 0 where
  pub there : (left right : Chip) → chips_in (chips_bytes left right) ≡ as_chips left right
  pub back : (chips : List ℕ) → length chips ≡ chips_length → bytes_pass (take chip_length chips) ≡ true → bytes_pass (drop chip_length chips) ≡ true
      → chips_bytes (chips_in chips).left (chips_in chips).right ≡ chips

-- what a step over the chips' bytes gives and leaves is what the cycle of the chip named gives and leaves on the panel; and the bytes pass again
pub record StepsPanel (p : Panel) (r : Record) (s : Step BytesAndRam Reply) : Type 0 where
  pub number : s.number ≡ (panel_step p r).number
  pub answer : s.answer ≡ (panel_step p r).answer
  pub panel : panel_in s.next.bytes s.next.ram ≡ stepped p r
  pub fit : BothPass s.next.bytes s.next.ram

-- a step over bytes of both chips that number 2 lets pass, with the whole image, is a step of the panel as `StepsPanel` says
abbrev pub EveryRecordStep : Type 0
EveryRecordStep =
    (r : Record) (chips ram : List ℕ) → BothPass chips ram → StepsPanel (panel_in chips ram) r (chips_step (with_ram chips ram) r)

-- what a run over the chips' bytes gives and leaves is what the panel's run gives and leaves; and the bytes pass again
pub record RunsPanel (p : Panel) (rs : List Record) (run : Run BytesAndRam Reply) : Type 0 where
  pub number : run.number ≡ (panel_run p rs).number
  pub answers : run.answers ≡ (panel_run p rs).answers
  pub panel : panel_in run.state.bytes run.state.ram ≡ (panel_run p rs).state
  pub fit : BothPass run.state.bytes run.state.ram

-- a run of any records over such bytes is the panel's run, as `RunsPanel` says
abbrev pub EveryRecordsRun : Type 0
EveryRecordsRun =
    (rs : List Record) (chips ram : List ℕ) → BothPass chips ram → RunsPanel (panel_in chips ram) rs (run_of chips_step (with_ram chips ram) rs)

-- whether a number is one that a record may be given: 0 for done, 4 to 8, or 14
abbrev pub is_record_number : ℕ → Bool
is_record_number n = eqb n 0 || ((leb 4 n && leb n 8) || eqb n 14)

-- every record is given one of the numbers of `is_record_number`, where both chips are in range over the whole image
abbrev pub EveryRecordNumber : Type 0
EveryRecordNumber = (p : Panel) → Whole p → (r : Record) → is_record_number (outcome_of p r).answer.number ≡ true

-- from chips that number 2 lets pass, over the whole image, no records lead past the column at which counting stops (request C-15)
abbrev pub NeverPastTheStop : Type 0
NeverPastTheStop =
    (p : Panel) → Whole p → (rs : List Record) (k : ℕ)
    → ((chip_at (after p rs) k).column ≤ column_stop) × ((chip_at (after p rs) k).saved_column ≤ column_stop)
