-- Two chips on one bus over one RAM image of 640 bytes. A record goes to the chip that it names, with that chip's 320 bytes.
use Rattle.std.specs.Prelude.{ℕ, ◌*◌, ◌≡◌, true, List, eqb, length}
use Rattle.sed1520.specs.Memory.{ram_length}
use Rattle.basics.specs.Choice.{if}
use Rattle.basics.specs.Halves.{part_at, part_put}
use Rattle.basics.specs.Run.{Step, Run, run_of}
use Rattle.sed1520.specs.Chip.{in_range}
use Rattle.sed1520.specs.Cycle.{Outcome, cycle_of, Reply, as_step}
use Rattle.sed1520.specs.declared.registers.Chip.{Chip}
use Rattle.sed1520.specs.declared.bus.Record.{Record}

-- how many bytes the RAM image of both chips has: 640
abbrev pub image_length : ℕ
image_length = 2 * ram_length

-- both chips and the image
pub record Panel : Type 0 where
  pub left : Chip
  pub right : Chip
  pub ram : List ℕ

-- two chips and the image of both are a panel
abbrev pub as_panel : Chip → Chip → List ℕ → Panel
as_panel left right ram = record { left = left; right = right; ram = ram }

-- chip 0 is the left one; a record that names neither is the right chip's to refuse
abbrev pub chip_at : Panel → ℕ → Chip
chip_at p k = if (eqb k 0) p.left p.right

-- a chip's 320 bytes of the image
abbrev pub ram_at : Panel → ℕ → List ℕ
ram_at p k = part_at ram_length k p.ram

-- a chip and its bytes put in place, the other chip and its bytes as they were
abbrev pub put : Panel → ℕ → Chip → List ℕ → Panel
put p k c bytes = as_panel (if (eqb k 0) c p.left) (if (eqb k 0) p.right c) (part_put ram_length k p.ram bytes)

-- what the cycle of the chip that the record names gives back
unfoldable pub outcome_of : Panel → Record → Outcome
outcome_of p r = cycle_of r (chip_at p r.chip) (ram_at p r.chip)

-- the panel after a record
unfoldable pub stepped : Panel → Record → Panel
stepped p r = put p r.chip (outcome_of p r).answer.chip (outcome_of p r).ram

-- a record given to the panel
abbrev pub panel_step : Panel → Record → Step Panel Reply
panel_step p r = as_step (outcome_of p r) (stepped p r)

-- the records one after the other on a panel, up to the first that is refused
abbrev pub panel_run : Panel → List Record → Run Panel Reply
panel_run p rs = run_of panel_step p rs

-- the panel after a list of records, or after those before the first that is refused
abbrev pub after : Panel → List Record → Panel
after p rs = (panel_run p rs).state

-- a panel whose chips number 2 lets pass, over the whole image
pub record Whole (p : Panel) : Type 0 where
  pub left : in_range p.left ≡ true
  pub right : in_range p.right ≡ true
  pub image : length p.ram ≡ image_length
