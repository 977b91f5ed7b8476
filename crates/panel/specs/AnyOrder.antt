-- Two chips on one bus: each acts by its own records alone, so the order between the chips does not matter (request C-18).
use Rattle.std.specs.Prelude.{ℕ, zero, suc, ◌≡◌, List, length}
use Rattle.std.specs.Prelude.{None}
use Rattle.basics.specs.Keys.{SameByKey}
use Rattle.basics.specs.Run.{Step}
use Rattle.basics.specs.RunByKey.{ByOwnRuns, SameRuns}
use Rattle.sed1520.specs.Cycle.{Reply, ChipAndRam, chip_step}
use Rattle.sed1520.specs.declared.bus.Record.{Record}
use Rattle.panel.specs.Panel.{image_length, Panel, chip_at, ram_at, panel_step, panel_run}

-- the number of the chip that a record names
abbrev pub chip_of : Record → ℕ
chip_of r = r.chip

-- what a chip number stands for: 0 and 1 for a chip and its RAM, any other for nothing
abbrev pub ChipPart : ℕ → Type 0
ChipPart zero = ChipAndRam
ChipPart (suc zero) = ChipAndRam
ChipPart (suc (suc k)) = Unit

-- a chip of a panel and its 320 bytes
abbrev pub chip_and_ram : Panel → ℕ → ChipAndRam
chip_and_ram p k = record { chip = chip_at p k; ram = ram_at p k }

-- the part of a panel that a chip number stands for
abbrev pub part_of_chip : (k : ℕ) → Panel → ChipPart k
part_of_chip zero p = chip_and_ram p 0
part_of_chip (suc zero) p = chip_and_ram p 1
part_of_chip (suc (suc k)) p = tt

-- a record given to a chip alone; where there is no such chip every record is refused, by a number of which only matters that it is not 0
abbrev pub alone_step : (k : ℕ) → ChipPart k → Record → Step (ChipPart k) Reply
alone_step zero s r = chip_step s r
alone_step (suc zero) s r = chip_step s r
alone_step (suc (suc k)) s r = record { number = 5; answer = record { kind = 0; byte = 0; stored = None }; next = tt }

-- a run on a panel with an image of 640 bytes is that of each chip alone, over its own records: done exactly when each of these is, with their
-- answers, and with their chips and RAM at the end
abbrev pub EachChipAlone : Type 0
EachChipAlone =
    (p : Panel) → length p.ram ≡ image_length → (rs : List Record) → ByOwnRuns panel_step chip_of ChipPart part_of_chip alone_step p rs

-- records that are all accepted on a panel with an image of 640 bytes, in any order that leaves each chip its own records in their order: all are
-- accepted, each has the same reply, and the panel ends the same
abbrev pub RunsInAnyOrder : Type 0
RunsInAnyOrder =
    (p : Panel) → length p.ram ≡ image_length → (rs others : List Record) → (panel_run p rs).number ≡ 0 → SameByKey chip_of rs others
    → SameRuns chip_of rs others (panel_run p rs) (panel_run p others)
