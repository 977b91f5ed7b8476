-- The numbers that each repaint is refused by, each given exactly when document 01's table says so; the sparing repaint gives number 1 also for an
-- image that is not 640 bytes.
use Rattle.std.specs.Prelude.{ℕ, List, length}
use Rattle.basics.specs.Table.{ExactlyWhen}
use Rattle.basics.specs.Verdict.{verdict}
use Rattle.sed1520.specs.declared.registers.Chip.{Chip}
use Rattle.panel.specs.Panel.{Panel}
use Rattle.repaint.specs.Repaint.{repaint_cycles, repaint_table, repaint_of}
use Rattle.repaint.specs.Sparing.{sparing_cycles, sparing_table, sparing_of}

-- the repaint's call gives each number exactly when its line says so, else number 0 with the 254 records as place
abbrev pub RepaintNumbers : Type 0
RepaintNumbers =
    (left right : Chip) (picture buffer : List ℕ)
    → ExactlyWhen (repaint_table left right (length picture) (length buffer)) (verdict 0 repaint_cycles) (repaint_of left right picture buffer).answer

-- the sparing repaint's call likewise, number 0 with its own count of cycles as place
abbrev pub SparingNumbers : Type 0
SparingNumbers =
    (p : Panel) (picture buffer : List ℕ)
    → ExactlyWhen (sparing_table p.left p.right (length p.ram) (length picture) (length buffer)) (verdict 0 (sparing_cycles p picture))
    (sparing_of p picture buffer).answer
