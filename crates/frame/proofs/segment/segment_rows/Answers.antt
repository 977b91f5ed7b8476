-- `frame::segment::segment_rows` meets its contract, switch by switch.
use mathlib.Core.Path.{sym, ◌∙◌}
use Rattle.frame.proofs.Lines.{segment-dark, segment-lit, segment-lines, segment-upper}
use Rattle.frame.proofs.segment.segment_rows.Goals as goal

pub returns-then-not-chip : goal.returns-then-not-chip
returns-then-not-chip c =
    sym (segment-dark _ _ _ c.if-not-chip.true)

pub returns-then-chip : goal.returns-then-chip
returns-then-chip c =
    sym (segment-lit _ _ _ c.if-not-chip.false c.if-chip.true)

pub returns-then-chip-2 : goal.returns-then-chip-2
returns-then-chip-2 c =
    c.turned-shown.ensures
    ∙ rw (c.column_lines.ensures, c.ram_column.ensures)
    (sym (segment-lines _ _ _ c.if-not-chip.false c.if-chip.false c.if-chip-2.true))

pub returns-else-chip-2 : goal.returns-else-chip-2
returns-else-chip-2 c =
    rw (c.turned-shown.ensures, c.column_lines.ensures, c.ram_column.ensures)
    (sym (segment-upper _ _ _ c.if-not-chip.false c.if-chip.false c.if-chip-2.false))
