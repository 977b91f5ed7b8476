-- `frame::lines_from` meets its contract: two pages as one number, shifted.
use Rattle.std.proofs.Common.{arith}
use mathlib.Core.Path.{sym, ◌∙◌}
use Rattle.sed1520.proofs.Cells.{within-ram}
use Rattle.frame.proofs.Packing.{lines-wide}
use Rattle.frame.proofs.lines_from.Goals as goal

pub bounds-ram-upper : goal.bounds-ram-upper
bounds-ram-upper c = rw (c.index-upper.ensures, c.requires.ram_len) (within-ram _ _ (omega arith) c.requires.column_lt_column_stop)

pub bounds-ram-lower : goal.bounds-ram-lower
bounds-ram-lower c = rw (c.index-lower.ensures, c.requires.ram_len) (within-ram _ _ (omega arith) c.requires.column_lt_column_stop)

pub returns : goal.returns
returns c =
    let at = c.args in
    let byte = rw c.index-upper.ensures at (c.type_inv.ram c.index-upper.result) in
    let lines = lines-wide at.ram.now at.column at.line (omega arith) (omega (arith, byte)) in
    c.eight_lines.ensures ∙ rw (c.index-upper.ensures, c.index-lower.ensures) (sym lines)
