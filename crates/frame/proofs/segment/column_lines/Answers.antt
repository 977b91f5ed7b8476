-- `frame::segment::column_lines` meets its contract: a byte of each page.
use Rattle.std.proofs.Common.{arith, ℕ, ◌<◌}
use mathlib.Core.Path.{sym, ◌∙◌}
use Rattle.sed1520.specs.Memory.{byte_at, ram_index}
use Rattle.sed1520.proofs.Cells.{within-ram}
use Rattle.frame.proofs.Lines.{four-pages}
use Rattle.frame.proofs.segment.column_lines.Goals as goal

pub bounds-ram-first : goal.bounds-ram-first
bounds-ram-first c = rw (c.index-first.ensures, c.requires.ram_len) (within-ram 0 _ (omega arith) c.requires.column_lt_column_stop)

pub bounds-ram-second : goal.bounds-ram-second
bounds-ram-second c = rw (c.index-second.ensures, c.requires.ram_len) (within-ram 1 _ (omega arith) c.requires.column_lt_column_stop)

pub bounds-ram-third : goal.bounds-ram-third
bounds-ram-third c = rw (c.index-third.ensures, c.requires.ram_len) (within-ram 2 _ (omega arith) c.requires.column_lt_column_stop)

pub bounds-ram-fourth : goal.bounds-ram-fourth
bounds-ram-fourth c = rw (c.index-fourth.ensures, c.requires.ram_len) (within-ram 3 _ (omega arith) c.requires.column_lt_column_stop)

pub returns : goal.returns
returns c =
    let byte : (page : ℕ) → byte_at c.args.ram.now page c.args.column < 256 =
    λ page. omega (arith, c.type_inv.ram (ram_index page c.args.column))
    in
    c.word_of.ensures
    ∙ rw (c.index-fourth.ensures, c.index-third.ensures, c.index-second.ensures, c.index-first.ensures)
    (sym (four-pages c.args.ram.now c.args.column byte))
