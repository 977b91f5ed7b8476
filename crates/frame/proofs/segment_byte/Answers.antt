-- `frame::segment_byte` meets its contract, switch by switch.
use Rattle.std.proofs.Common.{arith}
use mathlib.Core.Path.{sym, ◌∙◌}
use Rattle.sed1520.proofs.ChipRange.{ranges}
use Rattle.frame.proofs.Segments.{segment-byte}
use Rattle.frame.proofs.segment_byte.Goals as goal

pub returns-then-not-chip : goal.returns-then-not-chip
returns-then-not-chip c =
    rw (segment-byte _ _ _ _, c.if-not-chip.true)

pub returns-then-chip : goal.returns-then-chip
returns-then-chip c =
    rw (segment-byte _ _ _ _, c.if-not-chip.false, c.if-chip.true)

pub returns-then-band_dark : goal.returns-then-band_dark
returns-then-band_dark c =
    let hidden = sym c.band_dark.ensures ∙ c.if-band_dark.true in
    rw (segment-byte _ _ _ _, c.if-not-chip.false, c.if-chip.false, hidden)

pub lines_from-requires-clause-line_bound : goal.lines_from-requires-clause-line_bound
lines_from-requires-clause-line_bound c =
    let near = ranges c.args.chip c.requires.fit.range in
    omega (arith, near.line, c.requires.r_bound)

pub returns : goal.returns
returns c =
    let not-Hidden = sym c.band_dark.ensures ∙ c.if-band_dark.false in
    c.lines_from.ensures
    ∙ rw (c.ram_column.ensures, segment-byte _ _ _ _, c.if-not-chip.false, c.if-chip.false, not-Hidden)
