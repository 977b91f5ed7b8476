-- `sed1520::chip_bytes::chip_out` meets its contract: the twelve bytes are those of the chip.
use mathlib.Core.Path.{◌∙◌}
use borrow.Author.Tests.{eq-eqb}
use Rattle.sed1520.specs.ChipBytes.{chip_bytes}
use Rattle.sed1520.proofs.Flags.{from-flag}
use Rattle.sed1520.proofs.chip_bytes.chip_out.Goals as goal

pub returns : goal.returns
unfolding chip_bytes
returns c =
    let chip = c.args.chip in
    rw (
      eq-eqb _ 12 c.if-bytes-ne-CHIP_BYTES.false,
      c.copy_from_slice.ensures.after,
      c.from.ensures ∙ from-flag chip.display_on,
      c.from-2.ensures ∙ from-flag chip.static_on,
      c.from-3.ensures ∙ from-flag chip.duty_32,
      c.from-4.ensures ∙ from-flag chip.reverse,
      c.from-5.ensures ∙ from-flag chip.modify,
      c.mark.ensures,
      c.byte.ensures,
    )
