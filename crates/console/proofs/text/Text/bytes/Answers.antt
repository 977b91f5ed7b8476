-- `console::text::Text::bytes`: the bytes so far are put.
use Rattle.std.proofs.lemmas.List.{take_more}
use Rattle.console.proofs.Puts.{more}
use Rattle.console.proofs.text.Text.bytes.Goals as goal

pub loop-byte-preserved : goal.loop-byte-preserved
loop-byte-preserved c =
    rw (take_more c.args.bytes.now c.loop-byte.byte-index 0 c.loop-byte-test.true) (more c.loop-byte.invariant c.byte.ensures)
