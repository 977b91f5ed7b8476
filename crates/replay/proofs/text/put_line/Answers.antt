-- `replay::text::put_line` meets its contract: three puts, one after the other.
use Rattle.console.proofs.Puts.{more}
use Rattle.replay.specs.Text.{answer_line}
use Rattle.replay.proofs.text.put_line.Goals as goal

pub returns : goal.returns
unfolding answer_line
returns c =
    more c.number.ensures (more c.next_number.ensures c.put_hex.ensures)
