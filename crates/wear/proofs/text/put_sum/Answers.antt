-- `wear::text::put_sum` meets its contract: "sum", the sum and the end of the line.
use Rattle.console.proofs.Puts.{more}
use Rattle.wear.specs.Text.{sum_line}
use Rattle.wear.proofs.text.put_sum.Goals as goal

pub returns : goal.returns
unfolding sum_line
returns c =
    more c.bytes.ensures (more (rw c.sum_of.ensures at c.next_number.ensures) c.byte.ensures)
