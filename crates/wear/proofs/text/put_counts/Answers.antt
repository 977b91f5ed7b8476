-- `wear::text::put_counts` meets its contract. The invariant: the counts so far are put.
use Rattle.console.proofs.Puts.{no-piece, one-piece-more}
use Rattle.wear.specs.Text.{next_count}
use Rattle.wear.proofs.text.put_counts.Goals as goal

pub loop-column-init : goal.loop-column-init
loop-column-init c = let at = c.args in no-piece (next_count at.wear.now at.chip at.page) at.text.now

pub loop-column-preserved : goal.loop-column-preserved
loop-column-preserved c =
    let at = c.args in
    let next = rw c.count_at.ensures at c.next_number.ensures in
    one-piece-more (next_count at.wear.now at.chip at.page) c.loop-column.column c.loop-column.invariant next
