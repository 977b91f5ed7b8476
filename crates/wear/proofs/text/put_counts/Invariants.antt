-- `wear::text::put_counts` meets its contract. The invariant: the counts so far are put.
use Rattle.basics.specs.Lists.{joined}
use Rattle.console.specs.Puts.{Puts}
use Rattle.wear.specs.Text.{next_count}
use Rattle.wear.proofs.text.put_counts.Given as goal

abbrev pub invariant-loop-column : goal.invariant-loop-column
invariant-loop-column l = Puts l.initial.text (joined (next_count l.wear l.chip l.page) 0 l.column) l.text
