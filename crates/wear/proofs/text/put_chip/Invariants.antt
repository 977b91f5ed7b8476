-- `wear::text::put_chip` meets its contract. The invariant: the lines of the pages so far are put.
use Rattle.basics.specs.Lists.{joined}
use Rattle.console.specs.Puts.{Puts}
use Rattle.wear.specs.Text.{page_line}
use Rattle.wear.proofs.text.put_chip.Given as goal

abbrev pub invariant-loop-page : goal.invariant-loop-page
invariant-loop-page l = Puts l.initial.text (joined (page_line l.wear l.chip) 0 l.page) l.text
