-- `wear::text::put_page` meets its contract: "wear", two numbers, the counts and the end of the line.
use Rattle.console.proofs.Puts.{more}
use Rattle.wear.specs.Text.{page_line}
use Rattle.wear.proofs.text.put_page.Goals as goal

pub returns : goal.returns
unfolding page_line
returns c =
    more c.bytes.ensures (more c.next_number.ensures (more c.next_number-2.ensures (more c.put_counts.ensures c.byte.ensures)))
