-- `console::text::Text::end_line`: "end", four numbers and the end of the line.
use Rattle.console.specs.Text.{end_line}
use Rattle.console.proofs.Puts.{more}
use Rattle.console.proofs.text.Text.end_line.Goals as goal

pub returns : goal.returns
unfolding end_line
returns c =
    more c.bytes.ensures
    (more c.next_number.ensures
    (more c.next_number-2.ensures (more c.next_number-3.ensures (more c.next_number-4.ensures c.byte.ensures))))
