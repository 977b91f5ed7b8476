-- `console::text::Text::next_number`: a space, then the number.
use Rattle.console.proofs.Puts.{more}
use Rattle.console.proofs.text.Text.next_number.Goals as goal

pub returns : goal.returns
returns c = more c.byte.ensures c.number.ensures
