-- `console::text::put_next` meets its contract: a space, then the number.
use Rattle.console.proofs.Puts.{put-more}
use Rattle.console.proofs.text.put_next.Goals as goal

pub returns : goal.returns
returns c = put-more c.put_bytes-first.ensures c.put_number.ensures
