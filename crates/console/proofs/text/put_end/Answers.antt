-- `console::text::put_end` meets its contract: "end", four numbers and the end of the line.
use Rattle.console.specs.Text.{end_line}
use Rattle.console.proofs.Puts.{put-more}
use Rattle.console.proofs.text.put_end.Goals as goal

pub returns : goal.returns
unfolding end_line
returns c =
    put-more c.put_bytes-word.ensures
    (put-more c.put_next-first.ensures
    (put-more c.put_next-second.ensures
    (put-more c.put_next-third.ensures
    (put-more c.put_next-fourth.ensures c.put_bytes.ensures))))
