-- `replay::text::put_lines` meets its contract. The invariant: the lines so far are put.
use Rattle.console.proofs.Puts.{no-piece, one-piece-more}
use Rattle.replay.specs.Text.{line_at}
use Rattle.replay.proofs.text.put_lines.Goals as goal

pub loop-index-init : goal.loop-index-init
loop-index-init c = no-piece (line_at c.args.answers.now) c.args.text.now

pub loop-index-preserved : goal.loop-index-preserved
loop-index-preserved c = one-piece-more (line_at c.args.answers.now) c.loop-index.index c.loop-index.invariant c.put_line.ensures
