-- `replay::text::put_lines` meets its contract. The invariant: the lines so far are put.
use Rattle.console.specs.Puts.{Puts}
use Rattle.replay.specs.Text.{answer_lines}
use Rattle.replay.proofs.text.put_lines.Given as goal

abbrev pub invariant-loop-index : goal.invariant-loop-index
invariant-loop-index l = Puts l.initial.text (answer_lines l.answers l.index) l.text
