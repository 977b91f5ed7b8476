-- `wear::text::put_wear` meets its contract: nothing where the number refuses before the first record, else both chips' lines and the sum.
use mathlib.Core.Path.{sym, ◌∙◌}
use Rattle.console.proofs.Puts.{none, more}
use Rattle.wear.specs.Text.{wear_lines}
use Rattle.wear.proofs.text.put_wear.Goals as goal

pub returns-then-refused_before : goal.returns-then-refused_before
unfolding wear_lines
returns-then-refused_before c =
    rw (sym c.refused_before.ensures ∙ c.if-refused_before.true) (none c.args.text.now)

pub returns : goal.returns
unfolding wear_lines
returns c =
    rw (sym c.refused_before.ensures ∙ c.if-refused_before.false)
    (more c.put_chip.ensures (more c.put_chip-2.ensures c.put_sum.ensures))
