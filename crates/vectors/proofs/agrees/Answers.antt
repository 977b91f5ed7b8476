-- `vectors::agrees` meets its contract. The invariant: the cases so far have agreed and led to the chip and the RAM as they stand.
use native.Mathlib.Omega.{arith}
use mathlib.Core.Path.{sym, ◌∙◌}
use mathlib.Core.List.{[]}
use Rattle.basics.specs.Run.{run_of}
use Rattle.vectors.proofs.Steps.{all-agreed, next-case, last-case}
use Rattle.vectors.proofs.agrees.Goals as goal
use Rattle.vectors.proofs.agrees.Goals.{in-Ok, in_default}

pub loop-case-init : goal.loop-case-init
unfolding run_of
loop-case-init c = record { replies = []; run = rw (c.fresh-chip.ensures) }

pub returns-then-not-case_agrees : goal.returns-then-not-case_agrees
returns-then-not-case_agrees c =
    last-case c.loop-case.invariant (omega arith) (rw c.from-bus.ensures at c.cycle-answer.ensures)
    (sym (c.case_agrees.ensures _) ∙ c.if-not-case_agrees.true)

pub loop-case-preserved : goal.loop-case-preserved
loop-case-preserved c =
    let next = next-case c.loop-case.invariant (omega arith) (rw c.from-bus.ensures at c.cycle-answer.ensures)
    (sym (c.case_agrees.ensures _) ∙ c.if-not-case_agrees.false) in
    elim c.match-answer.branch [
      | in-Ok w ↦ rw w.chip-is (rw w.in-Ok.is at next)
      | in_default w ↦ rw w.chip-is (rw w.in_default.is at next)
    ]

pub returns : goal.returns
returns c = all-agreed c.loop-case.invariant (omega arith)
