-- `sed1520::bus::Record::action` meets its contract: 2 to 5 have different strobes, and the other values below 8 equal ones.
use native.Mathlib.Omega.{arith}
use mathlib.Core.Path.{sym}
use Rattle.sed1520.proofs.StepCases.{refused-line, refused-spare, refused-chip, refused-strobes, not-refused, strobes-differ}
use Rattle.sed1520.proofs.bus.Record.action.Goals as goal
use Rattle.sed1520.proofs.bus.Record.action.Goals.{then-self-ge8-via-then-self-ge8, then-self-ge8-via-else-self-ge8+then-self-ne0}

pub returns-then-self-ge8-clause-number : goal.returns-then-self-ge8-clause-number
returns-then-self-ge8-clause-number c =
    elim c.then-self-ge8.branch [
      | then-self-ge8-via-then-self-ge8 w ↦ sym (refused-line _ w.if-self-ge8.true)
      | then-self-ge8-via-else-self-ge8+then-self-ne0 w ↦ sym (refused-spare _ w.if-self-ne0.true)
    ]

pub returns-then-self-ge2-clause-number : goal.returns-then-self-ge2-clause-number
returns-then-self-ge2-clause-number c =
    sym (refused-chip _ (omega arith) (omega arith) (omega arith))

pub returns-in-2-clause-number : goal.returns-in-2-clause-number
returns-in-2-clause-number c =
    sym (not-refused _ (omega arith) (omega arith) (omega arith) (strobes-differ _ (omega arith) (omega arith)))

pub returns-in-3-clause-number : goal.returns-in-3-clause-number
returns-in-3-clause-number c =
    sym (not-refused _ (omega arith) (omega arith) (omega arith) (strobes-differ _ (omega arith) (omega arith)))

pub returns-in-4-clause-number : goal.returns-in-4-clause-number
returns-in-4-clause-number c =
    sym (not-refused _ (omega arith) (omega arith) (omega arith) (strobes-differ _ (omega arith) (omega arith)))

pub returns-in-5-clause-number : goal.returns-in-5-clause-number
returns-in-5-clause-number c =
    sym (not-refused _ (omega arith) (omega arith) (omega arith) (strobes-differ _ (omega arith) (omega arith)))

pub returns-in_default-clause-number : goal.returns-in_default-clause-number
returns-in_default-clause-number c =
    sym (refused-strobes _ (omega arith) (omega arith) (omega arith) (omega arith))
