-- `vectors::agrees` meets its contract. The invariant: the cases so far have agreed and led to the chip and the RAM as they stand.
use Rattle.vectors.proofs.Steps.{Agreed}
use Rattle.vectors.proofs.agrees.Given as goal

abbrev pub invariant-loop-case : goal.invariant-loop-case
invariant-loop-case l = Agreed l.cases l.ram l.chip l.case-index
