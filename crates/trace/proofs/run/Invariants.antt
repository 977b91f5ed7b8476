-- `trace::run` meets its contract: before each run of records, the records so far have run, their counts stand and their answers are written.
use Prim.Native.Nat.{◌-◌}
use Rattle.trace.proofs.RunOn.{RunOn}
use Rattle.trace.proofs.run.Given as goal

abbrev pub invariant-loop-at : goal.invariant-loop-at
invariant-loop-at l =
    RunOn l.initial.chips l.initial.ram l.trace l.initial.answers l.initial.wear
    l.chips l.ram l.answers l.wear l.compared l.differing l.at

abbrev pub decreases-loop-at : goal.decreases-loop-at
decreases-loop-at l = l.count - l.at
