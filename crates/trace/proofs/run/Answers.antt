-- `trace::run` meets its contract: before each run of records, the records so far have run, their counts stand and their answers are written.
use native.Mathlib.Omega.{arith}
use Rattle.trace.proofs.RunOn.{none-run, so-low, finished, few-on, some-ran, goes_on, stopped}
use Rattle.trace.proofs.run.Goals as goal

pub loop-at-init : goal.loop-at-init
loop-at-init c = none-run _ _ _ _ _ c.requires.both_pass

pub run_counting-went-requires-clause-at_most : goal.run_counting-went-requires-clause-at_most
run_counting-went-requires-clause-at_most c =
    let given = c.requires in
    so-low given.both_pass given.trace_in_bounds c.loop-at.invariant given.trace_len_bound given.at_most

pub overflow_add-compared : goal.overflow_add-compared
overflow_add-compared c =
    let given = c.requires in
    let e = c.run_counting-went.ensures in
    let few = few-on given.both_pass given.trace_in_bounds c.loop-at.invariant c.loop-at-test.true (e.ran, e.wear) in
    record { fits = omega (arith, few.compared-few, given.trace_len_bound) }

pub overflow_add-differing : goal.overflow_add-differing
overflow_add-differing c =
    let given = c.requires in
    let e = c.run_counting-went.ensures in
    let few = few-on given.both_pass given.trace_in_bounds c.loop-at.invariant c.loop-at-test.true (e.ran, e.wear) in
    record { fits = omega (arith, few.differing-few, given.trace_len_bound) }

pub overflow_add-at : goal.overflow_add-at
overflow_add-at c =
    let given = c.requires in
    let e = c.run_counting-went.ensures in
    let few = few-on given.both_pass given.trace_in_bounds c.loop-at.invariant c.loop-at-test.true (e.ran, e.wear) in
    record { fits = omega (arith, few.place-few, given.trace_len_bound) }

pub returns-then-went-ne0 : goal.returns-then-went-ne0
returns-then-went-ne0 c =
    let given = c.requires in
    let e = c.run_counting-went.ensures in
    let whole = stopped given.both_pass given.trace_in_bounds c.loop-at.invariant c.loop-at-test.true (e.ran, e.wear) (λ done. omega arith) in
    record { ran = whole.0; wear = whole.1 }

pub loop-at-smaller : goal.loop-at-smaller
loop-at-smaller c =
    let given = c.requires in
    let e = c.run_counting-went.ensures in
    let here = c.loop-at-test.true in
    let some = some-ran given.both_pass given.trace_in_bounds c.loop-at.invariant here (e.ran, e.wear) (omega arith) in
    omega (arith, some, here)

pub loop-at-preserved : goal.loop-at-preserved
loop-at-preserved c =
    let given = c.requires in
    let e = c.run_counting-went.ensures in
    goes_on given.both_pass given.trace_in_bounds c.loop-at.invariant c.loop-at-test.true (e.ran, e.wear) (omega arith)

pub returns : goal.returns
returns c =
    let whole = finished c.requires.both_pass c.requires.trace_in_bounds c.loop-at.invariant (omega arith) in
    record { ran = whole.0; wear = whole.1 }
