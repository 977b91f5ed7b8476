-- `trace::wear::run_counting` meets its contract: without wear, or where the column did not move, nothing is counted; else what was stored to is.
use native.Mathlib.Omega.{arith}
use mathlib.Core.Path.{◌∙◌}
use Rattle.trace.proofs.WearCounts.{worn-no-wear}
use Rattle.trace.proofs.WearRuns.{enough, counted, not-moved}
use Rattle.trace.proofs.wear.run_counting.Goals as goal

pub returns-then-wear-eq0-clause-wear : goal.returns-then-wear-eq0-clause-wear
returns-then-wear-eq0-clause-wear c = worn-no-wear _ _ (omega (arith, c.if-wear-eq0.true))

pub returns-then-went-eq0-clause-wear : goal.returns-then-went-eq0-clause-wear
returns-then-went-eq0-clause-wear c =
    let given = c.requires in
    let e = c.run_of_tested_chips-went.ensures in
    not-moved given.both_pass _ _ given.trace_in_bounds given.in_bounds e.ran _ e.moved c.args.wear.now (omega (arith, c.if-went-eq0.true))

pub overflow_sub-to : goal.overflow_sub-to
overflow_sub-to c =
    let given = c.requires in
    let e = c.run_of_tested_chips-went.ensures in
    let most = enough given.both_pass _ _ given.trace_in_bounds given.in_bounds e.ran _ c.start_of-own.ensures _ e.moved in
    omega (arith, most, c.image_index-to.ensures)

pub returns-clause-wear : goal.returns-clause-wear
returns-clause-wear c =
    let given = c.requires in
    let e = c.run_of_tested_chips-went.ensures in
    c.count_stores.ensures
    ∙ rw c.image_index-to.ensures
    (counted given.both_pass _ _ given.trace_in_bounds given.in_bounds e.ran _ c.start_of-own.ensures _ e.moved c.args.wear.now)
