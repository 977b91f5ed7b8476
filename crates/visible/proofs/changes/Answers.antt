-- `visible::changes` meets its contract: the verdict on the trace, then the records counted, then written.
use Rattle.basics.proofs.Refusals.{failed-with, refusal-number}
use Rattle.visible.proofs.ChangesCases.{trace-refused, passes-whole, record-refused, short, all_listed}
use Rattle.visible.proofs.changes.Goals as goal

pub returns-in_err-check_trace : goal.returns-in_err-check_trace
returns-in_err-check_trace c =
    rw (failed-with _ c.from_residual.ensures.1) (trace-refused _ _ _ _ c.in_err-check_trace.ensures (refusal-number _))

pub walk_over-requires : goal.walk_over-requires
walk_over-requires c =
    let may = passes-whole _ _ c.in_ok-check_trace.ensures in record { whole = may.0; trace_len_bound = may.1 }

pub returns-in_err-listed : goal.returns-in_err-listed
returns-in_err-listed c =
    rw (failed-with _ c.from_residual-in_err-listed.ensures.1)
    (record-refused _ _ _ c.in_ok-check_trace.ensures c.in_err-listed.ensures)

pub returns-then-entries-listed : goal.returns-then-entries-listed
returns-then-entries-listed c =
    rw c.new.ensures (short _ _ _ c.in_ok-check_trace.ensures c.in_ok-listed.ensures c.if-entries-listed.true)

pub walk_over-requires-2 : goal.walk_over-requires-2
walk_over-requires-2 c =
    let may = passes-whole _ _ c.in_ok-check_trace.ensures in record { whole = may.0; trace_len_bound = may.1 }

pub returns : goal.returns
returns c =
    all_listed _ _ _ c.in_ok-check_trace.ensures c.in_ok-listed.ensures c.if-entries-listed.false
    c.in_ok-listed-2.ensures
