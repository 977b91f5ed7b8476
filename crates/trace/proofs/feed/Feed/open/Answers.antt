-- `trace::feed::Feed::open` meets its contract: number 2, or an open feed.
use native.Mathlib.Omega.{arith}
use mathlib.Core.Path.{◌≡◌, refl, sym}
use Rattle.basics.specs.Refusals.{number_of}
use Rattle.basics.specs.Verdict.{verdict}
use Rattle.basics.proofs.Refusals.{refusal-number}
use Rattle.trace.specs.Feed.{begun, as_feed, state_verdict}
use Rattle.trace.specs.declared.progress.Ending.TheVariants.{Open}
use Rattle.trace.proofs.FeedCases.{of_feed, state-place, state-line, state-passed, open-refused, open_done}
use Rattle.trace.proofs.feed.Feed.open.Goals as goal

pub overflow_cast-refused : goal.overflow_cast-refused
overflow_cast-refused c =
    let at = c.args.chips in
    let why = c.in-Err.refused in
    let f = as_feed at.left at.right (begun Open) in
    let told : verdict (number_of why.refusal) why.place ≡ of_feed state_verdict f =
    rw (← c.begun-progress.ensures, ← c.in_range.ensures, ← c.in_range-2.ensures) c.in-Err.ensures
    in
    let low = rw (← told) at (state-place f) in
    record { fits = omega (arith, low) }

pub returns-in-Err : goal.returns-in-Err
returns-in-Err c =
    let at = c.args.chips in
    let why = c.in-Err.refused in
    let told : verdict (number_of why.refusal) why.place ≡ of_feed state_verdict (as_feed at.left at.right (begun Open)) =
    rw (← c.begun-progress.ensures, ← c.in_range.ensures, ← c.in_range-2.ensures) c.in-Err.ensures
    in
    rw (c.reported.ensures, c.begun-progress-in-Err.ensures, c.number-number.ensures)
    (sym (open-refused _ _ _ _ (state-line _ _ told (refusal-number why.refusal))))

pub returns : goal.returns
returns c =
    let at = c.args.chips in
    let told : verdict 0 0 ≡ of_feed state_verdict (as_feed at.left at.right (begun Open)) =
    rw (← c.begun-progress.ensures, ← c.in_range.ensures, ← c.in_range-2.ensures) c.in_default.ensures
    in
    rw (c.reported-2.ensures, c.begun-progress.ensures) (sym (open_done _ _ (state-passed _ _ told refl)))
