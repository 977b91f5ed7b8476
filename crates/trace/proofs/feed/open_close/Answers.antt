-- `trace::feed::open_close` meets its contract: number 2, then 3 or 0.
use native.Mathlib.Omega.{arith}
use mathlib.Core.Path.{◌≡◌, refl, sym}
use borrow.Author.Tests.{eq-eqb, ne_eqb}
use Rattle.basics.specs.Refusals.{number_of}
use Rattle.basics.specs.Verdict.{verdict}
use Rattle.basics.proofs.Refusals.{refusal-number}
use Rattle.trace.specs.Feed.{state_verdict}
use Rattle.trace.proofs.FeedCases.{of_feed, state-line, state-passed, close-refused, close_passed}
use Rattle.trace.proofs.feed.open_close.Goals as goal

pub returns-in-Err : goal.returns-in-Err
returns-in-Err c =
    let why = c.in-Err.refused in
    let told : verdict (number_of why.refusal) why.place ≡ of_feed state_verdict c.args.feed =
    rw (← c.in_range.ensures, ← c.in_range-2.ensures) c.in-Err.ensures
    in
    let line = state-line _ _ told (refusal-number why.refusal) in
    rw (c.reported.ensures, c.number.ensures) (sym (close-refused _ _ _ line))

pub returns-then-feed-eq0 : goal.returns-then-feed-eq0
returns-then-feed-eq0 c =
    let told : verdict 0 0 ≡ of_feed state_verdict c.args.feed = rw (← c.in_range.ensures, ← c.in_range-2.ensures) c.in_default.ensures in
    let none = state-passed _ _ told refl in
    rw (c.stopped.ensures, close_passed c.args.feed none, eq-eqb c.args.feed.progress.kept 0 (omega arith))

pub returns : goal.returns
returns c =
    let told : verdict 0 0 ≡ of_feed state_verdict c.args.feed = rw (← c.in_range.ensures, ← c.in_range-2.ensures) c.in_default.ensures in
    let none = state-passed _ _ told refl in
    rw (c.stopped-2.ensures, c.number-2.ensures, close_passed c.args.feed none, ne_eqb c.args.feed.progress.kept 0 c.if-feed-eq0.false)
