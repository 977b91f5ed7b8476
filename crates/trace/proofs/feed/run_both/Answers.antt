-- `trace::feed::run_both` meets its contract: the second run begins where the first led.
use native.Mathlib.Omega.{arith}
use mathlib.Core.Path.{ap}
use mathlib.Core.List.{[]}
use Rattle.sed1520.specs.Replies.{InPlace}
use Rattle.sed1520.specs.declared.tally.Tally.{Tally}
use Rattle.panel.specs.Chips.{panel_in}
use Rattle.panel.specs.Trace.{trace_run}
use Rattle.trace.proofs.AfterEach.{replies-bound}
use Rattle.trace.proofs.Bounds.{tally-few}
use Rattle.trace.proofs.OverBytes.{fits-behind, bytes_cut, bytes-both, worn-cut, worn-both}
use Rattle.trace.proofs.WearCounts.{worn-bound}
use Rattle.trace.proofs.feed.run_both.Goals as goal

pub returns-then-begun-ne0 : goal.returns-then-begun-ne0
returns-then-begun-ne0 c =
    let given = c.requires in
    let first = c.run-begun.ensures in
    record {
      ran = bytes_cut given.both_pass _ _ _ 1 given.first_len first.ran (λ done. omega arith);
      wear = worn-cut given.both_pass _ _ _ 1 given.first_len first.ran (λ done. omega arith) _ first.wear;
    }

pub run-next-requires-clause-both_pass : goal.run-next-requires-clause-both_pass
run-next-requires-clause-both_pass c = fits-behind c.requires.both_pass _ [] _ 1 c.requires.first_len c.run-begun.ensures.ran

-- past the first record, no count is over one
pub run-next-requires-clause-at_most : goal.run-next-requires-clause-at_most
run-next-requires-clause-at_most c i =
    let p = panel_in c.args.chips.now c.args.ram.now in
    let few = worn-bound 0 c.args.wear.now (trace_run p c.args.first.now).answers c.requires.at_most i in
    rw c.run-begun.ensures.wear (omega (arith, few, replies-bound p c.args.first.now, c.requires.first_len))

-- the counts of both runs are few
pub overflow_add-result : goal.overflow_add-result
overflow_add-result c =
    let first = tally-few _ _ _ (ap (λ (i : InPlace Tally). i.answer) c.run-begun.ensures.ran) in
    let next = tally-few _ _ _ (ap (λ (i : InPlace Tally). i.answer) c.run-next.ensures.ran) in
    record { fits = omega (arith, first.place-few, next.place-few, c.requires.first_len, c.requires.rest_len_bound) }

pub overflow_add-result-2 : goal.overflow_add-result-2
overflow_add-result-2 c =
    let first = tally-few _ _ _ (ap (λ (i : InPlace Tally). i.answer) c.run-begun.ensures.ran) in
    let next = tally-few _ _ _ (ap (λ (i : InPlace Tally). i.answer) c.run-next.ensures.ran) in
    record { fits = omega (arith, first.compared-few, next.compared-few, c.requires.first_len, c.requires.rest_len_bound) }

pub overflow_add-result-3 : goal.overflow_add-result-3
overflow_add-result-3 c =
    let first = tally-few _ _ _ (ap (λ (i : InPlace Tally). i.answer) c.run-begun.ensures.ran) in
    let next = tally-few _ _ _ (ap (λ (i : InPlace Tally). i.answer) c.run-next.ensures.ran) in
    record { fits = omega (arith, first.differing-few, next.differing-few, c.requires.first_len, c.requires.rest_len_bound) }

pub returns-clause-ran : goal.returns-clause-ran
returns-clause-ran c =
    bytes-both c.requires.both_pass _ _ _ 1 c.requires.first_len c.run-begun.ensures.ran (omega arith) c.run-next.ensures.ran

pub returns-clause-wear : goal.returns-clause-wear
returns-clause-wear c =
    let first = c.run-begun.ensures in
    worn-both c.requires.both_pass _ _ _ 1 c.requires.first_len first.ran (omega arith) _ first.wear c.run-next.ensures.wear
