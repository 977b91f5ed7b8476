-- `visible::walk::walk` meets its contract: before each record, the records so far have run and their entries are listed.
use Rattle.std.proofs.Common.{rules, ◌≡◌}
use mathlib.Core.Path.{refl}
use Rattle.basics.specs.Refusals.{refused}
use Rattle.basics.proofs.Refusals.{failed-with}
use Rattle.visible.proofs.Walking.{started, finished, left-few, right-few, refused-here, accepted-here, was-ok, was-err}
use Rattle.visible.proofs.walk.walk.Goals as goal

pub loop-at-init : goal.loop-at-init
loop-at-init c = (search rules, search rules, started _ _ _ c.requires.whole c.requires.trace_len_bound (cc) (cc) (cc))

pub returns-in_err-seen : goal.returns-in_err-seen
returns-in_err-seen c =
    let step = c.in-Some.ensures.steps in
    let upto = rw (← step.1) at c.loop-at.invariant.2 in
    let was = was-err c.watch.result _ _ c.in_err-seen.ensures.variant c.in_err-seen.ensures.cases in
    let ends = refused-here upto _ _ step.0.1.0 step.0.1.1 c.from-bus.ensures (rw was.1.0 at c.watch.ensures) refl in
    let ranked : c.in_err-seen.field-0.0 ≡ refused was.0 c.in-Some.at = let put = was.1.1 in search rules in
    rw (failed-with _ c.from_residual.ensures.1, ranked) (record { walked = ends.0; image = ends.1 })

pub list_entry-listed-requires-clause-left_lt_pair_limit : goal.list_entry-listed-requires-clause-left_lt_pair_limit
list_entry-listed-requires-clause-left_lt_pair_limit c =
    let step = c.in-Some.ensures.steps in
    let left_seen = was-ok c.watch.result c.in-Some.at c.in_ok-seen.ensures.cases in
    left-few c.loop-at.invariant.2 _ _ step.0.1.0 step.0.1.1 c.from-bus.ensures (rw left_seen at c.watch.ensures)

pub list_entry-listed-requires-clause-right_lt_pair_limit : goal.list_entry-listed-requires-clause-right_lt_pair_limit
list_entry-listed-requires-clause-right_lt_pair_limit c =
    let step = c.in-Some.ensures.steps in
    let right_seen = was-ok c.watch.result c.in-Some.at c.in_ok-seen.ensures.cases in
    right-few c.loop-at.invariant.2 _ _ step.0.1.0 step.0.1.1 c.from-bus.ensures (rw right_seen at c.watch.ensures)

-- a record past which the walk goes on was accepted
pub loop-at-preserved : goal.loop-at-preserved
loop-at-preserved c =
    let step = c.in-Some.ensures.steps in
    let upto = rw (← step.1) at c.loop-at.invariant.2 in
    let accepted = was-ok c.watch.result c.in-Some.at c.in_ok-seen.ensures.cases in
    let seen = rw accepted at c.watch.ensures in (
      search rules,
      search rules,
      rw (step.2, ← step.1, step.0.0)
          (accepted-here upto _ _ step.0.1.0 step.0.1.1 c.from-bus.ensures seen refl c.list_entry-listed.ensures),
    )

pub returns : goal.returns
returns c =
    let ends = finished c.loop-at.invariant.2 c.in-None.ensures.steps.0.1.0 in
    record { walked = ends.0; image = ends.1 }
