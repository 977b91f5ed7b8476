-- `trace::feed::part_verdict` meets its contract: numbers 1, 13 and 2 in this order.
use native.Mathlib.Omega.{arith}
use mathlib.Core.Path.{◌∙◌, sym}
use Rattle.trace.proofs.ReplayNumbers.{sizes-right}
use Rattle.trace.proofs.feed.part_verdict.Goals as goal

pub too_many-requires : goal.too_many-requires
too_many-requires c =
    let at = c.args in
    let right = sizes-right at.part _ at.ram at.answers (sym c.sizes_wrong.ensures ∙ c.if-sizes_wrong.false) in
    omega (arith, right.short, c.completed-more.ensures)
