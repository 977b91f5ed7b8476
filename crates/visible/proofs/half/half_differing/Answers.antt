-- `visible::half::half_differing` meets its contract: the segments are counted.
use Rattle.std.proofs.Common.{arith, rules}
use mathlib.Core.Path.{refl, ◌∙◌}
use Rattle.std.proofs.lemmas.Iterator.{YieldsList-from_range, YieldsList-from_map}
use Rattle.std.proofs.lemmas.Iterator.Consumers.{sum_from_yields_List, fits_from_yields_list}
use Rattle.frame.specs.Frame.{segments}
use Rattle.visible.proofs.HalfCounts.{drawn, half-summed, half-few}
use Rattle.visible.proofs.half.half_differing.Goals as goal

pub sum-requires-clause-fits : goal.sum-requires-clause-fits
sum-requires-clause-fits c =
    let at = c.args in
    let few = half-few at.before at.ram.now at.after at.ram.now in
    let summed = half-summed at.before at.ram.now at.after at.ram.now c.requires.fit c.requires.fit_2 in
    fits_from_yields_list c.map.result _
    (YieldsList-from_map _ (drawn at.before at.ram.now at.after at.ram.now) (YieldsList-from_range 0 segments segments c.map.ensures.source refl)
    c.map.ensures.closure (λ x r q k. search rules)) (omega arith)

pub returns : goal.returns
returns c =
    let at = c.args in
    sum_from_yields_List c.map.result _ c.sum.ensures.ran
    (YieldsList-from_map _ (drawn at.before at.ram.now at.after at.ram.now) (YieldsList-from_range 0 segments segments c.map.ensures.source refl)
    c.map.ensures.closure (λ x r q k. search rules))
    ∙ half-summed at.before at.ram.now at.after at.ram.now c.requires.fit c.requires.fit_2
