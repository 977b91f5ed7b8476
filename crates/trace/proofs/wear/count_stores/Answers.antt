-- `trace::wear::count_stores` meets its contract: the counts of the part are one more each, the others as they were.
use Rattle.std.proofs.Common.{◌≡◌, ℕ, ◌+◌, ◌-◌, min, List, drop, get_or, length, map, take, arith, rules, append-nil}
use Rattle.std.proofs.lemmas.List.{places, drop_all, get_or-map, length-map, take_all}
use Rattle.std.proofs.lemmas.List.Edits.{map_over_more}
use Rattle.std.proofs.lemmas.Bool.Decides.{nat_tests}
use borrow.Rule.Slice.PartMut.{put_mid}
use Rattle.basics.specs.Choice.{if}
use Rattle.basics.specs.Counts.{lies_in}
use Rattle.basics.proofs.Lists.{tabulated-is}
use Rattle.trace.specs.Wear.{raised}
use Rattle.trace.proofs.wear.count_stores.Goals as goal

raised-part : (wear part : List ℕ) (from to end at : ℕ) → end ≡ min to (length wear) → at ≡ min from end
    → part ≡ map (λ n. n + 1) (take (end - at) (drop at wear)) → put_mid at (end - at) wear part ≡ raised wear from to
unfolding raised
raised-part wear part from to end at e a p =
    rw p
    (tabulated-is (λ i. get_or wear i 0 + if (lies_in from to i) 1 0) 0 (length wear) _ (grind (arith, places, length-map {A = ℕ} {B = ℕ}))
    (λ i h. grind (
      arith,
      places,
      nat_tests,
      length-map {A = ℕ} {B = ℕ},
      get_or-map (λ (n : ℕ). n + 1) (take (end - at) (drop at wear)) (i - at) 0 0,
    )))

pub loop-count-preserved : goal.loop-count-preserved
loop-count-preserved c = map_over_more (λ n. n + 1) _ _ c.loop-count.count-index _ c.loop-count-test.true c.loop-count.invariant (search rules)

pub returns : goal.returns
returns c = raised-part _ _ _ _ _ _ c.min-end.ensures c.min.ensures (grind (arith, take_all, drop_all, append-nil))
