-- `trace::wear::count_stores` meets its contract: the counts so far are one more.
use Rattle.std.proofs.Common.{◌≡◌, ◌+◌, ◌++◌, drop, map, take}
use Rattle.trace.proofs.wear.count_stores.Given as goal

abbrev pub invariant-loop-count : goal.invariant-loop-count
invariant-loop-count l =
    l.count-items ≡ map (λ n. n + 1) (take l.count-index l.initial.count-items) ++ drop l.count-index l.initial.count-items
