-- `visible::walk::walk` meets its contract: before each record, the records so far have run and their entries are listed.
use Rattle.std.specs.Iterator.Adapters.{enumerate_source, enumerate_count}
use Rattle.std.specs.Slice.Iter.{chunks_exact_rest, chunks_exact_size}
use Rattle.panel.specs.Panel.{as_panel}
use Rattle.visible.proofs.Walking.{WalkedTo}
use Rattle.visible.proofs.walk.walk.Given as goal

abbrev pub invariant-loop-at : goal.invariant-loop-at
invariant-loop-at l =
    let left = enumerate_source l.at-iterator in
    let begun = as_panel l.initial.now.left l.initial.now.right l.initial.ram in
    (goal.iterator-loop-at).can_next l.at-iterator × (goal.iterator-loop-at).is_finite l.at-iterator
    × WalkedTo begun l.trace l.initial.entries (as_panel l.now.left l.now.right l.ram)
    l.entries l.listed (enumerate_count l.at-iterator) (chunks_exact_size left) (chunks_exact_rest left)
