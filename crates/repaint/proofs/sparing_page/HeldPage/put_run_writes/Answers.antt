-- `repaint::sparing_page::HeldPage::put_run_writes` meets its contract: the writes so far are at the front, and a search for the run's end
-- from here on finds the same column.
use Rattle.std.proofs.Common.{arith, ℕ, suc, ◌+◌, ◌-◌, ◌*◌, ◌<◌, ◌≡◌, Bool, not, List}
use mathlib.Core.Path.{refl, sym, ◌∙◌}
use mathlib.Core.List.{flat_map}
use lib.ListN.{length-take, length-drop}
use Rattle.basics.specs.Lists.{joined, tabulated}
use Rattle.basics.specs.Verdict.{result_of}
use Rattle.basics.proofs.Filling.{begun-none, begun-length}
use Rattle.frame.specs.Frame.{segments}
use Rattle.repaint.specs.declared.sparing_page.HeldPage.{HeldPage}
use Rattle.repaint.specs.Sparing.{put_front, next_column}
use Rattle.repaint.proofs.Bytes.{changed, write_of, WritesTo, written-length, begun-write, begun-front}
use Rattle.repaint.proofs.NextColumn.{next_here, next-later}
use Rattle.repaint.proofs.sparing_page.HeldPage.put_run_writes.Goals as goal

more : (j : ℕ) → j < segments → segments - j ≡ suc (segments - (j + 1))
more j h = omega arith

module _ {held : HeldPage} {from : ℕ} {old : List ℕ} {column bytes : ℕ} {now : List ℕ} (upto : WritesTo held from old column bytes now) where
  abbrev equal : ℕ → Bool
  equal i = not (changed held i)

  -- how many bytes the writes so far are
  so_far : bytes ≡ 4 * (column - from)
  so_far = sym upto.begun.size ∙ written-length (write_of held.page) from (column - from)

  -- the writes are those up to the column where the run ends
  ended : next_column equal column (segments - column) ≡ column
      → result_of bytes now ≡ put_front (tabulated (write_of held.page) from (next_column equal from (segments - from) - from)) old
  ended ends = begun-front (tabulated (write_of held.page) from (column - from)) upto.begun ∙ rw (sym upto.same_end ∙ ends)

pub loop-column-init : goal.loop-column-init
unfolding flat_map joined
loop-column-init c =
    let none : c.args.from - c.args.from ≡ 0 = omega arith in
    record { begun = rw none (begun-none _); same_end = refl; same_size = refl }

pub returns-then-not-differs : goal.returns-then-not-differs
returns-then-not-differs c =
    let upto = c.loop-column.invariant in
    ended upto (next_here (equal upto) _ (more _ (omega arith)) (rw (← c.differs.ensures, c.if-not-differs.true)))

pub put_write-requires-clause-in_bounds : goal.put_write-requires-clause-in_bounds
put_write-requires-clause-in_bounds c = simp (length-take, length-drop) (omega (arith, so_far c.loop-column.invariant))

-- a write more where this column differs
pub loop-column-preserved : goal.loop-column-preserved
loop-column-preserved c =
    let upto = c.loop-column.invariant in
    let from = c.args.from in
    let column = c.loop-column.column in
    let next : column - from + 1 ≡ column + 1 - from = omega arith in
    let begun = rw next at (begun-write (write_of c.args.self.now.page) from (column - from) (omega arith) upto.begun c.put_write.ensures) in
    let later = next-later (equal upto) column (more column (omega arith)) (rw (← c.differs.ensures, c.if-not-differs.false)) in
    record { begun = begun; same_end = sym later ∙ upto.same_end; same_size = begun-length begun (omega (arith, so_far upto)) }

pub returns : goal.returns
unfolding next_column
returns c = let none : segments - c.loop-column.column ≡ 0 = omega arith in ended c.loop-column.invariant (rw none)
