-- `trace::progress::Progress::moved_on` meets its contract: the counts go on, and what is left is kept over.
use native.Mathlib.Omega.{arith}
use mathlib.Core.Path.{sym}
use lib.ListN.{length}
use Prim.Native.Nat.{◌+◌}
use borrow.Author.Tests.{eq-eqb}
use Rattle.trace.specs.Feed.{moved_on, joined_to}
use Rattle.trace.proofs.KeptOver.{joined_length, kept-over}
use Rattle.trace.proofs.progress.Progress.moved_on.Goals as goal

pub returns : goal.returns
unfolding moved_on
returns c =
    let at = c.args in
    let t = at.self in
    let bytes = joined_to t at.part.now in
    rw (eq-eqb at.tally.number 0 (omega arith), c.byte_at.ensures, c.byte_at-2.ensures, c.byte_at-3.ensures)
    (sym (kept-over bytes (t.kept + length at.part.now) _ _ _ _ (joined_length t (omega arith) at.part.now)))
