-- `repaint::chip_plan::HiddenPage::put_writes` meets its contract: the writes so far are at the front.
use Prim.Native.Nat.{◌+◌, ◌*◌}
use native.Mathlib.Omega.{arith}
use mathlib.Core.Path.{◌≡◌, refl}
use borrow.Author.Rules.{rules}
use mathlib.Core.List.{flat_map}
use Rattle.basics.specs.Lists.{joined}
use Rattle.basics.proofs.Filling.{begun-none}
use Rattle.frame.specs.Frame.{segments}
use Rattle.repaint.proofs.Bytes.{write_of, begun-write}
use Rattle.repaint.proofs.chip_plan.HiddenPage.put_writes.Goals as goal

pub loop-j-init : goal.loop-j-init
unfolding flat_map joined
loop-j-init c =
    (begun-none _, refl)

pub loop-j-preserved : goal.loop-j-preserved
loop-j-preserved c =
    let next : 4 * c.loop-j.j + 4 ≡ 4 * (c.loop-j.j + 1) = omega arith in
    let more = begun-write (write_of c.args.self.now) 0 c.loop-j.j (omega arith) c.loop-j.invariant.0 c.put_write.ensures in
    (rw next at more, search rules)

pub returns : goal.returns
returns c =
    let e : c.loop-j.j ≡ segments = omega arith in
    rw e at c.loop-j.invariant.0.bytes
