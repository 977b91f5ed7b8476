-- `frame::fill_half` meets its contract: the bytes so far are the half's.
use Rattle.std.proofs.Common.{arith}
use Rattle.basics.specs.Lists.{joined}
use Rattle.basics.proofs.Filling.{begun-none, begun-byte}
use Rattle.basics.proofs.Lists.{joined-next}
use Rattle.frame.proofs.fill_half.Goals as goal

pub loop-n-init : goal.loop-n-init
unfolding joined
loop-n-init c = begun-none _

pub loop-n-preserved : goal.loop-n-preserved
loop-n-preserved c =
    rw (joined-next _ c.loop-n.n, ← c.segment_byte.ensures) (begun-byte c.loop-n.invariant c.segment_byte.result (omega arith))
