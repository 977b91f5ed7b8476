-- `frame::fill` meets its contract: the bands so far are the frame's.
use Rattle.std.proofs.Common.{arith, ◌≡◌}
use Rattle.basics.specs.Lists.{joined}
use Rattle.basics.proofs.Filling.{begun-none, begun_all}
use Rattle.frame.specs.Frame.{frame_of}
use Rattle.frame.proofs.Places.{band-begun}
use Rattle.frame.proofs.fill.Goals as goal

pub loop-r-init : goal.loop-r-init
unfolding joined
loop-r-init c = begun-none _

pub loop-r-preserved : goal.loop-r-preserved
loop-r-preserved c = band-begun _ _ c.loop-r.invariant (omega arith) c.fill_half.ensures c.fill_half-in-loop-r.ensures

pub returns : goal.returns
unfolding frame_of
returns c = let all : c.loop-r.r ≡ 4 = omega arith in rw all at (begun_all c.loop-r.invariant (omega arith))
