-- `frame::fill_half` meets its contract: the bytes so far are the half's.
use Rattle.basics.proofs.Filling.{Begun}
use Rattle.frame.specs.Frame.{half_band}
use Rattle.frame.proofs.fill_half.Given as goal

abbrev pub invariant-loop-n : goal.invariant-loop-n
invariant-loop-n l = Begun l.initial.half (half_band l.n l.chip l.ram l.r) l.n l.half
