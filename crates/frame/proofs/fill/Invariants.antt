-- `frame::fill` meets its contract: the bands so far are the frame's.
use Rattle.std.proofs.Common.{◌*◌}
use Rattle.basics.specs.Lists.{joined}
use Rattle.basics.proofs.Filling.{Begun}
use Rattle.panel.specs.Panel.{as_panel}
use Rattle.frame.specs.Frame.{columns, frame_band}
use Rattle.frame.proofs.fill.Given as goal

abbrev pub invariant-loop-r : goal.invariant-loop-r
invariant-loop-r l = Begun l.initial.frame (joined (frame_band (as_panel l.left l.right l.ram)) 0 l.r) (columns * l.r) l.frame
