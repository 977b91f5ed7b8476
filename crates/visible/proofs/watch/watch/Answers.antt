-- `visible::watch::watch` meets its contract: the half of the chip that the record names, the other half as it was.
use Prim.Native.Nat.{ℕ, ◌-◌}
use native.Mathlib.Omega.{arith}
use mathlib.Core.Path.{◌≡◌, sym}
use mathlib.Core.List.{List, ◌++◌, append-nil}
use lib.ListN.{length, take, drop, length-drop, drop_of_length-le}
use lib.Seq.{length-take-le}
use Rattle.basics.proofs.Parts.{rest}
use Rattle.basics.proofs.Refusals.{failed-with}
use Rattle.panel.proofs.WholePanel.{whole-fit}
use Rattle.visible.proofs.PanelSights.{left-sight, right-sight}
use Rattle.visible.proofs.watch.watch.Goals as goal

pub slice_bounds-watch_half-end-then-bus-eq0 : goal.slice_bounds-watch_half-end-then-bus-eq0
slice_bounds-watch_half-end-then-bus-eq0 c = sym (length-take-le 320 c.args.ram.now (omega (arith, c.requires.image)))

pub watch_half-requires : goal.watch_half-requires
watch_half-requires c = whole-fit _ c.requires 0

pub returns-in_err-left : goal.returns-in_err-left
returns-in_err-left c =
    rw (failed-with _ c.from_residual.ensures.1) (left-sight _ c.requires.image _ c.if-bus-eq0.true c.in_err-left.ensures)

pub returns-then-bus-eq0 : goal.returns-then-bus-eq0
returns-then-bus-eq0 c = left-sight _ c.requires.image _ c.if-bus-eq0.true c.in_ok-left.ensures

-- the right half is lent to its end, and put back so
put_right : (ram half : List ℕ) → take 320 ram ++ (half ++ drop (length ram - 320) (drop 320 ram)) ≡ take 320 ram ++ half
put_right ram half = rw (drop_of_length-le (drop 320 ram) {i = length ram - 320} (simp length-drop (omega arith)), append-nil half)

pub returns-in_err-right : goal.returns-in_err-right
returns-in_err-right c =
    rw (failed-with _ c.from_residual-in_err-right.ensures.1, put_right c.args.ram.now c.watch_half-2.new.ram)
    (right-sight _ c.requires.image _ c.if-bus-eq0.false (rw (rest c.args.ram.now 320) at c.in_err-right.ensures))

pub returns : goal.returns
returns c =
    rw (put_right c.args.ram.now c.watch_half-2.new.ram)
    (right-sight _ c.requires.image _ c.if-bus-eq0.false (rw (rest c.args.ram.now 320) at c.in_ok-right.ensures))
