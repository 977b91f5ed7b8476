-- The frame's call: its sizes, when the frame is given, its numbers, and how large a place can be.
use Prim.Native.Nat.{ℕ, ◌<◌}
use native.Mathlib.Omega.{arith}
use mathlib.Core.Path.{◌≡◌}
use mathlib.Core.Bool.{false, not}
use mathlib.Core.List.{List}
use lib.Dec.{eqb}
use lib.ListN.{length}
use borrow.Author.Rules.{rules}
use borrow.Author.Tests.{eq-eqb}
use Rattle.basics.specs.Table.{Cause}
use Rattle.basics.specs.Verdict.{verdict, CallResult, result_of}
use Rattle.basics.specs.Verdict.{Verdict}
use Rattle.basics.proofs.Tests.{neither, no_other}
use Rattle.sed1520.specs.Chip.{out_of_range}
use Rattle.panel.specs.Panel.{Panel}
use Rattle.frame.specs.Frame.{frame_length, frame_of, frame_sizes_wrong, frame_table, framed}
use Rattle.frame.specs.Laws.{EveryFrameGiven, FrameNumbers}
use Rattle.basics.proofs.Table.{call-exactly, call-place}

pub sizes-right : (ram frame : ℕ) → frame_sizes_wrong ram frame ≡ false → (ram ≡ 640) × (frame ≡ frame_length)
unfolding frame_sizes_wrong
sizes-right ram frame e =
    let right = neither (not (eqb ram 640)) (not (eqb frame frame_length)) e in
    (no_other ram 640 right.0, no_other frame frame_length right.1)

pub every-frame-given : EveryFrameGiven
unfolding framed frame_sizes_wrong
every-frame-given p buffer whole size =
    rw (eq-eqb (length p.ram) 640 whole.image, eq-eqb (length buffer) frame_length size, whole.left, whole.right)

-- the lines of a call
abbrev table : Panel → List ℕ → List Cause
table p buffer = frame_table (out_of_range p.left) (out_of_range p.right) (length p.ram) (length buffer)

-- what is given where no line holds
abbrev pub given : Panel → CallResult Verdict (List ℕ)
given p = result_of (verdict 0 frame_length) (frame_of p)

pub frame-numbers : FrameNumbers
unfolding framed
frame-numbers p buffer = call-exactly (table p buffer) buffer (given p)

-- every place fits 16 bits
pub places-small : (p : Panel) (buffer : List ℕ) → (framed p buffer).answer.place < 65536
unfolding framed
places-small p buffer = call-place (table p buffer) buffer (given p) (λ at. at < 65536) (search rules) (λ _. omega arith)
