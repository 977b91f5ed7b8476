-- What a panel with ready chips shows is the frame of its chips and RAM, and the frame's call gives it.
use Prim.Native.Nat.{ℕ}
use mathlib.Core.Path.{◌≡◌, ap, ◌∙◌}
use mathlib.Core.List.{List}
use lib.ListN.{length, replicate, length-replicate}
use Rattle.basics.specs.Verdict.{verdict, CallResult, result_of}
use Rattle.basics.specs.Verdict.{Verdict}
use Rattle.panel.specs.Panel.{Panel}
use Rattle.frame.specs.Frame.{frame_length, frame_of, framed}
use Rattle.frame.proofs.FrameCases.{every-frame-given}
use Rattle.frame.proofs.HalfLaws.{half-laws}
use Rattle.repaint.specs.TearFree.{BothReady, shown, FrameGiven}
use Rattle.repaint.proofs.Quiet.{ready-whole}

module _ (p : Panel) (ready : BothReady p) where
  call : (buffer : List ℕ) → length buffer ≡ frame_length → framed p buffer ≡ result_of (verdict 0 frame_length) (frame_of p)
  call buffer size = every-frame-given p buffer (ready-whole p ready) size

  pub shown-frame : shown p ≡ frame_of p
  unfolding shown
  shown-frame = ap (λ (o : CallResult Verdict (List ℕ)). o.lent) (call (replicate frame_length 0) (length-replicate {A = ℕ} frame_length 0))

  pub frame-given : FrameGiven p
  frame-given = record { bytes = rw shown-frame (half-laws.whole p); given = λ buffer size. call buffer size ∙ rw shown-frame }
