-- The 64-bit number of a call can be taken apart.
use Prim.Native.Nat.{ℕ, ◌<◌}
use native.Mathlib.Omega.{arith}
use mathlib.Core.List.{List}
use Rattle.trace.specs.Replay.{replay_in_place}
use Rattle.trace.proofs.Bounds.{Few, replay-bounded, in-place-bounded}
use Rattle.frame.proofs.FrameCases.{places-small}
use Rattle.repaint.proofs.RepaintCases as repaint
use Rattle.repaint.proofs.SparingCases as sparing
use Rattle.visible.proofs.ChangesCases as changes
use Rattle.pedralume.specs.Promises.{Unpacks, Small, AnswersUnpack}

unpacks : (n at compared differing : ℕ) → n < 256 → at < 65536 → compared < 65536 → Unpacks n at compared differing
unpacks n at compared differing h l m =
    record { number_of = omega arith; place_of = omega arith; compared-of = omega arith; differing-of = omega arith }

small : {at compared differing : ℕ} → Few 16384 at compared differing → Small at compared differing
small few =
    record {
      place-small = omega (arith, few.place-few);
      compared-small = omega (arith, few.compared-few);
      differing-small = omega (arith, few.differing-few);
    }

-- for the search at `pedralume_replay`
pub replay_small : (chips ram trace answers : List ℕ) → let a = (replay_in_place chips ram trace answers).answer in
    Small a.place a.compared a.differing
replay_small chips ram trace answers = small (in-place-bounded chips ram trace answers)

pub answers-unpack : AnswersUnpack
answers-unpack =
    record {
      parts = unpacks;
      replay = replay_small;
      replay-by-value = λ p trace answers. small (replay-bounded p trace answers);
      frame-place = places-small;
      changes-place = changes.places-small;
      repaint-place = repaint.places-small;
      sparing-place = sparing.places-small;
    }
