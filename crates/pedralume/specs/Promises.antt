-- What is proved of the 64-bit number of every call but the feed's three, beside their contracts.
use Rattle.std.specs.Prelude.{ℕ, ◌/◌, ◌%◌, ◌^◌, ◌<◌, ◌≡◌, List}
use Rattle.basics.specs.Bytes.{pair_limit}
use Rattle.panel.specs.Panel.{Panel}
use Rattle.sed1520.specs.declared.registers.Chip.{Chip}
use Rattle.trace.specs.Replay.{replay_of, replay_in_place}
use Rattle.frame.specs.Frame.{framed}
use Rattle.repaint.specs.Repaint.{repaint_of}
use Rattle.repaint.specs.Sparing.{sparing_of}
use Rattle.visible.specs.Changes.{changes_of}
use Rattle.pedralume.specs.Call.{packed}

-- the parts of the packed 64-bit number are read back, each from bits of its own
pub record Unpacks (n at compared differing : ℕ) : Type 0 where
  pub number_of : packed n at compared differing % 256 ≡ n
  pub place_of : packed n at compared differing / 256 % pair_limit ≡ at
  pub compared-of : packed n at compared differing / 2 ^ 24 % pair_limit ≡ compared
  pub differing-of : packed n at compared differing / 2 ^ 40 ≡ differing

-- place and counts below 65,536
pub record Small (place compared differing : ℕ) : Type 0 where
  pub place-small : place < pair_limit
  pub compared-small : compared < pair_limit
  pub differing-small : differing < pair_limit

-- the parts of the 64-bit number are read back where the number is a byte, as the code's is, and place and compared are below 65,536; place and both
-- counts are so in all that replay, frame, both repaints and the list of changes give back, and in a replay by value
pub record AnswersUnpack : Type 0 where
  pub parts : (n at compared differing : ℕ) → n < 256 → at < pair_limit → compared < pair_limit → Unpacks n at compared differing
  pub replay : (chips ram trace answers : List ℕ) → let a = (replay_in_place chips ram trace answers).answer in
      Small a.place a.compared a.differing
  pub replay-by-value : (p : Panel) (trace answers : List ℕ)
      → let a = (replay_of p trace answers).answer in Small a.place a.compared a.differing
  pub frame-place : (p : Panel) (buffer : List ℕ) → (framed p buffer).answer.place < pair_limit
  pub changes-place : (p : Panel) (trace buffer : List ℕ) → (changes_of p trace buffer).answer.place < pair_limit
  pub repaint-place : (left right : Chip) (picture buffer : List ℕ) → (repaint_of left right picture buffer).answer.place < pair_limit
  pub sparing-place : (p : Panel) (picture buffer : List ℕ) → (sparing_of p picture buffer).answer.place < pair_limit
