-- Demand 3 of the minutes: of a repaint's cycles only the last two can change what the panel shows, the left half first. So a repaint tears the panel
-- (the minutes: a mixed name) only between these two; stopped just there, the panel stays torn until the last two cycles of a later repaint. It is
-- one statement about a whole list of repaints, sparing or not, from any panel whose chips are both ready, each repaint beginning where the one
-- before it left the panel, each stopped after any whole cycle.
use Rattle.std.specs.Prelude.{ℕ, ◌+◌, ◌*◌, ◌≤◌, ◌<◌, ◌≡◌, Bool, true, false, ◌||◌, List, [], ◌∷◌, ◌++◌, eqb, ltb, length, get_or, drop, replicate}
use Rattle.basics.specs.Choice.{if}
use Rattle.basics.specs.Verdict.{verdict, CallResult, result_of}
use Rattle.basics.specs.Verdict.{Verdict}
use Rattle.sed1520.specs.Chip.{in_range}
use Rattle.panel.specs.Panel.{image_length, Panel, outcome_of, after}
use Rattle.sed1520.specs.Records.{front, records_in}
use Rattle.sed1520.specs.declared.registers.Chip.{Chip}
use Rattle.frame.specs.Frame.{segments, frame_length, frame_place, framed}
use Rattle.repaint.specs.Repaint.{repaint_cycles, quiet_cycles, output_length, picture_length, repaint_sizes_wrong, repaint_of}
use Rattle.repaint.specs.Sparing.{sparing_quiet, sparing_of}

-- a chip that a repaint is written for
pub record Ready (c : Chip) : Type 0 where
  pub range : in_range c ≡ true
  pub display : c.display_on ≡ true
  pub static : c.static_on ≡ false
  pub duty : c.duty_32 ≡ false
  pub line : (eqb c.start_line 0 || eqb c.start_line 16) ≡ true
  pub modify : c.modify ≡ false

-- a panel whose chips are both ready, over any 640 bytes
pub record BothReady (p : Panel) : Type 0 where
  pub left : Ready p.left
  pub right : Ready p.right
  pub ram : length p.ram ≡ image_length

-- one repaint begun on a panel (made by `asked`, `plain_asked`): its picture, the buffer that it was lent and what its call gives back; and, where it
-- is accepted, how many of its cycles come before the first start line turns, and how many of all its cycles are sent
pub record Sending : Type 0 where
  pub picture : List ℕ
  pub buffer : List ℕ
  pub given : CallResult Verdict (List ℕ)
  pub quiet : ℕ
  pub stop : ℕ

-- one repaint of a list: whether it is the sparing one, a picture of bytes and an output buffer, both of any length, and after how many of its
-- cycles it stops
pub record Request : Type 0 where
  pub sparing : Bool
  pub picture : List ℕ
  pub buffer : List ℕ
  pub stop : ℕ
  pub bytes : (i : ℕ) → get_or picture i 0 < 256

-- how many cycles come before the first start line turns: 252 of the repaint, of the sparing one by the RAM as it stands
abbrev pub quiet_of : Panel → Request → ℕ
quiet_of p q = if q.sparing (sparing_quiet p q.picture) quiet_cycles

-- a repaint called with the chips as they stand, the sparing one lent the RAM as it stands; a stop after more cycles than it has comes after all
abbrev pub asked : Panel → Request → Sending
asked p q =
    let n = quiet_of p q + 2 in
    record {
      picture = q.picture;
      buffer = q.buffer;
      given = if q.sparing (sparing_of p q.picture q.buffer) (repaint_of p.left p.right q.picture q.buffer);
      quiet = quiet_of p q;
      stop = if (ltb n q.stop) n q.stop;
    }

-- the panel after the first k records that a repaint leaves in the buffer
abbrev pub sent_so_far : Panel → Sending → ℕ → Panel
sent_so_far p s k = after p (records_in s.given.lent k)

-- where a repaint leaves the panel: done, the cycles that are sent have had their whole effect; refused, none is given
abbrev pub leaves : Panel → Sending → Panel
leaves p s = if (eqb s.given.answer.number 0) (sent_so_far p s s.stop) p

-- what the panel shows: the bytes that the frame's call leaves in a buffer of 488, called as the panel stands; what the buffer held, here 0, does
-- not matter (FrameGiven)
unfoldable pub shown : Panel → List ℕ
shown p = (framed p (replicate frame_length 0)).lent

-- what the panel shows is 488 bytes, and the frame's call gives them, with number 0 and place 488, into any buffer of 488
pub record FrameGiven (p : Panel) : Type 0 where
  pub bytes : length (shown p) ≡ frame_length
  pub given : (buffer : List ℕ) → length buffer ≡ frame_length → framed p buffer ≡ result_of (verdict 0 frame_length) (shown p)

-- the frame that a picture asks for: the picture in the upper 16 rows, the lower 16 dark
abbrev pub wanted : List ℕ → List ℕ
wanted picture = picture ++ replicate picture_length 0

-- two frames show the same in a chip's half
pub record SameHalf (chip : ℕ) (one other : List ℕ) : Type 0 where
  pub at : (n r : ℕ) → n < segments → r < 4 → get_or one (frame_place chip n r) 0 ≡ get_or other (frame_place chip n r) 0

-- a repaint refused with number 1: buffer and panel are as they were, and the frame of that panel is given
pub record Refused (p : Panel) (s : Sending) : Type 0 where
  pub number : s.given.answer.number ≡ 1
  pub place : s.given.answer.place ≡ 0
  pub buffer : s.given.lent ≡ s.buffer
  pub stays : leaves p s ≡ p
  pub frame : FrameGiven p

-- a repaint that is accepted: every sent cycle is accepted, both chips are ready and the frame is given before the first and after each, and only the
-- last two cycles change what is shown, each its own half
pub record Accepted (p : Panel) (s : Sending) : Type 0 where
  pub number : s.given.answer.number ≡ 0
  pub place : s.given.answer.place ≡ s.quiet + 2
  pub cycles : (k : ℕ) → k < s.stop → (outcome_of (sent_so_far p s k) (front (drop (4 * k) s.given.lent))).answer.number ≡ 0
  pub places : (k : ℕ) → k < s.stop → (outcome_of (sent_so_far p s k) (front (drop (4 * k) s.given.lent))).answer.place ≡ 0
  pub ready : (k : ℕ) → k ≤ s.stop → BothReady (sent_so_far p s k)
  pub frames : (k : ℕ) → k ≤ s.stop → FrameGiven (sent_so_far p s k)
  pub before : (k : ℕ) → k ≤ s.stop → k ≤ s.quiet → shown (sent_so_far p s k) ≡ shown p
  pub turned : s.quiet + 1 ≤ s.stop
      → SameHalf 0 (shown (sent_so_far p s (s.quiet + 1))) (wanted s.picture) × SameHalf 1 (shown (sent_so_far p s (s.quiet + 1))) (shown p)
  pub whole : s.quiet + 2 ≤ s.stop → shown (sent_so_far p s (s.quiet + 2)) ≡ wanted s.picture

-- the test of sizes in numbers: a picture of 122 by 16, and room for 254 records
pub record SizesInNumbers : Type 0 where
  pub right : (picture buffer : ℕ) → picture ≡ picture_length → output_length ≤ buffer → repaint_sizes_wrong picture buffer ≡ false
  pub wrong : (picture buffer : ℕ) → (picture ≡ picture_length → output_length ≤ buffer → ⊥) → repaint_sizes_wrong picture buffer ≡ true

-- what is promised of one repaint: it is refused exactly when picture or buffer has a wrong size (SizesInNumbers); the RAM, for which the sparing one
-- is refused too, is 640 bytes on every panel here
abbrev pub Safe : Panel → Sending → Type 0
Safe p s =
    (repaint_sizes_wrong (length s.picture) (length s.buffer) ≡ true → Refused p s)
    × (repaint_sizes_wrong (length s.picture) (length s.buffer) ≡ false → Accepted p s)

-- every repaint of a list is safe, and so is any other one, begun afresh from the panel that the list leaves; a panel in the middle of a repaint is
-- left by the list that ends with that repaint stopped there. `begun` says what a repaint of the list is on the panel as it stands when it begins
unfoldable pub AllSafe : {Q : Type 0} → (Panel → Q → Sending) → Panel → List Q → Type 0
AllSafe {Q} begun p [] = (q : Q) → Safe p (begun p q)
AllSafe begun p (q ∷ qs) = Safe p (begun p q) × AllSafe begun (leaves p (begun p q)) qs

-- demand 3: from any panel whose chips are both ready, every list of repaints is safe
abbrev pub TearFree : Type 0
TearFree = (p : Panel) → BothReady p → (qs : List Request) → AllSafe asked p qs

-- a repaint that is not sparing, stopped after none to all of its 254 cycles
pub record PlainRequest : Type 0 where
  pub picture : List ℕ
  pub buffer : List ℕ
  pub stop : ℕ
  pub bytes : (i : ℕ) → get_or picture i 0 < 256
  pub within : stop ≤ repaint_cycles

-- that repaint, called with the chips as they stand: 252 of its 254 cycles come before the first start line turns, whatever the RAM holds
abbrev pub plain_asked : Panel → PlainRequest → Sending
plain_asked p q =
    record {
      picture = q.picture;
      buffer = q.buffer;
      given = repaint_of p.left p.right q.picture q.buffer;
      quiet = quiet_cycles;
      stop = q.stop;
    }

-- demand 3 of lists without a sparing repaint, as document 01 has it: it follows from TearFree
abbrev pub PlainTearFree : Type 0
PlainTearFree = (p : Panel) → BothReady p → (qs : List PlainRequest) → AllSafe plain_asked p qs
