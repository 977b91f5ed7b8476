-- What a record comes to on its own chip's half: a data write changes the segment of its column, a command what the registers say, any other
-- record nothing.
use Prim.Native.Nat.{ℕ, ◌-◌, ◌<◌}
use native.Mathlib.Omega.{arith}
use mathlib.Core.Path.{◌≡◌, refl, sym, ap, ◌∙◌}
use mathlib.Core.Bool.{Bool, true, false, beq, false≢true, true≢false}
use mathlib.Core.List.{List}
use mathlib.Core.Logic.{⊎_elim}
use lib.Dec.{ltb}
use lib.ListN.{length}
use borrow.Author.Tests.{eqb-true, ltb-true, ltb-false}
use Rattle.basics.specs.Choice.{if}
use Rattle.basics.specs.Counts.{sum_below}
use Rattle.basics.specs.Refusals.{number_of}
use Rattle.basics.specs.declared.refusal.Refusal.{Refusal}
use Rattle.basics.proofs.Refusals.{failed-with, refusal-number}
use Rattle.basics.proofs.Tests.{tested, both}
use Rattle.std.specs.Prelude.{Result, IsErrAnd}
use Rattle.sed1520.specs.Cycle.{Outcome, outcome, refusal, cycle_of}
use Rattle.sed1520.specs.Laws.{Fit, shown_by}
use Rattle.sed1520.specs.declared.bus.Record.{Record}
use Rattle.sed1520.specs.declared.registers.Chip.{Chip}
use Rattle.sed1520.proofs.CycleKeeps.{every-cycle-keeps}
use Rattle.sed1520.proofs.CycleTouches.{every-cycle-touches}
use Rattle.frame.specs.Frame.{segments, ram_column, segment_pixels}
use Rattle.frame.specs.Laws.{SameShown}
use Rattle.frame.proofs.HalfLaws.{half-laws}
use Rattle.frame.proofs.Lines.{no-segment}
use Rattle.visible.specs.Changes.{half_changed}
use Rattle.visible.specs.Sight.{bits_differing, same_shown_registers, half_seen, half_sight, half_sight_of}
use Rattle.visible.proofs.HalfCounts.{segment-counted, same_half, one-segment}

-- only one segment shows the column at which a chip stands
other-column : (c : Chip) (n : ℕ) → n < segments → (n ≡ ram_column c c.column → ⊥) → ram_column c n ≡ c.column → ⊥
other-column c n driven apart = by c.reverse apart
  where
    by : (t : Bool) → (n ≡ if t (79 - c.column) c.column → ⊥) → if t (79 - n) n ≡ c.column → ⊥
    by true apart e = apart (omega arith)
    by false apart e = apart e

-- the same registers over the same RAM
pub same-shown-registers : (c d : Chip) (ram : List ℕ) → shown_by d ≡ shown_by c → half_changed c ram d ram ≡ 0
same-shown-registers c d ram same = same_half c ram d ram (λ n h. record { registers = sym same; bytes = λ row l shows. refl })

pub alike : (a b : Bool) → beq a b ≡ true → a ≡ b
alike true true e = refl
alike true false e = absurd (false≢true e)
alike false true e = absurd (false≢true e)
alike false false e = refl

pub unlike : (a b : Bool) → beq a b ≡ false → a ≡ b → ⊥
unlike true true e same = true≢false e
unlike true false e same = true≢false same
unlike false true e same = false≢true same
unlike false false e same = true≢false e

pub registers-alike : (c d : Chip) → same_shown_registers c d ≡ true → shown_by d ≡ shown_by c
unfolding same_shown_registers
registers-alike c d t =
    let display = both (beq c.display_on d.display_on) _ t in
    let static = both (beq c.static_on d.static_on) _ display.1 in
    let duty = both (beq c.duty_32 d.duty_32) _ static.1 in
    let reverse = both (beq c.reverse d.reverse) _ duty.1 in
    rw (
      alike c.display_on d.display_on display.0,
      alike c.static_on d.static_on static.0,
      alike c.duty_32 d.duty_32 duty.0,
      alike c.reverse d.reverse reverse.0,
      eqb-true c.start_line d.start_line reverse.1,
    )

-- a record's cycle, with what it gave back and left
module _ (r : Record) (c : Chip) (ram : List ℕ) (o : Outcome) (e : o ≡ cycle_of r c ram) where
  abbrev next : Chip
  next = o.answer.chip

  -- no command: the registers are as they were; no data write: the RAM is
  registers-kept : (r.lines ≡ 2 → ⊥) → shown_by next ≡ shown_by c
  registers-kept other = rw e ((every-cycle-touches r c ram).registers-kept other)

  ram-kept : (r.lines ≡ 3 → ⊥) → o.ram ≡ ram
  ram-kept other = rw e ((every-cycle-touches r c ram).ram-kept other)

  -- no command: the same is shown in every segment but that of the chip's column
  other-segments : (r.lines ≡ 2 → ⊥) → (n : ℕ) → n < segments → (n ≡ ram_column c c.column → ⊥) → SameShown c next ram o.ram n
  other-segments other n driven apart =
      record {
        registers = sym (registers-kept other);
        bytes = λ row l shows.
            rw e (sym ((every-cycle-touches r c ram).columns-kept _ (ram_column c n) (half-laws.column c n driven) (other-column c n driven apart)));
      }

  -- a chip that fits its RAM fits it after the record
  left-bytes : length ram ≡ 320 → length o.ram ≡ 320
  left-bytes bytes = rw e (every-cycle-keeps r c ram).same_size ∙ bytes

  pub next_fits : Fit c ram → Fit next o.ram
  next_fits fit = record { range = rw e ((every-cycle-keeps r c ram).range fit.range); bytes = left-bytes fit.bytes }

  -- what a record comes to, its pixels counted
  pub seen : (n : ℕ) → n ≡ half_changed c ram next o.ram
      → half_seen o.answer.number next n o.ram ≡ half_sight_of r c ram
  seen n counted = rw (counted, e)

  pub write-sight : Fit c ram → (r.lines ≡ 2 → ⊥) → {n one two : ℕ} → n ≡ ram_column c c.column → one ≡ (segment_pixels c ram n).pixels
      → two ≡ (segment_pixels next o.ram n).pixels → bits_differing one two ≡ half_changed c ram next o.ram
  unfolding sum_below
  write-sight fit other {n} here is_one is-two =
      let others : (m : ℕ) → m < segments → (m ≡ n → ⊥) → SameShown c next ram o.ram m =
      λ m driven apart. other-segments other m driven (λ same. apart (same ∙ sym here)) in
      rw (is_one, is-two)
      (⊎_elim
      (λ t. let driven = ltb-true n segments t in
      segment-counted c ram next o.ram fit (next_fits fit) n driven
      ∙ sym (one-segment c ram next o.ram n driven others))
      (λ t. let past = ltb-false n segments t in
      rw (no-segment c ram n past, no-segment next o.ram n past)
      (sym (same_half c ram next o.ram (λ m driven. others m driven (λ same. omega arith)))))
      (tested (ltb n segments)))

  -- registers that stand alike over a RAM that was not written
  pub same-sight : (r.lines ≡ 3 → ⊥) → shown_by next ≡ shown_by c → 0 ≡ half_changed c ram next o.ram
  same-sight other same = rw (ram-kept other) (sym (same-shown-registers c next ram same))

  -- neither a command nor a data write
  pub read-sight : (r.lines ≡ 2 → ⊥) → (r.lines ≡ 3 → ⊥) → 0 ≡ half_changed c ram next o.ram
  read-sight command write = same-sight write (registers-kept command)

  -- the half drawn over the RAM as it is after the record
  pub command-sight : (r.lines ≡ 3 → ⊥) → {n : ℕ} → n ≡ half_changed c o.ram next o.ram → n ≡ half_changed c ram next o.ram
  command-sight other counted = counted ∙ ap (λ (l : List ℕ). half_changed c l next o.ram) (ram-kept other)

-- a refused record, which changes nothing
pub failed-seen : (r : Record) (c : Chip) (ram : List ℕ) {after : List ℕ} (given : Result ℕ Refusal) (why : Refusal)
    → IsErrAnd given (λ g. g ≡ why) → outcome (refusal (number_of why) c) after ≡ cycle_of r c ram → half_sight given c after ≡ half_sight_of r c ram
failed-seen r c ram given why failed e =
    let kept = e ∙ (every-cycle-keeps r c ram).refused (rw (← e) (refusal-number why)) in
    rw (failed-with given failed)
    (seen r c ram _ e 0 (rw (ap (λ (o : Outcome). o.ram) kept) (sym (same-shown-registers c c ram refl))))
