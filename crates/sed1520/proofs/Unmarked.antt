-- The mark of a chip's read latch, fresh or stale, decides between kinds 1 and 2, and no number, no byte and no other register.
use Prim.Native.Nat.{ℕ}
use mathlib.Core.Path.{◌≡◌, refl, ap}
use mathlib.Core.Bool.{true, ◌&&◌, false≢true}
use mathlib.Core.List.{List}
use mathlib.Core.Logic.{⊎_elim}
use lib.Dec.{ltb, eqb}
use borrow.Author.Tests.{eqb-true}
use Rattle.basics.specs.Choice.{if}
use Rattle.basics.proofs.Tests.{both, either, when, when-both}
use Rattle.sed1520.specs.Chip.{in_range, latched, read_kind, staled}
use Rattle.sed1520.specs.Command.{within}
use Rattle.sed1520.specs.Cycle.{reply_of, Outcome, outcome, answered, execute, data_write, after_read, data_read, status_byte, write_line, cycle_of}
use Rattle.sed1520.specs.LatchPromises.{unmarked_reply, sets_page_or_writes}
use Rattle.sed1520.specs.declared.registers.Chip.{Chip}
use Rattle.sed1520.specs.declared.registers.ReadLatch.{ReadLatch}
use Rattle.sed1520.specs.declared.registers.ReadLatch.TheVariants.{Fresh, Stale}
use Rattle.sed1520.specs.declared.commands.Opcode.{Opcode}
use Rattle.sed1520.specs.declared.commands.Opcode.TheVariants.{Display, StartLine, Page, Column, Adc, Static, Duty, Modify, End, Reset}
use Rattle.sed1520.specs.declared.bus.Record.{Record}
use Rattle.sed1520.proofs.ActionCases.{data-write-stale}
use Rattle.sed1520.proofs.EachWay.{each-cycle}

-- an outcome but for the mark that it leaves, and the one that it found
abbrev pub unmarked_outcome : Outcome → Outcome
unmarked_outcome o =
    let a = o.answer in
    let kind = (unmarked_reply (reply_of a)).kind in
    outcome (record { number = a.number; place = a.place; kind = kind; byte = a.byte; stored = a.stored; chip = staled a.chip }) o.ram

-- two outcomes that are the same but for these marks
abbrev pub Same : Outcome → Outcome → Type 0
Same o e = unmarked_outcome o ≡ unmarked_outcome e

-- two chips that are the same but for their marks
abbrev pub SameChips : Chip → Chip → Type 0
SameChips c d = staled c ≡ staled d

executed-same : (k : Opcode) (a : ℕ) (c : Chip) → SameChips (execute k a (staled c)) (execute k a c)
unfolding execute
executed-same Display a c = refl
executed-same StartLine a c = refl
executed-same Page a c = refl
executed-same Column a c = refl
executed-same Adc a c = refl
executed-same Static a c = refl
executed-same Duty a c = refl
executed-same Modify a c = when-both SameChips c.modify _ refl (λ _. refl) (λ _. refl)
executed-same End a c = when-both SameChips c.modify _ refl (λ _. refl) (λ _. refl)
executed-same Reset a c = refl

-- a data read answers kind 1 or 2
data-kind : (latch : ReadLatch) → if (eqb (read_kind latch) 1) 2 (read_kind latch) ≡ 2
data-kind (Fresh b) = refl
data-kind (Stale b) = refl

-- a chip made stale, and as it was
module _ (c : Chip) (ram : List ℕ) where
  -- done with a kind and a byte
  abbrev done_with : ℕ → ℕ → Chip → Outcome
  done_with kind b next = outcome (answered kind b next) ram

  read_same : SameChips (after_read (staled c) ram) (after_read c ram)
  unfolding after_read
  read_same = when-both SameChips (ltb c.column 80) _ refl (λ _. refl) (λ _. refl)

  pub cycle-same : (r : Record) → Same (cycle_of r (staled c) ram) (cycle_of r c ram)
  unfolding in_range data_write data_read status_byte
  cycle-same r =
      each-cycle Same r (staled c) c ram refl refl
      (record {
        refused = λ n. refl;
        command = λ _ k a h. ap (done_with 0 0) (executed-same k a c);
        data-write = λ _. when-both Same (ltb c.column 80) _ refl (λ _. refl) (λ _. refl);
        status-read = λ _. refl;
        data-read = λ _. rw (data-kind c.latch) (ap (done_with 2 (latched c.latch)) read_same);
      })

-- a command or a data write keeps the latch's byte, so a latch put back differs in its mark alone
module _ (c : Chip) where
  abbrev pub Kept : Chip → Type 0
  Kept next = latched c.latch ≡ latched next.latch

  executed-kept : (k : Opcode) (a : ℕ) → Kept (execute k a c)
  unfolding execute
  executed-kept Display a = refl
  executed-kept StartLine a = refl
  executed-kept Page a = refl
  executed-kept Column a = refl
  executed-kept Adc a = refl
  executed-kept Static a = refl
  executed-kept Duty a = refl
  executed-kept Modify a = when Kept c.modify (λ _. refl) (λ _. refl)
  executed-kept End a = when Kept c.modify (λ _. refl) (λ _. refl)
  executed-kept Reset a = refl

  pub write_kept : (ram : List ℕ) (r : Record) → eqb (write_line r.lines) 0 ≡ true → Kept (cycle_of r c ram).answer.chip
  write_kept ram r write =
      each-cycle (λ o _. Kept o.answer.chip) r c c ram refl refl
      (record {
        refused = λ n. refl;
        command = λ _ k a h. executed-kept k a;
        data-write = λ _. rw (data-write-stale c ram r.chip r.byte);
        status-read = λ _. refl;
        data-read = λ read. absurd (false≢true (rw read at write));
      })

pub a_write : (r : Record) → sets_page_or_writes r ≡ true → eqb (write_line r.lines) 0 ≡ true
a_write r t =
    ⊎_elim
    (λ page. rw (eqb-true r.lines 2 (both (eqb r.lines 2) (within Page r.byte) page).0))
    (λ write. rw (eqb-true r.lines 3 write))
    (either (eqb r.lines 2 && within Page r.byte) _ t)
