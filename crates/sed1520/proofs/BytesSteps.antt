-- A step over a chip's bytes by the outcome of the cycle's step, and by what the record's lines ask for; on bytes that number 2 lets pass it is the
-- cycle of that chip.
use Prim.Native.Nat.{ℕ}
use mathlib.Core.Path.{◌≡◌, refl, ap, ◌∙◌}
use mathlib.Core.List.{List, [], ◌∷◌}
use mathlib.Core.Logic.{⊎_elim}
use Rattle.std.specs.Prelude.{Option, None, Some}
use lib.Dec.{ltb, eqb}
use lib.ListN.{length, get_or, set, length-set}
use borrow.Author.Tests.{eqb-true, eqb-false}
use Rattle.basics.specs.Run.{Step}
use Rattle.basics.proofs.Tests.{tested, when, when-both}
use Rattle.sed1520.specs.BytesRun.{set_by, set_by_command, set_by_record, stored, stored_by, BytesAndRam, with_ram, bytes_step, command_bytes}
use Rattle.sed1520.specs.Replies.{reply}
use Rattle.sed1520.specs.ChipBytes.{chip_bytes, registers_in}
use Rattle.sed1520.specs.Command.{decode_of}
use Rattle.sed1520.specs.Cycle.{Outcome, outcome, bus_refusal, column_refusal, execute, executed, command_write, data_write, after_read, data_read}
use Rattle.sed1520.specs.Cycle.{address_line, write_line, status_byte, action_of, step_of, Reply, reply_of, as_step}
use Rattle.sed1520.specs.Promises.{EveryBytesStep}
use Rattle.sed1520.specs.Cycle.{Answer}
use Rattle.sed1520.specs.declared.bus.Record.{Record}
use Rattle.sed1520.specs.declared.commands.Command.{Command}
use Rattle.sed1520.specs.declared.commands.Opcode.{Opcode}
use Rattle.sed1520.specs.declared.commands.Opcode.TheVariants.{Display, StartLine, Page, Column, Adc, Static, Duty, Modify, End, Reset}
use Rattle.sed1520.specs.declared.registers.Chip.{Chip}
use Rattle.sed1520.proofs.ChipBytesUndo.{marked-in, written_back, passed}
use Rattle.sed1520.proofs.StepCases.{action-command, action-status}
use Rattle.sed1520.proofs.StepCases.{step-action, step-refused, cycle-step}

-- an accepted record's step
abbrev pub accepted : Reply → BytesAndRam → Step BytesAndRam Reply
accepted a next = record { number = 0; answer = a; next = next }

-- what a step makes of the outcome
abbrev step_to : BytesAndRam → Record → Outcome → Step BytesAndRam Reply
step_to s r o = as_step o (with_ram (stored_by o.answer (set_by_record r (registers_in s.bytes).modify) s.bytes) o.ram)

-- a command answers kind 0, byte 0, and stores nothing
command-reply : (b : ℕ) (c : Chip) → reply_of (command_write b c) ≡ reply 0 0
unfolding command_write
command-reply b c = decoded (decode_of b).value
  where
    decoded : (o : Option Command) → reply_of (executed b o c) ≡ reply 0 0
    decoded None = refl
    decoded (Some m) = when (λ (a : Answer). reply_of a ≡ reply 0 0) (eqb (column_refusal b c.modify) 0) (λ _. refl) (λ _. refl)

module _ (s : BytesAndRam) (r : Record) where
  abbrev own : Chip
  own = registers_in s.bytes

  pub by-outcome : {o : Outcome} → step_of r own s.ram ≡ o → bytes_step s r ≡ step_to s r o
  unfolding bytes_step
  by-outcome e = ap (step_to s r) e

  pub refused-step : (bus_refusal r ≡ 0 → ⊥) → (bytes_step s r).number ≡ bus_refusal r
  refused-step h = rw (by-outcome (step-refused r own s.ram h))

  module _ (e : bus_refusal r ≡ 0) where
    pub status-step : r.lines ≡ 4 → bytes_step s r ≡ accepted (reply 3 (status_byte own)) s
    status-step is = by-outcome (step-action r own s.ram e ∙ action-status r own s.ram is) ∙ rw is

    -- a command: its number, and where it is executed
    module _ (is : r.lines ≡ 2) where
      abbrev written : Answer
      written = command_write r.byte own

      command-outcome : bytes_step s r ≡ step_to s r (outcome written s.ram)
      command-outcome = by-outcome (step-action r own s.ram e ∙ action-command r own s.ram is)

      pub command-number : (bytes_step s r).number ≡ written.number
      command-number = rw command-outcome

      pub command-step : written.number ≡ 0 → bytes_step s r ≡ accepted (reply 0 0) (with_ram (command_bytes r.byte s.bytes) s.ram)
      command-step done = command-outcome ∙ rw (done, command-reply r.byte own, is)

-- on the bytes of a chip, what a record stores is all that it changes
module _ (c : Chip) (ram : List ℕ) where
  abbrev AllChanged : List ℕ → Chip → Type 0
  AllChanged places next = stored places (chip_bytes c) next ≡ chip_bytes next

  abbrev AllStored : List ℕ → Answer → Type 0
  AllStored places a = stored_by a places (chip_bytes c) ≡ chip_bytes a.chip

  write-stored : (k b : ℕ) → AllStored (7 ∷ 9 ∷ []) (data_write k b c ram).answer
  unfolding data_write chip_bytes
  write-stored k b = when (λ (o : Outcome). AllStored (7 ∷ 9 ∷ []) o.answer) (ltb c.column 80) (λ _. refl) (λ _. refl)

  read-stored : AllStored (7 ∷ 9 ∷ 10 ∷ []) (data_read c ram)
  unfolding data_read after_read chip_bytes
  read-stored = when (AllChanged (7 ∷ 9 ∷ 10 ∷ [])) (ltb c.column 80) (λ _. refl) (λ _. refl)

  execute-stored : (k : Opcode) (a : ℕ) → AllChanged (set_by k c.modify) (execute k a c)
  unfolding execute chip_bytes
  execute-stored Display a = refl
  execute-stored StartLine a = refl
  execute-stored Page a = refl
  execute-stored Column a = refl
  execute-stored Adc a = refl
  execute-stored Static a = refl
  execute-stored Duty a = refl
  execute-stored Modify a = when-both AllChanged c.modify c.modify refl (λ _. refl) (λ _. refl)
  execute-stored End a = when-both AllChanged c.modify c.modify refl (λ _. refl) (λ _. refl)
  execute-stored Reset a = refl

  command-stored : (b : ℕ) → AllStored (set_by_command (decode_of b).value c.modify) (command_write b c)
  unfolding command_write
  command-stored b = decoded (decode_of b).value
    where
      decoded : (o : Option Command) → AllStored (set_by_command o c.modify) (executed b o c)
      decoded None = refl
      decoded (Some m) =
          when (AllStored (set_by m.opcode c.modify)) (eqb (column_refusal b c.modify) 0)
          (λ _. execute-stored m.opcode m.argument) (λ no. rw no)

  -- so it is of any record
  action-stored : (r : Record) → AllStored (set_by_record r c.modify) (action_of r c ram).answer
  unfolding action_of
  action-stored r =
      let write = eqb (write_line r.lines) 0 in
      let command = eqb (address_line r.lines) 0 in
      when-both Stored write write refl
      (λ _. when-both Stored command command refl (λ _. command-stored r.byte) (λ _. write-stored r.chip r.byte))
      (λ _. when-both Stored command command refl (λ _. refl) (λ _. read-stored))
    where
      Stored : List ℕ → Outcome → Type 0
      Stored places o = AllStored places o.answer

  step-stored : (r : Record) → AllStored (set_by_record r c.modify) (step_of r c ram).answer
  step-stored r =
      ⊎_elim
      (λ t. rw (step-action r c ram (eqb-true (bus_refusal r) 0 t)) (action-stored r))
      (λ t. rw (step-refused r c ram (eqb-false (bus_refusal r) 0 t)) (rw t))
      (tested (eqb (bus_refusal r) 0))

-- a step keeps both lengths
stored-length : (places b : List ℕ) (next : Chip) → length (stored places b next) ≡ length b
stored-length [] b next = refl
stored-length (p ∷ ps) b next = stored-length ps (set b p (get_or (chip_bytes next) p 0)) next ∙ length-set b p _

action-length : (r : Record) (c : Chip) (ram : List ℕ) → length (action_of r c ram).ram ≡ length ram
unfolding action_of data_write
action-length r c ram =
    when Same (eqb (write_line r.lines) 0)
    (λ _. when Same (eqb (address_line r.lines) 0) (λ _. refl)
    (λ _. when Same (ltb c.column 80) (λ _. length-set ram _ r.byte) (λ _. refl)))
    (λ _. when Same (eqb (address_line r.lines) 0) (λ _. refl) (λ _. refl))
  where
    Same : Outcome → Type 0
    Same o = length o.ram ≡ length ram

pub step-lengths : (s : BytesAndRam) (r : Record)
    → (length (bytes_step s r).next.bytes ≡ length s.bytes) × (length (bytes_step s r).next.ram ≡ length s.ram)
unfolding bytes_step step_of
step-lengths s r = (
  when (λ (b : List ℕ). length b ≡ length s.bytes) (eqb (step_of r (own s r) s.ram).answer.number 0)
      (λ _. stored-length (set_by_record r (own s r).modify) s.bytes (step_of r (own s r) s.ram).answer.chip) (λ _. refl),
  when (λ (o : Outcome). length o.ram ≡ length s.ram) (eqb (bus_refusal r) 0) (λ _. action-length r _ s.ram) (λ _. refl),
)

pub every-bytes-step : EveryBytesStep
every-bytes-step r b ram right half =
    let pass = passed b right in
    let c = registers_in b in
    let o = step_of r c ram in
    let same = written_back b pass.size pass.flags in
    let all = rw same at (step-stored c ram r) in
    rw (marked-in b pass.size pass.flags, cycle-step r c ram half pass.range)
    (by-outcome (with_ram b ram) r refl ∙ ap (λ (bytes : List ℕ). as_step o (with_ram bytes o.ram)) all)
