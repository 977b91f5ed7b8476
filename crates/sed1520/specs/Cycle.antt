-- One bus cycle of one chip over its own 320 bytes of RAM.
-- Each of these definitions stands on the one before it:
-- `execute` is an opcode's effect on the registers; `executed` refuses by 7, 8 or 14 or answers with that effect;
-- `command_write` decodes a byte for `executed`; `action_of` chooses by the control lines: `command_write`, a data write, a status read or a data read;
-- `step_of` refuses a bus record by 4 to 6 or does its action; `cycle_of` tests the RAM's size and the chip (numbers 1 and 2) before the step;
-- `outcome_of`, in crate `panel`, gives a record to the chip that it names, over that chip's 320 bytes.
use Rattle.std.specs.Prelude.{ℕ, ◌+◌, ◌/◌, ◌%◌, Bool, true, false, not, ◌||◌, List, [], ◌∷◌, ltb, leb, eqb, length}
use Rattle.std.specs.Prelude.{Option, None, Some, Result, Ok, Err}
use Rattle.basics.specs.Choice.{if}
use Rattle.sed1520.specs.Chip.{column_stop, out_of_range, latched, read_kind, staled}
use Rattle.sed1520.specs.Chip.{with_display, with_static, with_duty, with_reverse, with_page, with_start_line, with_column, with_latch, with_modify}
use Rattle.sed1520.specs.Command.{first, decode_of, within}
use Rattle.basics.specs.Refusals.{number_of}
use Rattle.basics.specs.Run.{Step}
use Rattle.basics.specs.declared.refusal.Refusal.{Refusal}
use Rattle.basics.specs.Table.{Cause, cause, unless_refused}
use Rattle.sed1520.specs.Memory.{ram_length, image_index, byte_at, byte_set}
use Rattle.sed1520.specs.declared.registers.Chip.{Chip}
use Rattle.sed1520.specs.declared.registers.ReadLatch.{ReadLatch}
use Rattle.sed1520.specs.declared.registers.ReadLatch.TheVariants.{Fresh, Stale}
use Rattle.sed1520.specs.declared.commands.Opcode.{Opcode}
use Rattle.sed1520.specs.declared.commands.Opcode.TheVariants.{Display, StartLine, Page, Column, Adc, Static, Duty, Modify, End, Reset}
use Rattle.sed1520.specs.declared.commands.Command.{Command}
use Rattle.sed1520.specs.declared.actions.Accepted.{Accepted}
use Rattle.sed1520.specs.declared.bus.Action.{Action}
use Rattle.sed1520.specs.declared.bus.Action.TheVariants.{WriteCommand, WriteData, ReadStatus, ReadData}
use Rattle.sed1520.specs.declared.bus.Record.{Record}
use Rattle.sed1520.specs.declared.reading.Reading.{Reading}
use Rattle.sed1520.specs.declared.reading.Reading.TheVariants.{Nothing, Fresh as ReadFresh, Stale as ReadStale, Status}

-- A0, bit 0 of a record's control lines
abbrev pub address_line : ℕ → ℕ
address_line lines = lines % 2

-- RD, bit 1 of a record's control lines, active low
abbrev pub read_line : ℕ → ℕ
read_line lines = lines / 2 % 2

-- WR, bit 2 of a record's control lines, active low
abbrev pub write_line : ℕ → ℕ
write_line lines = lines / 4 % 2

-- the control lines that ask for an action
abbrev pub lines_of : Action → ℕ
lines_of WriteCommand = 2
lines_of WriteData = 3
lines_of ReadStatus = 4
lines_of ReadData = 5

-- what a cycle gives back: the number and its place; the answer's kind and byte; which of the 640 RAM bytes it says that it stored to (request
-- C-16), by the byte's index in the image of both chips; and the chip's successor
pub record Answer : Type 0 where
  pub number : ℕ
  pub place : ℕ
  pub kind : ℕ
  pub byte : ℕ
  pub stored : Option ℕ
  pub chip : Chip

-- the kind of an answer: 0 of a write, 1 of a data read with a fresh latch, 2 of one with a stale latch, 3 of a status read
abbrev pub kind_of : Reading → ℕ
kind_of Nothing = 0
kind_of (ReadFresh b) = 1
kind_of (ReadStale b) = 2
kind_of (Status b) = 3

-- the byte of an answer: 0 of a write, else the byte read
abbrev pub byte_of : Reading → ℕ
byte_of Nothing = 0
byte_of (ReadFresh b) = b
byte_of (ReadStale b) = b
byte_of (Status b) = b

-- what a data read answers of the read latch
abbrev pub read_of : ReadLatch → Reading
read_of (Fresh b) = ReadFresh b
read_of (Stale b) = ReadStale b

-- the answer to a refused record: its number, place 0, kind 0, byte 0, nothing stored, the chip as it came
abbrev pub refusal : ℕ → Chip → Answer
refusal n c = record { number = n; place = 0; kind = 0; byte = 0; stored = None; chip = c }

-- the answer to an accepted record that stores nothing: number 0, place 0, a kind and a byte, and the chip's successor
abbrev pub answered : ℕ → ℕ → Chip → Answer
answered k b c = record { number = 0; place = 0; kind = k; byte = b; stored = None; chip = c }

-- the answer to a data write that stores to a byte of the image: number 0, place 0, kind 0, byte 0, that byte's index and the chip's successor
abbrev pub wrote_to : ℕ → Chip → Answer
wrote_to i c = record { number = 0; place = 0; kind = 0; byte = 0; stored = Some i; chip = c }

-- the answer that stands for what is given back of an accepted record
abbrev pub accepted : Accepted → Answer
accepted a = record { number = 0; place = 0; kind = kind_of a.reading; byte = byte_of a.reading; stored = a.stored; chip = a.chip }

-- the answer that stands for what a cycle of a chip gives back: of a refused record its number, and the chip as it came
abbrev pub answer_of : Chip → Result Accepted Refusal → Answer
answer_of c (Ok a) = accepted a
answer_of c (Err r) = refusal (number_of r) c

-- what a cycle gives back, and the RAM afterwards
pub record Outcome : Type 0 where
  pub answer : Answer
  pub ram : List ℕ

-- an outcome from its answer and the RAM afterwards
abbrev pub outcome : Answer → List ℕ → Outcome
outcome a ram = record { answer = a; ram = ram }

-- a switch's argument: 0 off, else on
abbrev pub on : ℕ → Bool
on n = not (eqb n 0)

-- the table of commands: what an accepted command does to the chip; that a page set leaves the read latch stale is request C-12
unfoldable pub execute : Opcode → ℕ → Chip → Chip
execute Display a c = with_display (on a) c
execute StartLine a c = with_start_line a c
execute Page a c = staled (with_page a c)
execute Column a c = staled (with_column a c)
execute Adc a c = with_reverse (on a) c
execute Static a c = with_static (on a) c
execute Duty a c = with_duty (on a) c
execute Modify a c = if c.modify c (with_modify true c.column c)
execute End a c = if c.modify (staled (with_modify false 0 (with_column c.saved_column c))) c
execute Reset a c = staled (with_start_line 0 (with_column 0 (with_page 0 c)))

-- the number by which a byte is refused as a column set, else 0: 8 while read-modify-write is on, then 14 for a column that the chip does not have
-- (request C-15)
abbrev pub column_refusal : ℕ → Bool → ℕ
column_refusal b modify = if (within Column b) (if modify 8 (if (leb (first Column + column_stop) b) 14 0)) 0

-- the answer to a byte and the command that it is decoded as: number 7 where it is none, then 8 and 14, then the command executed
abbrev pub executed : ℕ → Option Command → Chip → Answer
executed b None c = refusal 7 c
executed b (Some m) c =
    let number = column_refusal b c.modify in
    if (eqb number 0) (answered 0 0 (execute m.opcode m.argument c)) (refusal number c)

-- the answer to a command write; no command alters RAM
unfoldable pub command_write : ℕ → Chip → Answer
command_write b c = executed b (decode_of b).value c

-- a data write; the record's chip number gives the index of the byte stored to; by request C-12 it leaves the read latch stale, also at the column
-- where counting stops
unfoldable pub data_write : ℕ → ℕ → Chip → List ℕ → Outcome
data_write k b c ram =
    if (ltb c.column column_stop)
    (outcome (wrote_to (image_index k c.page c.column) (staled (with_column (c.column + 1) c))) (byte_set ram c.page c.column b))
    (outcome (answered 0 0 (staled c)) ram)

-- the chip after a data read
unfoldable pub after_read : Chip → List ℕ → Chip
after_read c ram =
    if (ltb c.column column_stop)
    (with_latch (Fresh (byte_at ram c.page c.column)) (with_column (if c.modify c.column (c.column + 1)) c))
    (staled c)

-- a data read answers the read latch
unfoldable pub data_read : Chip → List ℕ → Answer
data_read c ram = answered (read_kind c.latch) (latched c.latch) (after_read c ram)

-- the status byte: D6 forward, D5 display off, D3 to D0 0; D7 and D4 are 0 by a project rule
unfoldable pub status_byte : Chip → ℕ
status_byte c = if c.reverse 0 0x40 + if c.display_on 0 0x20

-- a status read changes nothing
abbrev pub status_read : Chip → Answer
status_read c = answered 3 (status_byte c) c

-- the action that the control lines ask for: 2 writes a command, 3 writes data, 4 reads status, 5 reads data
unfoldable pub action_of : Record → Chip → List ℕ → Outcome
action_of r c ram =
    if (eqb (write_line r.lines) 0)
    (if (eqb (address_line r.lines) 0) (outcome (command_write r.byte c) ram) (data_write r.chip r.byte c ram))
    (if (eqb (address_line r.lines) 0) (outcome (status_read c) ram) (outcome (data_read c ram) ram))

-- numbers 4 to 6 of document 01's table, which a bus record is refused by whatever the chip holds
abbrev pub bus_table : Record → List Cause
bus_table r =
    cause 4 0 (leb 8 r.lines || not (eqb r.spare 0))
    ∷ cause 5 0 (leb 2 r.chip)
    ∷ cause 6 0 (eqb (read_line r.lines) (write_line r.lines))
    ∷ []

-- the number, 4 to 6, by which a bus record is refused, or 0
unfoldable pub bus_refusal : Record → ℕ
bus_refusal r = unless_refused (bus_table r) (λ n at. n) 0

-- a cycle past numbers 1 and 2: numbers 4 to 6, then the action
unfoldable pub step_of : Record → Chip → List ℕ → Outcome
step_of r c ram =
    if (eqb (bus_refusal r) 0) (action_of r c ram) (outcome (refusal (bus_refusal r) c) ram)

-- numbers 1 and 2 of a cycle
abbrev pub state_table : Chip → List ℕ → List Cause
state_table c ram = cause 1 0 (not (eqb (length ram) ram_length)) ∷ cause 2 0 (out_of_range c) ∷ []

-- one cycle: numbers 1 and 2, then `step_of`
unfoldable pub cycle_of : Record → Chip → List ℕ → Outcome
cycle_of r c ram = unless_refused (state_table c ram) (λ n at. outcome (refusal n c) ram) (step_of r c ram)

-- what an accepted record is answered, by kind: 0 a write, with byte 0; 1 a data read with a fresh latch, 2 one with a stale latch,
-- 3 status, with the byte read; and the index of the RAM byte that it stored to, if any
pub record Reply : Type 0 where
  pub kind : ℕ
  pub byte : ℕ
  pub stored : Option ℕ

-- the reply that an answer has
abbrev pub reply_of : Answer → Reply
reply_of a = record { kind = a.kind; byte = a.byte; stored = a.stored }

-- a chip and its RAM
pub record ChipAndRam : Type 0 where
  pub chip : Chip
  pub ram : List ℕ

-- an outcome as a step of a run: its number, its reply and what it leads to
abbrev pub as_step : {S : Type 0} → Outcome → S → Step S Reply
as_step o next = record { number = o.answer.number; answer = reply_of o.answer; next = next }

-- a record given to one chip
abbrev pub chip_step : ChipAndRam → Record → Step ChipAndRam Reply
chip_step s r = let o = cycle_of r s.chip s.ram in as_step o (record { chip = o.answer.chip; ram = o.ram })
