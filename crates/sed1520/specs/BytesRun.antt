-- Records given to the 12 bytes of a chip and its own 320 bytes of RAM, with number 2 not tested. An accepted record does what the cycle does to the
-- registers that the bytes say, and stores the bytes of the registers that it sets and no others. On bytes that number 2 lets pass this is the
-- chip's cycle (EveryBytesStep).
use Rattle.std.specs.Prelude.{ℕ, suc, ◌+◌, ◌-◌, ◌*◌, ◌/◌, Bool, not, ◌&&◌, ◌||◌, List, [], ◌∷◌, ltb, eqb, length, get_or, take, set}
use Rattle.std.specs.Prelude.{Option, None, Some}
use Rattle.basics.specs.Choice.{if}
use Rattle.basics.specs.Lists.{leading}
use Rattle.basics.specs.Run.{Step, Run, run_of}
use Rattle.basics.specs.Verdict.{CallResult, result_of}
use Rattle.sed1520.specs.ChipBytes.{chip_length, chip_bytes, registers_in}
use Rattle.sed1520.specs.Command.{decode_of}
use Rattle.sed1520.specs.Cycle.{address_line, write_line, execute, command_write, step_of, Reply, as_step}
use Rattle.sed1520.specs.Memory.{ram_length}
use Rattle.sed1520.specs.Records.{front, whole_records}
use Rattle.sed1520.specs.Replies.{InPlace, in_place, nothing_run, tallied, answers_left}
use Rattle.sed1520.specs.Cycle.{Answer}
use Rattle.sed1520.specs.declared.bus.Record.{Record}
use Rattle.sed1520.specs.declared.commands.Command.{Command}
use Rattle.sed1520.specs.declared.commands.Opcode.{Opcode}
use Rattle.sed1520.specs.declared.commands.Opcode.TheVariants.{Display, StartLine, Page, Column, Adc, Static, Duty, Modify, End, Reset}
use Rattle.sed1520.specs.declared.registers.Chip.{Chip}
use Rattle.sed1520.specs.declared.tally.Tally.{Tally}

-- the places, among a chip's bytes, of the registers that a command sets, by whether read-modify-write is on
abbrev pub set_by : Opcode → Bool → List ℕ
set_by Display modify = 0 ∷ []
set_by StartLine modify = 6 ∷ []
set_by Page modify = 5 ∷ 9 ∷ []
set_by Column modify = 7 ∷ 9 ∷ []
set_by Adc modify = 3 ∷ []
set_by Static modify = 1 ∷ []
set_by Duty modify = 2 ∷ []
set_by Modify modify = if modify [] (4 ∷ 8 ∷ [])
set_by End modify = if modify (4 ∷ 7 ∷ 8 ∷ 9 ∷ []) []
set_by Reset modify = 5 ∷ 6 ∷ 7 ∷ 9 ∷ []

-- the places of the registers that a byte written as a command sets: none where it is no command
abbrev pub set_by_command : Option Command → Bool → List ℕ
set_by_command None modify = []
set_by_command (Some m) modify = set_by m.opcode modify

-- the places that an accepted record stores: a command those of `set_by`, a data write the column and the read latch's mark, a data read these and
-- the latch's byte, also where their values stay, and a status read none
abbrev pub set_by_record : Record → Bool → List ℕ
set_by_record r modify =
    if (eqb (write_line r.lines) 0)
    (if (eqb (address_line r.lines) 0) (set_by_command (decode_of r.byte).value modify) (7 ∷ 9 ∷ []))
    (if (eqb (address_line r.lines) 0) [] (7 ∷ 9 ∷ 10 ∷ []))

-- a chip's bytes after those at some places were stored as its successor has them
abbrev pub stored : List ℕ → List ℕ → Chip → List ℕ
stored [] b next = b
stored (place ∷ places) b next = stored places (set b place (get_or (chip_bytes next) place 0)) next

-- a chip's bytes after an answer: those at some places are stored where it is accepted, none where it is refused
abbrev pub stored_by : Answer → List ℕ → List ℕ → List ℕ
stored_by a places b = if (eqb a.number 0) (stored places b a.chip) b

-- a chip's bytes after an opcode with its argument was executed
abbrev pub executed_bytes : Opcode → ℕ → List ℕ → List ℕ
executed_bytes k a b = let c = registers_in b in stored (set_by k c.modify) b (execute k a c)

-- a chip's bytes after a command write
abbrev pub command_bytes : ℕ → List ℕ → List ℕ
command_bytes byte b = let c = registers_in b in stored_by (command_write byte c) (set_by_command (decode_of byte).value c.modify) b

-- the bytes of a chip, or of both, and their RAM
pub record BytesAndRam : Type 0 where
  pub bytes : List ℕ
  pub ram : List ℕ

-- `BytesAndRam` from the bytes and the RAM
abbrev pub with_ram : List ℕ → List ℕ → BytesAndRam
with_ram b ram = record { bytes = b; ram = ram }

-- a record given to a chip's bytes and its RAM
unfoldable pub bytes_step : BytesAndRam → Record → Step BytesAndRam Reply
bytes_step s r =
    let c = registers_in s.bytes in
    let o = step_of r c s.ram in
    as_step o (with_ram (stored_by o.answer (set_by_record r c.modify) s.bytes) o.ram)

-- whether control lines write or read data
abbrev pub moves_data : ℕ → Bool
moves_data lines = eqb lines 3 || eqb lines 5

-- whether a record has these control lines, names this chip, and has 0 as its fourth byte
abbrev pub carries : ℕ → ℕ → Record → Bool
carries lines chip r = eqb r.lines lines && (eqb r.chip chip && eqb r.spare 0)

-- how many records at the front of a list run together: data writes to one chip, data reads of one chip, or any other record alone
unfoldable pub together : List Record → ℕ
together [] = 0
together (r ∷ rs) = suc (if (moves_data r.lines) (leading (carries r.lines r.chip) rs) 0)

-- what a run over bytes of chips and their RAM gives back and leaves
abbrev pub ran_over : Run BytesAndRam Reply → List Record → List ℕ → InPlace Tally
ran_over run rs answers =
    in_place (tallied run.number run.answers rs) run.state.bytes run.state.ram (answers_left run.answers answers)

-- the tally of one accepted record and the answer buffer after it
abbrev pub answered_alone : Record → Reply → List ℕ → CallResult Tally (List ℕ)
answered_alone r a answers = result_of (tallied 0 (a ∷ []) (r ∷ [])) (answers_left (a ∷ []) answers)

-- the first n of some records given to a step over bytes of chips and their RAM
abbrev pub run_first : (BytesAndRam → Record → Step BytesAndRam Reply) → ℕ → List Record → List ℕ → List ℕ → List ℕ → InPlace Tally
run_first step n rs b ram answers = ran_over (run_of step (with_ram b ram) (take n rs)) (take n rs) answers

-- the records that a trace begins with and that have these lines, name this chip and have a fourth byte of 0, given to the bytes of one chip
abbrev pub run_leading : ℕ → ℕ → List ℕ → List ℕ → List ℕ → List ℕ → InPlace Tally
run_leading lines chip b ram trace answers =
    let rs = whole_records trace in
    run_first bytes_step (leading (carries lines chip) rs) rs b ram answers

-- how many columns the data writes that a trace begins with moved a chip on: its column byte after less the one before, the chip's bytes beginning at
-- `start`; 0 where the trace begins with another record
abbrev pub columns_written : List ℕ → ℕ → List ℕ → List ℕ → ℕ
columns_written trace start before after =
    if (eqb (front trace).lines 3) (get_or after (start + 7) 0 - get_or before (start + 7) 0) 0

-- the records that a trace begins with and that run together, given to a step over so many bytes of chips and of RAM: number 1 where one of
-- these lengths is wrong or the answers are under two bytes for each whole record of the trace; numbers 2 and 3 and the trace's limit are the
-- caller's to test
unfoldable pub run_together : (BytesAndRam → Record → Step BytesAndRam Reply) → ℕ → ℕ → List ℕ → List ℕ → List ℕ → List ℕ → InPlace Tally
run_together step bytes size b ram trace answers =
    let rs = whole_records trace in
    if (not (eqb (length b) bytes) || (not (eqb (length ram) size) || ltb (length answers) (2 * (length trace / 4))))
    (in_place (nothing_run 1 0) b ram answers) (run_first step (together rs) rs b ram answers)

-- the records that a trace begins with and that run together, given to the bytes of one chip
abbrev pub run_bytes : List ℕ → List ℕ → List ℕ → List ℕ → InPlace Tally
run_bytes b ram trace answers = run_together bytes_step chip_length ram_length b ram trace answers
