-- The checked examples of document 01 that speak of one chip, P3 as request C-15 changes it, each begun at the fresh chip with its RAM all 0. Those
-- of the frame and of the repaint join them in the layers above.
use Rattle.std.specs.Prelude.{ℕ, ◌≡◌, true, List, [], ◌∷◌, ◌++◌, replicate}
use Rattle.basics.specs.Run.{Run, as_run, run_of}
use Rattle.sed1520.specs.Chip.{fresh, with_display, with_static, with_reverse, with_modify, with_column, with_start_line}
use Rattle.sed1520.specs.Command.{coded, not_coded, decode_of}
use Rattle.sed1520.specs.Memory.{ram_length, byte_set}
use Rattle.sed1520.specs.Cycle.{Outcome, outcome, refusal, cycle_of, Reply, ChipAndRam, chip_step}
use Rattle.sed1520.specs.Laws.{sent}
use Rattle.sed1520.specs.Replies.{reply, write_reply}
use Rattle.sed1520.specs.declared.registers.Chip.{Chip}
use Rattle.sed1520.specs.declared.commands.Opcode.TheVariants.{StartLine, Column}
use Rattle.sed1520.specs.declared.bus.Record.{Record}

-- a chip's RAM all 0
abbrev pub blank : List ℕ
blank = replicate ram_length 0

-- a chip over its RAM
abbrev pub chip_over : Chip → List ℕ → ChipAndRam
chip_over c ram = record { chip = c; ram = ram }

-- the fresh chip over RAM all 0
abbrev pub start : ChipAndRam
start = chip_over fresh blank

-- the run of some records, begun at the fresh chip over RAM all 0
abbrev pub run_from_fresh : List Record → Run ChipAndRam Reply
run_from_fresh rs = run_of chip_step start rs

-- a command write to chip 0
abbrev pub command : ℕ → Record
command b = sent 2 0 b

-- the fresh chip after two command bytes
unfoldable pub commanded : ℕ → ℕ → Chip
commanded first second = (run_from_fresh (command first ∷ command second ∷ [])).state.chip

-- what the cycle of one record gives back
abbrev pub cycled : ChipAndRam → Record → Outcome
cycled s r = cycle_of r s.chip s.ram

-- refused: place 0, kind 0, byte 0, the chip and its RAM as they came. Said of the cycle itself: a run keeps its state there whatever the cycle does
abbrev pub refused : ChipAndRam → ℕ → Outcome
refused s n = outcome (refusal n s.chip) s.ram

-- the reply to a write that stores nothing
abbrev pub wrote : Reply
wrote = reply 0 0

-- a data write to chip 0
abbrev pub write : ℕ → Record
write b = sent 3 0 b

-- a status read of chip 0
abbrev pub status : Record
status = sent 4 0 0

-- a data read of chip 0
abbrev pub read : Record
read = sent 5 0 0

-- the sequence of P1
abbrev pub at_last_column : List Record
at_last_column = command 79 ∷ write 0xA5 ∷ []

-- the sequence of P6
abbrev pub cursor : List Record
cursor = command 10 ∷ command 0xE0 ∷ read ∷ read ∷ write 0xFF ∷ []

-- the answers to P6's sequence: the first read has a stale latch, the second a fresh one
abbrev pub cursor_answers : List Reply
cursor_answers = wrote ∷ wrote ∷ reply 2 0 ∷ reply 1 0 ∷ write_reply 10 ∷ []

-- the examples P1 to P4, P6, P7, P10 and P11
pub record ChipExamples : Type 0 where
  pub p1 : run_from_fresh at_last_column ≡ as_run 0 (wrote ∷ write_reply 79 ∷ []) (chip_over (with_column 80 fresh) (byte_set blank 0 79 0xA5))
  pub p2 : run_from_fresh (at_last_column ++ (write 0x3C ∷ [])) ≡ as_run 0 (wrote ∷ write_reply 79 ∷ wrote ∷ []) (run_from_fresh at_last_column).state
  pub p3 : (cycled start (command 100) ≡ refused start 14) × (decode_of 100 ≡ coded (record { opcode = Column; argument = 100 }))
  pub p3-ends : run_from_fresh (command 100 ∷ write 0xA5 ∷ []) ≡ as_run 14 [] start
  pub p4-fresh : run_from_fresh (status ∷ []) ≡ as_run 0 (reply 3 0x60 ∷ []) start
  pub p4-on-reverse : run_from_fresh (command 0xAF ∷ command 0xA1 ∷ status ∷ [])
      ≡ as_run 0 (wrote ∷ wrote ∷ reply 3 0x00 ∷ []) (chip_over (with_reverse true (with_display true fresh)) blank)
  pub p6-counted : run_from_fresh cursor ≡ as_run 0 cursor_answers (chip_over (with_modify true 10 (with_column 11 fresh)) (byte_set blank 0 10 0xFF))
  pub p6-returned : run_from_fresh (cursor ++ (command 0xEE ∷ []))
      ≡ as_run 0 (cursor_answers ++ (wrote ∷ [])) (chip_over (with_column 10 fresh) (byte_set blank 0 10 0xFF))
  pub p7-on : (run_from_fresh (command 0xE0 ∷ [])).number ≡ 0
  pub p7 : let s = (run_from_fresh (command 0xE0 ∷ [])).state in cycled s (command 0x05) ≡ refused s 8
  pub p10-80 : (cycled start (command 0x80) ≡ refused start 7) × (decode_of 0x80 ≡ not_coded 0x80)
  pub p10-ac : (cycled start (command 0xAC) ≡ refused start 7) × (decode_of 0xAC ≡ not_coded 0xAC)
  pub p10-bc : (cycled start (command 0xBC) ≡ refused start 7) × (decode_of 0xBC ≡ not_coded 0xBC)
  pub p10-e3 : (cycled start (command 0xE3) ≡ refused start 7) × (decode_of 0xE3 ≡ not_coded 0xE3)
  pub p10-df : (run_from_fresh (command 0xDF ∷ []) ≡ as_run 0 (wrote ∷ []) (chip_over (with_start_line 31 fresh) blank))
      × (decode_of 0xDF ≡ coded (record { opcode = StartLine; argument = 31 }))
  pub p11-0 : (b : ℕ) → cycled start (sent 0 0 b) ≡ refused start 6
  pub p11-6 : (b : ℕ) → cycled start (sent 6 0 b) ≡ refused start 6
  pub p11-8 : (b : ℕ) → cycled start (sent 8 2 b) ≡ refused start 4

-- the chips that the frame's examples begin at
pub record CommandedChips : Type 0 where
  pub static-display-off : commanded 0xAE 0xA5 ≡ with_static true fresh
  pub static-display-on : commanded 0xAF 0xA5 ≡ with_static true (with_display true fresh)
  pub line-31 : commanded 0xAF 0xDF ≡ with_start_line 31 (with_display true fresh)
  pub forward : commanded 0xAF 0xA0 ≡ with_display true fresh
  pub reverse : commanded 0xAF 0xA1 ≡ with_reverse true (with_display true fresh)
