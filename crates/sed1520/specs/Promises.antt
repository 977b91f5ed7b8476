-- What is proved of the definitions beside the functions' contracts.
use Rattle.std.specs.Prelude.{ℕ, ◌+◌, ◌<◌, ◌≤◌, ◌≡◌, true, false, List, [], ◌∷◌, length}
use Rattle.sed1520.specs.Memory.{ram_length}
use Rattle.basics.specs.Counts.{count_below}
use Rattle.sed1520.specs.Chip.{in_range, fresh}
use Rattle.sed1520.specs.ChipBytes.{chip_length, chip_bytes, flags_right, bytes_pass, chip_in}
use Rattle.sed1520.specs.Command.{first, count, coded, not_coded, decode_of, is_command, encode_of}
use Rattle.sed1520.specs.Cycle.{Outcome, outcome, refusal, step_of, cycle_of, as_step}
use Rattle.sed1520.specs.BytesRun.{with_ram, bytes_step}
use Rattle.sed1520.specs.declared.registers.Chip.{Chip}
use Rattle.sed1520.specs.declared.commands.Command.{Command}
use Rattle.sed1520.specs.declared.bus.Record.{Record}

-- commands and bytes: a command whose argument is in range has a byte, each way undoes the other, on exactly 175 bytes; any other byte or
-- command is refused with number 7, itself or its argument as place
pub record OneRule : Type 0 where
  pub byte_of : (m : Command) → m.argument < count m.opcode → encode_of m ≡ coded (first m.opcode + m.argument)
  pub there : (m : Command) (b : ℕ) → encode_of m ≡ coded b → decode_of b ≡ coded m
  pub back : (b : ℕ) (m : Command) → decode_of b ≡ coded m → encode_of m ≡ coded b
  pub byte : (b : ℕ) (m : Command) → decode_of b ≡ coded m → b < 256
  pub many : count_below is_command 256 ≡ 175
  pub no-command : (b : ℕ) → is_command b ≡ false → decode_of b ≡ not_coded b
  pub no_byte : (m : Command) → count m.opcode ≤ m.argument → encode_of m ≡ not_coded m.argument

-- what holds of every outcome of a cycle: place 0, the RAM's length as it was, a chip in range still in range; refused, nothing is changed
-- and the answer is kind 0, byte 0
pub record Keeps (c : Chip) (ram : List ℕ) (o : Outcome) : Type 0 where
  pub place : o.answer.place ≡ 0
  pub same_size : length o.ram ≡ length ram
  pub range : in_range c ≡ true → in_range o.answer.chip ≡ true
  pub refused : (o.answer.number ≡ 0 → ⊥) → o ≡ outcome (refusal o.answer.number c) ram

-- every outcome of a cycle is as `Keeps` says
abbrev pub EveryCycleKeeps : Type 0
EveryCycleKeeps = (r : Record) (c : Chip) (ram : List ℕ) → Keeps c ram (cycle_of r c ram)

-- past numbers 1 and 2, every cycle is `step_of`
abbrev pub EveryCycleSteps : Type 0
EveryCycleSteps = (r : Record) (c : Chip) (ram : List ℕ) → length ram ≡ ram_length → in_range c ≡ true → cycle_of r c ram ≡ step_of r c ram

-- a chip and its 12 bytes: the bytes of a chip are read back as that chip; the chip of 12 bytes whose flags, mark and last byte are right is
-- written back as those bytes; bytes pass number 2 exactly when their chip does, and a chip's bytes when the chip does; the bytes of the fresh chip
pub record ChipBytesUndo : Type 0 where
  pub there : (c : Chip) → chip_in (chip_bytes c) ≡ c
  pub back : (b : List ℕ) → length b ≡ chip_length → flags_right b ≡ true → chip_bytes (chip_in b) ≡ b
  pub passes : (b : List ℕ) → in_range (chip_in b) ≡ bytes_pass b
  pub chip-passes : (c : Chip) → bytes_pass (chip_bytes c) ≡ in_range c
  pub fresh-bytes : chip_bytes fresh ≡ 0 ∷ 0 ∷ 1 ∷ 0 ∷ 0 ∷ 0 ∷ 0 ∷ 0 ∷ 0 ∷ 0 ∷ 0 ∷ 0 ∷ []

-- on bytes of a chip that number 2 lets pass, over 320 bytes of RAM, a step gives what that chip's cycle gives, and leaves the bytes of the chip's
-- successor
abbrev pub EveryBytesStep : Type 0
EveryBytesStep =
    (r : Record) (b ram : List ℕ) → bytes_pass b ≡ true → length ram ≡ ram_length → let o = cycle_of r (chip_in b) ram in
    bytes_step (with_ram b ram) r ≡ as_step o (with_ram (chip_bytes o.answer.chip) o.ram)
