-- One rule for both ways between commands and bytes: each opcode has a first byte and a count of arguments.
use Rattle.std.specs.Prelude.{ℕ, ◌+◌, ◌-◌, Bool, ◌&&◌, List, [], ◌∷◌, ltb, leb, eqb}
use Rattle.std.specs.Prelude.{Option, None, Some, Result, Ok, Err}
use Rattle.basics.specs.Choice.{if}
use Rattle.sed1520.specs.declared.commands.Opcode.{Opcode}
use Rattle.sed1520.specs.declared.commands.Opcode.TheVariants.{Display, StartLine, Page, Column, Adc, Static, Duty, Modify, End, Reset}
use Rattle.sed1520.specs.declared.commands.Command.{Command}
use Rattle.sed1520.specs.declared.commands.UnknownByte.{UnknownByte}
use Rattle.sed1520.specs.declared.commands.UnknownArgument.{UnknownArgument}

-- table 4.1: the byte of an opcode with argument 0
abbrev pub first : Opcode → ℕ
first Display = 0xAE
first StartLine = 0xC0
first Page = 0xB8
first Column = 0x00
first Adc = 0xA0
first Static = 0xA4
first Duty = 0xA8
first Modify = 0xE0
first End = 0xEE
first Reset = 0xE2

-- how many arguments an opcode is coded with, from 0 up; of a column set's, a chip accepts those below `column_stop`
abbrev pub count : Opcode → ℕ
count Display = 2
count StartLine = 32
count Page = 4
count Column = 128
count Adc = 2
count Static = 2
count Duty = 2
count Modify = 1
count End = 1
count Reset = 1

-- the ten opcodes
abbrev pub opcodes : List Opcode
opcodes = Display ∷ StartLine ∷ Page ∷ Column ∷ Adc ∷ Static ∷ Duty ∷ Modify ∷ End ∷ Reset ∷ []

-- whether a byte is in the range of an opcode
abbrev pub within : Opcode → ℕ → Bool
within k b = leb (first k) b && ltb b (first k + count k)

-- the first opcode of a list whose range has a byte, or none
unfoldable pub among : List Opcode → ℕ → Option Opcode
among [] b = None
among (k ∷ ks) b = if (within k b) (Some k) (among ks b)

-- an answer to a command or a byte asked alone: the number, its place, and the value, which a refusal does not hold
pub record Coded (A : Type 0) : Type 0 where
  pub number : ℕ
  pub place : ℕ
  pub value : Option A

-- the answer with a value: number 0, place 0
abbrev pub coded : {A : Type 0} → A → Coded A
coded a = record { number = 0; place = 0; value = Some a }

-- number 7: one of the 81 bytes that are no command, or an argument out of range, with that byte or argument as place
abbrev pub not_coded : {A : Type 0} → ℕ → Coded A
not_coded at = record { number = 7; place = at; value = None }

-- a byte as the command of the opcode whose range has it; number 7 where there is no such opcode
abbrev pub as_command : ℕ → Option Opcode → Coded Command
as_command b None = not_coded b
as_command b (Some k) = coded (record { opcode = k; argument = b - first k })

-- a byte decoded as a command
unfoldable pub decode_of : ℕ → Coded Command
decode_of b = as_command b (among opcodes b)

-- whether a byte is a command
abbrev pub is_command : ℕ → Bool
is_command b = eqb (decode_of b).number 0

-- a command encoded as a byte
unfoldable pub encode_of : Command → Coded ℕ
encode_of m = if (ltb m.argument (count m.opcode)) (coded (first m.opcode + m.argument)) (not_coded m.argument)

-- the number, place and value that a byte decoded stands for
abbrev pub coded_command : Result Command UnknownByte → Coded Command
coded_command (Ok m) = coded m
coded_command (Err e) = not_coded e.0

-- the number, place and value that a command encoded stands for
abbrev pub coded_byte : Result ℕ UnknownArgument → Coded ℕ
coded_byte (Ok b) = coded b
coded_byte (Err e) = not_coded e.0
