-- The actions of a chip by their cases, as equations.
use Prim.Native.Nat.{ℕ, ◌+◌, ◌<◌, ◌≤◌}
use mathlib.Core.Path.{◌≡◌, refl, ◌∙◌}
use mathlib.Core.Bool.{true, false}
use mathlib.Core.List.{List}
use Rattle.std.specs.Prelude.{None, Some, Result, Ok, Err}
use lib.Dec.{ltb}
use lib.ListN.{set}
use borrow.Author.Tests.{lt-ltb, le-ltb, ne_eqb}
use Rattle.basics.specs.Choice.{if}
use Rattle.basics.proofs.Tests.{when}
use Rattle.sed1520.specs.Chip.{latched, read_kind, stale, staled, with_column, with_latch}
use Rattle.sed1520.specs.Command.{decode_of, coded_command}
use Rattle.sed1520.specs.Memory.{ram_index, image_index, byte_at}
use Rattle.sed1520.specs.Cycle.{kind_of, byte_of, read_of}
use Rattle.sed1520.specs.Cycle.{Outcome, outcome, refusal, answered, wrote_to, execute, column_refusal, command_write, data_write, after_read}
use Rattle.sed1520.specs.declared.registers.Chip.{Chip}
use Rattle.sed1520.specs.declared.registers.ReadLatch.{ReadLatch}
use Rattle.sed1520.specs.declared.registers.ReadLatch.TheVariants.{Fresh, Stale}
use Rattle.sed1520.specs.declared.commands.Command.{Command}
use Rattle.sed1520.specs.declared.commands.UnknownByte.{UnknownByte}

-- what a data read answers: the latch's kind and byte
pub read-kind : (latch : ReadLatch) → kind_of (read_of latch) ≡ read_kind latch
read-kind (Fresh b) = refl
read-kind (Stale b) = refl

pub read-byte : (latch : ReadLatch) → byte_of (read_of latch) ≡ latched latch
read-byte (Fresh b) = refl
read-byte (Stale b) = refl

-- what the cases of a decoded byte say
pub known-command : (d : Result Command UnknownByte) (b : ℕ) (m : Command) → coded_command d ≡ decode_of b → d ≡ Ok m → (decode_of b).value ≡ Some m
known-command d b m e k = rw (← e, k)

pub no-command : (d : Result Command UnknownByte) (b : ℕ) (u : UnknownByte) → coded_command d ≡ decode_of b → d ≡ Err u → (decode_of b).value ≡ None
no-command d b u e k = rw (← e, k)

module _ (b : ℕ) (c : Chip) where
  pub command-executed : (m : Command) → (decode_of b).value ≡ Some m → column_refusal b c.modify ≡ 0
      → command_write b c ≡ answered 0 0 (execute m.opcode m.argument c)
  unfolding command_write
  command-executed m known free = rw (known, free)

  pub command-refused : (m : Command) → (decode_of b).value ≡ Some m → (column_refusal b c.modify ≡ 0 → ⊥)
      → command_write b c ≡ refusal (column_refusal b c.modify) c
  unfolding command_write
  command-refused m known held = rw known (rw (ne_eqb (column_refusal b c.modify) 0 held))

module _ (c : Chip) (ram : List ℕ) where
  -- every data write is done, and leaves the latch stale with its byte
  pub data-write-done : (k b : ℕ) → (data_write k b c ram).answer.number ≡ 0
  unfolding data_write
  data-write-done k b = when (λ (o : Outcome). o.answer.number ≡ 0) (ltb c.column 80) (λ _. refl) (λ _. refl)

  pub data-write-kind : (k b : ℕ) → (data_write k b c ram).answer.kind ≡ 0
  unfolding data_write
  data-write-kind k b = when (λ (o : Outcome). o.answer.kind ≡ 0) (ltb c.column 80) (λ _. refl) (λ _. refl)

  pub data-write-stale : (k b : ℕ) → (data_write k b c ram).answer.chip.latch ≡ stale c.latch
  unfolding data_write
  data-write-stale k b = when (λ (o : Outcome). o.answer.chip.latch ≡ stale c.latch) (ltb c.column 80) (λ _. refl) (λ _. refl)

  module _ (room : c.column < 80) where
    pub data-write-stored : (k b : ℕ)
        → data_write k b c ram
        ≡ outcome (wrote_to (image_index k c.page c.column) (staled (with_column (c.column + 1) c))) (set ram (ram_index c.page c.column) b)
    unfolding data_write
    data-write-stored k b = rw (lt-ltb c.column 80 room)

    pub after-read-below : after_read c ram
        ≡ with_latch (Fresh (byte_at ram c.page c.column)) (with_column (if c.modify c.column (c.column + 1)) c)
    unfolding after_read
    after-read-below = rw (lt-ltb c.column 80 room)

    -- read-modify-write keeps the column
    pub after-read-kept : c.modify ≡ true → after_read c ram ≡ with_latch (Fresh (byte_at ram c.page c.column)) c
    after-read-kept on = after-read-below ∙ rw on

    pub after-read-counted : c.modify ≡ false
        → after_read c ram ≡ with_latch (Fresh (byte_at ram c.page c.column)) (with_column (c.column + 1) c)
    after-read-counted off = after-read-below ∙ rw off

  module _ (stopped : 80 ≤ c.column) where
    pub data-write-stopped : (k b : ℕ) → data_write k b c ram ≡ outcome (answered 0 0 (staled c)) ram
    unfolding data_write
    data-write-stopped k b = rw (le-ltb c.column 80 stopped)

    pub after-read-stopped : after_read c ram ≡ staled c
    unfolding after_read
    after-read-stopped = rw (le-ltb c.column 80 stopped)
