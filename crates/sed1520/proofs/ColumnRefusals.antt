-- When a byte that sets the column is refused, and by which number.
use Prim.Native.Nat.{ℕ, ◌<◌, ◌≤◌, zero-le}
use native.Mathlib.Omega.{arith}
use mathlib.Core.Path.{◌≡◌, ◌∙◌}
use mathlib.Core.Bool.{Bool, true, false, and-false}
use mathlib.Core.Logic.{⊎_elim}
use lib.Dec.{leb}
use borrow.Author.Tests.{lt-ltb, le-ltb, le-leb, lt-leb, leb-true, leb-false}
use Rattle.basics.specs.Choice.{if}
use Rattle.basics.proofs.Tests.{tested}
use Rattle.sed1520.specs.Chip.{column_stop}
use Rattle.sed1520.specs.Command.{count}
use Rattle.sed1520.specs.Cycle.{column_refusal}
use Rattle.sed1520.specs.declared.commands.Opcode.TheVariants.{Column}

module _ (b : ℕ) (modify : Bool) where
  -- a byte that sets no column is not refused for it
  pub no-column-set : count Column ≤ b → column_refusal b modify ≡ 0
  no-column-set h = rw (le-ltb b (count Column) h, and-false (leb 0 b))

  module _ (set : b < count Column) where
    column-set : column_refusal b modify ≡ if modify 8 (if (leb column_stop b) 14 0)
    column-set = rw (le-leb 0 b zero-le, lt-ltb b (count Column) set)

    pub column-locked : modify ≡ true → column_refusal b modify ≡ 8
    column-locked on = column-set ∙ rw on

    module _ (off : modify ≡ false) where
      pub column-missing : column_stop ≤ b → column_refusal b modify ≡ 14
      column-missing beyond = column-set ∙ rw (off, le-leb column_stop b beyond)

      pub column-taken : b < column_stop → column_refusal b modify ≡ 0
      column-taken there = column-set ∙ rw (off, lt-leb column_stop b there)

    -- so one that is not refused names a column that the chip has
    pub taken-column : column_refusal b modify ≡ 0 → b < column_stop
    taken-column free =
        ⊎_elim
        (λ on. let no : 8 ≡ 0 = rw (column-locked on) at free in omega arith)
        (λ off. ⊎_elim (λ beyond. let no : 14 ≡ 0 = rw (column-missing off (leb-true column_stop b beyond)) at free in omega arith)
        (λ there. leb-false column_stop b there)
        (tested (leb column_stop b)))
        (tested modify)
