-- Which column sets a chip accepts, and that number 14 is given for its cause alone.
use Prim.Native.Nat.{ℕ, ◌+◌, ◌<◌}
use native.Mathlib.Omega.{arith}
use mathlib.Core.Path.{◌≡◌, refl, ap, sym, ◌∙◌}
use mathlib.Core.Bool.{true, false, not, ◌&&◌}
use mathlib.Core.List.{List}
use lib.Dec.{leb, eqb}
use lib.ListN.{length}
use borrow.Author.Tests.{eqb-true, leb-true, ltb-true, not-false}
use Rattle.basics.proofs.Tests.{both, no_other}
use Rattle.sed1520.specs.Chip.{column_stop, in_range}
use Rattle.sed1520.specs.ColumnPromises.{ColumnSet, SetsMissingColumn, ColumnSets}
use Rattle.sed1520.specs.Command.{first, count, within, Coded}
use Rattle.sed1520.specs.Cycle.{outcome, refusal, execute, column_refusal, bus_refusal, cycle_of}
use Rattle.sed1520.specs.CycleNumbers.{writes_command}
use Rattle.sed1520.specs.Laws.{sent, Fit}
use Rattle.sed1520.specs.declared.registers.Chip.{Chip}
use Rattle.sed1520.specs.declared.commands.Command.{Command}
use Rattle.sed1520.specs.declared.commands.Opcode.TheVariants.{Column}
use Rattle.sed1520.specs.declared.bus.Record.{Record}
use Rattle.sed1520.proofs.ActionCases.{command-refused}
use Rattle.sed1520.proofs.ColumnRefusals.{column-locked, column-missing, column-taken}
use Rattle.sed1520.proofs.CycleNumbers.{each_number}
use Rattle.sed1520.proofs.OneRule.{decoded-argument}
use Rattle.sed1520.proofs.SentRecords.{action-cycle, command-cycle}
use Rattle.sed1520.proofs.StepCases.{Asks, asks, action-command}

module _ (c : Chip) (ram : List ℕ) (fit : Fit c ram) (k : ℕ) (addressed : k < 2) (n : ℕ) (set : n < count Column) where
  -- refused by a number that the column set is given
  refused-set : (number : ℕ) → column_refusal (first Column + n) c.modify ≡ number → (number ≡ 0 → ⊥)
      → cycle_of (sent 2 k (first Column + n)) c ram ≡ outcome (refusal number c) ram
  refused-set number e held =
      let known = ap (λ (t : Coded Command). t.value) (decoded-argument Column n set) in
      action-cycle c ram fit k addressed 2 (first Column + n) (omega arith) (omega arith)
      ∙ action-command (sent 2 k (first Column + n)) c ram refl
      ∙ rw (command-refused (first Column + n) c _ known (λ none. held (sym e ∙ none)), e)

  column-set : ColumnSet c ram k n
  unfolding execute
  column-set =
      let b = first Column + n in
      record {
        alone = decoded-argument Column n set;
        locked = λ on. refused-set 8 (column-locked b c.modify (omega arith) on) (λ e. absurd (omega arith));
        missing = λ off beyond. refused-set 14 (column-missing b c.modify (omega arith) off (omega arith)) (λ e. absurd (omega arith));
        taken = λ off there. command-cycle c ram fit k addressed Column n set (column-taken b c.modify (omega arith) off (omega arith));
      }

-- number 14 is given for its cause alone
only : (r : Record) (c : Chip) (ram : List ℕ) → (cycle_of r c ram).answer.number ≡ 14 → SetsMissingColumn r c ram
unfolding bus_refusal
only r c ram =
    each_number (λ n. n ≡ 14 → SetsMissingColumn r c ram) r c ram
    ((
      λ _ e. absurd (omega arith),
      λ size. (
        λ _ e. absurd (omega arith),
        λ range. (
          λ _ e. absurd (omega arith),
          λ spare. (
            λ _ e. absurd (omega arith),
            λ chip. (
              λ _ e. absurd (omega arith),
              λ strobes. (
                λ _ e. absurd (omega arith),
                λ known. (
                  λ _ e. absurd (omega arith),
                  λ locked. (λ past e. missing (asks r (rw (spare, chip, strobes))) size range locked past, λ _. tt),
                ),
              ),
            ),
          ),
        ),
      ),
    ))
    (λ e. absurd (omega arith))
  where
    missing : Asks r → not (eqb (length ram) 320) ≡ false → not (in_range c) ≡ false
        → writes_command r (within Column r.byte && c.modify) ≡ false
        → writes_command r (within Column r.byte && leb (first Column + column_stop) r.byte) ≡ true → SetsMissingColumn r c ram
    missing asked size range locked past =
        let command = both (eqb r.lines 2) _ past in
        let set = both (within Column r.byte) _ command.1 in
        record {
          fit = record { range = not-false (in_range c) range; bytes = no_other (length ram) 320 size };
          spare = asked.spare;
          chip = asked.chip;
          lines = eqb-true r.lines 2 command.0;
          from = leb-true (first Column + column_stop) r.byte set.1;
          to = ltb-true r.byte (first Column + count Column) (both (leb (first Column) r.byte) _ set.0).1;
          off = rw (command.0, set.0) at locked;
        }

pub column-sets : ColumnSets
column-sets = record { each = column-set; only = only }
