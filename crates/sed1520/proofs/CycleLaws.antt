-- The laws of the records that a repaint sends: a page set, a column set, a start line set, and a data write at a column that the chip has.
use Prim.Native.Nat.{ℕ, ◌+◌, ◌<◌}
use native.Mathlib.Omega.{arith}
use mathlib.Core.Path.{◌≡◌, refl, ◌∙◌}
use mathlib.Core.Bool.{false}
use mathlib.Core.List.{List}
use Rattle.sed1520.specs.Chip.{with_page, with_column, with_start_line}
use Rattle.sed1520.specs.Command.{first, count}
use Rattle.sed1520.specs.Memory.{byte_set}
use Rattle.sed1520.specs.Cycle.{outcome, execute, column_refusal, cycle_of}
use Rattle.sed1520.specs.Laws.{paint_registers, sent, Fit, Accepts, CycleLaws}
use Rattle.sed1520.specs.Cycle.{Answer}
use Rattle.sed1520.specs.declared.registers.Chip.{Chip}
use Rattle.sed1520.specs.declared.commands.Opcode.{Opcode}
use Rattle.sed1520.specs.declared.commands.Opcode.TheVariants.{StartLine, Page, Column}
use Rattle.sed1520.specs.declared.bus.Record.{Record}
use Rattle.sed1520.proofs.ActionCases.{data-write-stored}
use Rattle.sed1520.proofs.ColumnRefusals.{no-column-set, column-taken}
use Rattle.sed1520.proofs.CycleKeeps.{cycle-keeps}
use Rattle.sed1520.proofs.SentRecords.{write-cycle, command-cycle}

module _ (c : Chip) (ram : List ℕ) (fit : Fit c ram) where
  -- a cycle whose outcome is known
  accepted : (r : Record) (a : Answer) (after : List ℕ) → a.number ≡ 0 → cycle_of r c ram ≡ outcome a after
      → Accepts r c ram (paint_registers a.chip) after
  accepted r a after done e =
      let keeps = cycle-keeps c ram r in
      record {
        number = rw e done;
        place = keeps.place;
        registers-after = rw e;
        ram-after = rw e;
        fit = record { range = keeps.range fit.range; bytes = keeps.same_size ∙ fit.bytes };
      }

  module _ (k : ℕ) (addressed : k < 2) where
    -- an accepted command of any opcode
    command-set : (kind : Opcode) (a : ℕ) → a < count kind → column_refusal (first kind + a) c.modify ≡ 0
        → Accepts (sent 2 k (first kind + a)) c ram (paint_registers (execute kind a c)) ram
    command-set kind a h free = accepted (sent 2 k (first kind + a)) _ ram refl (command-cycle c ram fit k addressed kind a h free)

    page-set : (n : ℕ) → n < 4 → Accepts (sent 2 k (first Page + n)) c ram (paint_registers (with_page n c)) ram
    unfolding execute
    page-set n h = command-set Page n h (no-column-set (first Page + n) c.modify (omega arith))

    start-line-set : (n : ℕ) → n < 32 → Accepts (sent 2 k (first StartLine + n)) c ram (paint_registers (with_start_line n c)) ram
    unfolding execute
    start-line-set n h = command-set StartLine n h (no-column-set (first StartLine + n) c.modify (omega arith))

    column-set : (n : ℕ) → n < 80 → c.modify ≡ false → Accepts (sent 2 k (first Column + n)) c ram (paint_registers (with_column n c)) ram
    unfolding execute
    column-set n h idle = command-set Column n (omega arith) (column-taken (first Column + n) c.modify (omega arith) idle (omega arith))

    data-write : (b : ℕ) → c.column < 80
        → Accepts (sent 3 k b) c ram (paint_registers (with_column (c.column + 1) c)) (byte_set ram c.page c.column b)
    data-write b h =
        accepted (sent 3 k b) _ (byte_set ram c.page c.column b) refl
        (write-cycle c ram fit k addressed b ∙ data-write-stored c ram h k b)

pub cycle-laws : CycleLaws
cycle-laws = record { page-set = page-set; start-line-set = start-line-set; column-set = column-set; data-write = data-write }
