-- What a cycle can change of what a frame looks at, through each way that it can end.
use Prim.Native.Nat.{ℕ, ◌<◌}
use mathlib.Core.Path.{◌≡◌, refl}
use mathlib.Core.List.{List}
use lib.Dec.{ltb}
use borrow.Author.Tests.{ltb-true}
use Rattle.basics.proofs.Tests.{when}
use Rattle.sed1520.specs.Cycle.{Outcome, data_write, after_read, data_read, cycle_of}
use Rattle.sed1520.specs.Laws.{shown_by, EveryCycleTouches}
use Rattle.sed1520.specs.Memory.{byte_at}
use Rattle.sed1520.specs.declared.registers.Chip.{Chip}
use Rattle.sed1520.specs.declared.bus.Record.{Record}
use Rattle.sed1520.proofs.Cells.{read-other}
use Rattle.sed1520.proofs.EachWay.{each-cycle}

module _ (r : Record) (c : Chip) (ram : List ℕ) where
  abbrev RegistersKept : Outcome → Type 0
  RegistersKept o = shown_by o.answer.chip ≡ shown_by c

  registers-kept : (r.lines ≡ 2 → ⊥) → RegistersKept (cycle_of r c ram)
  unfolding data_write data_read after_read
  registers-kept other =
      each-cycle (λ o _. RegistersKept o) r c c ram refl refl
      (record {
        refused = λ n. refl;
        command = λ lines. absurd (other lines);
        data-write = λ _. when RegistersKept (ltb c.column 80) (λ _. refl) (λ _. refl);
        status-read = λ _. refl;
        data-read = λ _. when (λ (d : Chip). shown_by d ≡ shown_by c) (ltb c.column 80) (λ _. refl) (λ _. refl);
      })

  ram-kept : (r.lines ≡ 3 → ⊥) → (cycle_of r c ram).ram ≡ ram
  ram-kept other =
      each-cycle (λ o _. o.ram ≡ ram) r c c ram refl refl
      (record {
        refused = λ n. refl;
        command = λ _ k a h. refl;
        data-write = λ lines. absurd (other lines);
        status-read = λ _. refl;
        data-read = λ _. refl;
      })

  module _ (page column : ℕ) (near : column < 80) (apart : column ≡ c.column → ⊥) where
    abbrev ByteKept : Outcome → Type 0
    ByteKept o = byte_at o.ram page column ≡ byte_at ram page column

    columns-kept : ByteKept (cycle_of r c ram)
    unfolding data_write
    columns-kept =
        each-cycle (λ o _. ByteKept o) r c c ram refl refl
        (record {
          refused = λ n. refl;
          command = λ _ k a h. refl;
          data-write = λ _.
              when ByteKept (ltb c.column 80)
              (λ below. read-other ram c.page c.column r.byte (ltb-true c.column 80 below) page column near (λ _. apart))
              (λ _. refl);
          status-read = λ _. refl;
          data-read = λ _. refl;
        })

pub every-cycle-touches : EveryCycleTouches
every-cycle-touches r c ram = record { registers-kept = registers-kept r c ram; ram-kept = ram-kept r c ram; columns-kept = columns-kept r c ram }
