-- A record that its chip's cycle accepts, seen from both sides of the panel.
use Prim.Native.Nat.{ℕ}
use mathlib.Core.Path.{◌≡◌, refl}
use mathlib.Core.Bool.{Bool, true, false, false≢true, true≢false}
use mathlib.Core.List.{List}
use mathlib.Core.Logic.{◌⊎◌, inl, inr}
use lib.Dec.{eqb}
use Rattle.panel.specs.Panel.{Panel, chip_at, ram_at, outcome_of, stepped}
use Rattle.sed1520.specs.Laws.{PaintRegisters, paint_registers, Accepts}
use Rattle.panel.specs.Panel.{Whole}
use Rattle.sed1520.specs.declared.bus.Record.{Record}
use Rattle.panel.proofs.PanelLaws.{every-record-apart, stepped-whole}

-- two numbers name the same chip or not
pub same-side : (j k : ℕ) → (eqb j 0 ≡ eqb k 0) ⊎ (eqb j 0 ≡ eqb k 0 → ⊥)
same-side j k = sides (eqb j 0) (eqb k 0)
  where
    sides : (a b : Bool) → (a ≡ b) ⊎ (a ≡ b → ⊥)
    sides true true = inl refl
    sides true false = inr true≢false
    sides false true = inr false≢true
    sides false false = inl refl

-- the panel after a record to chip k: that side has these paint registers and bytes, the other side is as it was
pub record Moved (p q : Panel) (k : ℕ) (next : PaintRegisters) (bytes : List ℕ) : Type 0 where
  pub registers-after : paint_registers (chip_at q k) ≡ next
  pub ram-after : ram_at q k ≡ bytes
  pub whole : Whole q
  pub other-chip : (j : ℕ) → (eqb j 0 ≡ eqb k 0 → ⊥) → chip_at q j ≡ chip_at p j
  pub other-ram : (j : ℕ) → (eqb j 0 ≡ eqb k 0 → ⊥) → ram_at q j ≡ ram_at p j

module _
    (p : Panel) (whole : Whole p) (r : Record) (next : PaintRegisters) (bytes : List ℕ)
    (accepts : Accepts r (chip_at p r.chip) (ram_at p r.chip) next bytes) where
  pub taken : (outcome_of p r).answer.number ≡ 0
  taken = rw (every-record-apart p whole.image r).own-cycle accepts.number

  pub moved : Moved p (stepped p r) r.chip next bytes
  moved =
      let apart = every-record-apart p whole.image r in
      record {
        registers-after = rw (apart.own-chip, apart.own-cycle) accepts.registers-after;
        ram-after = rw (apart.own-ram, apart.own-cycle) accepts.ram-after;
        whole = stepped-whole p r whole;
        other-chip = apart.other-chip;
        other-ram = apart.other-ram;
      }
