-- The byte of a fresh read latch stands in RAM: every cycle keeps it so, and an answer of kind 1 is such a byte.
use Prim.Native.Nat.{ℕ}
use native.Mathlib.Omega.{arith}
use mathlib.Core.Path.{◌≡◌, refl, sym, ap, ◌∙◌}
use mathlib.Core.Bool.{true≢false}
use mathlib.Core.List.{List}
use mathlib.Core.Logic.{inl, inr, ⊎_elim}
use lib.Dec.{ltb}
use borrow.Author.Tests.{ltb-true}
use Rattle.basics.proofs.Tests.{tested, when}
use Rattle.sed1520.specs.Chip.{latched, read_kind}
use Rattle.sed1520.specs.Cycle.{execute, after_read, data_read, cycle_of}
use Rattle.sed1520.specs.LatchPromises.{Near, FreshStands}
use Rattle.sed1520.specs.declared.registers.Chip.{Chip}
use Rattle.sed1520.specs.declared.registers.ReadLatch.{ReadLatch}
use Rattle.sed1520.specs.declared.registers.ReadLatch.TheVariants.{Fresh, Stale}
use Rattle.sed1520.specs.declared.commands.Opcode.{Opcode}
use Rattle.sed1520.specs.declared.commands.Opcode.TheVariants.{Display, StartLine, Page, Column, Adc, Static, Duty, Modify, End, Reset}
use Rattle.sed1520.specs.declared.bus.Record.{Record}
use Rattle.sed1520.proofs.ActionCases.{data-write-kind, data-write-stale}
use Rattle.sed1520.proofs.EachWay.{each-cycle}

-- a stale latch is not a fresh one
pub not-fresh : {a b : ℕ} → Stale a ≡ Fresh b → ⊥
not-fresh e = let opcodes = ap read_kind e in omega arith

module _ (c : Chip) (ram : List ℕ) (stands : FreshStands c ram) where
  -- latch and page as they were, and the same columns near
  as_it_was : (next : Chip) → next.latch ≡ c.latch → next.page ≡ c.page → ((n : ℕ) → Near n c → Near n next) → FreshStands next ram
  as_it_was next latch page near b fresh =
      let cell = stands b (sym latch ∙ fresh) in
      record { column = cell.column; below = cell.below; near = near cell.column cell.near; byte = rw page cell.byte }

  executed-stands : (k : Opcode) (a : ℕ) → FreshStands (execute k a c) ram
  unfolding execute
  executed-stands Display a = as_it_was _ refl refl (λ n h. h)
  executed-stands StartLine a = as_it_was _ refl refl (λ n h. h)
  executed-stands Page a = λ b e. absurd (not-fresh e)
  executed-stands Column a = λ b e. absurd (not-fresh e)
  executed-stands Adc a = as_it_was _ refl refl (λ n h. h)
  executed-stands Static a = as_it_was _ refl refl (λ n h. h)
  executed-stands Duty a = as_it_was _ refl refl (λ n h. h)
  executed-stands Modify a =
      when (λ next. FreshStands next ram) c.modify (λ _. stands)
      (λ _. as_it_was _ refl refl (λ n. ⊎_elim (λ past. inl (past.0, λ _. refl)) (λ here. inr (here.0, refl))))
  executed-stands End a = when (λ next. FreshStands next ram) c.modify (λ _ b e. absurd (not-fresh e)) (λ _. stands)
  executed-stands Reset a = λ b e. absurd (not-fresh e)

  -- a read leaves the byte of the column that it read
  read-stands : FreshStands (after_read c ram) ram
  unfolding after_read
  read-stands =
      when (λ next. FreshStands next ram) (ltb c.column 80)
      (λ below b e.
      record {
        column = c.column;
        below = ltb-true c.column 80 below;
        near =
            ⊎_elim
            (λ on. inr (rw on refl, on))
            (λ off. inl (rw off (omega arith), λ on. absurd (true≢false (sym on ∙ off))))
            (tested c.modify);
        byte = ap latched e;
      })
      (λ _ b e. absurd (not-fresh e))

  pub cycle-stands : (r : Record) → let o = cycle_of r c ram in FreshStands o.answer.chip o.ram
  unfolding data_read
  cycle-stands r =
      each-cycle (λ o _. FreshStands o.answer.chip o.ram) r c c ram refl refl
      (record {
        refused = λ n. stands;
        command = λ _ k a h. executed-stands k a;
        data-write = λ _ x e. absurd (not-fresh (sym (data-write-stale c ram r.chip r.byte) ∙ e));
        status-read = λ _. stands;
        data-read = λ _. read-stands;
      })

-- an answer of kind 1 is the byte of a fresh latch
by_kind : (latch : ReadLatch) → read_kind latch ≡ 1 → latch ≡ Fresh (latched latch)
by_kind (Fresh b) e = refl
by_kind (Stale b) e = absurd (omega arith)

pub fresh-answer : (c : Chip) (ram : List ℕ) (r : Record) → let a = (cycle_of r c ram).answer in a.kind ≡ 1 → c.latch ≡ Fresh a.byte
unfolding data_read
fresh-answer c ram r =
    each-cycle (λ o _. o.answer.kind ≡ 1 → c.latch ≡ Fresh o.answer.byte) r c c ram refl refl
    (record {
      refused = λ n e. absurd (omega arith);
      command = λ _ k a h e. absurd (omega arith);
      data-write = λ _ e. let written = rw (data-write-kind c ram r.chip r.byte) at e in absurd (omega arith);
      status-read = λ _ e. absurd (omega arith);
      data-read = λ _. by_kind c.latch;
    })
