-- The byte that a cycle says it stored to, and where an accepted data write leaves page and column.
use Prim.Native.Nat.{ℕ, ◌+◌, ◌<◌}
use native.Mathlib.Omega.{arith}
use mathlib.Core.Path.{◌≡◌, refl, sym, ◌∙◌}
use mathlib.Core.Bool.{true}
use mathlib.Core.List.{List}
use mathlib.Core.Logic.{⊎_elim}
use Rattle.std.specs.Prelude.{None, Some}
use Rattle.std.proofs.lemmas.Option.{none-some, same_Some}
use lib.Dec.{eqb, ltb}
use lib.ListN.{length, set, length-set}
use lib.Seq.{get_or-set_same, get_or-set_other}
use borrow.Author.Tests.{eqb-true, eqb-false, ltb-true}
use Rattle.basics.specs.Choice.{if}
use Rattle.basics.proofs.Tests.{tested, when}
use Rattle.sed1520.specs.Chip.{in_range}
use Rattle.sed1520.specs.Cycle.{Outcome, bus_refusal, data_write, data_read, cycle_of}
use Rattle.sed1520.specs.Memory.{ram_index, image_index, byte_set}
use Rattle.sed1520.specs.Stores.{finds_column, OneStored, SaidByte, EveryCycleSays}
use Rattle.sed1520.specs.declared.registers.Chip.{Chip}
use Rattle.sed1520.specs.declared.bus.Record.{Record}
use Rattle.sed1520.proofs.Cells.{within-ram}
use Rattle.sed1520.proofs.ChipRange.{ranges}
use Rattle.sed1520.proofs.CycleKeeps.{cycle-keeps}
use Rattle.sed1520.proofs.EachWay.{each-cycle}
use Rattle.sed1520.proofs.StepCases.{asks, action-data-write, step-action, step-refused, cycle-length, cycle-range, cycle-step}

-- a byte set is one byte stored
pub one-stored : (at b : ℕ) (ram : List ℕ) → at < length ram → OneStored at b ram (set ram at b)
one-stored at b ram within =
    record { size = length-set ram at b; holds = get_or-set_same ram at b 0 within; others = λ j apart. get_or-set_other ram at j b 0 apart }

module _ (r : Record) (c : Chip) (ram : List ℕ) where
  -- an accepted record passed numbers 1, 2 and 4 to 6
  record Passed : Type 0 where
    size : length ram ≡ 320
    range : in_range c ≡ true
    asked : bus_refusal r ≡ 0

  passed : (cycle_of r c ram).answer.number ≡ 0 → Passed
  passed e =
      ⊎_elim
      (λ s. let size = eqb-true (length ram) 320 s in
      ⊎_elim
      (λ t. ⊎_elim
      (λ u. record { size = size; range = t; asked = eqb-true (bus_refusal r) 0 u })
      (λ u. let refused = eqb-false (bus_refusal r) 0 u in
      absurd (refused (rw (cycle-step r c ram size t ∙ step-refused r c ram refused) at e)))
      (tested (eqb (bus_refusal r) 0)))
      (λ t. let two = rw (cycle-range r c ram size t) at e in absurd (omega arith))
      (tested (in_range c)))
      (λ s. let one = rw (cycle-length r c ram (eqb-false (length ram) 320 s)) at e in absurd (omega arith))
      (tested (eqb (length ram) 320))

  written : r.lines ≡ 3 → Passed → cycle_of r c ram ≡ data_write r.chip r.byte c ram
  written is pass =
      cycle-step r c ram pass.size pass.range ∙ step-action r c ram pass.asked ∙ action-data-write r c ram is

  -- any other record than a data write says nothing
  pub other-says : (r.lines ≡ 3 → ⊥) → (cycle_of r c ram).answer.stored ≡ None
  unfolding data_read
  other-says other =
      each-cycle (λ o _. o.answer.stored ≡ None) r c c ram refl refl
      (record {
        refused = λ n. refl;
        command = λ _ k a h. refl;
        data-write = λ is. absurd (other is);
        status-read = λ _. refl;
        data-read = λ _. refl;
      })

  -- what an accepted data write says, by its column, and where it leaves page and column
  pub record Written : Type 0 where
    pub says : (cycle_of r c ram).answer.stored ≡ if (ltb c.column 80) (Some (image_index r.chip c.page c.column)) None
    pub page : (cycle_of r c ram).answer.chip.page ≡ c.page
    pub column : (cycle_of r c ram).answer.chip.column ≡ if (ltb c.column 80) (c.column + 1) c.column

  pub write-says : r.lines ≡ 3 → (cycle_of r c ram).answer.number ≡ 0 → Written
  unfolding data_write
  write-says is done =
      let e = written is (passed done) in
      ⊎_elim
      (λ t. record { says = rw e (rw t); page = rw e (rw t); column = rw e (rw t) })
      (λ t. record { says = rw e (rw t); page = rw e (rw t); column = rw e (rw t) })
      (tested (ltb c.column 80))

  accepted : (cycle_of r c ram).answer.number ≡ 0
      → (cycle_of r c ram).answer.stored ≡ if (finds_column r c) (Some (image_index r.chip c.page c.column)) None
  accepted done =
      ⊎_elim
      (λ t. rw t (write-says (eqb-true r.lines 3 t) done).says)
      (λ t. rw t (other-says (eqb-false r.lines 3 t)))
      (tested (eqb r.lines 3))

  pub refused : ((cycle_of r c ram).answer.number ≡ 0 → ⊥) → (cycle_of r c ram).answer.stored ≡ None
  refused h = rw ((cycle-keeps c ram r).refused h)

  nothing : (cycle_of r c ram).answer.stored ≡ None → (cycle_of r c ram).ram ≡ ram
  unfolding data_write
  nothing =
      each-cycle (λ o _. o.answer.stored ≡ None → o.ram ≡ ram) r c c ram refl refl
      (record {
        refused = λ n _. refl;
        command = λ _ k a h _. refl;
        data-write = λ _.
            when (λ (o : Outcome). o.answer.stored ≡ None → o.ram ≡ ram) (ltb c.column 80)
            (λ _ e. absurd (none-some _ (sym e)))
            (λ _ _. refl);
        status-read = λ _ _. refl;
        data-read = λ _ _. refl;
      })

  -- a byte said is set in the chip's RAM
  module _ (i : ℕ) where
    pub record ByteSet (after : List ℕ) : Type 0 where
      pub index : i ≡ image_index r.chip c.page c.column
      pub chip : r.chip < 2
      pub size : length ram ≡ 320
      pub within : ram_index c.page c.column < length ram
      pub written : after ≡ byte_set ram c.page c.column r.byte

    abbrev SetsByte : Outcome → Type 0
    SetsByte o = o.answer.stored ≡ Some i → ByteSet o.ram

    sets-byte : Passed → SetsByte (cycle_of r c ram)
    unfolding data_write data_read
    sets-byte pass =
        each-cycle (λ o _. SetsByte o) r c c ram refl refl
        (record {
          refused = λ n e. absurd (none-some _ e);
          command = λ _ k a h e. absurd (none-some _ e);
          data-write = λ _.
              when SetsByte (ltb c.column 80)
              (λ t e. let near = within-ram c.page c.column (ranges c pass.range).page (ltb-true c.column 80 t) in
              record {
                index = sym (same_Some (image_index r.chip c.page c.column) i e);
                chip = (asks r pass.asked).chip;
                size = pass.size;
                within = omega (arith, near, pass.size);
                written = refl;
              })
              (λ _ e. absurd (none-some _ e));
          status-read = λ _ e. absurd (none-some _ e);
          data-read = λ _ e. absurd (none-some _ e);
        })

    pub byte-set : (cycle_of r c ram).answer.stored ≡ Some i → ByteSet (cycle_of r c ram).ram
    byte-set e =
        ⊎_elim
        (λ t. sets-byte (passed (eqb-true (cycle_of r c ram).answer.number 0 t)) e)
        (λ t. absurd (none-some _ (sym (refused (eqb-false (cycle_of r c ram).answer.number 0 t)) ∙ e)))
        (tested (eqb (cycle_of r c ram).answer.number 0))

    byte : (cycle_of r c ram).answer.stored ≡ Some i → SaidByte r c ram (cycle_of r c ram).ram i
    byte e =
        let set = byte-set e in
        record {
          index = set.index;
          in_image = omega (arith, set.index, set.chip, set.within, set.size);
          within = set.within;
          stored = rw set.written (one-stored _ r.byte ram set.within);
        }

pub every-cycle-says : EveryCycleSays
every-cycle-says r c ram = record { accepted = accepted r c ram; refused = refused r c ram; nothing = nothing r c ram; byte = byte r c ram }
