-- The bytes of fresh read latches stand in RAM after any records, and an answer of kind 1 is such a byte.
use Prim.Native.Nat.{ℕ}
use mathlib.Core.Path.{◌≡◌, sym, ◌∙◌}
use mathlib.Core.Bool.{not-eq-not}
use mathlib.Core.Logic.{⊎_elim}
use mathlib.Mathlib.Data.Bool.Basic.{eq-or-eq-not}
use lib.Dec.{eqb}
use lib.ListN.{length}
use Rattle.basics.proofs.Run.{run-keeps}
use Rattle.sed1520.specs.LatchPromises.{FreshStands}
use Rattle.sed1520.specs.declared.bus.Record.{Record}
use Rattle.sed1520.proofs.FreshBytes.{not-fresh, cycle-stands, fresh-answer}
use Rattle.panel.specs.LatchPromises.{EveryFreshByte}
use Rattle.panel.specs.Panel.{Panel, chip_at, ram_at, outcome_of, stepped, panel_step}
use Rattle.panel.proofs.PanelLaws.{every-record-apart}

-- on a panel: the chip that the record names by its cycle, the other one as it was
module _ (k : ℕ) where
  abbrev Holds : Panel → Type 0
  Holds p = (length p.ram ≡ 640) × FreshStands (chip_at p k) (ram_at p k)

  stepped-holds : (p : Panel) (r : Record) → Holds p → Holds (stepped p r)
  unfolding outcome_of
  stepped-holds p r holds =
      let apart = every-record-apart p holds.0 r in (
        apart.image,
        ⊎_elim
            (λ own. let named : FreshStands (chip_at p r.chip) (ram_at p r.chip) = rw (← own) holds.1 in
            let after : FreshStands (chip_at (stepped p r) r.chip) (ram_at (stepped p r) r.chip) =
            rw (apart.own-chip, apart.own-ram) (cycle-stands _ _ named r) in
            rw own after)
            (λ unlike. let other : eqb k 0 ≡ eqb r.chip 0 → ⊥ = λ e. not-eq-not.1 e unlike in
            rw (apart.other-chip k other, apart.other-ram k other) holds.1)
            (eq-or-eq-not (eqb k 0) (eqb r.chip 0)),
      )

pub every-fresh-byte : EveryFreshByte
unfolding outcome_of
every-fresh-byte =
    record {
      begun = λ c ram a stale b e. absurd (not-fresh (sym stale ∙ e));
      kept = λ p image k stands rs. (run-keeps panel_step (Holds k) (λ q r holds _. stepped-holds k q r holds) rs p (image, stands)).1;
      answered = λ p r stands one. stands _ (fresh-answer (chip_at p r.chip) (ram_at p r.chip) r one);
    }
