-- The byte of the image that a record says it stored to, and the bytes stored to in all.
use Prim.Native.Nat.{ℕ, ◌+◌, ◌*◌, ◌<◌}
use native.Mathlib.Omega.{arith}
use mathlib.Core.Path.{◌≡◌, refl, ◌∙◌}
use mathlib.Core.Bool.{Bool, true, false}
use mathlib.Core.List.{List, [], ◌∷◌}
use mathlib.Core.Logic.{⊎_elim}
use Rattle.std.specs.Prelude.{None, Some}
use lib.Dec.{eqb}
use lib.ListN.{length, set}
use borrow.Author.Tests.{eqb-true, eqb-false, eq-eqb, ne_eqb}
use Rattle.basics.specs.Choice.{if}
use Rattle.basics.specs.Counts.{sum_below}
use Rattle.basics.specs.Halves.{part_start}
use Rattle.basics.proofs.Counts.{sum_zeros, sum_one, sum_same, sum-plus}
use Rattle.basics.proofs.Halves.{same_back, put-set}
use Rattle.basics.proofs.Run.{run_none, run-accepted, run-refused}
use Rattle.basics.proofs.Tests.{tested}
use Rattle.sed1520.specs.Memory.{ram_index}
use Rattle.sed1520.specs.Replies.{is_byte, stores_to}
use Rattle.sed1520.specs.Stores.{finds_column}
use Rattle.sed1520.specs.declared.bus.Record.{Record}
use Rattle.sed1520.proofs.CycleStores.{one-stored, byte-set, every-cycle-says}
use Rattle.panel.specs.Panel.{Panel, chip_at, ram_at, outcome_of, stepped, panel_step, panel_run, Whole}
use Rattle.panel.specs.Stores.{write_index, SaysStoredInImage, EveryRecordSays, writes_finding}
use Rattle.panel.proofs.PanelLaws.{every-half-whole, stepped-whole}
use Rattle.panel.proofs.StoreRuns.{stores-none, stores-first}

-- part k of the image begins at 320 times its chip's number
image-start : (k : ℕ) → k < 2 → part_start 320 k ≡ 320 * k
image-start k h = ⊎_elim (λ t. let e = eqb-true k 0 t in rw t (omega arith)) (λ t. let d = eqb-false k 0 t in rw t (omega arith)) (tested (eqb k 0))

module _ (p : Panel) (image : length p.ram ≡ 640) (r : Record) where
  byte-stored : (i : ℕ) → (outcome_of p r).answer.stored ≡ Some i → (i < 640) × ((stepped p r).ram ≡ set p.ram i r.byte)
  unfolding stepped outcome_of
  byte-stored i e =
      let c = chip_at p r.chip in
      let at = ram_index c.page c.column in
      let said = byte-set r c (ram_at p r.chip) i e in
      let half = every-half-whole p image r.chip in
      let within : at < 320 = omega (arith, said.within, half) in
      let start = image-start r.chip said.chip in
      let where-set : part_start 320 r.chip + at ≡ i = omega (arith, start, said.index) in
      (omega (arith, said.index, within, said.chip), rw (said.written, put-set 320 r.chip p.ram at r.byte within, where-set))

  record-says : SaysStoredInImage p r
  unfolding stepped outcome_of
  record-says =
      let says = every-cycle-says r (chip_at p r.chip) (ram_at p r.chip) in
      record {
        accepted = says.accepted;
        refused = says.refused;
        nothing = λ e. rw (says.nothing e) (same_back 320 r.chip p.ram);
        byte = λ i e. let stored = byte-stored i e in
            (stored.0, rw stored.1 (one-stored i r.byte p.ram (omega (arith, stored.0, image))));
      }

pub every-record-says : EveryRecordSays
every-record-says = record-says

-- one byte said is counted once among the 640, and none not at all
said-once : (t : Bool) (j : ℕ) → (t ≡ true → j < 640) → sum_below (λ i. if (is_byte i (if t (Some j) None)) 1 0) 640 ≡ if t 1 0
said-once true j within =
    sum_one (λ i. if (eqb i j) 1 0) j 640 (within refl) (λ i _ apart. rw (ne_eqb i j apart)) ∙ rw (eq-eqb j j refl)
said-once false j within = sum_zeros (λ i. 0) 640 (λ i _. refl)

-- the stores to all bytes of the image are the data writes that find a column
pub all-stores : (rs : List Record) (p : Panel) → Whole p → sum_below (λ i. stores_to i (panel_run p rs).answers) 640 ≡ writes_finding p rs
unfolding writes_finding
all-stores [] p whole = rw (run_none panel_step p) (sum_zeros _ 640 (λ i _. stores-none i))
all-stores (r ∷ rs) p whole =
    ⊎_elim
    (λ t. let says = record-says p whole.image r in
    let said = says.accepted (eqb-true (outcome_of p r).answer.number 0 t) in
    let finds = finds_column r (chip_at p r.chip) in
    let rest = (panel_run (stepped p r) rs).answers in
    let one = said-once finds (write_index p r.chip) (λ f. (says.byte (write_index p r.chip) (rw f at said)).0) in
    rw (run-accepted panel_step p r rs t, t)
    (sum_same _ (λ i. if (is_byte i (if finds (Some (write_index p r.chip)) None)) 1 0 + stores_to i rest) 640
    (λ i _. stores-first i _ rest ∙ rw said)
    ∙ sum-plus _ (λ i. stores_to i rest) 640
    ∙ rw (one, all-stores rs (stepped p r) (stepped-whole p r whole))))
    (λ t. rw (run-refused panel_step p r rs t, t) (sum_zeros _ 640 (λ i _. stores-none i)))
    (tested (eqb (outcome_of p r).answer.number 0))
