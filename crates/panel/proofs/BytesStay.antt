-- The marks of the read latches decide between kinds 1 and 2 and change nothing else of a run; and the rule before request C-12 differs from the
-- cycle in marks alone.
use Prim.Native.Nat.{ℕ}
use mathlib.Core.Path.{◌≡◌, refl, sym, ap, ◌∙◌}
use mathlib.Core.Bool.{Bool, true, false}
use mathlib.Core.List.{List}
use lib.Dec.{eqb}
use Rattle.basics.specs.Choice.{if}
use Rattle.basics.specs.Halves.{part_put}
use Rattle.basics.specs.Run.{Step}
use Rattle.basics.proofs.Run.{AlikeSteps, run-alike}
use Rattle.basics.proofs.Tests.{when, choice-of}
use Rattle.sed1520.specs.Chip.{staled, with_latch}
use Rattle.sed1520.specs.Cycle.{Reply, reply_of, Outcome}
use Rattle.sed1520.specs.LatchPromises.{unmarked_reply, sets_page_or_writes}
use Rattle.sed1520.specs.declared.registers.Chip.{Chip}
use Rattle.sed1520.specs.declared.registers.ReadLatch.TheVariants.{Stale}
use Rattle.sed1520.specs.declared.bus.Record.{Record}
use Rattle.sed1520.proofs.Unmarked.{unmarked_outcome, Same, SameChips, cycle-same, write_kept, a_write}
use Rattle.panel.specs.LatchPromises.{unmarked, MarksAlone, former_step, BytesStay}
use Rattle.panel.specs.Panel.{Panel, as_panel, put, chip_at, ram_at, outcome_of, stepped, panel_step}

-- a chip and its bytes put in place
put-unmarked : (p : Panel) (k : ℕ) (c : Chip) (bytes : List ℕ) → unmarked (put p k c bytes) ≡ put (unmarked p) k (staled c) bytes
put-unmarked p k c bytes = side (eqb k 0)
  where
    side : (t : Bool) → let ram = part_put 320 k p.ram bytes in
        unmarked (as_panel (if t c p.left) (if t p.right c) ram)
        ≡ as_panel (if t (staled c) (staled p.left)) (if t (staled p.right) (staled c)) ram
    side true = refl
    side false = refl

-- a panel made stale, and as it was
module _ (p : Panel) (r : Record) where
  outcome-same : Same (outcome_of (unmarked p) r) (outcome_of p r)
  unfolding outcome_of
  outcome-same = rw (choice-of staled (eqb r.chip 0) p.left p.right) (cycle-same (chip_at p r.chip) (ram_at p r.chip) r)

  stepped_same : unmarked (stepped (unmarked p) r) ≡ unmarked (stepped p r)
  unfolding stepped
  stepped_same =
      let stale = outcome_of (unmarked p) r in
      let marked = outcome_of p r in
      put-unmarked (unmarked p) r.chip stale.answer.chip stale.ram
      ∙ ap (λ (o : Outcome). put (unmarked p) r.chip o.answer.chip o.ram) outcome-same
      ∙ sym (put-unmarked p r.chip marked.answer.chip marked.ram)

-- two panels that are the same but for the marks, and a step that differs from the cycle in marks alone
module _ (step : Panel → Record → Step Panel Reply) (alone : MarksAlone step) where
  steps_alike : (p q : Panel) → unmarked p ≡ unmarked q → (r : Record)
      → AlikeSteps step panel_step (λ s t. unmarked s ≡ unmarked t) unmarked_reply p q r
  steps_alike p q like r =
      let outcomes = sym (outcome-same p r) ∙ ap (λ (s : Panel). unmarked_outcome (outcome_of s r)) like ∙ outcome-same q r in
      let panels = sym (stepped_same p r) ∙ ap (λ (s : Panel). unmarked (stepped s r)) like ∙ stepped_same q r in
      record {
        number = alone.number p r ∙ ap (λ (o : Outcome). o.answer.number) outcomes;
        answer = alone.answer p r ∙ ap (λ (o : Outcome). reply_of o.answer) outcomes;
        next = alone.next p r ∙ panels;
      }

former-next : (p : Panel) (r : Record) → unmarked (former_step p r).next ≡ unmarked (stepped p r)
unfolding stepped outcome_of
former-next p r =
    let c = chip_at p r.chip in
    let o = outcome_of p r in
    let next = o.answer.chip in
    let back : SameChips (if (sets_page_or_writes r) (with_latch c.latch next) next) next =
    when (λ (d : Chip). SameChips d next) (sets_page_or_writes r)
    (λ t. ap (λ b. with_latch (Stale b) next) (write_kept c (ram_at p r.chip) r (a_write r t)))
    (λ _. refl) in
    put-unmarked p r.chip (if (sets_page_or_writes r) (with_latch c.latch next) next) o.ram
    ∙ ap (λ (d : Chip). put (unmarked p) r.chip d o.ram) back
    ∙ sym (put-unmarked p r.chip next o.ram)

pub bytes-stay : BytesStay
bytes-stay =
    record {
      any_step = λ step alone p q like rs.
          let runs = run-alike step panel_step (λ s t. unmarked s ≡ unmarked t) unmarked_reply (steps_alike step alone) rs p q like in
          record { number = runs.number; answers = runs.answers; state = runs.state };
      former = record { number = λ p r. refl; answer = λ p r. refl; next = former-next };
    }
