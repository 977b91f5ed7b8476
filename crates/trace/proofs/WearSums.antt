-- What a call leaves in 640 counts: each of them, their sum, and zeros where no record is completed.
use Prim.Native.Nat.{ℕ}
use native.Mathlib.Omega.{arith}
use mathlib.Core.Path.{◌≡◌, sym, ap, ◌∙◌}
use mathlib.Core.Bool.{not}
use mathlib.Core.List.{List, []}
use borrow.Author.Tests.{eq-eqb}
use lib.ListN.{length, replicate}
use Rattle.basics.specs.Counts.{total}
use Rattle.basics.specs.Run.{run_of}
use Rattle.basics.specs.Table.{NoneHolds}
use Rattle.basics.proofs.Table.{none-refuses}
use Rattle.panel.specs.Panel.{Panel, as_panel, panel_run, Whole}
use Rattle.sed1520.specs.declared.bus.Record.{Record}
use Rattle.panel.specs.Trace.{trace_run}
use Rattle.panel.specs.Stores.{writes_finding}
use Rattle.panel.proofs.RecordStores.{all-stores}
use Rattle.sed1520.specs.Records.{whole_records}
use Rattle.trace.specs.Feed.{joined_to, completed_by, not_taken}
use Rattle.trace.specs.Promises.{Replayable}
use Rattle.trace.specs.Replay.{refused_at}
use Rattle.trace.specs.Wear.{stores_in, WithWear, with_wear, wear_of, replay_wear_table, replay_with_wear}
use Rattle.trace.specs.Wear.{part_replies, part_wear_table, part_with_wear}
use Rattle.trace.specs.WearPromises.{WearCounted}
use Rattle.trace.specs.declared.progress.Ending.TheVariants.{Open}
use Rattle.trace.specs.declared.feed.Feed.{Feed}
use Rattle.trace.proofs.FeedCases.{part_right}
use Rattle.trace.proofs.KeptOver.{joined_length, no_record}
use Rattle.trace.proofs.ReplayNumbers.{passes}
use Rattle.trace.proofs.WithWear.{part-open}
use Rattle.trace.proofs.WearCounts.{stores_at, stores-total, worn-no-answers, worn-cleared}

-- passed by its table, it leaves the wear of the run
pub replay-wear : (p : Panel) (trace answers wear : List ℕ) → Replayable p trace answers → length wear ≡ 640
    → (replay_with_wear p trace answers wear).wear ≡ wear_of (trace_run p trace).answers
unfolding replay_with_wear
replay-wear p trace answers wear r h =
    ap (λ (o : WithWear _). o.wear)
    (none-refuses (λ n at. with_wear (refused_at n at p answers) wear) _ (replay_wear_table p trace answers wear)
    (ap not (eq-eqb (length wear) 640 h), passes p trace answers r))

pub part-wear : (f : Feed) (ram part answers wear : List ℕ) → f.progress.ending ≡ Open → NoneHolds (part_wear_table f ram part answers wear)
    → (part_with_wear f ram part answers wear).wear ≡ wear_of (part_replies f ram part)
part-wear f ram part answers wear e none =
    ap (λ (o : WithWear _). o.wear)
    (part-open f ram part answers wear e
    ∙ none-refuses (λ n at. with_wear (not_taken f ram answers n at) wear) _ (part_wear_table f ram part answers wear) none)

-- no answers, no stores
no_stores : (n : ℕ) → stores_in [] n ≡ replicate n 0
no_stores n = sym (worn-no-answers (replicate n 0) ∙ worn-cleared n [])

none-completed : (f : Feed) (ram part answers wear : List ℕ) → f.progress.ending ≡ Open → NoneHolds (part_wear_table f ram part answers wear)
    → completed_by f.progress.kept (length part) ≡ 0 → (part_with_wear f ram part answers wear).wear ≡ replicate 640 0
unfolding run_of
none-completed f ram part answers wear e none few =
    let right = part_right f (length ram) (length part) (length answers) none.1 in
    let size = joined_length f.progress right.state.few part in
    part-wear f ram part answers wear e none
    ∙ ap (λ (rs : List Record). wear_of (panel_run (as_panel f.chips.left f.chips.right ram) rs).answers)
    (no_record (joined_to f.progress part) (omega (arith, size, few)))
    ∙ no_stores 640

-- what passed 1, 13 and 2 is a whole panel
part-panel : (f : Feed) (ram part answers wear : List ℕ) → NoneHolds (part_wear_table f ram part answers wear)
    → Whole (as_panel f.chips.left f.chips.right ram)
part-panel f ram part answers wear none =
    let right = part_right f (length ram) (length part) (length answers) none.1 in
    record { left = right.state.left; right = right.state.right; image = right.sizes.image }

-- the sum of the wear of a run over a whole panel
run-total : (p : Panel) (trace : List ℕ) → Whole p → total (wear_of (trace_run p trace).answers) ≡ writes_finding p (whole_records trace)
run-total p trace whole = stores-total (trace_run p trace).answers 640 ∙ all-stores (whole_records trace) p whole

pub wear-counted : WearCounted
wear-counted =
    record {
      each = λ p trace answers wear r h i below. rw (replay-wear p trace answers wear r h) (stores_at (trace_run p trace).answers 640 i below);
      sum = λ p trace answers wear r h.
          rw (replay-wear p trace answers wear r h) (run-total p trace r.panel);
      each-of-part = λ f ram part answers wear e none i below.
          rw (part-wear f ram part answers wear e none) (stores_at (part_replies f ram part) 640 i below);
      sum-of-part = λ f ram part answers wear e none.
          rw (part-wear f ram part answers wear e none)
          (run-total (as_panel f.chips.left f.chips.right ram) (joined_to f.progress part) (part-panel f ram part answers wear none));
      none-completed = none-completed;
    }
