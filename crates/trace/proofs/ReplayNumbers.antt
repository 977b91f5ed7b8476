-- Numbers 1 to 3 of a replay by its table, and the records past them.
use Prim.Native.Nat.{ℕ, ◌*◌, ◌/◌, ◌%◌, ◌≤◌}
use mathlib.Core.Path.{◌≡◌, refl, ap}
use mathlib.Core.Bool.{false, not}
use mathlib.Core.List.{List}
use lib.Dec.{ltb, eqb}
use lib.ListN.{length}
use borrow.Author.Tests.{le-ltb, ltb-false, eqb-true, eq-eqb, not-false}
use Rattle.basics.specs.Table.{Cause, NoneHolds}
use Rattle.basics.proofs.Table.{none-refuses, table-as, exactly-when}
use Rattle.basics.proofs.Tests.{neither, no_other}
use Rattle.sed1520.specs.Chip.{in_range, out_of_range}
use Rattle.panel.specs.Panel.{Panel}
use Rattle.panel.specs.Trace.{trace_sizes_wrong}
use Rattle.trace.specs.Replay.{ReplayOutcome, refused_at, tally_verdict, ended_bytes, sizes_wrong, replay_table, replay_of}
use Rattle.trace.specs.Promises.{Replayable}
use Rattle.trace.specs.Refusals.{ReplayNumbers}

pub record Sizes (bytes records ram answers : ℕ) : Type 0 where
  pub short : bytes ≤ 65536
  pub image : ram ≡ 640
  pub space : 2 * records ≤ answers

pub sizes-right : (bytes records ram answers : ℕ) → sizes_wrong bytes records ram answers ≡ false → Sizes bytes records ram answers
unfolding trace_sizes_wrong
sizes-right bytes records ram answers e =
    let long = neither (ltb 65536 bytes) _ e in
    let rest = neither (not (eqb ram 640)) (ltb answers (2 * records)) long.1 in
    record {
      short = ltb-false 65536 bytes long.0;
      image = eqb-true ram 640 (not-false (eqb ram 640) rest.0);
      space = ltb-false answers (2 * records) rest.1;
    }

pub right-sizes : (bytes records ram answers : ℕ) → bytes ≤ 65536 → ram ≡ 640 → 2 * records ≤ answers → sizes_wrong bytes records ram answers ≡ false
unfolding trace_sizes_wrong
right-sizes bytes records ram answers short image space =
    rw (le-ltb 65536 bytes short, eq-eqb ram 640 image, le-ltb answers (2 * records) space)

module _ (p : Panel) (trace answers : List ℕ) where
  abbrev pub table : List Cause
  table = replay_table (out_of_range p.left) (out_of_range p.right) (length trace) (length p.ram) (length answers)

  pub replay-passed : NoneHolds table → replay_of p trace answers ≡ ended_bytes p trace answers
  unfolding replay_of
  replay-passed = none-refuses (λ n at. refused_at n at p answers) (ended_bytes p trace answers) table

  -- none of numbers 1 to 3
  pub passes : Replayable p trace answers → NoneHolds table
  passes r =
      let sizes = right-sizes (length trace) (length trace / 4) (length p.ram) (length answers) r.size r.panel.image r.space in
      (sizes, (ap not r.panel.left, (ap not r.panel.right, (ap not (eq-eqb _ 0 r.whole), tt))))

  pub passed : NoneHolds table → Replayable p trace answers
  passed none =
      let sizes = sizes-right (length trace) (length trace / 4) (length p.ram) (length answers) none.0 in
      record {
        size = sizes.short;
        space = sizes.space;
        panel = record {
          left = not-false (in_range p.left) none.1.0;
          right = not-false (in_range p.right) none.1.1.0;
          image = sizes.image;
        };
        whole = no_other (length trace % 4) 0 none.1.1.1.0;
      }

  pub runs : Replayable p trace answers → replay_of p trace answers ≡ ended_bytes p trace answers
  runs r = replay-passed (passes r)

pub replay-numbers : ReplayNumbers
unfolding replay_of
replay-numbers p trace answers =
    let run = ended_bytes p trace answers in
    let by-table = exactly-when (table p trace answers) (tally_verdict run.answer) in
    rw (table-as (λ (o : ReplayOutcome). tally_verdict o.answer) (table p trace answers) (λ n at. refl) refl) by-table
