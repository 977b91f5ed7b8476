-- The columns that pass a test are written in longest runs: from where a run begins to where it ends, and on from where the next one begins.
use Prim.Native.Nat.{ℕ, zero, suc, ◌+◌, ◌-◌, ◌<◌, ◌≤◌}
use native.Mathlib.Omega.{arith}
use mathlib.Core.Path.{◌≡◌, refl, sym, ap, ◌∙◌}
use mathlib.Core.Bool.{Bool, true, false, not}
use mathlib.Core.List.{List, [], ◌∷◌, ◌++◌, map, flat_map, append_assoc, append-nil}
use mathlib.Core.Logic.{⊎_elim}
use lib.Dec.{ltb}
use lib.ListN.{length, length-append}
use borrow.Author.Tests.{ltb-true, ltb-false}
use Rattle.basics.specs.Choice.{if}
use Rattle.basics.specs.Counts.{count_below, total}
use Rattle.basics.specs.Lists.{joined}
use Rattle.basics.proofs.Counts.{sum-none, sum_alike}
use Rattle.basics.proofs.Lists.{tabulated-length}
use Rattle.basics.proofs.Tests.{tested}
use Rattle.sed1520.specs.declared.registers.Chip.{Chip}
use Rattle.sed1520.specs.declared.bus.Record.{Record}
use Rattle.frame.specs.Frame.{segments}
use Rattle.repaint.specs.Repaint.{column_write, run_records}
use Rattle.repaint.specs.Sparing.{begins, chosen_columns, chosen_page, next_column}
use Rattle.repaint.specs.SparingPromises.{Stretch, LongestRun, LongestRuns, records_by_runs, EveryPageByRuns}
use Rattle.repaint.proofs.ChosenColumns.{none-counted, some-counted, columns-length}
use Rattle.repaint.proofs.NextColumn.{next-is}
use Rattle.repaint.proofs.RunByRun.{Begins, Goes, run-goes, past-run, run-begins, gap-records, run-added}

-- how many columns pass, past some that all do, and past some that do not
module _ (test : ℕ → Bool) (j n : ℕ) where
  counted-run : ((i : ℕ) → j ≤ i → i < j + n → test i ≡ true) → count_below test (j + n) ≡ count_below test j + n
  counted-run passes = sum_alike (λ i. if (test i) 1 0) 1 j n (λ i h b. rw (passes i h b)) ∙ omega arith

  counted-gap : ((i : ℕ) → j ≤ i → i < j + n → test i ≡ false) → count_below test (j + n) ≡ count_below test j
  counted-gap fails = sum_alike (λ i. if (test i) 1 0) 0 j n (λ i h b. rw (fails i h b)) ∙ omega arith

module _ (c : Chip) (chip : ℕ) (picture : List ℕ) (r : ℕ) (test : ℕ → Bool) where
  abbrev run : Stretch → List Record
  run s = run_records c chip picture r s.start s.size

  abbrev columns : ℕ → List Record
  columns n = chosen_columns c chip picture r test 0 n

  -- the runs past a column, the first of which begins at another
  record Runs (from at : ℕ) : Type 0 where
    runs : List Stretch
    longest : LongestRuns test segments from runs
    records : columns segments ≡ columns at ++ flat_map run runs
    counted : count_below test segments ≡ count_below test at + total (map (λ i. i.size) runs)

  module _ (from at : ℕ) (on : from ≤ at) (gap : (i : ℕ) → from ≤ i → i < at → test i ≡ false) (begins : Begins test at) where
    -- no run is left
    no_run : segments ≤ at → Runs from at
    unfolding flat_map total
    no_run past =
        let within = begins.within in
        let e : at ≡ segments = omega arith in
        record {
          runs = [];
          longest = λ i h b. gap i h (omega arith);
          records = rw (e, append-nil);
          counted = rw e (omega arith);
        }

    -- a run, and those past its end
    one-run : (end next : ℕ) → at < segments → Goes test at end → Runs end next
        → columns next ≡ columns end → count_below test next ≡ count_below test end → Runs from at
    unfolding flat_map total
    one-run end next inside goes rest same-columns same_count =
        let long = goes.longer in
        let all : at + (end - at) ≡ end = omega arith in
        let added = run-added test c chip picture r at (begins.unpreceded inside) (end - at) goes.passes (omega arith) in
        let count = counted-run test at (end - at) goes.passes in
        let longest_run : LongestRun test segments (record { start = at; size = end - at })
        = record {
          some = omega arith;
          within = omega (arith, goes.within);
          passes = goes.passes;
          before = λ i e. rw (← e) at (begins.unpreceded inside);
          after = λ h. rw all (goes.ends (omega arith));
        } in
        record {
          runs = record { start = at; size = end - at } ∷ rest.runs;
          longest = (on, (gap, (longest_run, rw all rest.longest)));
          records = rest.records ∙ rw (same-columns ∙ (rw all at added)) (append_assoc (columns at) _ _);
          counted = rest.counted ∙ omega (arith, same_count, rw all at count);
        }

  -- all of them; `most` is at least how many columns are left
  runs-from : (most from at : ℕ) → segments ≤ at + most → from ≤ at → ((i : ℕ) → from ≤ i → i < at → test i ≡ false) → Begins test at
      → Runs from at
  runs-from zero from at enough on gap begins = no_run from at on gap begins (omega arith)
  runs-from (suc most) from at enough on gap begins =
      ⊎_elim
      (λ t. let inside = ltb-true at segments t in
      let end = next_column (λ i. not (test i)) at (segments - at) in
      let goes = run-goes test at end inside begins refl in
      let next = next_column test end (segments - end) in
      let later = next-is test end (segments - end) refl in
      let passed = later.from in
      let all : end + (next - end) ≡ next = omega arith in
      let long = goes.longer in
      let rest =
      runs-from most end next (omega arith) passed later.before (run-begins test end next goes.within refl (past-run test goes)) in
      one-run from at on gap begins end next inside goes rest
      (gap-records test end next goes.within refl (past-run test goes) c chip picture r)
      (rw all at (counted-gap test end (next - end) (λ i h b. later.before i h (omega arith)))))
      (λ t. no_run from at on gap begins (ltb-false at segments t))
      (tested (ltb at segments))

  runs-length : (runs : List Stretch) → length (flat_map run runs) ≡ length runs + total (map (λ i. i.size) runs)
  unfolding flat_map total
  runs-length [] = refl
  runs-length (s ∷ more) =
      let one = tabulated-length (column_write c chip picture r) s.start s.size in
      omega (arith, length-append (run s) (flat_map run more), one, runs-length more)

  -- the page's records by its runs: none where no column passes, and else the first run has one that does
  by_runs : (runs : List Stretch) → LongestRuns test segments 0 runs → columns segments ≡ flat_map run runs
      → chosen_page c chip picture r test ≡ records_by_runs c chip picture r runs
  unfolding chosen_page
  by_runs [] longest records = rw (none-counted test (λ j h. longest j (omega arith) h))
  by_runs (s ∷ more) longest records =
      let first = longest.1.1.0 in
      let some = first.some in
      let within = first.within in
      rw (some-counted test s.start (omega arith) (first.passes s.start (omega arith) (omega arith)), records)

pub every-page-by-runs : EveryPageByRuns
unfolding joined
every-page-by-runs c chip picture r test =
    let at = next_column test 0 segments in
    let first = next-is test 0 segments refl in
    let all = runs-from c chip picture r test segments 0 at (omega arith) first.from first.before
    (run-begins test 0 at (omega arith) refl (λ h t. refl)) in
    let none = gap-records test 0 at (omega arith) refl (λ h t. refl) c chip picture r in
    let records = rw none at all.records in
    let from_zero : 0 + at ≡ at = omega arith in
    let counted = rw from_zero at (counted-gap test 0 at (λ i h b. first.before i h (omega arith))) in
    let columns : total (map (λ i. i.size) all.runs) ≡ count_below test segments
    = omega (arith, all.counted, counted, sum-none (λ i. if (test i) 1 0)) in
    let size = sym (columns-length test c chip picture r segments) ∙ ap length records ∙ runs-length c chip picture r test all.runs in
    record {
      runs = all.runs;
      longest = all.longest;
      records = by_runs c chip picture r test all.runs all.longest records;
      many = omega (arith, size, columns);
      columns = columns;
    }
