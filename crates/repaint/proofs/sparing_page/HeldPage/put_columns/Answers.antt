-- `repaint::sparing_page::HeldPage::put_columns` meets its contract: the columns so far are at the front, and a run begins at the next.
use Rattle.std.proofs.Common.{arith, rules, ℕ, ◌+◌, ◌-◌, ◌*◌, ◌/◌, ◌<◌, ◌≤◌, ◌≡◌, Bool, not, List, ◌++◌, length, take, drop}
use mathlib.Core.Path.{refl, ap, ◌∙◌}
use mathlib.Core.List.{flat_map}
use lib.ListN.{length-take, length-drop}
use Rattle.basics.specs.Lists.{joined, tabulated}
use Rattle.basics.specs.Verdict.{result_of}
use Rattle.basics.proofs.Lists.{tabulated-length}
use Rattle.basics.proofs.Filling.{Begun, begun-none}
use Rattle.sed1520.specs.Records.{records_bytes}
use Rattle.frame.specs.Frame.{segments}
use Rattle.repaint.specs.declared.sparing_page.HeldPage.{HeldPage}
use Rattle.repaint.specs.Sparing.{put_front, next_column}
use Rattle.repaint.proofs.Bytes.{changed, set_of, write_of, columns_to, UpTo, answer-of, begun-record, columns-fit, begun-run, begun-front}
use Rattle.repaint.proofs.RunByRun.{Begins, Goes, run-goes, past-run, run-begins, gap-passed, gap-records}
use Rattle.repaint.proofs.sparing_page.HeldPage.put_columns.Goals as goal

module _ {held : HeldPage} {old : List ℕ} {run at : ℕ} {now : List ℕ} (upto : UpTo held old run at now) (inside : run < segments) where
  abbrev test : ℕ → Bool
  test = changed held

  -- where the run goes to
  abbrev end : ℕ
  end = next_column (λ i. not (test i)) run (segments - run)

  goes : Goes test run end
  goes = run-goes test run end inside upto.begins refl

  -- there is room for it
  fit : at ≤ 4 * run
  fit = columns-fit held run (upto.begins.unpreceded inside) upto.begun

  -- its writes are put, and a search from the column past it gives the next column that passes
  module _ (buffer : List ℕ) {bytes : ℕ} {part : List ℕ}
      (put : result_of bytes part ≡ put_front (tabulated (write_of held.page) run (end - run)) buffer) where
    bytes_are : bytes ≡ 4 * (end - run)
    bytes_are = answer-of put ∙ ap (λ n. 4 * n) (tabulated-length (write_of held.page) run (end - run))

    module _ {on : ℕ} (is : on ≡ next_column test (run + bytes / 4) (segments - (run + bytes / 4))) where
      past : on ≡ next_column test end (segments - end)
      past = let e : run + bytes / 4 ≡ end = omega (arith, bytes_are, goes.longer) in is ∙ rw e

      further : run < on
      further = omega (arith, goes.longer, gap-passed test end on goes.within past (past-run test goes))

      begins_next : Begins test on
      begins_next = run-begins test end on goes.within past (past-run test goes)

      carried : (mid : List ℕ) (to : ℕ)
          → Begun old (records_bytes (columns_to held run ++ set_of held run)) to mid
          → buffer ≡ take (length mid - to) (drop to mid)
          → Begun old (records_bytes (columns_to held on)) (to + bytes)
          (take to mid ++ (part ++ drop (length mid - to) (drop to mid)))
      carried mid to begun lent =
          let all : run + (end - run) ≡ end = omega (arith, goes.longer) in
          let page = held.page in
          let gap = gap-records test end on goes.within past (past-run test goes) page.chip page.which page.picture.now page.band in
          let first = upto.begins.unpreceded inside in
          let written = begun-run held run first (end - run) goes.passes (omega (arith, goes.longer)) begun (rw lent at put) in
          rw gap (rw all at written)

pub loop-run-init : goal.loop-run-init
unfolding flat_map joined
loop-run-init c =
    let test = changed c.args.self.now in
    let page = c.args.self.now.page in
    let is = c.requires.first_value in
    let gap = gap-records test 0 c.args.first (omega arith) is (λ h t. refl) page.chip page.which page.picture.now page.band in
    record {
      begun = rw gap (begun-none _);
      begins = run-begins test 0 c.args.first (omega arith) is (λ h t. refl);
      same_size = refl;
    }

pub put_column_set-requires-clause-in_bounds : goal.put_column_set-requires-clause-in_bounds
put_column_set-requires-clause-in_bounds c =
    simp (length-take, length-drop) (omega (arith, fit c.loop-run.invariant (omega arith)))

pub put_run_writes-bytes-requires-clause-from_in_bounds : goal.put_run_writes-bytes-requires-clause-from_in_bounds
put_run_writes-bytes-requires-clause-from_in_bounds c =
    simp (length-take, length-drop) (omega (arith, fit c.loop-run.invariant (omega arith)))

pub overflow_add-at-in-loop-run : goal.overflow_add-at-in-loop-run
overflow_add-at-in-loop-run c =
    let upto = c.loop-run.invariant in
    let run = goes upto (omega arith) in
    omega (arith, fit upto (omega arith), bytes_are upto (omega arith) _ c.put_run_writes-bytes.ensures, run.within)

pub loop-run-smaller : goal.loop-run-smaller
loop-run-smaller c =
    omega (arith, further c.loop-run.invariant (omega arith) _ c.put_run_writes-bytes.ensures c.next_changed-run.ensures)

pub loop-run-preserved : goal.loop-run-preserved
loop-run-preserved c =
    let upto = c.loop-run.invariant in
    let put = c.put_run_writes-bytes.ensures in
    let is = c.next_changed-run.ensures in
    record {
      begun = carried upto (omega arith) _ put is _ _ (begun-record _ _ upto.begun c.put_column_set.ensures) refl;
      begins = begins_next upto (omega arith) _ put is;
      same_size = search rules;
    }

pub returns : goal.returns
returns c =
    let within = c.loop-run.invariant.begins.within in
    let all : c.loop-run.run ≡ segments = omega arith in
    begun-front (columns_to c.args.self.now segments) (rw all at c.loop-run.invariant.begun)
