-- The call out of the verdict on the trace and two walks over the records; its numbers; that a refusal keeps the buffer; how large a place can be.
use Prim.Native.Nat.{ℕ, ◌*◌, ◌/◌, ◌<◌, ◌≤◌}
use native.Mathlib.Omega.{arith}
use mathlib.Core.Path.{◌≡◌, refl, sym, ap, ◌∙◌}
use mathlib.Core.Bool.{false, not}
use mathlib.Core.List.{List, [], ◌∷◌, ◌++◌, flat_map}
use mathlib.Core.Logic.{inl, inr}
use lib.Dec.{eqb, ltb}
use lib.ListN.{length, drop}
use lib.Seq.{take_all}
use borrow.Author.Rules.{rules}
use borrow.Author.Tests.{eq-eqb, ne_eqb, lt-ltb, le-ltb, ltb-false, not-false}
use Rattle.basics.specs.Table.{Cause, cause, verdict_by, NoneHolds}
use Rattle.basics.specs.Verdict.{Verdict, verdict, CallResult, result_of}
use Rattle.basics.specs.Refusals.{number_of}
use Rattle.basics.specs.declared.verdict.Refused.{Refused}
use Rattle.basics.proofs.Refusals.{refusal-number}
use Rattle.std.specs.Prelude.{Result, Ok, Err}
use Rattle.basics.proofs.Chosen.{chosen-few}
use Rattle.basics.proofs.Run.{run_ends, answers-bound}
use Rattle.basics.proofs.Table.{first-refuses, none-refuses, refusing-line, passing-table}
use Rattle.basics.proofs.Table.{call-exactly, call-place, call-keeps, first-front, first-behind, none-behind}
use Rattle.basics.proofs.Tests.{neither, no_other}
use Rattle.sed1520.specs.Chip.{out_of_range}
use Rattle.sed1520.specs.Records.{front, whole_records}
use Rattle.sed1520.proofs.Records.{records-length}
use Rattle.panel.specs.Panel.{Panel, panel_step, Whole}
use Rattle.panel.specs.Trace.{trace_run, trace_sizes_wrong, trace_table}
use Rattle.visible.specs.Changes.{changed_at, Entry, entry_at, entries_before, all_entries, entries_bytes, changes_table, changes_of}
use Rattle.visible.specs.Promises.{ChangesNumbers, EveryRefusalKeeps}
use Rattle.visible.specs.Sight.{put_entries, entries_ran, Walked}

-- sizes that number 1 lets pass
sizes-right : (trace ram : ℕ) → trace_sizes_wrong trace ram false ≡ false → (trace ≤ 65536) × (ram ≡ 640)
unfolding trace_sizes_wrong
sizes-right trace ram e =
    let short = neither (ltb 65536 trace) _ e in
    (ltb-false 65536 trace short.0, no_other ram 640 (neither (not (eqb ram 640)) false short.1).0)

-- a buffer without room stays empty
pub nothing_put : (entries : List Entry) → put_entries entries [] ≡ []
unfolding flat_map
nothing_put entries = refl

-- enough room
all-put : (entries : List Entry) (buffer : List ℕ) → length entries ≤ length buffer / 8
    → put_entries entries buffer ≡ entries_bytes entries ++ drop (8 * length entries) buffer
all-put entries buffer h = rw (take_all (length buffer / 8) entries h)

module _ (p : Panel) (trace : List ℕ) where
  abbrev entries : List Entry
  entries = all_entries p (whole_records trace)

  -- the lines of numbers 1 to 3
  abbrev pub early : List Cause
  early = trace_table (trace_sizes_wrong (length trace) (length p.ram) false) (out_of_range p.left) (out_of_range p.right) (length trace) []

  -- the verdict where none of them is given
  abbrev Passed : Type 0
  Passed = verdict 0 0 ≡ verdict_by early (verdict 0 0)

  none-early : Passed → NoneHolds early
  none-early passed = passing-table early (verdict 0 0) 0 passed (search rules) refl

  -- chips and sizes past them
  pub passes-whole : Passed → Whole p × (length trace ≤ 65536)
  passes-whole passed =
      let none = none-early passed in
      let sizes = sizes-right (length trace) (length p.ram) none.0 in
      (record { left = not-false _ none.1.0; right = not-false _ none.1.1.0; image = sizes.1 }, sizes.0)

module _ (p : Panel) (trace buffer : List ℕ) where
  -- the lines past numbers 1 to 3, all lines, and what is given where one holds and where none does
  abbrev late : List Cause
  late =
      let run = trace_run p trace in
      let all = entries p trace in
      cause run.number (length run.answers) (not (eqb run.number 0)) ∷ cause 15 (length all) (ltb (length buffer) (8 * length all)) ∷ []

  abbrev table : List Cause
  table = changes_table p trace (length buffer)

  abbrev kept : ℕ → ℕ → CallResult Verdict (List ℕ)
  kept n at = result_of (verdict n at) buffer

  abbrev given : CallResult Verdict (List ℕ)
  given = let all = entries p trace in result_of (verdict 0 (length all)) (entries_bytes all ++ drop (8 * length all) buffer)

  pub trace-refused : (v : Verdict) → v ≡ verdict_by (early p trace) (verdict 0 0) → (v.number ≡ 0 → ⊥)
      → result_of v buffer ≡ changes_of p trace buffer
  unfolding changes_of
  trace-refused v e h = sym (first-refuses kept given table _ _ (first-front (early p trace) late _ _ (refusing-line (early p trace) v 0 e h)))

  -- none of numbers 1 to 3
  module _ (passed : Passed p trace) where
    pass : NoneHolds (early p trace)
    pass = none-early p trace passed

    -- a first walk without room, which wrote nothing
    unwritten : {came : Result ℕ Refused} {left : List ℕ} → Walked p trace [] came left → left ≡ []
    unwritten first = first.put ∙ nothing_put (entries_ran p trace)

    -- it was refused by a record
    pub record-refused : {why : Refused} {left : List ℕ} → Walked p trace [] (Err why) left
        → result_of (verdict (number_of why.refusal) why.place) (left ++ buffer) ≡ changes_of p trace buffer
    unfolding changes_of
    record-refused {why} first =
        let run = trace_run p trace in
        let nonzero : run.number ≡ 0 → ⊥ = λ e. refusal-number why.refusal (ap (λ (v : Verdict). v.number) first.ended ∙ e) in
        rw (unwritten first, first.ended)
        (sym (first-refuses kept given table _ _
        (first-behind (early p trace) late _ _ pass (inl (rw (ne_eqb run.number 0 nonzero), (refl, refl))))))

    -- it was not
    module _ {listed : ℕ} {left : List ℕ} (first : Walked p trace [] (Ok listed) left) where
      zero-number : (trace_run p trace).number ≡ 0
      zero-number = sym (ap (λ (v : Verdict). v.number) first.ended)

      -- all records ran, so their entries are all
      all-ran : entries_ran p trace ≡ entries p trace
      all-ran = ap (entries_before p (whole_records trace)) ((run_ends panel_step (front []) (whole_records trace) p).done zero-number)

      how-many : {n : ℕ} → n ≡ length (entries_ran p trace) → n ≡ length (entries p trace)
      how-many counted = counted ∙ ap (λ (l : List Entry). length l) all-ran

      accepted : not (eqb (trace_run p trace).number 0) ≡ false
      accepted = rw (eq-eqb (trace_run p trace).number 0 zero-number)

      pub short : length (left ++ buffer) / 8 < listed → result_of (verdict 15 listed) (left ++ buffer) ≡ changes_of p trace buffer
      unfolding changes_of
      short h =
          let many = how-many first.counted in
          let full = rw (unwritten first) at h in
          rw (unwritten first, many)
          (sym (first-refuses kept given table _ _
          (first-behind (early p trace) late _ _ pass
          (inr (accepted, inl (lt-ltb (length buffer) (8 * length (entries p trace)) (omega (arith, full, many)), (refl, refl)))))))

      -- a second walk has the same entries
      pub all_listed : listed ≤ length (left ++ buffer) / 8 → {n : ℕ} {after : List ℕ} → Walked p trace (left ++ buffer) (Ok n) after
          → result_of (verdict 0 n) after ≡ changes_of p trace buffer
      unfolding changes_of
      all_listed h second =
          let many = how-many first.counted in
          let room = rw (unwritten first) at h in
          let fits : length (entries p trace) ≤ length buffer / 8 = omega (arith, room, many) in
          rw (second.put, unwritten first, how-many second.counted, all-ran, all-put (entries p trace) buffer fits)
          (sym (none-refuses kept given table
          (none-behind (early p trace) late pass (accepted, (le-ltb (length buffer) (8 * length (entries p trace)) (omega (arith, fits)), tt)))))

pub changes-numbers : ChangesNumbers
unfolding changes_of
changes-numbers p trace buffer = call-exactly (table p trace buffer) buffer (given p trace buffer)

pub every-refusal-keeps : EveryRefusalKeeps
unfolding changes_of
every-refusal-keeps p trace buffer = call-keeps (table p trace buffer) buffer (given p trace buffer) refl

-- every place fits 16 bits: a record's is below the number of records, and there are no more entries than records
pub places-small : (p : Panel) (trace buffer : List ℕ) → (changes_of p trace buffer).answer.place < 65536
unfolding changes_of
places-small p trace buffer =
    let records = records-length (length trace / 4) trace in
    let ran = answers-bound panel_step (whole_records trace) p in
    let few = chosen-few (changed_at p (whole_records trace)) (entry_at p (whole_records trace)) 0 (length (whole_records trace)) in
    let size = sizes-right (length trace) (length p.ram) in
    call-place (table p trace buffer) buffer (given p trace buffer) (λ at. at < 65536)
    ((
      λ _. omega arith,
      λ sizes. let small = (size sizes).0 in (
        λ _. omega arith,
        λ _. (
          λ _. omega arith,
          λ _. (λ _. omega arith, λ _. (λ _. omega (arith, records, ran), λ _. (λ _. omega (arith, records, few), λ _. tt))),
        ),
      ),
    ))
    (λ none. omega (arith, records, few, (size none.0).0))
