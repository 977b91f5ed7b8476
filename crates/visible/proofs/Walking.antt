-- The state of a walk before a record: the run of the records so far, their entries, counted and put, and the bytes that are left, four for a record.
-- An accepted record carries it on; a refused one, or no record left, ends the walk there.
use Prim.Native.Nat.{ℕ, suc, ◌+◌, ◌-◌, ◌*◌, ◌/◌, ◌<◌, ◌≤◌}
use native.Mathlib.Omega.{arith}
use native.Mathlib.Numerals.{add-one}
use Rattle.std.specs.Prelude.{Result, Ok, Err, IfOk, IsErrAnd, MatchResult, is_ok}
use Rattle.std.proofs.lemmas.Result.{IfOk-weaker}
use Rattle.std.specs.Result.{result_unwrap_or}
use mathlib.Core.Path.{◌≡◌, refl, sym, ap, ◌∙◌}
use mathlib.Core.Bool.{Bool, true, false, not, false≢true}
use mathlib.Core.List.{List, [], ◌∷◌, ◌++◌}
use lib.Dec.{eqb}
use lib.ListN.{length, get_or, take, drop, length-append, length-drop, get_or-append}
use lib.Seq.{take_all, take-suc, split_at, drop_at, drop-drop}
use Rattle.basics.specs.Choice.{if}
use Rattle.basics.specs.Lists.{joined}
use Rattle.basics.specs.Run.{Run, as_run, run_of}
use Rattle.basics.specs.Refusals.{number_of, refused, refused_or}
use Rattle.basics.specs.Verdict.{verdict}
use Rattle.basics.specs.declared.refusal.Refusal.{Refusal}
use Rattle.basics.specs.declared.verdict.Refused.{Refused}
use Rattle.basics.proofs.Refusals.{refusal-number}
use Rattle.basics.proofs.Lists.{joined-next}
use Rattle.basics.proofs.Run.{one_more as one_more_lem, refused-next}
use Rattle.basics.proofs.Tests.{when}
use Rattle.sed1520.specs.Cycle.{Reply}
use Rattle.panel.specs.Panel.{Panel, outcome_of, stepped, panel_step, panel_run, Whole}
use Rattle.sed1520.specs.Records.{front, whole_records}
use Rattle.sed1520.specs.declared.bus.Record.{Record}
use Rattle.panel.proofs.PanelLaws.{refused-record, stepped-whole}
use Rattle.sed1520.proofs.Records.{records-length, record-at}
use Rattle.panel.specs.Trace.{trace_run}
use Rattle.visible.specs.Changes.{before, changed_at, pixels_changed, Entry, as_entry, entry_at, entries_before}
use Rattle.visible.specs.Sight.{Sight, sight_of, Listing, listing, one_more, put_entries, Walked}
use Rattle.visible.specs.declared.watch.Pixels.{Pixels}
use Rattle.visible.proofs.FramesSame.{frames-by-counts}
use Rattle.visible.proofs.HalfCounts.{half-few}
use Rattle.visible.proofs.Listings.{none-put, more-listed}

-- the entries of some records as they stand in a buffer
abbrev listed_as : List Entry → List ℕ → Listing
listed_as list buffer = listing (length list) (put_entries list buffer)

pub record WalkedTo (p : Panel) (trace buffer : List ℕ) (now : Panel) (entries : List ℕ) (listed at wide : ℕ) (rest : List ℕ) : Type 0 where
  pub size : length trace ≤ 65536
  pub within : at ≤ length trace / 4
  pub whole : Whole now
  pub replies : List Reply
  pub replied : length replies ≡ at
  pub run : panel_run p (take at (whole_records trace)) ≡ as_run 0 replies now
  pub so-listed : listing listed entries ≡ listed_as (entries_before p (whole_records trace) at) buffer
  pub few : listed ≤ at
  pub four : wide ≡ 4
  pub rest-is : rest ≡ drop (4 * at) trace

-- a walk that gives this back, leaves this image, and these bytes in the entries' buffer
abbrev Ends : Panel → List ℕ → List ℕ → Result ℕ Refused → List ℕ → List ℕ → Type 0
Ends p trace buffer given ram after = Walked p trace buffer given after × (ram ≡ (trace_run p trace).state.ram)

-- before the first record
pub started : (p : Panel) (trace buffer : List ℕ) → Whole p → length trace ≤ 65536
    → {at wide : ℕ} {rest : List ℕ} → at ≡ 0 → wide ≡ 4 → rest ≡ trace
    → WalkedTo p trace buffer p buffer 0 at wide rest
unfolding run_of joined
started p trace buffer whole size first four all =
    rw (first, four, all)
    (record {
      size = size;
      within = omega arith;
      whole = whole;
      replies = [];
      replied = refl;
      run = refl;
      so-listed = rw (none-put buffer);
      few = omega arith;
      four = refl;
      rest-is = refl;
    })

-- the record in four bytes, whatever comes behind them
front-chunk : (chunk behind : List ℕ) → length chunk ≡ 4 → front (chunk ++ behind) ≡ front chunk
front-chunk chunk behind e =
    rw (
      get_or-append chunk behind 0 0 (omega arith),
      get_or-append chunk behind 0 1 (omega arith),
      get_or-append chunk behind 0 2 (omega arith),
      get_or-append chunk behind 0 3 (omega arith),
    )

-- at most one entry more
more-few : (e : Entry) (l : Listing) → (one_more e l).answer ≤ l.answer + 1
unfolding one_more
more-few e l = when (λ (k : Listing). k.answer ≤ l.answer + 1) (eqb (e.left + e.right) 0) (λ _. omega arith) (λ _. omega arith)

-- the entry of a record, by the panels before it and after it
here-entry : (p : Panel) (rs : List Record) (k : ℕ) (q next : Panel) → before p rs k ≡ q → before p rs (suc k) ≡ next
    → let e = as_entry k (pixels_changed q next 0) (pixels_changed q next 1) in
    if (changed_at p rs k) (entry_at p rs k ∷ []) [] ≡ if (eqb (e.left + e.right) 0) [] (e ∷ [])
here-entry p rs k q next is-q is-next =
    rw (is-q, is-next) (rw (frames-by-counts q next) (turned (eqb (pixels_changed q next 0 + pixels_changed q next 1) 0) _))
  where
    turned : (t : Bool) (e : Entry) → if (not t) (e ∷ []) [] ≡ if t [] (e ∷ [])
    turned true e = refl
    turned false e = refl

module _ {p : Panel} {trace buffer : List ℕ} {panel : Panel} {entries : List ℕ} {listed at wide : ℕ} {rest : List ℕ}
    (upto : WalkedTo p trace buffer panel entries listed at wide rest) where
  abbrev records : List Record
  records = whole_records trace

  all : length records ≡ length trace / 4
  all = records-length (length trace / 4) trace

  left-over : length rest ≡ length trace - 4 * at
  left-over = ap length upto.rest-is ∙ length-drop (4 * at) trace

  -- the walk ends here
  ends : (given : Result ℕ Refused) (n : ℕ) → trace_run p trace ≡ as_run n upto.replies panel → refused_or (verdict 0 at) given ≡ verdict n at
      → IfOk given (λ m. m ≡ listed) → Ends p trace buffer given panel.ram entries
  ends given n e says counted =
      let ran = ap (λ (r : Run Panel Reply). length r.answers) e ∙ upto.replied in (
        record {
          ended = rw ran (says ∙ ap (λ (r : Run Panel Reply). verdict r.number at) (sym e));
          counted = IfOk-weaker given _ _ (λ m is. is ∙ rw ran (ap (λ (l : Listing). l.answer) upto.so-listed)) counted;
          put = rw ran (ap (λ (l : Listing). l.lent) upto.so-listed);
        },
        rw e,
      )

  pub finished : length rest < wide → Ends p trace buffer (Ok listed) panel.ram entries
  finished h =
      let last : length trace / 4 ≡ at = omega (arith, left-over, upto.four, upto.within) in
      ends (Ok listed) 0 (rw (take_all at records (omega (arith, all, last))) at upto.run) refl refl

  -- a record is left, the next four bytes of the trace, and given to its chip
  module _ (chunk behind : List ℕ) (cut : rest ≡ chunk ++ behind) (width : length chunk ≡ wide) {bus : Record} (carried : bus ≡ front chunk)
      {s : Sight} (seen : s ≡ sight_of panel bus) where
    whole-chunk : length chunk ≡ 4
    whole-chunk = width ∙ upto.four

    more : at < length trace / 4
    more = omega (arith, left-over, ap length cut, length-append chunk behind, whole-chunk)

    here : get_or records at bus ≡ bus
    here = record-at (length trace / 4) at trace bus more ∙ rw (← upto.rest-is, cut, carried) (front-chunk chunk behind whole-chunk)

    behind-is : behind ≡ drop (4 * (at + 1)) trace
    behind-is =
        let next : 4 * at + 4 ≡ 4 * (at + 1) = omega arith in
        sym (drop_at chunk behind 4 whole-chunk) ∙ rw (← cut, upto.rest-is, drop-drop 4 (4 * at) trace, next)

    number_is : s.number ≡ (outcome_of panel bus).answer.number
    number_is = ap (λ (t : Sight). t.number) seen

    panel-is : s.panel ≡ stepped panel bus
    panel-is = ap (λ (t : Sight). t.panel) seen

    pub whole-then : Whole s.panel
    whole-then = rw panel-is (stepped-whole panel bus upto.whole)

    pub left-few : s.left < 65536
    left-few = rw (ap (λ (t : Sight). t.left) seen) (half-few _ _ _ _)

    pub right-few : s.right < 65536
    right-few = rw (ap (λ (t : Sight). t.right) seen) (half-few _ _ _ _)

    pub refused-here : {why : Refusal} → s.number ≡ number_of why → Ends p trace buffer (Err (refused why at)) s.panel.ram entries
    refused-here {why} is =
        let nonzero : (outcome_of panel bus).answer.number ≡ 0 → ⊥ = λ e. refusal-number why (sym is ∙ number_is ∙ e) in
        let next = refused-next panel_step p (take at records) upto.run bus (drop (suc at) records) nonzero in
        let parts = rw here at (split_at records at bus (omega (arith, all, more))) in
        rw (panel-is, refused-record panel bus nonzero)
        (ends (Err (refused why at)) (number_of why) (rw (← parts, ← number_is, is) at next) refl tt)

    -- an accepted record: its answer, and its entry behind those before it
    module _ (h : s.number ≡ 0) where
      abbrev reply : Reply
      reply = (panel_step panel bus).answer

      next-run : panel_run p (take (suc at) records) ≡ as_run 0 (upto.replies ++ (reply ∷ [])) (stepped panel bus)
      next-run =
          let records-then = rw here at (take-suc records at bus (omega (arith, all, more))) in
          rw records-then (one_more_lem panel_step p (take at records) upto.run bus (sym number_is ∙ h))

      abbrev entry : Entry
      entry = as_entry at s.left s.right

      grown : entries_before p records (at + 1) ≡ entries_before p records at ++ if (eqb (entry.left + entry.right) 0) [] (entry ∷ [])
      grown =
          let left_is = ap (λ (t : Sight). t.left) seen in
          let right_is = ap (λ (t : Sight). t.right) seen in
          joined-next (λ k. if (changed_at p records k) (entry_at p records k ∷ []) []) at
          ∙ ap (λ (l : List Entry). entries_before p records at ++ l)
          (rw (left_is, right_is)
          (here-entry p records at panel (stepped panel bus) (ap (λ (r : Run Panel Reply). r.state) upto.run)
          (ap (λ (r : Run Panel Reply). r.state) next-run)))

      pub accepted-here : {n : ℕ} {entries' : List ℕ} → listing n entries' ≡ one_more entry (listing listed entries)
          → WalkedTo p trace buffer s.panel entries' n (at + 1) wide behind
      accepted-here put =
          record {
            size = upto.size;
            within = omega (arith, more);
            whole = whole-then;
            replies = upto.replies ++ (reply ∷ []);
            replied = length-append upto.replies (reply ∷ []) ∙ omega (arith, upto.replied);
            run = rw (add-one at, panel-is) next-run;
            so-listed =
                put ∙ ap (one_more entry) upto.so-listed ∙ more-listed (entries_before p records at) buffer entry
                ∙ ap (λ (l : List Entry). listed_as l buffer) (sym grown);
            few = omega (arith, ap (λ (l : Listing). l.answer) put, more-few entry (listing listed entries), upto.few);
            four = upto.four;
            rest-is = behind-is;
          }

-- what was seen of a record, or its refusal, by what it is with the record's index put beside the refusal
pub was-ok : (came : Result Pixels Refusal) (at : ℕ) {w : Pixels}
    → MatchResult came (λ x. ◌≡◌ {A = Result Pixels Refused} (Ok w) (Ok x)) (λ why. IsErrAnd {T = Pixels} (Ok w) (λ g. g ≡ refused why at))
    → came ≡ Ok w
was-ok (Ok x) at is = ap (λ (given : Result Pixels Refused). Ok (result_unwrap_or given x)) (sym is)
was-ok (Err why) at is = absurd is

pub was-err : (came : Result Pixels Refusal) (g : Refused) (P : Refusal → Type 0) → false ≡ is_ok came
    → MatchResult came (λ x. ◌≡◌ {A = Result Pixels Refused} (Err g) (Ok x)) P → (why : Refusal) × ((came ≡ Err why) × P why)
was-err (Ok x) g P none is = absurd (false≢true none)
was-err (Err why) g P none is = (why, (refl, is))
