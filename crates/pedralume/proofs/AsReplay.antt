-- The list of changes refuses what a replay refuses that has room for its answers, and looks at its own room after that.
use Prim.Native.Nat.{ℕ, ◌*◌, ◌/◌, ◌%◌, ◌≤◌}
use mathlib.Core.Path.{◌≡◌, refl, ◌∙◌}
use mathlib.Core.Bool.{false, not}
use mathlib.Core.List.{List, [], ◌∷◌, ◌++◌}
use lib.Dec.{ltb, eqb}
use lib.ListN.{length, drop}
use borrow.Author.Tests.{lt-ltb, le-ltb, eq-eqb, ne_eqb}
use Rattle.basics.specs.Table.{cause, unless_refused}
use Rattle.basics.specs.Verdict.{verdict, CallResult, result_of}
use Rattle.basics.specs.Verdict.{Verdict}
use Rattle.basics.proofs.Tests.{when-both}
use Rattle.sed1520.specs.Chip.{in_range}
use Rattle.sed1520.specs.Records.{whole_records}
use Rattle.panel.specs.Panel.{Panel}
use Rattle.panel.specs.Trace.{trace_sizes_wrong}
use Rattle.trace.specs.Replay.{ReplayOutcome, ended, sizes_wrong, replay_of}
use Rattle.visible.specs.Changes.{Entry, all_entries, entries_bytes, changes_of}
use Rattle.pedralume.specs.AsReplay.{EveryCallAsReplay}

-- room for the answers leaves the sizes that the list of changes looks at
same-sizes : (trace ram answers : ℕ) → 2 * (trace / 4) ≤ answers → trace_sizes_wrong trace ram false ≡ sizes_wrong trace (trace / 4) ram answers
same-sizes trace ram answers room = rw (le-ltb answers (2 * (trace / 4)) room)

module _ (p : Panel) (trace answers buffer : List ℕ) (room : 2 * (length trace / 4) ≤ length answers) where
  abbrev entries : List Entry
  entries = all_entries p (whole_records trace)

  -- what the list of changes gives where a replay comes to an outcome
  abbrev given_by : ReplayOutcome → CallResult Verdict (List ℕ)
  given_by o =
      let n = o.answer.number in
      unless_refused (cause n o.answer.place (not (eqb n 0)) ∷ cause 15 (length entries) (ltb (length buffer) (8 * length entries)) ∷ [])
      (λ n at. result_of (verdict n at) buffer) (result_of (verdict 0 (length entries)) (entries_bytes entries ++ drop (8 * length entries) buffer))

  abbrev By : CallResult Verdict (List ℕ) → ReplayOutcome → Type 0
  By x o = x ≡ given_by o

  -- both go through the same tests
  given-by-replay : By (changes_of p trace buffer) (replay_of p trace answers)
  unfolding changes_of replay_of ended
  given-by-replay =
      when-both By _ _ (same-sizes (length trace) (length p.ram) (length answers) room) (λ _. refl)
      (λ _. when-both By (not (in_range p.left)) _ refl (λ _. refl)
      (λ _. when-both By (not (in_range p.right)) _ refl (λ _. refl)
      (λ _. when-both By (not (eqb (length trace % 4) 0)) _ refl (λ _. refl) (λ _. refl))))

pub every-call-as-replay : EveryCallAsReplay
every-call-as-replay p trace answers buffer room =
    let given = given-by-replay p trace answers buffer room in
    let number = (replay_of p trace answers).answer.number in
    let needed = 8 * length (all_entries p (whole_records trace)) in
    record {
      refused = λ h. given ∙ rw (ne_eqb number 0 h);
      short = λ z h. given ∙ rw (eq-eqb number 0 z, lt-ltb (length buffer) needed h);
      done = λ z h. given ∙ rw (eq-eqb number 0 z, le-ltb (length buffer) needed h);
    }
