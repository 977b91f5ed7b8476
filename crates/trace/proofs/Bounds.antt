-- The place and the counts of any replay are at most the records that a trace can have.
use Prim.Native.Nat.{ℕ, ◌*◌, ◌/◌, ◌≤◌}
use native.Mathlib.Omega.{arith}
use mathlib.Core.Path.{◌≡◌, ◌∙◌}
use mathlib.Core.Bool.{Bool}
use mathlib.Core.List.{List}
use lib.ListN.{length, length-append, length-drop}
use Rattle.basics.proofs.Run.{answers-bound}
use Rattle.basics.proofs.Table.{EachLine, each_line, of-first}
use Rattle.sed1520.specs.Chip.{out_of_range}
use Rattle.sed1520.specs.Records.{whole_records}
use Rattle.panel.specs.Chips.{panel_in}
use Rattle.panel.specs.Panel.{Panel, panel_step, panel_run}
use Rattle.trace.specs.Replay.{ReplayOutcome, refused_at, ended, ended_bytes, replay_table, replay_of}
use Rattle.trace.specs.Replay.{replay_bytes_table, replay_in_place}
use Rattle.sed1520.specs.Replies.{replies_bytes, InPlace, in_place, nothing_run}
use Rattle.sed1520.specs.declared.bus.Record.{Record}
use Rattle.sed1520.specs.declared.tally.Tally.{Tally}
use Rattle.sed1520.proofs.Records.{records-length}
use Rattle.sed1520.proofs.Counts.{compared-bound, differing-bound}
use Rattle.trace.proofs.Joined.{replies-length}
use Rattle.trace.proofs.ReplayNumbers.{table, sizes-right}

pub record Few (most place compared differing : ℕ) : Type 0 where
  pub place-few : place ≤ most
  pub compared-few : compared ≤ most
  pub differing-few : differing ≤ most

-- place and counts of an outcome are at most so many
abbrev FewIn : ℕ → ReplayOutcome → Type 0
FewIn most o = Few most o.answer.place o.answer.compared o.answer.differing

abbrev Bounded : ReplayOutcome → Type 0
Bounded o = FewIn 16384 o

-- the records run: no more than there are
records-few : (p : Panel) (rs : List Record) (answers : List ℕ) → FewIn (length rs) (ended (panel_run p rs) rs answers)
unfolding ended
records-few p rs answers =
    let given = (panel_run p rs).answers in
    let n = answers-bound panel_step rs p in
    record {
      place-few = n;
      compared-few = omega (arith, compared-bound given);
      differing-few = omega (arith, differing-bound given rs);
    }

ended-few : (p : Panel) (bytes answers : List ℕ) → FewIn (length bytes / 4) (ended_bytes p bytes answers)
ended-few p bytes answers = rw (records-length (length bytes / 4) bytes) at (records-few p (whole_records bytes) answers)

-- so are the place and the counts of a tally of theirs
pub answered-few : {r : Tally} (p : Panel) (rs : List Record) (answers : List ℕ) → r ≡ (ended (panel_run p rs) rs answers).answer
    → Few (length rs) r.place r.compared r.differing
answered-few p rs answers e = rw e (records-few p rs answers)

pub tally-few : {r : Tally} (p : Panel) (bytes answers : List ℕ) → r ≡ (ended_bytes p bytes answers).answer
    → Few (length bytes / 4) r.place r.compared r.differing
tally-few p bytes answers e = rw (records-length (length bytes / 4) bytes) at (answered-few p (whole_records bytes) answers e)

-- the answer buffer keeps its length
pub answers-length : (p : Panel) (rs : List Record) (answers : List ℕ) → 2 * length rs ≤ length answers
    → length (ended (panel_run p rs) rs answers).lent.answers ≡ length answers
unfolding ended
answers-length p rs answers room =
    let given = (panel_run p rs).answers in
    length-append (replies_bytes given) _
    ∙ omega (arith, replies-length given, length-drop (2 * length given) answers, answers-bound panel_step rs p)

ended-bounded : (p : Panel) (trace answers : List ℕ) → length trace ≤ 65536 → Bounded (ended_bytes p trace answers)
ended-bounded p trace answers h =
    let few = ended-few p trace answers in
    record {
      place-few = omega (arith, few.place-few);
      compared-few = omega (arith, few.compared-few);
      differing-few = omega (arith, few.differing-few);
    }

refused-bounded : (n at : ℕ) (p : Panel) (answers : List ℕ) → at ≤ 16384 → Bounded (refused_at n at p answers)
refused-bounded n at p answers h = record { place-few = h; compared-few = omega arith; differing-few = omega arith }

-- the places of numbers 1 to 3 are few
few-places : (left right : Bool) (trace ram answers : ℕ) → EachLine (λ n at. at ≤ 16384) (replay_table left right trace ram answers)
few-places left right trace ram answers =
    ((
      λ _. omega arith,
      λ sizes. let right = sizes-right trace (trace / 4) ram answers sizes in
          (λ _. omega arith, λ _. (λ _. omega arith, λ _. (λ _. omega (arith, right.short), λ _. tt))),
    ))

pub replay-bounded : (p : Panel) (trace answers : List ℕ) → Bounded (replay_of p trace answers)
unfolding replay_of
replay-bounded p trace answers =
    let lines = few-places (out_of_range p.left) (out_of_range p.right) (length trace) (length p.ram) (length answers) in
    each_line (λ n at. refused_at n at p answers) (ended_bytes p trace answers) Bounded (table p trace answers)
    (λ n at first. refused-bounded n at p answers (of-first (λ n at. at ≤ 16384) (table p trace answers) lines n at first))
    (λ none. ended-bounded p trace answers (sizes-right (length trace) (length trace / 4) (length p.ram) (length answers) none.0).short)

-- place and counts of a replay over chip bytes are at most 16,384
abbrev BoundedTally : InPlace Tally → Type 0
BoundedTally i = Few 16384 i.answer.place i.answer.compared i.answer.differing

pub in-place-bounded : (chips ram trace answers : List ℕ) → BoundedTally (replay_in_place chips ram trace answers)
unfolding replay_in_place
in-place-bounded chips ram trace answers =
    let sizes = replay_bytes_table chips (length trace) (length ram) (length answers) in
    let lines : EachLine (λ n at. at ≤ 16384) sizes = (λ _. omega arith, λ _. few-places _ _ (length trace) (length ram) (length answers)) in
    each_line (λ n at. in_place (nothing_run n at) chips ram answers) _ BoundedTally sizes
    (λ n at first.
    refused-bounded n at (panel_in chips ram) answers (of-first (λ n at. at ≤ 16384) sizes lines n at first))
    (λ none.
    ended-bounded (panel_in chips ram) trace answers (sizes-right (length trace) (length trace / 4) (length ram) (length answers) none.1.0).short)
