-- The replay on fresh chips over RAM all 0: its answers within the answer buffer, and its text, which is at most 737,368 bytes long.
use Prim.Native.Nat.{ℕ, ◌*◌, ◌/◌, ◌≤◌}
use native.Mathlib.Omega.{arith}
use mathlib.Core.Path.{◌≡◌, refl, ap}
use mathlib.Core.Bool.{Bool}
use mathlib.Core.List.{List}
use lib.ListN.{length, replicate, length-append, length-replicate}
use Rattle.basics.proofs.Table.{EachLine, each_line, of-first}
use Rattle.basics.proofs.Tests.{when}
use Rattle.sed1520.specs.Chip.{fresh}
use Rattle.sed1520.specs.Replies.{in_place}
use Rattle.sed1520.specs.declared.registers.Chip.{Chip}
use Rattle.sed1520.specs.declared.tally.Tally.{Tally}
use Rattle.panel.specs.Chips.{chips_bytes}
use Rattle.panel.specs.Panel.{image_length, Panel}
use Rattle.panel.specs.Trace.{trace_run}
use Rattle.trace.specs.Replay.{ReplayOutcome, refused_at, ended, ended_bytes, replay_table, replay_of, replay_in_place}
use Rattle.trace.proofs.AfterEach.{replies-bound}
use Rattle.trace.proofs.Bounds.{replay-bounded}
use Rattle.trace.proofs.InPlace.{by_value}
use Rattle.trace.proofs.ReplayNumbers.{table, sizes-right}
use Rattle.console.specs.Puts.{Puts}
use Rattle.console.specs.declared.text.Text.{Text}
use Rattle.console.specs.Start.{start, answers_length, blank_answers}
use Rattle.console.specs.Text.{refused_before, end_line}
use Rattle.console.proofs.Digits.{end-bound}
use Rattle.console.proofs.Puts.{more}
use Rattle.replay.specs.Text.{answer_lines, answers_given, replay_text, program_text}
use Rattle.replay.proofs.Lines.{lines-bound}

given-bound : (n at : ℕ) → answers_given n at ≤ at
given-bound n at = when (λ (k : ℕ). k ≤ at) (refused_before n) (λ _. omega arith) (λ _. omega arith)

-- numbers 1 to 3 give no answers
none-given : (left right : Bool) (trace ram answers : ℕ) → EachLine (λ n at. answers_given n at ≡ 0) (replay_table left right trace ram answers)
none-given left right trace ram answers = (λ _. refl, λ _. (λ _. refl, λ _. (λ _. refl, λ _. (λ _. refl, λ _. tt))))

-- two answer bytes for each answer given
given-space : (p : Panel) (trace answers : List ℕ) → let a = (replay_of p trace answers).answer in
    2 * answers_given a.number a.place ≤ length answers
unfolding replay_of ended
given-space p trace answers =
    each_line (λ n at. refused_at n at p answers) (ended_bytes p trace answers)
    (λ (o : ReplayOutcome). 2 * answers_given o.answer.number o.answer.place ≤ length answers) (table p trace answers)
    (λ n at first.
    let none = of-first (λ n at. answers_given n at ≡ 0) (table p trace answers)
    (none-given _ _ (length trace) (length p.ram) (length answers)) n at first in
    omega (arith, none))
    (λ none.
    let right = sizes-right (length trace) (length trace / 4) (length p.ram) (length answers) none.0 in
    let run = trace_run p trace in
    let few = given-bound run.number (length run.answers) in
    omega (arith, few, replies-bound p trace, right.space))

-- the text has at most 16,384 lines and the end line
pub text-bound : (trace : List ℕ) → length (program_text trace) ≤ 737368
unfolding program_text replay_text
text-bound trace =
    let o = replay_of start trace blank_answers in
    let a = o.answer in
    let given = answers_given a.number a.place in
    let lines = answer_lines o.lent.answers given in
    let few = given-bound a.number a.place in
    omega (
      arith,
      few,
      (replay-bounded start trace blank_answers).place-few,
      lines-bound o.lent.answers given,
      length-append lines (end_line a.number a.place a.compared a.differing),
      end-bound a.number a.place a.compared a.differing,
    )

-- a replay over the bytes of fresh chips and RAM all 0, into an answer buffer all 0
pub record FromFresh (trace answers' : List ℕ) (done : Tally) : Type 0 where
  pub tally : done ≡ (replay_of start trace blank_answers).answer
  pub answers : answers' ≡ (replay_of start trace blank_answers).lent.answers

pub from-fresh : (trace : List ℕ) {chips chips' ram' answers' : List ℕ} {left right : Chip} {done : Tally}
    → left ≡ fresh → right ≡ fresh → chips ≡ chips_bytes left right
    → in_place done chips' ram' answers' ≡ replay_in_place chips (replicate image_length 0) trace blank_answers
    → FromFresh trace answers' done
from-fresh trace {chips} {chips'} {ram'} {answers'} {left} {right} {done} is-left is_right bytes ends =
    let whole = by_value left right chips (replicate image_length 0) trace blank_answers (in_place done chips' ram' answers') bytes ends in
    let same = rw (is-left, is_right) at whole in
    record { tally = ap (λ (o : ReplayOutcome). o.answer) same; answers = ap (λ (o : ReplayOutcome). o.lent.answers) same }

module _ {trace answers' : List ℕ} {done : Tally} (ran : FromFresh trace answers' done) where
  -- the answers given fit the answer buffer
  pub given-fits : 2 * answers_given done.number done.place ≤ answers_length
  given-fits = rw ran.tally (omega (arith, given-space start trace blank_answers, length-replicate {A = ℕ} answers_length 0))

  pub listed : {t u v : Text} {given : ℕ} → given ≡ answers_given done.number done.place → Puts t (answer_lines answers' given) u
      → Puts u (end_line done.number done.place done.compared done.differing) v → Puts t (program_text trace) v
  unfolding program_text replay_text
  listed e lines last = rw (← ran.answers, ← ran.tally) (more (rw e at lines) last)
