-- A run: records given to a step one after the other, each where the one before it led, up to the first that the step refuses.
use Rattle.std.specs.Prelude.{ℕ, List, [], ◌∷◌, eqb}
use Rattle.basics.specs.Choice.{if}

-- what a step makes of a record: 0 or the number by which it refuses it, its answer, and the state after it
pub record Step (S A : Type 0) : Type 0 where
  pub number : ℕ
  pub answer : A
  pub next : S

-- how a run ends: 0 or the number by which a record was refused, the answers before it, and the state that they led to
pub record Run (S A : Type 0) : Type 0 where
  pub number : ℕ
  pub answers : List A
  pub state : S

-- a run from its number, its answers and its state
abbrev pub as_run : {S A : Type 0} → ℕ → List A → S → Run S A
as_run n answers s = record { number = n; answers = answers; state = s }

-- one answer more, before those of a run
abbrev pub answered_first : {S A : Type 0} → A → Run S A → Run S A
answered_first a r = as_run r.number (a ∷ r.answers) r.state

-- the run of a step over a list of records; the record that is refused has no effect
unfoldable pub run_of : {S R A : Type 0} → (S → R → Step S A) → S → List R → Run S A
run_of step s [] = as_run 0 [] s
run_of step s (r ∷ rs) =
    if (eqb (step s r).number 0) (answered_first (step s r).answer (run_of step (step s r).next rs)) (as_run (step s r).number [] s)
