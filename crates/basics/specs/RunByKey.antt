-- A run by keys: the state is made of parts, one for each key, and a record acts on the part of its own key alone. The parts may be of different
-- types.
use Rattle.std.specs.Prelude.{ℕ, ◌≡◌, List, ◌↔◌}
use Rattle.basics.specs.Keys.{of_key, with_answers, answered_of_key}
use Rattle.basics.specs.Run.{Step, Run, run_of}

module _ {S R A : Type 0} (step : S → R → Step S A) (key : R → ℕ) (Part : ℕ → Type 0) (part : (k : ℕ) → S → Part k)
    (own : (k : ℕ) → Part k → R → Step (Part k) A) where
  -- a record acts on the part of its own key alone: it is accepted exactly when that part's own step accepts it; and then it has that step's answer,
  -- leads that part to where that step leads it, and leaves every other part as it was
  pub record OnOwnPart (s : S) (r : R) : Type 0 where
    pub accepted : ((step s r).number ≡ 0) ↔ ((own (key r) (part (key r) s) r).number ≡ 0)
    pub answer : (step s r).number ≡ 0 → (step s r).answer ≡ (own (key r) (part (key r) s) r).answer
    pub own-part : (step s r).number ≡ 0 → part (key r) (step s r).next ≡ (own (key r) (part (key r) s) r).next
    pub other-part : (step s r).number ≡ 0 → (k : ℕ) → (key r ≡ k → ⊥) → part k (step s r).next ≡ part k s

  -- a step by keys: on every state that fits, each record acts on its own part alone; an accepted record leads to a state that fits again; and two
  -- such states with the same parts are the same
  pub record StepByKey (Fits : S → Type 0) : Type 0 where
    pub on-own-part : (s : S) → Fits s → (r : R) → OnOwnPart s r
    pub fits : (s : S) (r : R) → Fits s → (step s r).number ≡ 0 → Fits (step s r).next
    pub parts-decide : (s t : S) → Fits s → Fits t → ((k : ℕ) → part k s ≡ part k t) → s ≡ t

  -- the run of a key: that of its own records, on its own part
  abbrev pub own_run : (k : ℕ) → S → List R → Run (Part k) A
  own_run k s rs = run_of (own k) (part k s) (of_key key k rs)

  -- a run is that of the keys' own runs: it is done exactly when each of them is; and then each key's records have the answers of its own run, and
  -- each part is where its own run leads it
  pub record AsOwnRuns (s : S) (rs : List R) (run : Run S A) : Type 0 where
    pub done : (run.number ≡ 0) ↔ ((k : ℕ) → (own_run k s rs).number ≡ 0)
    pub answers : run.number ≡ 0 → (k : ℕ) → answered_of_key key k rs run.answers ≡ with_answers (of_key key k rs) (own_run k s rs).answers
    pub parts : run.number ≡ 0 → (k : ℕ) → part k run.state ≡ (own_run k s rs).state

  -- the run of some records is that of each key's own records; `run-by-key` proves it of every step by keys, on every state that fits
  abbrev pub ByOwnRuns : S → List R → Type 0
  ByOwnRuns s rs = AsOwnRuns s rs (run_of step s rs)

-- two runs of the same records, in another order between keys, of which the first is done: the second is done too, each key's records have the same
-- answers, and both end in the same state
pub record SameRuns {S R A : Type 0} (key : R → ℕ) (rs others : List R) (one two : Run S A) : Type 0 where
  pub done : two.number ≡ 0
  pub answers : (k : ℕ) → answered_of_key key k rs one.answers ≡ answered_of_key key k others two.answers
  pub state : one.state ≡ two.state
