-- A run whose records all go to one part of the state: it is that part's own run, put back.
use mathlib.Core.Path.{◌≡◌, refl}
use mathlib.Core.Bool.{Bool, true}
use mathlib.Core.List.{List, [], ◌∷◌}
use mathlib.Core.Logic.{⊎_elim}
use lib.Dec.{eqb}
use lib.ListN.{take}
use Rattle.basics.specs.Lists.{leading}
use Rattle.basics.specs.Run.{Step, Run, as_run, run_of}
use Rattle.basics.proofs.Run.{run-accepted, run-refused}
use Rattle.basics.proofs.Tests.{tested}

-- something holds of every record of a list
abbrev pub Each : {R : Type 0} → (R → Type 0) → List R → Type 0
Each P [] = Unit
Each P (r ∷ rs) = P r × Each P rs

-- a run with another state
abbrev pub with_state : {S T A : Type 0} → (T → S) → Run T A → Run S A
with_state f run = as_run run.number run.answers (f run.state)

-- a step that goes on in another state
abbrev pub step_in : {S T A : Type 0} → (T → S) → Step T A → Step S A
step_in f step = record { number = step.number; answer = step.answer; next = f step.next }

module _ {S T R A : Type 0} (whole : S → R → Step S A) (part : T → R → Step T A) (back : T → S) (Own : R → Type 0) (Fits : T → Type 0)
    (steps : (t : T) → Fits t → (r : R) → Own r → whole (back t) r ≡ step_in back (part t r))
    (keeps : (t : T) → Fits t → (r : R) → Own r → Fits (part t r).next) where
  pub run-of-part : (rs : List R) → Each Own rs → (t : T) → Fits t → run_of whole (back t) rs ≡ with_state back (run_of part t rs)
  unfolding run_of
  run-of-part [] own t fits = refl
  run-of-part (r ∷ rs) own t fits =
      let same = steps t fits r own.0 in
      ⊎_elim
      (λ e. rw (run-accepted whole (back t) r rs (rw same e), run-accepted part t r rs e)
      (rw (same, run-of-part rs own.1 (part t r).next (keeps t fits r own.0))))
      (λ e. rw (run-refused whole (back t) r rs (rw same e), run-refused part t r rs e) (rw same))
      (tested (eqb (part t r).number 0))

-- each of the records at the front of a list that pass a test
pub each-leading : {R : Type 0} (test : R → Bool) (P : R → Type 0) → ((r : R) → test r ≡ true → P r) → (rs : List R)
    → Each P (take (leading test rs) rs)
unfolding leading
each-leading test P holds [] = tt
each-leading test P holds (r ∷ rs) = ⊎_elim (λ e. rw e (holds r e, each-leading test P holds rs)) (λ e. rw e tt) (tested (test r))
