-- A run whose records each act on the part of their own key alone: it is done exactly when each key's own run is, with those answers and those parts.
-- So the order between the keys does not matter.
use Prim.Native.Nat.{ℕ}
use mathlib.Core.Path.{◌≡◌, refl, sym, ◌∙◌, subst}
use mathlib.Core.Bool.{true, false}
use mathlib.Core.List.{List, [], ◌∷◌, zip_with}
use mathlib.Core.Logic.{⊎_elim}
use lib.Dec.{eqb}
use borrow.Author.Tests.{eq-eqb, eqb-true, eqb-false}
use Rattle.basics.specs.Keys.{of_key, SameByKey, with_answers, answered_of_key}
use Rattle.basics.specs.Run.{Step, Run, answered_first, run_of}
use Rattle.basics.specs.RunByKey.{OnOwnPart, StepByKey, own_run, ByOwnRuns, SameRuns}
use Rattle.basics.proofs.Run.{run_none, run-accepted, run-refused, first-accepted, run-keeps}
use Rattle.basics.proofs.Tests.{tested}

module _ {S R A : Type 0} (step : S → R → Step S A) (key : R → ℕ) (Part : ℕ → Type 0) (part : (k : ℕ) → S → Part k)
    (own : (k : ℕ) → Part k → R → Step (Part k) A) where
  abbrev Own : (k : ℕ) → S → List R → Run (Part k) A
  Own = own_run step key Part part own

  -- the first record of a run, on its own part
  module _ (s : S) (r : R) (on-own : OnOwnPart step key Part part own s r) (rs : List R) where
    -- accepted, it is the first of its own key's run, and no other key's run has it
    module _ (accepted : (step s r).number ≡ 0) where
      own_first : (k : ℕ) → key r ≡ k → Own k s (r ∷ rs) ≡ answered_first (step s r).answer (Own k (step s r).next rs)
      unfolding of_key
      own_first k e =
          subst (λ k. Own k s (r ∷ rs) ≡ answered_first (step s r).answer (Own k (step s r).next rs)) e
          (rw (eq-eqb (key r) (key r) refl)
          (run-accepted (own (key r)) (part (key r) s) r (of_key key (key r) rs) (eq-eqb _ 0 (on-own.accepted.0 accepted))
          ∙ rw (on-own.answer accepted, on-own.own-part accepted)))

      other-first : (k : ℕ) → eqb (key r) k ≡ false → Own k s (r ∷ rs) ≡ Own k (step s r).next rs
      unfolding of_key
      other-first k t = rw (t, on-own.other-part accepted k (eqb-false (key r) k t))

      -- so what holds of a key's run either way holds of it
      by_first : (k : ℕ) (P : Run (Part k) A → Type 0) → (eqb (key r) k ≡ true → P (answered_first (step s r).answer (Own k (step s r).next rs)))
          → (eqb (key r) k ≡ false → P (Own k (step s r).next rs)) → P (Own k s (r ∷ rs))
      by_first k P same other =
          ⊎_elim
          (λ t. subst P (sym (own_first k (eqb-true (key r) k t))) (same t))
          (λ t. subst P (sym (other-first k t)) (other t))
          (tested (eqb (key r) k))

    -- refused, the run of its own key is not done
    refused-first : ((step s r).number ≡ 0 → ⊥) → (Own (key r) s (r ∷ rs)).number ≡ 0 → ⊥
    unfolding of_key
    refused-first refused done =
        let first = rw (eq-eqb (key r) (key r) refl) at done in
        refused (on-own.accepted.1 (eqb-true _ 0 (first-accepted (own (key r)) (part (key r) s) r (of_key key (key r) rs) first)))

  module _ {Fits : S → Type 0} (by_key : StepByKey step key Part part own Fits) where
    pub run-by-key : (rs : List R) (s : S) → Fits s → ByOwnRuns step key Part part own s rs
    unfolding of_key zip_with
    run-by-key [] s fits =
        rw (run_none step s)
        (record {
          done = (λ _ k. rw (run_none (own k) (part k s)), λ _. refl);
          answers = λ _ k. refl;
          parts = λ _ k. rw (run_none (own k) (part k s));
        })
    run-by-key (r ∷ rs) s fits =
        let on-own = by_key.on-own-part s fits r in
        ⊎_elim
        (λ t. let accepted = eqb-true (step s r).number 0 t in
        let rest = run-by-key rs (step s r).next (by_key.fits s r fits accepted) in
        let first = by_first s r on-own rs accepted in
        let number : (k : ℕ) → (Own k s (r ∷ rs)).number ≡ (Own k (step s r).next rs).number =
        λ k. first k (λ (run : Run (Part k) A). run.number ≡ (Own k (step s r).next rs).number) (λ _. refl) (λ _. refl) in
        rw (run-accepted step s r rs t)
        (record {
          done = (λ done k. number k ∙ rest.done.0 done k, λ each. rest.done.1 (λ k. sym (number k) ∙ each k));
          answers = λ done k.
              first k (λ (run : Run (Part k) A). answered_of_key key k (r ∷ rs) ((step s r).answer ∷ (run_of step (step s r).next rs).answers)
              ≡ with_answers (of_key key k (r ∷ rs)) run.answers)
              (λ same. rw (same, rest.answers done k))
              (λ other. rw (other, rest.answers done k));
          parts = λ done k.
              first k (λ (run : Run (Part k) A). part k (run_of step (step s r).next rs).state ≡ run.state)
              (λ _. rest.parts done k)
              (λ _. rest.parts done k);
        }))
        (λ t. let refused = eqb-false (step s r).number 0 t in
        rw (run-refused step s r rs t)
        (record {
          done = (λ done. absurd (refused done), λ each. absurd (refused-first s r on-own rs refused (each (key r))));
          answers = λ done. absurd (refused done);
          parts = λ done. absurd (refused done);
        }))
        (tested (eqb (step s r).number 0))

    -- the same records in another order between keys
    pub run-in-any-order : (rs others : List R) (s : S) → Fits s → (run_of step s rs).number ≡ 0 → SameByKey key rs others
        → SameRuns key rs others (run_of step s rs) (run_of step s others)
    run-in-any-order rs others s fits done same =
        let one = run-by-key rs s fits in
        let other = run-by-key others s fits in
        let also = other.done.1 (λ k. rw (← same k) (one.done.0 done k)) in
        let keeps = run-keeps step Fits by_key.fits in
        record {
          done = also;
          answers = λ k. one.answers done k ∙ rw (same k) (sym (other.answers also k));
          state = by_key.parts-decide _ _ (keeps rs s fits) (keeps others s fits) (λ k. one.parts done k ∙ rw (same k) (sym (other.parts also k)));
        }
