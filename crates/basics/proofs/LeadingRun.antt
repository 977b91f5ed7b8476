-- A leading run: the records at the front of a list that pass a test, given to a step one after the other.
use Prim.Native.Nat.{ℕ, zero, suc, ◌+◌, ◌<◌, ◌≤◌}
use native.Mathlib.Omega.{arith}
use native.Mathlib.Numerals.{add-one}
use mathlib.Core.Path.{◌≡◌, refl, ap, ◌∙◌}
use mathlib.Core.Bool.{Bool, true, false}
use mathlib.Core.List.{List, [], ◌∷◌, ◌++◌}
use mathlib.Core.Logic.{⊎_elim}
use lib.ListN.{length, get_or, take, length-append}
use lib.Seq.{take-suc}
use Rattle.basics.specs.Lists.{leading}
use Rattle.basics.specs.Run.{Step, as_run, run_of}
use Rattle.basics.proofs.Run.{one_more}
use Rattle.basics.proofs.Tests.{tested, when}

-- how far the front of a list that passes a test goes
module _ {R : Type 0} (test : R → Bool) (none : R) where
  goes_on : (r : R) (rs : List R) → test r ≡ true → leading test (r ∷ rs) ≡ suc (leading test rs)
  unfolding leading
  goes_on r rs passes = rw passes

  stops : (r : R) (rs : List R) → test r ≡ false → leading test (r ∷ rs) ≡ 0
  unfolding leading
  stops r rs fails = rw fails

  pub leading-most : (rs : List R) → leading test rs ≤ length rs
  unfolding leading
  leading-most [] = omega arith
  leading-most (r ∷ rs) = when (λ n. n ≤ suc (length rs)) (test r) (λ _. omega (arith, leading-most rs)) (λ _. omega arith)

  -- the record that a number of them is followed by passes the test too
  leading-more : (n : ℕ) (rs : List R) → n ≤ leading test rs → n < length rs → test (get_or rs n none) ≡ true → suc n ≤ leading test rs
  leading-more n [] few here passes = absurd (omega arith)
  leading-more zero (r ∷ rs) few here passes = rw (goes_on r rs passes) (omega arith)
  leading-more (suc n) (r ∷ rs) few here passes =
      ⊎_elim
      (λ t. let few' = rw (goes_on r rs t) at few in
      rw (goes_on r rs t) (omega (arith, leading-more n rs (omega arith) (omega arith) passes)))
      (λ t. let few' = rw (stops r rs t) at few in absurd (omega arith))
      (tested (test r))

  -- it does not, or there is none
  pub leading-ends : (n : ℕ) (rs : List R) → n ≤ leading test rs → (n < length rs → test (get_or rs n none) ≡ false) → leading test rs ≡ n
  unfolding leading
  leading-ends n [] few fails = omega arith
  leading-ends zero (r ∷ rs) few fails = stops r rs (fails (omega arith))
  leading-ends (suc n) (r ∷ rs) few fails =
      ⊎_elim
      (λ t. let few' = rw (goes_on r rs t) at few in
      goes_on r rs t ∙ ap suc (leading-ends n rs (omega arith) (λ here. fails (omega arith))))
      (λ t. let few' = rw (stops r rs t) at few in absurd (omega arith))
      (tested (test r))

  module _ {S A : Type 0} (step : S → R → Step S A) (s : S) (rs : List R) where
    -- so many of them have run: they pass the test, all were accepted, and this is what they were answered and where they led
    pub record Ran (n : ℕ) (answers : List A) (t : S) : Type 0 where
      pub few : n ≤ leading test rs
      pub run : run_of step s (take n rs) ≡ as_run 0 answers t
      pub answered : length answers ≡ n

    pub ran-none : Ran 0 [] s
    unfolding run_of
    ran-none = record { few = omega arith; run = refl; answered = refl }

    module _ {n : ℕ} {answers : List A} {t : S} (ran : Ran n answers t) where
      -- one record more
      pub ran-more : n < length rs → test (get_or rs n none) ≡ true → (step t (get_or rs n none)).number ≡ 0
          → Ran (n + 1) (answers ++ ((step t (get_or rs n none)).answer ∷ [])) (step t (get_or rs n none)).next
      ran-more here passes accepted =
          record {
            few = rw (add-one n) (leading-more n rs ran.few here passes);
            run = rw (add-one n, take-suc rs n none here) (one_more step s (take n rs) ran.run (get_or rs n none) accepted);
            answered = length-append answers _ ∙ omega (arith, ran.answered);
          }

      -- no record more, or none that passes the test
      pub ran-all : (n < length rs → test (get_or rs n none) ≡ false) → leading test rs ≡ n
      ran-all stops = leading-ends n rs ran.few stops
