-- The laws of a run: record by record, of two lists joined, of the first k records, of where it ends and why, of what holds at every stop, and of two
-- runs that stay alike.
use Prim.Native.Nat.{ℕ, zero, suc, ◌+◌, ◌-◌, ◌<◌, ◌≤◌}
use native.Mathlib.Omega.{arith}
use mathlib.Core.Path.{◌≡◌, refl, sym, ap, ◌∙◌}
use mathlib.Core.Bool.{true, false, true≢false}
use mathlib.Core.List.{List, [], ◌∷◌, ◌++◌, append-nil, map}
use mathlib.Core.Logic.{⊎_elim}
use lib.Dec.{eqb, leb}
use lib.ListN.{length, get_or, take, length-append}
use lib.Seq.{take-nil, take-append-le, take-append-add}
use borrow.Author.Tests.{eq-eqb, ne_eqb, eqb-true, eqb-false, leb-true, leb-false}
use Rattle.basics.specs.Run.{Step, Run, as_run, answered_first, run_of}
use Rattle.basics.proofs.Tests.{tested}

module _ {S R A : Type 0} (step : S → R → Step S A) where
  pub run_none : (s : S) → run_of step s [] ≡ as_run 0 [] s
  unfolding run_of
  run_none s = refl

  pub run-accepted : (s : S) (r : R) (rs : List R) → eqb (step s r).number 0 ≡ true
      → run_of step s (r ∷ rs) ≡ answered_first (step s r).answer (run_of step (step s r).next rs)
  unfolding run_of
  run-accepted s r rs t = rw t

  pub run-refused : (s : S) (r : R) (rs : List R) → eqb (step s r).number 0 ≡ false → run_of step s (r ∷ rs) ≡ as_run (step s r).number [] s
  unfolding run_of
  run-refused s r rs t = rw t

  -- what is so of a run after an accepted record, and of one that its first record ends
  by_first : (P : Run S A → Type 0) (s : S) (r : R) (rs : List R)
      → (eqb (step s r).number 0 ≡ true → P (answered_first (step s r).answer (run_of step (step s r).next rs)))
      → (eqb (step s r).number 0 ≡ false → P (as_run (step s r).number [] s)) → P (run_of step s (r ∷ rs))
  by_first P s r rs accepted refused =
      ⊎_elim
      (λ t. rw (run-accepted s r rs t) (accepted t))
      (λ t. rw (run-refused s r rs t) (refused t))
      (tested (eqb (step s r).number 0))

  -- the first record of a run that is done is accepted
  pub first-accepted : (s : S) (r : R) (rs : List R) → (run_of step s (r ∷ rs)).number ≡ 0 → eqb (step s r).number 0 ≡ true
  first-accepted s r rs done =
      ⊎_elim
      (λ t. t)
      (λ t. eq-eqb (step s r).number 0 (rw (run-refused s r rs t) at done))
      (tested (eqb (step s r).number 0))

  pub state-none : (s : S) → (run_of step s []).state ≡ s
  state-none s = rw (run_none s)

  pub state-first : (s : S) (r : R) (rs : List R) → (step s r).number ≡ 0 → (run_of step s (r ∷ rs)).state ≡ (run_of step (step s r).next rs).state
  state-first s r rs e = rw (run-accepted s r rs (eq-eqb (step s r).number 0 e))

  -- two lists joined: the second begins where the first led; and a run that ends within the first
  pub run_join : (s : S) (rs qs : List R) → (run_of step s rs).number ≡ 0 → let second = run_of step (run_of step s rs).state qs in
      run_of step s (rs ++ qs) ≡ as_run second.number ((run_of step s rs).answers ++ second.answers) second.state
  run_join s [] qs done = rw (run_none s)
  run_join s (r ∷ rs) qs done =
      let t = first-accepted s r rs done in
      let e = run-accepted s r rs t in
      rw (e, run-accepted s r (rs ++ qs) t, run_join (step s r).next rs qs (rw e at done))

  pub state-join : (s : S) (rs qs : List R) → (run_of step s rs).number ≡ 0
      → (run_of step s (rs ++ qs)).state ≡ (run_of step (run_of step s rs).state qs).state
  state-join s rs qs done = rw (run_join s rs qs done)

  pub run-cut : (s : S) (rs qs : List R) → ((run_of step s rs).number ≡ 0 → ⊥) → run_of step s (rs ++ qs) ≡ run_of step s rs
  run-cut s [] qs h = absurd (h (rw (run_none s)))
  run-cut s (r ∷ rs) qs h =
      ⊎_elim
      (λ t. let e = run-accepted s r rs t in
      rw (e, run-accepted s r (rs ++ qs) t, run-cut (step s r).next rs qs (λ z. h (rw e z))))
      (λ t. rw (run-refused s r rs t, run-refused s r (rs ++ qs) t))
      (tested (eqb (step s r).number 0))

  -- one record more leads on from where the others led, or leaves the state there
  pub leads-or-stays : (P : S → Type 0) (s : S) (rs : List R) (r : R) → let t = (run_of step s rs).state in
      P (step t r).next → P t → P (run_of step s (rs ++ (r ∷ []))).state
  leads-or-stays P s rs r next same =
      ⊎_elim
      (λ t. rw (state-join s rs (r ∷ []) (eqb-true (run_of step s rs).number 0 t))
      (by_first (λ (run : Run S A). P run.state) _ r [] (λ _. rw run_none next) (λ _. same)))
      (λ t. rw (run-cut s rs (r ∷ []) (eqb-false (run_of step s rs).number 0 t)) same)
      (tested (eqb (run_of step s rs).number 0))

  -- one record more, after a run that was done: accepted, or refused with any others behind it
  module _ (s : S) (rs : List R) {answers : List A} {t : S} (so_far : run_of step s rs ≡ as_run 0 answers t) (r : R) where
    joined-here : (qs : List R) → let second = run_of step t qs in
        run_of step s (rs ++ qs) ≡ as_run second.number (answers ++ second.answers) second.state
    joined-here qs = rw so_far at (run_join s rs qs (rw so_far))

    pub one_more : (step t r).number ≡ 0 → run_of step s (rs ++ (r ∷ [])) ≡ as_run 0 (answers ++ ((step t r).answer ∷ [])) (step t r).next
    one_more e = joined-here (r ∷ []) ∙ rw (run-accepted t r [] (eq-eqb (step t r).number 0 e), run_none (step t r).next)

    pub refused-next : (qs : List R) → ((step t r).number ≡ 0 → ⊥) → run_of step s (rs ++ (r ∷ qs)) ≡ as_run (step t r).number answers t
    refused-next qs h = joined-here (r ∷ qs) ∙ rw (run-refused t r qs (ne_eqb (step t r).number 0 h), append-nil)

  -- the first k records of a run that answered as many
  pub run-prefix : (k : ℕ) (rs : List R) (s : S) → k ≤ length (run_of step s rs).answers
      → run_of step s (take k rs) ≡ as_run 0 (take k (run_of step s rs).answers) (run_of step s (take k rs)).state
  run-prefix zero rs s h = rw (run_none s)
  run-prefix (suc k) [] s h = let h' = rw run_none at h in absurd (omega arith)
  run-prefix (suc k) (r ∷ rs) s h =
      ⊎_elim
      (λ t. let e = run-accepted s r rs t in
      let h' = rw e at h in
      let ih = run-prefix k rs (step s r).next (omega arith) in
      rw (e, run-accepted s r (take k rs) t) (rw ih))
      (λ t. let h' = rw (run-refused s r rs t) at h in absurd (omega arith))
      (tested (eqb (step s r).number 0))

  -- one record on, within the records that were answered
  answered-first : (s : S) (r : R) (rs : List R) → 0 < length (run_of step s (r ∷ rs)).answers → eqb (step s r).number 0 ≡ true
  answered-first s r rs h =
      ⊎_elim
      (λ t. t)
      (λ t. let h' = rw (run-refused s r rs t) at h in absurd (omega arith))
      (tested (eqb (step s r).number 0))

  -- the record at k, where those before it led: accepted, its answer the next one, and where it leads
  pub record Next (none : R) (k : ℕ) (rs : List R) (s : S) : Type 0 where
    pub accepted : (step (run_of step s (take k rs)).state (get_or rs k none)).number ≡ 0
    pub answer : take (suc k) (run_of step s rs).answers
        ≡ take k (run_of step s rs).answers ++ ((step (run_of step s (take k rs)).state (get_or rs k none)).answer ∷ [])
    pub state : (run_of step s (take (suc k) rs)).state ≡ (step (run_of step s (take k rs)).state (get_or rs k none)).next

  pub run-next : (none : R) (k : ℕ) (rs : List R) (s : S) → k < length (run_of step s rs).answers → Next none k rs s
  run-next none k [] s h = let h' = rw run_none at h in absurd (omega arith)
  run-next none zero (r ∷ rs) s h =
      let t = answered-first s r rs h in
      record {
        accepted = rw (run_none s) (eqb-true (step s r).number 0 t);
        answer = rw (run-accepted s r rs t, run_none s);
        state = rw (run-accepted s r [] t, run_none (step s r).next, run_none s);
      }
  run-next none (suc k) (r ∷ rs) s h =
      let t = answered-first s r rs (omega arith) in
      let h' = rw (run-accepted s r rs t) at h in
      let rest = run-next none k rs (step s r).next (omega arith) in
      record {
        accepted = rw (run-accepted s r (take k rs) t) rest.accepted;
        answer = rw (run-accepted s r rs t, run-accepted s r (take k rs) t) (ap (λ (more : List A). (step s r).answer ∷ more) rest.answer);
        state = rw (run-accepted s r (take (suc k) rs) t, run-accepted s r (take k rs) t) rest.state;
      }

  -- where a run ends and why: as many records stand as were answered; done, they are all; refused, the next one is refused where they led
  pub record RunEnds (none : R) (s : S) (rs : List R) : Type 0 where
    pub state : (run_of step s rs).state ≡ (run_of step s (take (length (run_of step s rs).answers) rs)).state
    pub done : (run_of step s rs).number ≡ 0 → length (run_of step s rs).answers ≡ length rs
    pub before : ((run_of step s rs).number ≡ 0 → ⊥) → length (run_of step s rs).answers < length rs
    pub refused : ((run_of step s rs).number ≡ 0 → ⊥)
        → (step (run_of step s rs).state (get_or rs (length (run_of step s rs).answers) none)).number ≡ (run_of step s rs).number

  pub run_ends : (none : R) (rs : List R) (s : S) → RunEnds none s rs
  run_ends none [] s =
      record {
        state = rw (take-nil (length (run_of step s []).answers));
        done = λ e. rw (run_none s);
        before = λ h. absurd (h (rw (run_none s)));
        refused = λ h. absurd (h (rw (run_none s)));
      }
  run_ends none (r ∷ rs) s =
      ⊎_elim
      (λ t. let rest = run_ends none rs (step s r).next in
      let e = run-accepted s r rs t in
      record {
        state = rw (e, run-accepted s r (take (length (run_of step (step s r).next rs).answers) rs) t) rest.state;
        done = λ z. rw e (ap suc (rest.done (rw e at z)));
        before = λ h. rw e (let less = rest.before (λ z. h (rw e z)) in omega arith);
        refused = λ h. rw e (rest.refused (λ z. h (rw e z)));
      })
      (λ t. let e = run-refused s r rs t in
      record {
        state = rw (e, run_none s);
        done = λ z. absurd (true≢false (sym (first-accepted s r rs z) ∙ t));
        before = λ h. rw e (omega arith);
        refused = λ h. rw e;
      })
      (tested (eqb (step s r).number 0))

  pub answers-bound : (rs : List R) (s : S) → length (run_of step s rs).answers ≤ length rs
  answers-bound [] s = rw (run_none s) (omega arith)
  answers-bound (r ∷ rs) s =
      by_first (λ (run : Run S A). length run.answers ≤ suc (length rs)) s r rs
      (λ _. omega (arith, answers-bound rs (step s r).next))
      (λ _. omega arith)

  -- something that each accepted record keeps
  pub run-keeps : (Holds : S → Type 0) → ((s : S) (r : R) → Holds s → (step s r).number ≡ 0 → Holds (step s r).next)
      → (rs : List R) (s : S) → Holds s → Holds (run_of step s rs).state
  run-keeps Holds keeps [] s h = rw (run_none s) h
  run-keeps Holds keeps (r ∷ rs) s h =
      by_first (λ (run : Run S A). Holds run.state) s r rs
      (λ t. run-keeps Holds keeps rs (step s r).next (keeps s r h (eqb-true (step s r).number 0 t)))
      (λ _. h)

  -- a run that is done, with something that holds before the first record and after each
  pub record Stops (Holds : S → Type 0) (s : S) (rs : List R) : Type 0 where
    pub done : (run_of step s rs).number ≡ 0
    pub holds : (k : ℕ) → k ≤ length rs → Holds (run_of step s (take k rs)).state

  module _ {Holds : S → Type 0} where
    pub stops-none : {s : S} → Holds s → Stops Holds s []
    stops-none {s} h = record { done = rw (run_none s); holds = at }
      where
        at : (k : ℕ) → k ≤ 0 → Holds (run_of step s (take k [])).state
        at zero l = rw (run_none s) h
        at (suc k) l = absurd (omega arith)

    pub stops_first : {s : S} {r : R} {rs : List R} → Holds s → (step s r).number ≡ 0 → Stops Holds (step s r).next rs → Stops Holds s (r ∷ rs)
    stops_first {s} {r} {rs} h e more = record { done = rw (run-accepted s r rs t) more.done; holds = at }
      where
        t : eqb (step s r).number 0 ≡ true
        t = eq-eqb (step s r).number 0 e

        at : (k : ℕ) → k ≤ suc (length rs) → Holds (run_of step s (take k (r ∷ rs))).state
        at zero l = rw (run_none s) h
        at (suc k) l = rw (run-accepted s r (take k rs) t) (more.holds k (omega arith))

    pub stops_join : {s : S} {rs qs : List R} → Stops Holds s rs → Stops Holds (run_of step s rs).state qs → Stops Holds s (rs ++ qs)
    stops_join {s} {rs} {qs} one two =
        record {
          done = rw (run_join s rs qs one.done) two.done;
          holds = λ k l.
              ⊎_elim
              (λ t. let h = leb-true k (length rs) t in rw (take-append-le k rs qs h) (one.holds k h))
              (λ t. let h = leb-false k (length rs) t in
              let e : k ≡ length rs + (k - length rs) = omega arith in
              let long = length-append rs qs in
              rw (e, take-append-add rs qs (k - length rs), run_join s rs (take (k - length rs) qs) one.done)
              (two.holds (k - length rs) (omega arith)))
              (tested (leb k (length rs)));
        }

    pub stops-weaker : {Follows : S → Type 0} {s : S} {rs : List R} → ((t : S) → Holds t → Follows t) → Stops Holds s rs → Stops Follows s rs
    stops-weaker then stops = record { done = stops.done; holds = λ k l. then _ (stops.holds k l) }

  -- every record of a run that is done is accepted where those before it led
  pub accepted-at : (none : R) (rs : List R) (s : S) → (run_of step s rs).number ≡ 0 → (k : ℕ) → k < length rs
      → (step (run_of step s (take k rs)).state (get_or rs k none)).number ≡ 0
  accepted-at none [] s done k h = absurd (omega arith)
  accepted-at none (r ∷ rs) s done zero h = rw (run_none s) (eqb-true (step s r).number 0 (first-accepted s r rs done))
  accepted-at none (r ∷ rs) s done (suc k) h =
      let t = first-accepted s r rs done in
      rw (run-accepted s r (take k rs) t) (accepted-at none rs (step s r).next (rw (run-accepted s r rs t) at done) k (omega arith))

-- two steps whose states stay alike, and which give each record the same number and answers that look the same
module _ {S T R A L : Type 0} (step : S → R → Step S A) (other : T → R → Step T A) (Like : S → T → Type 0) (look : A → L) where
  -- what they give one record
  pub record AlikeSteps (s : S) (t : T) (r : R) : Type 0 where
    pub number : (step s r).number ≡ (other t r).number
    pub answer : look (step s r).answer ≡ look (other t r).answer
    pub next : Like (step s r).next (other t r).next

  -- what their runs come to
  pub record AlikeRuns (a : Run S A) (b : Run T A) : Type 0 where
    pub number : a.number ≡ b.number
    pub answers : map look a.answers ≡ map look b.answers
    pub state : Like a.state b.state

  pub run-alike : ((s : S) (t : T) → Like s t → (r : R) → AlikeSteps s t r) → (rs : List R) (s : S) (t : T) → Like s t
      → AlikeRuns (run_of step s rs) (run_of other t rs)
  run-alike alike [] s t like = rw (run_none step s, run_none other t) (record { number = refl; answers = refl; state = like })
  run-alike alike (r ∷ rs) s t like =
      let one = alike s t like r in
      ⊎_elim
      (λ e. let rest = run-alike alike rs (step s r).next (other t r).next one.next in
      rw (run-accepted step s r rs e, run-accepted other t r rs (rw one.number at e))
      (record { number = rest.number; answers = rw (one.answer, rest.answers); state = rest.state }))
      (λ e. rw (run-refused step s r rs e, run-refused other t r rs (rw one.number at e))
      (record { number = one.number; answers = refl; state = like }))
      (tested (eqb (step s r).number 0))
