-- The law of a table: a number and a place are given exactly when a line has them, its cause holds and none before it does.
use Prim.Native.Nat.{ℕ}
use mathlib.Core.Path.{◌≡◌, refl, sym, ap, ◌∙◌}
use mathlib.Core.Bool.{true, false}
use mathlib.Core.List.{List, [], ◌∷◌, ◌++◌}
use mathlib.Core.Logic.{◌⊎◌, inl, inr, ⊎_elim}
use Rattle.basics.specs.Choice.{if}
use Rattle.basics.specs.Table.{Cause, unless_refused, verdict_by, First, NoneHolds, ExactlyWhen}
use Rattle.basics.specs.Verdict.{verdict, CallResult, result_of}
use Rattle.basics.specs.Verdict.{Verdict}
use Rattle.basics.proofs.Tests.{tested, when, when-both, choice-both}

module _ {A : Type 0} (refuse : ℕ → ℕ → A) (done : A) where
  pub first-refuses : (table : List Cause) (n at : ℕ) → First table n at → unless_refused table refuse done ≡ refuse n at
  first-refuses [] n at first = absurd first
  first-refuses (c ∷ cs) n at first =
      ⊎_elim
      (λ here. rw (here.0, here.1.0, here.1.1))
      (λ later. rw later.0 (first-refuses cs n at later.1))
      first

  pub none-refuses : (table : List Cause) → NoneHolds table → unless_refused table refuse done ≡ done
  none-refuses [] none = refl
  none-refuses (c ∷ cs) none = rw none.0 (none-refuses cs none.1)

  -- what holds of every refusal, and where none is, holds of the call
  pub each_line : (P : A → Type 0) (table : List Cause) → ((n at : ℕ) → First table n at → P (refuse n at)) → (NoneHolds table → P done)
      → P (unless_refused table refuse done)
  each_line P [] refused passed = passed tt
  each_line P (c ∷ cs) refused passed =
      when P c.holds
      (λ holds. refused c.number c.place (inl (holds, (refl, refl))))
      (λ fails. each_line P cs (λ n at first. refused n at (inr (fails, first))) (λ none. passed (fails, none)))

-- some line refuses, or none does
pub first_or_none : (table : List Cause) → ((n : ℕ) × ((at : ℕ) × First table n at)) ⊎ NoneHolds table
first_or_none [] = inr tt
first_or_none (c ∷ cs) =
    ⊎_elim
    (λ holds. inl (c.number, (c.place, inl (holds, (refl, refl)))))
    (λ fails. ⊎_elim
    (λ later. inl (later.0, (later.1.0, inr (fails, later.1.1))))
    (λ none. inr (fails, none))
    (first_or_none cs))
    (tested c.holds)

-- a function of what a call comes to
pub table-as : {A B : Type 0} (f : A → B) (table : List Cause) {refuse : ℕ → ℕ → A} {done : A} {refused : ℕ → ℕ → B} {did : B}
    → ((n at : ℕ) → f (refuse n at) ≡ refused n at) → f done ≡ did → f (unless_refused table refuse done) ≡ unless_refused table refused did
table-as f [] each last = last
table-as f (c ∷ cs) each last =
    when-both (λ x y. f x ≡ y) c.holds c.holds refl (λ _. each c.number c.place) (λ _. table-as f cs each last)

-- two answers by one table, as one
pub table-both : {A B C : Type 0} (pair : A → B → C) (table : List Cause) (refuse : ℕ → ℕ → A) (done : A) (refused : ℕ → ℕ → B) (did : B)
    → unless_refused table (λ n at. pair (refuse n at) (refused n at)) (pair done did)
    ≡ pair (unless_refused table refuse done) (unless_refused table refused did)
table-both pair [] refuse done refused did = refl
table-both pair (c ∷ cs) refuse done refused did =
    let n = c.number in
    let at = c.place in
    ap (if c.holds (pair (refuse n at) (refused n at))) (table-both pair cs refuse done refused did)
    ∙ choice-both pair c.holds (refuse n at) _ (refused n at) _

pub exactly-when : (table : List Cause) (done : Verdict) → ExactlyWhen table done (verdict_by table done)
exactly-when table done =
    record {
      where-first = first-refuses verdict done table;
      only-there = λ n at. each_line verdict done
          (λ (v : Verdict). v ≡ verdict n at → First table n at ⊎ (NoneHolds table × (done ≡ verdict n at))) table
          (λ m place first e. inl (same m place n at first e))
          (λ none e. inr (none, e));
      else-done = none-refuses verdict done table;
    }
  where
    same : (m place n at : ℕ) → First table m place → verdict m place ≡ verdict n at → First table n at
    same m place n at first e =
        rw (← ap (λ (v : Verdict). v.number) e, ← ap (λ (v : Verdict). v.place) e) first

-- what holds of every line whose cause holds while none before it does
abbrev pub EachLine : (ℕ → ℕ → Type 0) → List Cause → Type 0
EachLine P [] = Unit
EachLine P (c ∷ cs) = (c.holds ≡ true → P c.number c.place) × (c.holds ≡ false → EachLine P cs)

pub of-first : (P : ℕ → ℕ → Type 0) (table : List Cause) → EachLine P table → (n at : ℕ) → First table n at → P n at
of-first P [] each n at first = absurd first
of-first P (c ∷ cs) each n at first =
    ⊎_elim
    (λ here. rw (here.1.0, here.1.1) at (each.0 here.0))
    (λ later. of-first P cs (each.1 later.0) n at later.1)
    first

-- no line has number 0
abbrev pub Numbered : List Cause → Type 0
Numbered [] = Unit
Numbered (c ∷ cs) = (c.number ≡ 0 → ⊥) × Numbered cs

first-number : (table : List Cause) (n at : ℕ) → Numbered table → First table n at → n ≡ 0 → ⊥
first-number [] n at numbered first e = absurd first
first-number (c ∷ cs) n at numbered first e =
    ⊎_elim (λ here. numbered.0 (here.1.0 ∙ e)) (λ later. first-number cs n at numbered.1 later.1 e) first

-- what was given number 0 passed its table
pub done-passes : {table : List Cause} {done given : Verdict} → ExactlyWhen table done given → Numbered table → given.number ≡ 0 → NoneHolds table
done-passes {table} {given = given} exactly numbered zero =
    ⊎_elim
    (λ first. absurd (first-number table given.number given.place numbered first zero))
    (λ passed. passed.0)
    (exactly.only-there given.number given.place refl)

-- code that computes the verdict first and then goes by its number
module _ (table : List Cause) (v : Verdict) (at : ℕ) (e : v ≡ verdict_by table (verdict 0 at)) where
  pub refusing-line : (v.number ≡ 0 → ⊥) → First table v.number v.place
  refusing-line nonzero =
      ⊎_elim
      (λ first. first)
      (λ passed. absurd (nonzero (sym (ap (λ (w : Verdict). w.number) passed.1))))
      ((exactly-when table (verdict 0 at)).only-there v.number v.place (sym e))

  pub passing-table : Numbered table → v.number ≡ 0 → NoneHolds table
  passing-table numbered zero = done-passes (exactly-when table (verdict 0 at)) numbered (rw e at zero)

-- a call that gives back a number and its place, and leaves what it was lent as it came where it refuses
module _ {L : Type 0} (table : List Cause) (kept : L) (done : CallResult Verdict L) where
  -- what such a call comes to
  abbrev call : CallResult Verdict L
  call = unless_refused table (λ n at. result_of (verdict n at) kept) done

  -- its numbers, exactly when their lines say so
  pub call-exactly : ExactlyWhen table done.answer call.answer
  call-exactly =
      rw (table-as (λ (o : CallResult Verdict L). o.answer) table {refuse = λ n at. result_of (verdict n at) kept} {done = done}
      {refused = verdict} {did = done.answer} (λ n at. refl) refl)
      (exactly-when table done.answer)

  -- what holds of the place of each line, and of the place where all is done, holds of its place
  pub call-place : (P : ℕ → Type 0) → EachLine (λ n at. P at) table → (NoneHolds table → P done.answer.place) → P call.answer.place
  call-place P each last =
      each_line (λ n at. result_of (verdict n at) kept) done (λ (o : CallResult Verdict L). P o.answer.place) table
      (of-first (λ n at. P at) table each) last

  -- where it refuses, it leaves what it was lent
  pub call-keeps : done.answer.number ≡ 0 → (call.answer.number ≡ 0 → ⊥) → call.lent ≡ kept
  call-keeps zero =
      each_line (λ n at. result_of (verdict n at) kept) done (λ (o : CallResult Verdict L). (o.answer.number ≡ 0 → ⊥) → o.lent ≡ kept) table
      (λ n at first refused. refl) (λ _ refused. absurd (refused zero))

-- a table of some lines and more lines behind them
pub first-front : (front more : List Cause) (n at : ℕ) → First front n at → First (front ++ more) n at
first-front [] more n at first = absurd first
first-front (c ∷ cs) more n at first = ⊎_elim inl (λ later. inr (later.0, first-front cs more n at later.1)) first

pub first-behind : (front more : List Cause) (n at : ℕ) → NoneHolds front → First more n at → First (front ++ more) n at
first-behind [] more n at none first = first
first-behind (c ∷ cs) more n at none first = inr (none.0, first-behind cs more n at none.1 first)

pub none-behind : (front more : List Cause) → NoneHolds front → NoneHolds more → NoneHolds (front ++ more)
none-behind [] more none rest = rest
none-behind (c ∷ cs) more none rest = (none.0, none-behind cs more none.1 rest)
