-- Refusals and the tables of numbers.
use mathlib.Core.Path.{◌≡◌, refl, sym, ap, ◌∙◌}
use native.Mathlib.Omega.{arith}
use Rattle.std.specs.Prelude.{ℕ, Bool, true, false, List, Result, Ok, Err, IsErrAnd}
use Rattle.std.proofs.lemmas.Result.{err_from_is_err_and}
use Rattle.basics.specs.Refusals.{number_of, refused_or, by_chip}
use Rattle.basics.specs.Table.{Cause, left_then_right, unless_refused, verdict_by}
use Rattle.basics.specs.Verdict.{Verdict}
use Rattle.basics.specs.declared.verdict.Refused.{Refused}
use Rattle.basics.specs.declared.refusal.Refusal.{Refusal}
use Rattle.basics.specs.declared.refusal.Refusal.TheVariants.{WrongSize, StateOutOfRange, CutRecord, SpareBits, NoSuchChip, EqualStrobes, NoCommand}
use Rattle.basics.specs.declared.refusal.Refusal.TheVariants.{ColumnInModify, ShowsNoRam, LongDuty, OtherStartLine, InModify, TooManyRecords}
use Rattle.basics.specs.declared.refusal.Refusal.TheVariants.{NoSuchColumn, TooManyEntries}

-- what a `?` gives back whose error is this one
pub failed-with : {A E : Type 0} {e : E} (r : Result A E) → IsErrAnd r (λ given. given ≡ e) → r ≡ Err e
failed-with r h = let p = err_from_is_err_and r h in p.1 ∙ ap Err p.2

-- a cause that is given by chip is two lines of a table
pub either-lines : (r : Refusal) (left right : Bool) (more : List Cause) (done : Verdict)
    → verdict_by (left_then_right (number_of r) left right more) done ≡ refused_or (verdict_by more done) (by_chip r left right)
either-lines r true right more done = refl
either-lines r false true more done = refl
either-lines r false false more done = refl

-- 1 of an `Ok`, 0 of an `Err`
abbrev which : {A E : Type 0} → Result A E → ℕ
which (Ok a) = 1
which (Err e) = 0

-- no `Err` is an `Ok`
err-not-ok : {A E : Type 0} {e : E} {a : A} → Err e ≡ Ok a → ⊥
err-not-ok {A} {E} is = let e : 0 ≡ 1 = ap (which {A = A} {E = E}) is in omega (arith, e)

-- the refusal of an `Err`, or this one
abbrev refusal_in : {A : Type 0} → Refused → Result A Refused → Refused
refusal_in other (Ok a) = other
refusal_in other (Err e) = e

module _ {A : Type 0} (refuse : ℕ → ℕ → A) (done : A) (more : List Cause) (r : Refusal) where
  -- a call that goes by a table is refused where such a cause refuses it
  pub either-refuses : (left right : Bool) {e : Refused} → by_chip r left right ≡ Err e
      → unless_refused (left_then_right (number_of r) left right more) refuse done ≡ refuse (number_of e.refusal) e.place
  either-refuses true right {e} is = ap (λ g. refuse (number_of g.refusal) g.place) (ap (refusal_in e) is)
  either-refuses false true {e} is = ap (λ g. refuse (number_of g.refusal) g.place) (ap (refusal_in e) is)
  either-refuses false false {e} is = absurd (err-not-ok (sym is))

-- where it passes, it holds of neither chip
pub either-passes : (r : Refusal) (left right : Bool) {u : Unit} → by_chip r left right ≡ Ok u → (left ≡ false) × (right ≡ false)
either-passes r true right is = absurd (err-not-ok is)
either-passes r false true is = absurd (err-not-ok is)
either-passes r false false is = (refl, refl)

-- no refusal has number 0
pub refusal-number : (r : Refusal) → number_of r ≡ 0 → ⊥
refusal-number WrongSize e = omega (arith, e)
refusal-number StateOutOfRange e = omega (arith, e)
refusal-number CutRecord e = omega (arith, e)
refusal-number SpareBits e = omega (arith, e)
refusal-number NoSuchChip e = omega (arith, e)
refusal-number EqualStrobes e = omega (arith, e)
refusal-number NoCommand e = omega (arith, e)
refusal-number ColumnInModify e = omega (arith, e)
refusal-number ShowsNoRam e = omega (arith, e)
refusal-number LongDuty e = omega (arith, e)
refusal-number OtherStartLine e = omega (arith, e)
refusal-number InModify e = omega (arith, e)
refusal-number TooManyRecords e = omega (arith, e)
refusal-number NoSuchColumn e = omega (arith, e)
refusal-number TooManyEntries e = omega (arith, e)
