-- What follows from a test made of two tests, and what holds of a choice.
use Prim.Native.Nat.{ℕ}
use mathlib.Core.Bool.{Bool, true, false, not, ◌&&◌, ◌||◌, false≢true, true≢false}
use mathlib.Core.Path.{◌≡◌, refl}
use mathlib.Core.Logic.{◌⊎◌, inl, inr}
use lib.Dec.{eqb}
use borrow.Author.Tests.{eqb-true, not-false}
use Rattle.basics.specs.Choice.{if}

pub tested : (t : Bool) → (t ≡ true) ⊎ (t ≡ false)
tested true = inl refl
tested false = inr refl

pub either : (a b : Bool) → (a || b) ≡ true → (a ≡ true) ⊎ (b ≡ true)
either true b e = inl refl
either false b e = inr e

pub neither : (a b : Bool) → (a || b) ≡ false → (a ≡ false) × (b ≡ false)
neither true b e = absurd (true≢false e)
neither false b e = (refl, e)

pub both : (a b : Bool) → (a && b) ≡ true → (a ≡ true) × (b ≡ true)
both true b e = (refl, e)
both false b e = absurd (false≢true e)

-- a number that is no other than one
pub no_other : (a b : ℕ) → not (eqb a b) ≡ false → a ≡ b
no_other a b e = eqb-true a b (not-false (eqb a b) e)

-- what holds of either choice holds of the choice
pub when : {A : Type 0} (P : A → Type 0) (t : Bool) {a b : A} → (t ≡ true → P a) → (t ≡ false → P b) → P (if t a b)
when P true pass fail = pass refl
when P false pass fail = fail refl

-- what holds of both choices either way holds of the two choices, by tests that agree
pub when-both : {A B : Type 0} (P : A → B → Type 0) (s t : Bool) → s ≡ t → {a b : A} {c d : B} → (s ≡ true → P a c) → (s ≡ false → P b d)
    → P (if s a b) (if t c d)
when-both P true true e pass fail = pass refl
when-both P true false e pass fail = absurd (true≢false e)
when-both P false true e pass fail = absurd (false≢true e)
when-both P false false e pass fail = fail refl

-- a function of a choice
pub choice-of : {A B : Type 0} (f : A → B) (t : Bool) (a b : A) → if t (f a) (f b) ≡ f (if t a b)
choice-of f true a b = refl
choice-of f false a b = refl

pub choice-both : {A B C : Type 0} (f : A → B → C) (t : Bool) (a b : A) (c d : B) → if t (f a c) (f b d) ≡ f (if t a b) (if t c d)
choice-both f true a b c d = refl
choice-both f false a b c d = refl

-- two values of which one was replaced: the one that was, and the other
pub own-choice : {A : Type 0} (t : Bool) (new left right : A) → if t (if t new left) (if t right new) ≡ new
own-choice true new left right = refl
own-choice false new left right = refl

pub other-choice : {A : Type 0} (s t : Bool) (new left right : A) → (s ≡ t → ⊥) → if s (if t new left) (if t right new) ≡ if s left right
other-choice true true new left right h = absurd (h refl)
other-choice true false new left right h = refl
other-choice false true new left right h = refl
other-choice false false new left right h = absurd (h refl)
