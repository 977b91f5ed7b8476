-- The numbers of a call as a table: causes in the order in which they are checked. The first that holds gives its number and its place.
use Rattle.std.specs.Prelude.{ℕ, ◌≡◌, Bool, true, false, List, [], ◌∷◌, ◌⊎◌}
use Rattle.basics.specs.Choice.{if}
use Rattle.basics.specs.Verdict.{Verdict, verdict}

-- a line of a table: a number, its place, and whether the cause holds
pub record Cause : Type 0 where
  pub number : ℕ
  pub place : ℕ
  pub holds : Bool

-- a line from its number, its place and whether its cause holds
abbrev pub cause : ℕ → ℕ → Bool → Cause
cause n at holds = record { number = n; place = at; holds = holds }

-- the two lines of a number that is given by chip, before what follows: place 0 where it holds of the left chip, then place 1 for the right one
abbrev pub left_then_right : ℕ → Bool → Bool → List Cause → List Cause
left_then_right n left right more = cause n 0 left ∷ cause n 1 right ∷ more

-- what the number and the place of the first cause that holds come to, or what is done where none holds
abbrev pub unless_refused : {A : Type 0} → List Cause → (ℕ → ℕ → A) → A → A
unless_refused [] refuse done = done
unless_refused (c ∷ cs) refuse done = if c.holds (refuse c.number c.place) (unless_refused cs refuse done)

-- the number and the place that a table gives, or those of a call that is done where no cause holds
abbrev pub verdict_by : List Cause → Verdict → Verdict
verdict_by table done = unless_refused table verdict done

-- a line of a table has this number and this place, its cause holds, and none before it does
abbrev pub First : List Cause → ℕ → ℕ → Type 0
First [] n at = ⊥
First (c ∷ cs) n at = ((c.holds ≡ true) × ((c.number ≡ n) × (c.place ≡ at))) ⊎ ((c.holds ≡ false) × First cs n at)

-- no cause of a table holds
abbrev pub NoneHolds : List Cause → Type 0
NoneHolds [] = Unit
NoneHolds (c ∷ cs) = (c.holds ≡ false) × NoneHolds cs

-- document 01's "exactly when": a number is given with a place where a line has both, its cause holds and none before it does; and only there, but
-- for a call that no cause refuses and that gives the same once it is done; where no cause holds, the call gives what it gives once it is done
pub record ExactlyWhen (table : List Cause) (done given : Verdict) : Type 0 where
  pub where-first : (n at : ℕ) → First table n at → given ≡ verdict n at
  pub only-there : (n at : ℕ) → given ≡ verdict n at → First table n at ⊎ (NoneHolds table × (done ≡ verdict n at))
  pub else-done : NoneHolds table → given ≡ done
