-- A number with its place, and an answer with what the call leaves in what it was lent.
use Rattle.std.specs.Prelude.{ℕ}

-- a number of document 01's table, 0 where a call is done, and its place
pub record Verdict : Type 0 where
  pub number : ℕ
  pub place : ℕ

-- a verdict from its number and its place
abbrev pub verdict : ℕ → ℕ → Verdict
verdict n at = record { number = n; place = at }

-- what a call gives back, and what it leaves in what it was lent
pub record CallResult (A L : Type 0) : Type 0 where
  pub answer : A
  pub lent : L

-- a result from its answer and from what the call leaves in what it was lent
abbrev pub result_of : {A L : Type 0} → A → L → CallResult A L
result_of a lent = record { answer = a; lent = lent }
