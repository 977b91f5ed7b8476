-- How long the lines of the answers are at most.
use Prim.Native.Nat.{ℕ, ◌*◌, ◌≤◌}
use native.Mathlib.Omega.{arith}
use mathlib.Core.List.{List}
use lib.ListN.{length, length-append}
use Rattle.basics.proofs.Lists.{joined-bound}
use Rattle.console.proofs.Digits.{number_bound}
use Rattle.replay.specs.Text.{answer_line, line_at, answer_lines}

line-bound : (index kind byte : ℕ) → length (answer_line index kind byte) ≤ 45
unfolding answer_line
line-bound index kind byte = simp length-append (omega (arith, number_bound index, number_bound kind))

pub lines-bound : (answers : List ℕ) (n : ℕ) → length (answer_lines answers n) ≤ 45 * n
lines-bound answers n = joined-bound (line_at answers) 45 (λ i. line-bound i _ _) 0 n
