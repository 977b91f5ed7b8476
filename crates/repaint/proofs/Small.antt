-- The numbers that a chip's registers choose are small.
use Prim.Native.Nat.{ℕ, ◌<◌, ◌≤◌}
use native.Mathlib.Omega.{arith}
use lib.Dec.{eqb}
use Rattle.sed1520.specs.declared.registers.Chip.{Chip}
use Rattle.basics.proofs.Tests.{when}
use Rattle.frame.specs.Frame.{segments}
use Rattle.repaint.specs.Repaint.{hidden_page, lowest_column, column_segment, turned_line}

pub segment-small : (c : Chip) (j : ℕ) → j < segments → column_segment c j < segments
segment-small c j h = when (λ (n : ℕ). n < segments) c.reverse (λ _. omega arith) (λ _. omega arith)

pub page-small : (c : Chip) (r : ℕ) → r < 2 → hidden_page c r < 4
page-small c r h = when (λ (n : ℕ). n < 4) (eqb c.start_line 0) (λ _. omega arith) (λ _. omega arith)

pub column-small : (c : Chip) → lowest_column c ≤ 19
column-small c = when (λ (n : ℕ). n ≤ 19) c.reverse (λ _. omega arith) (λ _. omega arith)

pub line_small : (c : Chip) → turned_line c < 32
line_small c = when (λ (n : ℕ). n < 32) (eqb c.start_line 0) (λ _. omega arith) (λ _. omega arith)
