-- `sed1520::bytes_run::write_run` meets its contract: before each record, the bytes are those at the start with the column counted on and, past the
-- first record, the latch's mark 0.
use Prim.Native.Nat.{ℕ, ◌-◌, ◌/◌, ◌≤◌}
use mathlib.Core.Path.{◌≡◌}
use mathlib.Core.List.{List}
use lib.ListN.{length, get_or, set}
use Rattle.sed1520.specs.BytesRun.{with_ram}
use Rattle.sed1520.proofs.RunUpto.{Upto}
use Rattle.sed1520.proofs.bytes_run.write_run.Given as goal

-- the records so far, with the mark that they leave
pub record Writing (k : ℕ) (b ram₀ trace buffer : List ℕ) (ram answers : List ℕ) (column n : ℕ) : Type 0 where
  pub mark : ℕ
  pub stale : (n ≡ 0 → ⊥) → mark ≡ 0
  pub grown : get_or b 7 0 ≤ column
  pub kept : length ram ≡ length ram₀
  pub upto : Upto 3 k (with_ram b ram₀) trace buffer n (with_ram (set (set b 7 column) 9 mark) ram) answers 0 0

abbrev pub invariant-loop-ram : goal.invariant-loop-ram
invariant-loop-ram l = Writing l.chip l.bytes l.initial.ram l.trace l.initial.answers l.ram l.answers l.column l.n

abbrev pub decreases-loop-ram : goal.decreases-loop-ram
decreases-loop-ram l = length l.trace / 4 - l.n
