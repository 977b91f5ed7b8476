-- What `in_range` says, field by field, and which chips it lets pass.
use Prim.Native.Nat.{◌<◌, ◌≤◌}
use mathlib.Core.Path.{◌≡◌}
use mathlib.Core.Bool.{true, false, ◌||◌}
use mathlib.Core.Logic.{⊎_elim}
use lib.Dec.{ltb, leb, eqb}
use borrow.Author.Tests.{lt-ltb, ltb-true, le-leb, leb-true}
use Rattle.sed1520.specs.Chip.{column_stop, in_range}
use Rattle.sed1520.specs.declared.registers.Chip.{Chip}
use Rattle.basics.proofs.Tests.{tested, both}

-- the range of each numbered register, and of the saved column with the mode off
pub record Ranges (c : Chip) : Type 0 where
  pub page : c.page < 4
  pub line : c.start_line < 32
  pub column : c.column ≤ column_stop
  pub saved : c.saved_column ≤ column_stop
  pub idle : (c.modify || eqb c.saved_column 0) ≡ true

pub in-range : (c : Chip) → Ranges c → in_range c ≡ true
unfolding in_range
in-range c r = rw (lt-ltb _ _ r.page, lt-ltb _ _ r.line, le-leb _ _ r.column, le-leb _ _ r.saved) r.idle

pub ranges : (c : Chip) → in_range c ≡ true → Ranges c
unfolding in_range
ranges c e =
    let p = both (ltb c.page 4) _ e in
    let l = both (ltb c.start_line 32) _ p.1 in
    let k = both (leb c.column column_stop) _ l.1 in
    let s = both (leb c.saved_column column_stop) _ k.1 in
    search (ltb-true, leb-true)

pub out_of_range : (c : Chip) → (Ranges c → ⊥) → in_range c ≡ false
out_of_range c out = ⊎_elim (λ e. absurd (out (ranges c e))) (λ e. e) (tested (in_range c))
