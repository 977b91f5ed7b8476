-- Laws of the rule between commands and bytes: what `among` gives is the same over a span of bytes in which no opcode's range begins or ends, so a
-- byte of an opcode's range is decoded as that opcode, and each way between commands and bytes undoes the other.
use Prim.Native.Nat.{ℕ, ◌+◌, ◌-◌, ◌≤◌, ◌<◌}
use native.Mathlib.Omega.{arith}
use mathlib.Core.Path.{◌≡◌, refl, ap}
use mathlib.Core.Bool.{Bool, true, false, ◌&&◌, ◌||◌, and-false, false≢true}
use mathlib.Core.Logic.{⊎_elim}
use mathlib.Core.List.{List, [], ◌∷◌}
use Rattle.std.specs.Prelude.{None, Some}
use Rattle.std.proofs.lemmas.Option.{none-some, same_Some}
use lib.Dec.{ltb, leb, eqb}
use borrow.Author.Rules.{rules}
use borrow.Author.Tests.{lt-ltb, le-ltb, le-leb, lt-leb, leb-true, ltb-true, eqb-true}
use Rattle.basics.proofs.Tests.{tested, either, both}
use Rattle.sed1520.specs.Command.{first, count, opcodes, within, among}
use Rattle.sed1520.specs.declared.commands.Opcode.{Opcode}
use Rattle.sed1520.specs.declared.commands.Opcode.TheVariants.{Display, StartLine, Page, Column, Adc, Static, Duty, Modify, End, Reset}

-- no byte from lo to hi lies in the range of opcode k
abbrev pub apart : ℕ → ℕ → Opcode → Bool
apart lo hi k = ltb hi (first k) || leb (first k + count k) lo

-- no byte from lo to hi lies in the range of any opcode listed
abbrev pub apart_from : ℕ → ℕ → List Opcode → Bool
apart_from lo hi [] = true
apart_from lo hi (k ∷ ks) = apart lo hi k && apart_from lo hi ks

outside : (k : Opcode) (lo hi b : ℕ) → lo ≤ b → b ≤ hi → (apart lo hi k) ≡ true → within k b ≡ false
outside k lo hi b l h t =
    ⊎_elim
    (λ below. let p = ltb-true hi (first k) below in simp (lt-leb (first k) b (omega arith)))
    (λ above. let p = leb-true (first k + count k) lo above in simp (le-ltb b (first k + count k) (omega arith), and-false))
    (either (ltb hi (first k)) (leb (first k + count k) lo) t)

pub none_between : (ks : List Opcode) (lo hi b : ℕ) → lo ≤ b → b ≤ hi → (apart_from lo hi ks) ≡ true → among ks b ≡ None
unfolding among
none_between [] lo hi b l h t = refl
none_between (k ∷ ks) lo hi b l h t =
    let p = both (apart lo hi k) (apart_from lo hi ks) t in
    rw (outside k lo hi b l h p.0, none_between ks lo hi b l h p.1)

-- where the opcode stands in the list, and no opcode before it shares a byte with it
abbrev reached : Opcode → List Opcode → Bool
reached k [] = false
reached k (j ∷ js) = eqb (first j) (first k) || (apart (first k) (first k + count k - 1) j && reached k js)

-- what is computed of each opcode: the list reaches it, its first byte is decoded as it, and its last one fits a byte
record Computed (k : Opcode) : Type 0 where
  listed : reached k opcodes ≡ true
  at_first : among opcodes (first k) ≡ Some k
  below-256 : first k + count k ≤ 256

computed : (k : Opcode) → Computed k
unfolding among
computed Display = search rules
computed StartLine = search rules
computed Page = search rules
computed Column = search rules
computed Adc = search rules
computed Static = search rules
computed Duty = search rules
computed Modify = search rules
computed End = search rules
computed Reset = search rules

first-injective : (j k : Opcode) → first j ≡ first k → j ≡ k
first-injective j k e = cc ((computed j).at_first, (computed k).at_first, ap (among opcodes) e)

first_found : (k : Opcode) (ks : List Opcode) (b : ℕ) → first k ≤ b → b < first k + count k → (reached k ks) ≡ true → among ks b ≡ Some k
unfolding among
first_found k [] b l h t = absurd (false≢true t)
first_found k (j ∷ js) b l h t =
    ⊎_elim
    (λ same. let e = first-injective j k (eqb-true (first j) (first k) same) in rw (e, le-leb (first k) b l, lt-ltb b (first k + count k) h))
    (λ later. let p = both (apart (first k) (first k + count k - 1) j) (reached k js) later in
    rw (outside j (first k) (first k + count k - 1) b l (omega arith) p.0, first_found k js b l h p.1))
    (either (eqb (first j) (first k)) (apart (first k) (first k + count k - 1) j && reached k js) t)

-- a byte of an opcode's range is decoded as that opcode
pub opcode-in-range : (k : Opcode) (b : ℕ) → first k ≤ b → b < first k + count k → among opcodes b ≡ Some k
opcode-in-range k b l h = first_found k opcodes b l h (computed k).listed

-- and a byte is decoded as no other opcode
pub range-of-opcode : (ks : List Opcode) (k : Opcode) (b : ℕ) → among ks b ≡ Some k → (first k ≤ b) × (b < first k + count k)
unfolding among
range-of-opcode [] k b e = absurd (none-some k e)
range-of-opcode (j ∷ js) k b e =
    ⊎_elim
    (λ yes. let p = both (leb (first j) b) (ltb b (first j + count j)) yes in
    let same = same_Some j k (rw yes at e) in
    rw (← same) (leb-true (first j) b p.0, ltb-true b (first j + count j) p.1))
    (λ no. range-of-opcode js k b (rw no at e))
    (tested (within j b))

-- every number in an opcode's range fits a byte
pub range-below-256 : (k : Opcode) → first k + count k ≤ 256
range-below-256 k = (computed k).below-256
