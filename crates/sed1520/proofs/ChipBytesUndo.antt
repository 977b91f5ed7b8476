-- A chip and its 12 bytes: each way undoes the other.
use Prim.Native.Nat.{ℕ, ◌<◌}
use native.Mathlib.Omega.{arith}
use mathlib.Core.Path.{◌≡◌, refl, sym, ap, ◌∙◌}
use mathlib.Core.Bool.{Bool, true, false, ◌&&◌}
use mathlib.Core.List.{List}
use lib.Dec.{ltb, eqb}
use lib.ListN.{length, get_or}
use borrow.Author.Tests.{eqb-true, eqb-false, eq-eqb}
use Rattle.sed1520.specs.Chip.{in_range, fresh, latched}
use Rattle.sed1520.specs.declared.registers.Chip.{Chip}
use Rattle.sed1520.specs.declared.registers.ReadLatch.{ReadLatch}
use Rattle.sed1520.specs.declared.registers.ReadLatch.TheVariants.{Fresh, Stale}
use Rattle.basics.specs.Choice.{if}
use Rattle.basics.proofs.Tests.{both, when}
use Rattle.sed1520.specs.ChipBytes.{bit, flag, mark, as_latch, chip_bytes, registers_in, flag_places, flags_at, flags_right, bytes_pass}
use Rattle.sed1520.specs.ChipBytes.{no_chip, chip_in, chip_out}
use Rattle.sed1520.specs.Promises.{ChipBytesUndo}
use Rattle.sed1520.proofs.Flags.{listed, flag-right, last-right}
use Rattle.sed1520.proofs.TwelveBytes.{spelled, spelled_out}

pub chip-bytes-length : (c : Chip) → length (chip_bytes c) ≡ 12
unfolding chip_bytes
chip-bytes-length c = refl

flag-bit : (b : Bool) → flag (bit b) ≡ b
flag-bit true = refl
flag-bit false = refl

latch-mark : (l : ReadLatch) → as_latch (mark l) (latched l) ≡ l
latch-mark (Fresh b) = refl
latch-mark (Stale b) = refl

pub read_back : (c : Chip) → registers_in (chip_bytes c) ≡ c
unfolding registers_in chip_bytes
read_back c = simp (flag-bit, latch-mark)

bit-flag : (n : ℕ) → n < 2 → bit (flag n) ≡ n
bit-flag n h = when (λ (byte : ℕ). byte ≡ n) (flag n) (λ e. sym (eqb-true n 1 e)) (λ e. let other = eqb-false n 1 e in omega arith)

mark-latch : (t : Bool) (b : ℕ) → mark (if t (Fresh b) (Stale b)) ≡ bit t
mark-latch true b = refl
mark-latch false b = refl

pub latched-latch : (t : Bool) (b : ℕ) → latched (if t (Fresh b) (Stale b)) ≡ b
latched-latch true b = refl
latched-latch false b = refl

pub written_back : (b : List ℕ) → length b ≡ 12 → flags_right b ≡ true → chip_bytes (registers_in b) ≡ b
unfolding chip_bytes registers_in spelled
written_back b h m =
    -- what `simp` asks of each place, computed
    let is : true ≡ true = refl in
    let bytes = rw (last-right b m) at (sym (spelled_out 0 12 b h)) in
    simp (mark-latch, latched-latch, as-bit) bytes
  where
    as-bit : (place : ℕ) → listed flag_places place ≡ true → bit (flag (get_or b place 0)) ≡ get_or b place 0
    as-bit place is = bit-flag (get_or b place 0) (flag-right b place is m)

small : (b : Bool) → ltb (bit b) 2 ≡ true
small true = refl
small false = refl

small-mark : (l : ReadLatch) → ltb (mark l) 2 ≡ true
small-mark (Fresh b) = refl
small-mark (Stale b) = refl

marked : (c : Chip) → flags_right (chip_bytes c) ≡ true
unfolding flags_right flags_at chip_bytes
marked c = simp (small, small-mark)

-- 12 bytes whose flags are right are read by their registers; any others as a chip that number 2 does not let pass
pub marked-in : (b : List ℕ) → length b ≡ 12 → flags_right b ≡ true → chip_in b ≡ registers_in b
unfolding chip_in
marked-in b h m = rw (eq-eqb (length b) 12 h, m)

pub there : (c : Chip) → chip_in (chip_bytes c) ≡ c
there c = marked-in (chip_bytes c) (chip-bytes-length c) (marked c) ∙ read_back c

pub back : (b : List ℕ) → length b ≡ 12 → flags_right b ≡ true → chip_bytes (chip_in b) ≡ b
back b h m = ap chip_bytes (marked-in b h m) ∙ written_back b h m

pub passes : (b : List ℕ) → in_range (chip_in b) ≡ bytes_pass b
unfolding chip_in in_range
passes b = by_tests (eqb (length b) 12) (flags_right b)
  where
    by_tests : (s f : Bool) → in_range (if (s && f) (registers_in b) no_chip) ≡ (s && (f && in_range (registers_in b)))
    by_tests true true = refl
    by_tests true false = refl
    by_tests false f = refl

pub chip-passes : (c : Chip) → bytes_pass (chip_bytes c) ≡ in_range c
chip-passes c = rw (eq-eqb (length (chip_bytes c)) 12 (chip-bytes-length c), marked c, read_back c)

-- a chip written where there are 12 bytes
pub written_out : (c : Chip) (b : List ℕ) {x : List ℕ} → x ≡ chip_out c b → length b ≡ 12 → x ≡ chip_bytes c
written_out c b e h = e ∙ rw (eq-eqb (length b) 12 h)

-- what holds of the bytes that number 2 lets pass
pub record Passed (b : List ℕ) : Type 0 where
  pub size : length b ≡ 12
  pub flags : flags_right b ≡ true
  pub range : in_range (registers_in b) ≡ true

pub passed : (b : List ℕ) → bytes_pass b ≡ true → Passed b
passed b e =
    let size = both (eqb (length b) 12) _ e in
    let rest = both (flags_right b) _ size.1 in
    record { size = eqb-true (length b) 12 size.0; flags = rest.0; range = rest.1 }

pub chip-bytes-undo : ChipBytesUndo
unfolding chip_bytes fresh
chip-bytes-undo = record { there = there; back = back; passes = passes; chip-passes = chip-passes; fresh-bytes = refl }
