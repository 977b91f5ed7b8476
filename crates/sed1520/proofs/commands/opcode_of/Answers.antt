-- `sed1520::commands::opcode_of` meets its contract: each arm's range is its opcode's, and between two neighbouring ranges there is no opcode.
use Prim.Native.Nat.{ℕ, ◌≤◌, ◌<◌}
use native.Mathlib.Omega.{arith}
use mathlib.Core.Path.{◌≡◌, refl, sym}
use mathlib.Core.Logic.{⊎_elim}
use Rattle.std.specs.Prelude.{None}
use lib.Dec.{ltb}
use borrow.Author.Tests.{ltb-true, ltb-false}
use Rattle.sed1520.specs.Command.{opcodes, among}
use Rattle.basics.proofs.Tests.{tested}
use Rattle.sed1520.proofs.CommandBytes.{opcode-in-range, none_between}
use Rattle.sed1520.proofs.commands.opcode_of.Goals as goal

-- from 0xE0 up: the gaps between the three commands that have no argument
above-start-lines : (b : ℕ) → 0xE0 ≤ b → b < 256 → (b ≡ 0xE0 → ⊥) → (b ≡ 0xEE → ⊥) → (b ≡ 0xE2 → ⊥) → among opcodes b ≡ None
above-start-lines b l h e0 ee e2 =
    ⊎_elim
    (λ low. let p = ltb-true b 0xE2 low in none_between opcodes 0xE1 0xE1 b (omega arith) (omega arith) refl)
    (λ high. let p = ltb-false b 0xE2 high in
    ⊎_elim
    (λ mid. let q = ltb-true b 0xEE mid in none_between opcodes 0xE3 0xED b (omega arith) (omega arith) refl)
    (λ top. let q = ltb-false b 0xEE top in none_between opcodes 0xEF 0xFF b (omega arith) (omega arith) refl)
    (tested (ltb b 0xEE)))
    (tested (ltb b 0xE2))

pub returns-in-224 : goal.returns-in-224
returns-in-224 c =
    sym (opcode-in-range _ _ (omega arith) (omega arith))

pub returns-in-238 : goal.returns-in-238
returns-in-238 c =
    sym (opcode-in-range _ _ (omega arith) (omega arith))

pub returns-in-226 : goal.returns-in-226
returns-in-226 c =
    sym (opcode-in-range _ _ (omega arith) (omega arith))

pub returns-in-0-to-127 : goal.returns-in-0-to-127
returns-in-0-to-127 c =
    sym (opcode-in-range _ _ (omega arith) (omega arith))

pub returns-in-160-to-161 : goal.returns-in-160-to-161
returns-in-160-to-161 c =
    sym (opcode-in-range _ _ (omega arith) (omega arith))

pub returns-in-164-to-165 : goal.returns-in-164-to-165
returns-in-164-to-165 c =
    sym (opcode-in-range _ _ (omega arith) (omega arith))

pub returns-in-168-to-169 : goal.returns-in-168-to-169
returns-in-168-to-169 c =
    sym (opcode-in-range _ _ (omega arith) (omega arith))

pub returns-in-174-to-175 : goal.returns-in-174-to-175
returns-in-174-to-175 c =
    sym (opcode-in-range _ _ (omega arith) (omega arith))

pub returns-in-184-to-187 : goal.returns-in-184-to-187
returns-in-184-to-187 c =
    sym (opcode-in-range _ _ (omega arith) (omega arith))

pub returns-in-192-to-223 : goal.returns-in-192-to-223
returns-in-192-to-223 c =
    sym (opcode-in-range _ _ (omega arith) (omega arith))

pub returns-in_default : goal.returns-in_default
returns-in_default c =
    sym (none_between opcodes 0x80 0x9F _ (omega arith) (omega arith) refl)

pub returns-in_default-2 : goal.returns-in_default-2
returns-in_default-2 c =
    sym (none_between opcodes 0xA2 0xA3 _ (omega arith) (omega arith) refl)

pub returns-in_default-3 : goal.returns-in_default-3
returns-in_default-3 c =
    sym (none_between opcodes 0xA6 0xA7 _ (omega arith) (omega arith) refl)

pub returns-in_default-4 : goal.returns-in_default-4
returns-in_default-4 c =
    sym (none_between opcodes 0xAA 0xAD _ (omega arith) (omega arith) refl)

pub returns-in_default-5 : goal.returns-in_default-5
returns-in_default-5 c =
    sym (none_between opcodes 0xB0 0xB7 _ (omega arith) (omega arith) refl)

pub returns-in_default-6 : goal.returns-in_default-6
returns-in_default-6 c =
    sym (none_between opcodes 0xBC 0xBF _ (omega arith) (omega arith) refl)

pub returns-in_default-7 : goal.returns-in_default-7
returns-in_default-7 c =
    let others = c.in_default.in_default-own.rest in
    sym (above-start-lines _ (omega arith) (omega arith) others.0.0.1 others.0.1 others.1)
