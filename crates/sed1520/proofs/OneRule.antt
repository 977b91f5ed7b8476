-- Commands and bytes by one rule: each way undoes the other, on exactly 175 bytes.
use Prim.Native.Nat.{ℕ, ◌+◌, ◌-◌, ◌<◌, ◌≤◌}
use native.Mathlib.Omega.{arith}
use mathlib.Core.Path.{◌≡◌, refl, ap, ◌∙◌}
use mathlib.Core.Bool.{false, true≢false}
use mathlib.Core.Logic.{⊎_elim}
use Rattle.std.specs.Prelude.{Option, None, Some}
use Rattle.std.proofs.lemmas.Option.{none-some, same_Some}
use lib.Dec.{ltb, eqb}
use borrow.Author.Tests.{lt-ltb, le-ltb, ltb-true}
use Rattle.sed1520.specs.Command.{first, count, opcodes, among, Coded, coded, not_coded, as_command, decode_of, is_command, encode_of}
use Rattle.basics.specs.Counts.{sum_below, count_below}
use Rattle.sed1520.specs.Promises.{OneRule}
use Rattle.sed1520.specs.declared.commands.Opcode.{Opcode}
use Rattle.sed1520.specs.declared.commands.Command.{Command}
use Rattle.basics.proofs.Tests.{tested}
use Rattle.sed1520.proofs.CommandBytes.{opcode-in-range, range-of-opcode, range-below-256}

-- the byte of a command is decoded as that command
pub decoded-argument : (k : Opcode) (a : ℕ) → a < count k → decode_of (first k + a) ≡ coded (record { opcode = k; argument = a })
unfolding decode_of
decoded-argument k a h =
    let e : first k + a - first k ≡ a = omega arith in
    rw (opcode-in-range k (first k + a) (omega arith) (omega arith), e)

encoded-in-range : (m : Command) → m.argument < count m.opcode → encode_of m ≡ coded (first m.opcode + m.argument)
unfolding encode_of
encoded-in-range m h = rw (lt-ltb m.argument (count m.opcode) h)

there : (m : Command) (b : ℕ) → encode_of m ≡ coded b → decode_of b ≡ coded m
unfolding encode_of
there m b e =
    let v = ap (λ (t : Coded ℕ). t.value) e in
    ⊎_elim
    (λ yes. let s = same_Some (first m.opcode + m.argument) b (rw yes at v) in
    rw (← s) (decoded-argument m.opcode m.argument (ltb-true m.argument (count m.opcode) yes)))
    (λ no. absurd (none-some b (rw no at v)))
    (tested (ltb m.argument (count m.opcode)))

-- a command's argument is in range, and says where its byte lies in the range of its opcode
abbrev pub Placed : Command → ℕ → Type 0
Placed m b = (m.argument < count m.opcode) × (first m.opcode + m.argument ≡ b)

-- so it is with the command that a byte is decoded as
decoded-place : (o : Option Opcode) (b : ℕ) (m : Command) → among opcodes b ≡ o → (as_command b o).value ≡ Some m → Placed m b
decoded-place None b m e v = absurd (none-some m v)
decoded-place (Some k) b m e v =
    let p = range-of-opcode opcodes k b e in
    let s = same_Some (record { opcode = k; argument = b - first k }) m v in
    rw (← s) (omega arith, omega arith)

pub coded-place : (b : ℕ) (m : Command) → (decode_of b).value ≡ Some m → Placed m b
unfolding decode_of
coded-place b m v = decoded-place (among opcodes b) b m refl v

place_of : (b : ℕ) (m : Command) → decode_of b ≡ coded m → Placed m b
place_of b m e = coded-place b m (ap (λ (t : Coded Command). t.value) e)

exactly-175 : count_below is_command 256 ≡ 175
unfolding sum_below decode_of among
exactly-175 = refl

no-opcode : (b : ℕ) (o : Option Opcode) → eqb (as_command b o).number 0 ≡ false → as_command b o ≡ not_coded b
no-opcode b None e = refl
no-opcode b (Some k) e = absurd (true≢false e)

no-command : (b : ℕ) → is_command b ≡ false → decode_of b ≡ not_coded b
unfolding decode_of
no-command b e = no-opcode b (among opcodes b) e

no_byte : (m : Command) → count m.opcode ≤ m.argument → encode_of m ≡ not_coded m.argument
unfolding encode_of
no_byte m h = rw (le-ltb m.argument (count m.opcode) h)

pub one-rule : OneRule
one-rule =
    record {
      byte_of = encoded-in-range;
      there = there;
      back = λ b m e. encoded-in-range m (place_of b m e).0 ∙ ap coded (place_of b m e).1;
      byte = λ b m e. omega (arith, (place_of b m e).0, (place_of b m e).1, range-below-256 m.opcode);
      many = exactly-175;
      no-command = no-command;
      no_byte = no_byte;
    }
