-- A byte decoded: what `opcode_of` found is what `decode_of` goes by, and a byte of an opcode's range is not below its first byte.
use mathlib.Core.Path.{◌≡◌, sym, ap, ◌∙◌}
use native.Mathlib.Omega.{arith}
use Rattle.std.specs.Prelude.{Result, Ok, Err}
use Rattle.basics.proofs.Refusals.{failed-with}
use Rattle.sed1520.specs.Command.{decode_of, opcodes}
use Rattle.sed1520.specs.declared.commands.Opcode.{Opcode}
use Rattle.sed1520.specs.declared.commands.UnknownByte.{UnknownByte}
use Rattle.sed1520.proofs.CommandBytes.{range-of-opcode}
use Rattle.sed1520.proofs.commands.CommandTryFromU8.try_from.Goals as goal

pub returns-in_err-opcode : goal.returns-in_err-opcode
unfolding decode_of
returns-in_err-opcode c =
    let none = c.in_err-opcode.ensures.ok_part in
    let byte : c.in_err-opcode.field-0.0 ≡ record { 0 = c.args.byte } =
    ap (λ (r : Result Opcode UnknownByte). elim r [ Ok _ ↦ record { 0 = c.args.byte } | Err e ↦ e ]) (rw none at c.in_err-opcode.ensures.value)
    in
    rw (failed-with _ c.from_residual.ensures.1, byte, ← c.opcode_of.ensures, none)

pub overflow_sub-result : goal.overflow_sub-result
overflow_sub-result c =
    let range = range-of-opcode opcodes _ _ (sym c.opcode_of.ensures ∙ c.in_ok-opcode.ensures.ok_part) in
    omega (arith, c.first.ensures, range)

pub returns : goal.returns
unfolding decode_of
returns c = rw (c.first.ensures, ← c.opcode_of.ensures, c.in_ok-opcode.ensures.ok_part)
