-- `console::text::Text::bytes`: the bytes so far are put.
use Rattle.std.proofs.Common.{take}
use Rattle.console.specs.Puts.{Puts}
use Rattle.console.proofs.text.Text.bytes.Given as goal

abbrev pub invariant-loop-byte : goal.invariant-loop-byte
invariant-loop-byte l = Puts l.initial.self (take l.byte-index l.bytes) l.self
