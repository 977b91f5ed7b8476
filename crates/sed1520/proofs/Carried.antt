-- A record that has given lines, names a given chip and has a fourth byte of 0: as its four bytes, and as the record that is sent so.
use Prim.Native.Nat.{ℕ}
use mathlib.Core.Path.{◌≡◌}
use mathlib.Core.Bool.{true}
use lib.Dec.{eqb}
use borrow.Author.Tests.{eqb-true}
use Rattle.basics.proofs.Tests.{both}
use Rattle.sed1520.specs.BytesRun.{carries}
use Rattle.sed1520.specs.Laws.{sent}
use Rattle.sed1520.specs.declared.bus.Record.{Record}

pub as-sent : (lines chip : ℕ) (r : Record) → carries lines chip r ≡ true → r ≡ sent lines chip r.byte
as-sent lines chip r e =
    let first = both (eqb r.lines lines) _ e in
    let rest = both (eqb r.chip chip) _ first.1 in
    rw (eqb-true r.lines lines first.0, eqb-true r.chip chip rest.0, eqb-true r.spare 0 rest.1)
