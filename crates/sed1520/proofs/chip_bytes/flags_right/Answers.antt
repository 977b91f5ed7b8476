-- `sed1520::chip_bytes::flags_right` meets its contract: the tests are those of `flags_right`, bracketed the other way.
use mathlib.Core.Bool.{and_assoc}
use Rattle.sed1520.specs.ChipBytes.{flags_at, flags_right}
use Rattle.sed1520.proofs.chip_bytes.flags_right.Goals as goal

pub returns : goal.returns
unfolding flags_at flags_right
returns c =
    simp and_assoc
