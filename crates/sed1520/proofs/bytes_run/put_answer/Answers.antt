-- `sed1520::bytes_run::put_answer` meets its contract: two bytes at the front, and the counts of one reply.
use native.Mathlib.Omega.{arith}
use mathlib.Core.Path.{◌∙◌}
use mathlib.Core.List.{flat_map}
use lib.Dec.{eqb}
use Rattle.basics.proofs.Filling.{begun-none, begun-byte}
use Rattle.sed1520.specs.Cycle.{kind_of, byte_of}
use Rattle.sed1520.specs.Replies.{is_compared, reply}
use Rattle.sed1520.proofs.Counts.{differs-where, compared-one, differing-one}
use Rattle.sed1520.proofs.bytes_run.put_answer.Goals as goal

pub returns : goal.returns
unfolding flat_map
returns c =
    let at = c.args in
    let kind = kind_of at.reading in
    let byte = byte_of at.reading in
    let first = begun-byte (begun-none at.answers.now) kind (omega arith) in
    let second = begun-byte first byte (omega arith) in
    let compared = c.compares-compared.ensures in
    let differing = (rw (compared, c.byte-2.ensures) at c.differs.ensures) ∙ differs-where (is_compared kind) (eqb byte at.bus.byte) in
    let a = reply kind byte in
    rw (c.kind.ensures, c.byte.ensures, compared-one a, differing-one a at.bus, compared, differing, second.bytes)
