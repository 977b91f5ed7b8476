-- `sed1520::bytes_run::read_run` meets its contract: before each record, the bytes are those at the start with the column and the read latch of the
-- records so far.
use Prim.Native.Nat.{◌-◌, ◌/◌}
use lib.ListN.{length, set}
use Rattle.sed1520.specs.BytesRun.{with_ram}
use Rattle.sed1520.proofs.RunUpto.{Upto}
use Rattle.sed1520.proofs.bytes_run.read_run.Given as goal

abbrev pub invariant-reads : goal.invariant-reads
invariant-reads l = Upto 5 l.chip (with_ram l.bytes l.ram) l.trace l.initial.answers l.n (with_ram (set (set (set l.bytes 7 l.column) 9 l.mark) 10 l.latch) l.ram) l.answers l.compared l.differing

abbrev pub decreases-reads : goal.decreases-reads
decreases-reads l = length l.trace / 4 - l.n
