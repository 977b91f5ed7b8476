-- `sed1520::bytes_run::read_run` meets its contract: before each record, the bytes are those at the start with the column and the read latch of the
-- records so far.
use Prim.Native.Nat.{◌+◌, ◌*◌, ◌/◌, ◌<◌, ◌≤◌}
use native.Mathlib.Omega.{arith}
use mathlib.Core.Path.{sym, ◌∙◌}
use lib.Dec.{eqb}
use lib.ListN.{length, get_or}
use Rattle.basics.specs.Choice.{if}
use Rattle.sed1520.specs.ChipBytes.{flag}
use Rattle.sed1520.specs.Replies.{is_compared}
use Rattle.sed1520.proofs.Counts.{at_most_one, no_more, differs-where}
use Rattle.sed1520.proofs.DataSteps.{as_read, fresh-kind, fresh-compared, read_below, read_past}
use Rattle.sed1520.proofs.Flags.{from-flag}
use Rattle.sed1520.proofs.RunUpto.{started, within, buffered, fewer, less, carried_on, ends}
use Rattle.sed1520.proofs.bytes_run.read_run.Goals as goal
use Rattle.sed1520.proofs.bytes_run.read_run.Goals.{then-column-ge-COLUMN_STOP, else-column-ge-COLUMN_STOP}

pub reads-init : goal.reads-init
reads-init c =
    let at = c.args in
    rw (as_read at.bytes.now c.requires.bytes_len) (started 5 at.chip _ at.trace.now at.answers.now)

pub overflow_add-compared : goal.overflow_add-compared
overflow_add-compared c =
    let there : let at = c.args in c.reads.n < length at.trace.now / 4 =
    within c.reads.invariant (sym c.carried.ensures ∙ c.reads-test.true)
    in
    let few-bit : c.from-fresh.result ≤ 1 =
    omega (arith, c.from-fresh.ensures, from-flag (flag c.reads.mark), at_most_one (flag c.reads.mark))
    in
    omega (arith, few-bit, there, fewer c.reads.invariant)

pub overflow_add-differing : goal.overflow_add-differing
overflow_add-differing c =
    let there : let at = c.args in c.reads.n < length at.trace.now / 4 =
    within c.reads.invariant (sym c.carried.ensures ∙ c.reads-test.true)
    in
    let few-bit : c.from-fresh.result ≤ 1 =
    omega (arith, c.from-fresh.ensures, from-flag (flag c.reads.mark), at_most_one (flag c.reads.mark))
    in
    let few-differs : c.differs-differing.result ≤ 1 =
    let recorded = get_or c.args.trace.now (4 * c.reads.n + 2) 0 in
    omega (arith, few-bit, c.differs-differing.ensures, no_more (eqb c.reads.latch recorded) c.from-fresh.result)
    in
    omega (arith, few-differs, there, less c.reads.invariant)

pub reads-preserved : goal.reads-preserved
reads-preserved c =
    let there : let at = c.args in c.reads.n < length at.trace.now / 4 =
    within c.reads.invariant (sym c.carried.ensures ∙ c.reads-test.true)
    in
    let room : 2 * c.reads.n + 1 < length c.reads.answers =
    omega (arith, there, buffered c.reads.invariant c.requires.trace_in_bounds, c.requires.trace_in_bounds)
    in
    let b = c.args.bytes.now in
    let recorded = get_or c.args.trace.now (4 * c.reads.n + 2) 0 in
    let room = c.requires.trace_in_bounds in
    let goes = sym c.carried.ensures ∙ c.reads-test.true in
    let fresh = flag c.reads.mark in
    let is = c.from-fresh.ensures ∙ from-flag fresh in
    let one = fresh-compared fresh in
    let other = (rw (is, one) at c.differs-differing.ensures) ∙ differs-where (is_compared (if fresh 1 2)) (eqb c.reads.latch recorded) in
    elim c.if-column-ge-COLUMN_STOP.branch [
      | then-column-ge-COLUMN_STOP w ↦
          rw (w.column-is, w.mark-is, w.latch-is, is, fresh-kind fresh)
          (carried_on c.reads.invariant goes room
          (read_past _ c.requires.chip_bound _ _ _ _ _ b c.requires.bytes_len w.if-column-ge-COLUMN_STOP.true) _ _ one other)
      | else-column-ge-COLUMN_STOP w ↦
          rw (w.column-is, w.mark-is, w.latch-is, w.load-latch.ensures, w.counted_on-column.ensures, is, fresh-kind fresh)
          (carried_on c.reads.invariant goes room
          (read_below _ c.requires.chip_bound _ _ _ _ _ b c.requires.bytes_len (omega (arith, w.if-column-ge-COLUMN_STOP.false))) _ _ one other)
    ]

pub returns : goal.returns
returns c =
    ends c.reads.invariant (sym c.carried.ensures ∙ c.reads-test.false)
