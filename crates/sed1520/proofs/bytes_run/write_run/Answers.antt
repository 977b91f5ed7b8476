-- `sed1520::bytes_run::write_run` meets its contract: before each record, the bytes are those at the start with the column counted on and, past the
-- first record, the latch's mark 0.
use Prim.Native.Nat.{ℕ, ◌+◌, ◌*◌, ◌/◌, ◌<◌}
use native.Mathlib.Omega.{arith}
use mathlib.Core.Path.{◌≡◌, refl, sym, ap, ◌∙◌}
use mathlib.Core.Bool.{true≢false}
use mathlib.Core.List.{List}
use lib.ListN.{length, get_or, set, length-set}
use lib.Seq.{get_or-set_same, get_or-set_other}
use borrow.Author.Tests.{lt-ltb}
use Rattle.sed1520.specs.Replies.{InPlace, in_place, nothing_run}
use Rattle.sed1520.specs.declared.tally.Tally.{Tally}
use Rattle.sed1520.proofs.DataSteps.{as_written, write-below, write-past}
use Rattle.sed1520.proofs.RunUpto.{started, within, buffered, carried_on, ends}
use Rattle.sed1520.proofs.bytes_run.write_run.Goals as goal
use Rattle.sed1520.proofs.bytes_run.write_run.Goals.{then-column-lt-COLUMN_STOP, else-column-lt-COLUMN_STOP}

pub loop-ram-init : goal.loop-ram-init
loop-ram-init c =
    let at = c.args in
    record {
      mark = get_or at.bytes.now 9 0;
      stale = λ h. absurd (h refl);
      grown = omega arith;
      kept = refl;
      upto = rw (as_written at.bytes.now c.requires.bytes_len) (started 3 at.chip _ at.trace.now at.answers.now);
    }

pub loop-ram-preserved : goal.loop-ram-preserved
loop-ram-preserved c =
    let there : let at = c.args in c.loop-ram.n < length at.trace.now / 4 =
    within c.loop-ram.invariant.upto (sym c.carried.ensures ∙ c.loop-ram-test.true)
    in
    let room : 2 * c.loop-ram.n + 1 < length c.loop-ram.answers =
    omega (arith, there, buffered c.loop-ram.invariant.upto c.requires.trace_in_bounds, c.requires.trace_in_bounds)
    in
    let inv = c.loop-ram.invariant in
    let goes = sym c.carried.ensures ∙ c.loop-ram-test.true in
    let room = c.requires.trace_in_bounds in
    let b = c.args.bytes.now in
    elim c.if-column-lt-COLUMN_STOP.branch [
      | then-column-lt-COLUMN_STOP w ↦ record {
        mark = 0;
        stale = λ _. refl;
        grown = omega (arith, inv.grown, w.column-is);
        kept = rw (w.ram-is, w.store.ensures) (simp length-set inv.kept);
        upto =
            rw (w.ram-is, w.column-is, w.store.ensures)
            (carried_on inv.upto goes room
            (write-below _ c.requires.chip_bound _ _ _ _ b c.requires.bytes_len w.if-column-lt-COLUMN_STOP.true) 0 0 refl refl);
      }
      | else-column-lt-COLUMN_STOP w ↦ record {
        mark = 0;
        stale = λ _. refl;
        grown = omega (arith, inv.grown, w.column-is);
        kept = rw w.ram-is inv.kept;
        upto =
            rw (w.ram-is, w.column-is)
            (carried_on inv.upto goes room
            (write-past _ c.requires.chip_bound _ _ _ _ b c.requires.bytes_len (omega (arith, w.if-column-lt-COLUMN_STOP.false))) 0 0 refl refl);
      }
    ]

pub returns : goal.returns
returns c =
    let ran : c.loop-ram.n ≡ 0 → ⊥ =
    λ none. let first = lt-ltb 0 (length c.args.trace.now / 4) (omega (arith, c.requires.in_bounds)) in
    true≢false (rw (none, first, c.requires.trace_value) at (sym c.carried.ensures ∙ c.loop-ram-test.false))
    in
    let loop = c.loop-ram in
    let b = c.args.bytes.now in
    let left : List ℕ → InPlace Tally = λ bytes. in_place (nothing_run 0 loop.n) bytes loop.ram loop.answers in
    let stands = get_or-set_other (set b 7 loop.column) 9 7 0 0 (λ e. absurd (omega arith))
    ∙ get_or-set_same b 7 loop.column 0 (omega (arith, c.requires.bytes_len)) in record {
      ran = ap (λ m. left (set (set b 7 loop.column) 9 m)) (sym (loop.invariant.stale (ran)))
          ∙ ends loop.invariant.upto (sym c.carried.ensures ∙ c.loop-ram-test.false);
      moved = rw stands;
    }
