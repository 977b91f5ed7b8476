-- `panel::step::run_of_tested_chips` meets its contract: a wrong length, no record, and the run of the first record's chip on
-- its own parts of the chips' bytes and of the image.
use Prim.Native.Nat.{◌≤◌}
use native.Mathlib.Omega.{arith}
use mathlib.Core.Path.{◌≡◌, sym}
use lib.ListN.{length, get_or, length-take, length-drop}
use Rattle.basics.proofs.Halves.{start-within}
use Rattle.sed1520.proofs.TogetherCases.{bytes-wrong, ram-wrong, none_runs}
use Rattle.basics.specs.Halves.{part_start}
use Rattle.sed1520.specs.BytesRun.{columns_written}
use Rattle.sed1520.specs.Records.{front}
use Rattle.sed1520.proofs.ColumnsWritten.{none-moved}
use Rattle.panel.specs.Step.{chips_step}
use Rattle.panel.proofs.OwnPart.{on-parts, moved-on-parts}
use Rattle.panel.proofs.step.run_of_tested_chips.Goals as goal

pub returns-then-chips-ne-CHIPS_BYTES : goal.returns-then-chips-ne-CHIPS_BYTES
returns-then-chips-ne-CHIPS_BYTES c =
    let as-came : let at = c.args in
    0 ≡ columns_written at.trace.now (part_start 12 (front at.trace.now).chip) at.chips.now at.chips.now =
    let at = c.args in none-moved at.trace.now _ at.chips.now
    in
    record {
      ran = rw c.refused.ensures (sym (bytes-wrong chips_step 24 640 _ _ _ _ c.if-chips-ne-CHIPS_BYTES.true));
      moved = rw c.refused.ensures as-came;
    }

pub returns-then-ram-ne-IMAGE_BYTES : goal.returns-then-ram-ne-IMAGE_BYTES
returns-then-ram-ne-IMAGE_BYTES c =
    let as-came : let at = c.args in
    0 ≡ columns_written at.trace.now (part_start 12 (front at.trace.now).chip) at.chips.now at.chips.now =
    let at = c.args in none-moved at.trace.now _ at.chips.now
    in
    record {
      ran = rw c.refused-then-ram-ne-IMAGE_BYTES.ensures (sym (ram-wrong chips_step 24 640 _ _ _ _ c.if-ram-ne-IMAGE_BYTES.true));
      moved = rw c.refused-then-ram-ne-IMAGE_BYTES.ensures as-came;
    }

pub returns-then-trace-lt-RECORD_BYTES : goal.returns-then-trace-lt-RECORD_BYTES
returns-then-trace-lt-RECORD_BYTES c =
    let as-came : let at = c.args in
    0 ≡ columns_written at.trace.now (part_start 12 (front at.trace.now).chip) at.chips.now at.chips.now =
    let at = c.args in none-moved at.trace.now _ at.chips.now
    in
    record {
      ran = rw (c.unmoved.ensures, c.nothing_run.ensures)
          (sym (none_runs chips_step 24 640 _ _ _ _ (omega arith) (omega arith) (omega arith) (omega arith)));
      moved = rw c.unmoved.ensures as-came;
    }

pub returns : goal.returns
returns c =
    let bytes-start : c.start_of-from.result ≤ 12 =
    start-within 12 (get_or c.args.trace.now 1 0) _ c.start_of-from.ensures
    in
    let at = c.args in
    let right : length at.chips.now ≡ 24 = omega arith in
    let within = bytes-start in
    let part = c.run_of_tested_bytes.new.bytes in
    let same : length part ≡ 12 = rw c.run_of_tested_bytes.auto.bytes (simp (length-take, length-drop) (omega (arith, right, within))) in record {
      ran = on-parts _ _ _ _ right (omega arith) (omega arith) _ _ c.start_of-from.ensures c.start_of-start.ensures
          c.run_of_tested_bytes.ensures.ran;
      moved = moved-on-parts at.chips.now at.ram.now at.trace.now at.answers.now right (omega arith) (omega arith) c.start_of-from.result
          c.start_of-from.ensures part same
          c.run_of_tested_bytes.ensures.moved;
    }
