-- `sed1520::bytes_run::run_of_tested_bytes`: a wrong length, no record, and the first run.
use Rattle.std.proofs.Common.{sym, arith}
use Rattle.sed1520.specs.BytesRun.{bytes_step}
use Rattle.sed1520.proofs.TogetherCases.{bytes-wrong, ram-wrong, answers-short, none_runs}
use Rattle.sed1520.proofs.bytes_run.run_of_tested_bytes.Goals as goal
use Rattle.sed1520.proofs.bytes_run.run_of_tested_bytes.Goals.{then-bytes-ne-CHIP_BYTES-via-then-bytes-ne-CHIP_BYTES}
use Rattle.sed1520.proofs.bytes_run.run_of_tested_bytes.Goals.{then-bytes-ne-CHIP_BYTES-via-else-bytes-ne-CHIP_BYTES+then-ram-ne-RAM_WIDTH}
use Rattle.sed1520.proofs.bytes_run.run_of_tested_bytes.Goals.{then-bytes-ne-CHIP_BYTES-via-else-bytes-ne-CHIP_BYTES+else-ram-ne-RAM_WIDTH+then-answers-trace}

pub returns-then-bytes-ne-CHIP_BYTES-clause-ran : goal.returns-then-bytes-ne-CHIP_BYTES-clause-ran
returns-then-bytes-ne-CHIP_BYTES-clause-ran c =
    rw c.refused.ensures
    (elim c.then-bytes-ne-CHIP_BYTES.branch [
      | then-bytes-ne-CHIP_BYTES-via-then-bytes-ne-CHIP_BYTES w ↦ sym (bytes-wrong bytes_step 12 320 _ _ _ _ w.if-bytes-ne-CHIP_BYTES.true)
      | then-bytes-ne-CHIP_BYTES-via-else-bytes-ne-CHIP_BYTES+then-ram-ne-RAM_WIDTH w ↦ sym (ram-wrong bytes_step 12 320 _ _ _ _ w.if-ram-ne-RAM_WIDTH.true)
      | then-bytes-ne-CHIP_BYTES-via-else-bytes-ne-CHIP_BYTES+else-ram-ne-RAM_WIDTH+then-answers-trace w ↦
          sym (answers-short bytes_step 12 320 _ _ _ _ (omega (arith, w.if-answers-trace.true)))
    ])

pub returns-then-trace-lt-RECORD_BYTES-clause-ran : goal.returns-then-trace-lt-RECORD_BYTES-clause-ran
returns-then-trace-lt-RECORD_BYTES-clause-ran c =
    rw (c.unmoved.ensures, c.nothing_run.ensures)
    (sym (none_runs bytes_step 12 320 _ _ _ _ (omega arith) (omega arith) (omega arith) (omega arith)))
