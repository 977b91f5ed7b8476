-- `trace::replay_counting` meets its contract: numbers 1 to 3, then the wear cleared and the records.
use Prim.Native.Nat.{ℕ, ◌-◌, ◌/◌}
use native.Mathlib.Omega.{arith}
use mathlib.Core.Path.{◌≡◌, refl, sym, ap, ◌∙◌}
use mathlib.Core.Bool.{Bool, not}
use mathlib.Core.List.{List, []}
use lib.ListN.{length, take, drop}
use Rattle.basics.specs.Table.{verdict_by}
use Rattle.basics.specs.Verdict.{verdict}
use Rattle.basics.specs.Verdict.{Verdict}
use Rattle.basics.proofs.Parts.{rest}
use Rattle.basics.proofs.Refusals.{refusal-number}
use Rattle.sed1520.specs.ChipBytes.{bytes_pass}
use Rattle.panel.specs.Chips.{panel_in}
use Rattle.panel.specs.Trace.{trace_table, trace_run}
use Rattle.trace.specs.Replay.{sizes_wrong}
use Rattle.trace.specs.Wear.{worn}
use Rattle.trace.proofs.InPlace.{bytes-refused, bytes-passed, chips-line, lines, verdict-line, verdict-passed, lines_fit, lines-passed}
use Rattle.trace.proofs.ReplayNumbers.{sizes-right}
use Rattle.trace.proofs.WearCases.{replay-kept, replay-counted}
use Rattle.trace.proofs.WearCounts.{worn-cleared}
use Rattle.trace.proofs.replay_counting.Goals as goal

-- the verdict is that of the lines
given : {wrong left right : Bool} {v : Verdict} (chips ram trace answers : List ℕ)
    → wrong ≡ sizes_wrong (length trace) (length trace / 4) (length ram) (length answers)
    → left ≡ bytes_pass (take 12 chips) → right ≡ bytes_pass (take (length chips - 12) (drop 12 chips))
    → v ≡ verdict_by (trace_table wrong (not left) (not right) (length trace) []) (verdict 0 0)
    → v ≡ verdict_by (lines chips ram trace answers) (verdict 0 0)
given chips ram trace answers w l r e = rw (← w, ← l, ← rest chips 12, ← r) e

pub returns-then-chips-ne-CHIPS_BYTES : goal.returns-then-chips-ne-CHIPS_BYTES
returns-then-chips-ne-CHIPS_BYTES c =
    let at = c.args in
    let line = chips-line at.chips.now at.ram.now at.trace.now at.answers.now c.if-chips-ne-CHIPS_BYTES.true in
    record {
      ran = rw (c.refused.ensures, c.new.ensures) (sym (bytes-refused _ _ _ _ 1 0 line));
      wear = sym (replay-kept _ _ _ _ _ 1 0 line);
    }

pub returns-in-Err : goal.returns-in-Err
returns-in-Err c =
    let at = c.args in
    let told = given at.chips.now at.ram.now at.trace.now at.answers.now c.sizes_wrong-wrong.ensures c.bytes_pass-left_out.ensures
    c.bytes_pass-right_out.ensures c.in-Err.ensures in
    let line = verdict-line at.chips.now at.ram.now at.trace.now at.answers.now _ told (omega arith) (refusal-number c.in-Err.refused.refusal) in
    record {
      ran = rw c.refused-in-Err.ensures (sym (bytes-refused _ _ _ _ _ _ line));
      wear = sym (replay-kept _ _ _ _ _ _ _ line);
    }

pub run-requires-clause-both_pass : goal.run-requires-clause-both_pass
run-requires-clause-both_pass c =
    let at = c.args in
    let told = given at.chips.now at.ram.now at.trace.now at.answers.now c.sizes_wrong-wrong.ensures c.bytes_pass-left_out.ensures
    c.bytes_pass-right_out.ensures c.in_default.ensures in
    let none = verdict-passed at.chips.now at.ram.now at.trace.now at.answers.now _ told refl in
    lines_fit at.chips.now at.ram.now at.trace.now at.answers.now (omega arith) none

pub run-requires-clause-trace_in_bounds : goal.run-requires-clause-trace_in_bounds
run-requires-clause-trace_in_bounds c =
    let at = c.args in
    let told = given at.chips.now at.ram.now at.trace.now at.answers.now c.sizes_wrong-wrong.ensures c.bytes_pass-left_out.ensures
    c.bytes_pass-right_out.ensures c.in_default.ensures in
    let none = verdict-passed at.chips.now at.ram.now at.trace.now at.answers.now _ told refl in
    (sizes-right (length at.trace.now) _ (length at.ram.now) (length at.answers.now) none.0).space

pub run-requires-clause-trace_len_bound : goal.run-requires-clause-trace_len_bound
run-requires-clause-trace_len_bound c =
    let at = c.args in
    let told = given at.chips.now at.ram.now at.trace.now at.answers.now c.sizes_wrong-wrong.ensures c.bytes_pass-left_out.ensures
    c.bytes_pass-right_out.ensures c.in_default.ensures in
    let none = verdict-passed at.chips.now at.ram.now at.trace.now at.answers.now _ told refl in
    (sizes-right (length at.trace.now) _ (length at.ram.now) (length at.answers.now) none.0).short

pub returns : goal.returns
returns c =
    let at = c.args in
    let told = given at.chips.now at.ram.now at.trace.now at.answers.now c.sizes_wrong-wrong.ensures c.bytes_pass-left_out.ensures
    c.bytes_pass-right_out.ensures c.in_default.ensures in
    let passed = verdict-passed at.chips.now at.ram.now at.trace.now at.answers.now _ told refl in
    let none = lines-passed at.chips.now at.ram.now at.trace.now at.answers.now (omega arith) passed in
    let replies = (trace_run (panel_in at.chips.now at.ram.now) at.trace.now).answers in
    record {
      ran = c.run.ensures.ran ∙ sym (bytes-passed _ _ _ _ none);
      wear = c.run.ensures.wear
          ∙ ap (λ (w : List ℕ). worn w replies) c.clear.ensures
          ∙ worn-cleared (length at.wear.now) replies
          ∙ sym (replay-counted _ _ _ _ at.wear.now none);
    }
