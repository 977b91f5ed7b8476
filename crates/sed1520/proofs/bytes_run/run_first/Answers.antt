-- `sed1520::bytes_run::run_first`: a first record that is refused, and the four actions.
use Prim.Native.Nat.{ℕ, ◌*◌, ◌/◌, ◌<◌, ◌≤◌}
use mathlib.Core.Path.{◌≡◌, refl, sym, ap, ◌∙◌}
use mathlib.Core.Bool.{true, false}
use mathlib.Core.List.{List}
use lib.ListN.{length}
use borrow.Author.Tests.{eq-eqb, ne_eqb}
use Rattle.basics.specs.Verdict.{CallResult}
use Rattle.sed1520.specs.BytesRun.{BytesAndRam, with_ram, bytes_step, command_bytes, moves_data, answered_alone, run_leading, run_bytes}
use Rattle.sed1520.specs.ChipBytes.{registers_in}
use Rattle.sed1520.specs.Cycle.{bus_refusal, command_write, status_byte, Reply}
use Rattle.sed1520.specs.Records.{front}
use Rattle.sed1520.specs.Replies.{in_place, nothing_run}
use Rattle.sed1520.specs.declared.bus.Record.{Record}
use Rattle.sed1520.specs.declared.tally.Tally.{Tally}
use Rattle.sed1520.proofs.BytesSteps.{accepted as accepted-as, refused-step, status-step, command-number, command-step}
use Rattle.basics.proofs.Refusals.{refusal-number}
use Rattle.sed1520.proofs.StepCases.{asks}
use Rattle.sed1520.proofs.TogetherCases.{refused-first, runs-alone, leading-runs}
use Rattle.sed1520.proofs.bytes_run.run_first.Goals as goal

-- what was lent, with the lengths that the function asks for
module _ (b ram trace answers : List ℕ) (twelve : length b ≡ 12) (own : length ram ≡ 320) (room : 2 * (length trace / 4) ≤ length answers)
    (one : 4 ≤ length trace) where
  -- the first record is refused where it is given to the chip, it runs alone, or those like it run with it
  refused : ((bytes_step (with_ram b ram) (front trace)).number ≡ 0 → ⊥)
      → run_bytes b ram trace answers ≡ in_place (nothing_run (bytes_step (with_ram b ram) (front trace)).number 0) b ram answers
  refused = refused-first bytes_step 12 320 b ram trace answers twelve own room one

  by_itself : moves_data (front trace).lines ≡ false → (a : Reply) (next : BytesAndRam) → bytes_step (with_ram b ram) (front trace) ≡ accepted-as a next
      → let o = answered_alone (front trace) a answers in run_bytes b ram trace answers ≡ in_place o.answer next.bytes next.ram o.lent
  by_itself = runs-alone bytes_step 12 320 b ram trace answers twelve own room one

  of-leading : bus_refusal (front trace) ≡ 0 → moves_data (front trace).lines ≡ true
      → run_bytes b ram trace answers ≡ run_leading (front trace).lines (front trace).chip b ram trace answers
  of-leading accepted is-data =
      leading-runs bytes_step 12 320 b ram trace answers twelve own room one is-data (asks (front trace) accepted).spare

-- a record refused by the bus, or as a command
pub returns-in-Err-clause-ran : goal.returns-in-Err-clause-ran
returns-in-Err-clause-ran c =
    let s = c.args in
    let r = c.requires in
    let bus = front s.trace.now in
    let given = rw c.from-bus.ensures at c.in-Err.ensures.number in
    let nonzero : bus_refusal bus ≡ 0 → ⊥ = λ e. refusal-number _ (given ∙ e) in
    let number = refused-step (with_ram s.bytes.now s.ram.now) bus nonzero in
    rw (c.refused.ensures, given, ← number)
    (sym (refused s.bytes.now s.ram.now s.trace.now s.answers.now r.bytes_len r.ram_len r.trace_in_bounds r.in_bounds (λ e. nonzero (sym number ∙ e))))

-- a record accepted by the bus
module _ (trace : List ℕ) (bus : Record) (is : bus ≡ front trace) (number : 0 ≡ bus_refusal bus) where
  passed : bus_refusal (front trace) ≡ 0
  passed = sym (rw is at number)

  names : bus.chip < 2
  names = rw is (asks (front trace) passed).chip

  lines-are : (n : ℕ) → n ≡ bus.lines → (front trace).lines ≡ n
  lines-are n e = sym (e ∙ ap (λ (r : Record). r.lines) is)

pub write_run-requires-clause-chip_bound : goal.write_run-requires-clause-chip_bound
write_run-requires-clause-chip_bound c = names c.args.trace.now _ c.from-bus.ensures c.in-Ok.ensures.number

pub write_run-requires-clause-trace_value : goal.write_run-requires-clause-trace_value
write_run-requires-clause-trace_value c =
    let bus = front c.args.trace.now in
    let lines = lines-are c.args.trace.now _ c.from-bus.ensures c.in-Ok.ensures.number 3 (rw c.in-WriteData.is at c.in-Ok.ensures.lines) in
    rw (lines, c.from-bus.ensures, (asks bus (passed c.args.trace.now _ c.from-bus.ensures c.in-Ok.ensures.number)).spare, eq-eqb bus.chip _ refl)

pub read_run-requires-clause-chip_bound : goal.read_run-requires-clause-chip_bound
read_run-requires-clause-chip_bound c = names c.args.trace.now _ c.from-bus.ensures c.in-Ok.ensures.number

pub returns-in-WriteData-clause-ran : goal.returns-in-WriteData-clause-ran
returns-in-WriteData-clause-ran c =
    let s = c.args in
    let r = c.requires in
    let accepted = passed c.args.trace.now _ c.from-bus.ensures c.in-Ok.ensures.number in
    let lines = lines-are c.args.trace.now _ c.from-bus.ensures c.in-Ok.ensures.number 3 (rw c.in-WriteData.is at c.in-Ok.ensures.lines) in
    let leading = of-leading s.bytes.now s.ram.now s.trace.now s.answers.now r.bytes_len r.ram_len r.trace_in_bounds r.in_bounds accepted in
    (rw c.from-bus.ensures at c.write_run.ensures.ran) ∙ sym (rw lines at (leading (rw lines)))

pub returns-in-ReadData-clause-ran : goal.returns-in-ReadData-clause-ran
returns-in-ReadData-clause-ran c =
    let s = c.args in
    let r = c.requires in
    let accepted = passed c.args.trace.now _ c.from-bus.ensures c.in-Ok.ensures.number in
    let lines = lines-are c.args.trace.now _ c.from-bus.ensures c.in-Ok.ensures.number 5 (rw c.in-ReadData.is at c.in-Ok.ensures.lines) in
    let leading = of-leading s.bytes.now s.ram.now s.trace.now s.answers.now r.bytes_len r.ram_len r.trace_in_bounds r.in_bounds accepted in
    rw c.unmoved.ensures ((rw c.from-bus.ensures at c.read_run.ensures) ∙ sym (rw lines at (leading (rw lines))))

pub returns-in-ReadStatus-clause-ran : goal.returns-in-ReadStatus-clause-ran
returns-in-ReadStatus-clause-ran c =
    let s = c.args in
    let r = c.requires in
    let b = s.bytes.now in
    let bus = front s.trace.now in
    let accepted = passed c.args.trace.now _ c.from-bus.ensures c.in-Ok.ensures.number in
    let lines = lines-are c.args.trace.now _ c.from-bus.ensures c.in-Ok.ensures.number 4 (rw c.in-ReadStatus.is at c.in-Ok.ensures.lines) in
    let status = c.status_byte.ensures ∙ ap status_byte c.registers_in.ensures in
    let answered = rw (status, c.from-bus.ensures) at c.put_answer.ensures in
    rw c.unmoved-in-ReadStatus.ensures
    (ap (λ (o : CallResult Tally (List ℕ)). in_place o.answer b s.ram.now o.lent) answered
    ∙ sym (by_itself b s.ram.now s.trace.now s.answers.now r.bytes_len r.ram_len r.trace_in_bounds r.in_bounds
    (rw lines) _ _ (status-step (with_ram b s.ram.now) bus accepted lines)))

pub returns-in-Ok-write_command-clause-ran : goal.returns-in-Ok-write_command-clause-ran
returns-in-Ok-write_command-clause-ran c =
    let s = c.args in
    let r = c.requires in
    let b = s.bytes.now in
    let bus = front s.trace.now in
    let accepted = passed c.args.trace.now _ c.from-bus.ensures c.in-Ok.ensures.number in
    let lines = lines-are c.args.trace.now _ c.from-bus.ensures c.in-Ok.ensures.number 2 (rw c.in-WriteCommand.is at c.in-Ok.ensures.lines) in
    let wrote = rw c.from-bus.ensures at c.in-Ok-write_command.ensures in
    let step = command-step (with_ram b s.ram.now) bus accepted lines (sym wrote.number) in
    let answered = rw c.from-bus.ensures at c.put_answer-in-Ok-write_command.ensures in
    rw (c.unmoved-in-Ok-write_command.ensures, wrote.bytes)
    (ap (λ (o : CallResult Tally (List ℕ)). in_place o.answer (command_bytes bus.byte b) s.ram.now o.lent) answered
    ∙ sym (by_itself b s.ram.now s.trace.now s.answers.now r.bytes_len r.ram_len r.trace_in_bounds r.in_bounds (rw lines) _ _ step))

pub returns-in-Err-write_command-clause-ran : goal.returns-in-Err-write_command-clause-ran
returns-in-Err-write_command-clause-ran c =
    let s = c.args in
    let r = c.requires in
    let b = s.bytes.now in
    let bus = front s.trace.now in
    let accepted = passed c.args.trace.now _ c.from-bus.ensures c.in-Ok.ensures.number in
    let lines = lines-are c.args.trace.now _ c.from-bus.ensures c.in-Ok.ensures.number 2 (rw c.in-WriteCommand.is at c.in-Ok.ensures.lines) in
    let wrote = rw c.from-bus.ensures at c.in-Err-write_command.ensures in
    let number = command-number (with_ram b s.ram.now) bus accepted lines in
    let nonzero : (command_write bus.byte (registers_in b)).number ≡ 0 → ⊥ = λ e. refusal-number _ (wrote.number ∙ e) in
    rw (c.refused-in-Err-write_command.ensures, wrote.bytes, ne_eqb _ 0 nonzero)
    (ap (λ n. in_place (nothing_run n 0) b s.ram.now s.answers.now) (wrote.number ∙ sym number)
    ∙ sym (refused b s.ram.now s.trace.now s.answers.now r.bytes_len r.ram_len r.trace_in_bounds r.in_bounds (λ e. nonzero (sym number ∙ e))))
