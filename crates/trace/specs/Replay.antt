-- The replay of a trace: the records one after the other, each answered as its cycle answers it, up to the first refused record.
use Rattle.std.specs.Prelude.{ℕ, ◌*◌, ◌/◌, Bool, not, ◌&&◌, List, [], ◌∷◌, ltb, eqb, length, take, drop}
use Rattle.basics.specs.Choice.{if}
use Rattle.basics.specs.Run.{Run}
use Rattle.basics.specs.Table.{Cause, cause, unless_refused}
use Rattle.basics.specs.Verdict.{verdict, CallResult, result_of}
use Rattle.basics.specs.Verdict.{Verdict}
use Rattle.sed1520.specs.Chip.{out_of_range}
use Rattle.sed1520.specs.ChipBytes.{chip_length, bytes_pass}
use Rattle.sed1520.specs.Cycle.{Reply}
use Rattle.sed1520.specs.Records.{whole_records}
use Rattle.sed1520.specs.Replies.{tally, nothing_run, tallied, answers_left, Lent, lent, InPlace, in_place}
use Rattle.sed1520.specs.declared.bus.Record.{Record}
use Rattle.sed1520.specs.declared.registers.Chip.{Chip}
use Rattle.panel.specs.Chips.{chips_length, chips_bytes, as_chips, panel_in}
use Rattle.panel.specs.Panel.{Panel, as_panel}
use Rattle.panel.specs.Trace.{trace_run, trace_sizes_wrong, trace_table}
use Rattle.panel.specs.declared.chips.Chips.{Chips}
use Rattle.sed1520.specs.declared.tally.Tally.{Tally}
use Rattle.trace.specs.declared.Replayed.{Replayed}

-- the number and the place of a tally
abbrev pub tally_verdict : Tally → Verdict
tally_verdict r = verdict r.number r.place

-- what a replay by value gives back and leaves
abbrev pub ReplayOutcome : Type 0
ReplayOutcome = CallResult Tally (Lent Chips)

-- what a replay gives back and leaves: number, place and counts, with the panel and the answer buffer afterwards
abbrev pub ended_at : ℕ → ℕ → ℕ → ℕ → Panel → List ℕ → ReplayOutcome
ended_at n at compared differing p answers =
    result_of (tally n at compared differing) (lent (as_chips p.left p.right) p.ram answers)

-- the panel that a replay leaves
abbrev pub panel_after : ReplayOutcome → Panel
panel_after o = as_panel o.lent.state.left o.lent.state.right o.lent.ram

-- a replay refused before its first record: nothing is changed and nothing compared
abbrev pub refused_at : ℕ → ℕ → Panel → List ℕ → ReplayOutcome
refused_at n at p answers = ended_at n at 0 0 p answers

-- how a replay ends by the run of its records: done, or refused at a record, with the replies before it; the answer bytes past them stay
unfoldable pub ended : Run Panel Reply → List Record → List ℕ → ReplayOutcome
ended r rs answers =
    result_of (tallied r.number r.answers rs)
    (lent (as_chips r.state.left r.state.right) r.state.ram (answers_left r.answers answers))

-- how the run of the whole records in some bytes ends on a panel
abbrev pub ended_bytes : Panel → List ℕ → List ℕ → ReplayOutcome
ended_bytes p bytes answers = ended (trace_run p bytes) (whole_records bytes) answers

-- number 1 of a replay or a part that answers so many records: document 01's sizes, answers under two bytes for each of them among these
abbrev pub sizes_wrong : ℕ → ℕ → ℕ → ℕ → Bool
sizes_wrong bytes records ram answers = trace_sizes_wrong bytes ram (ltb answers (2 * records))

-- numbers 1 to 3 of a replay, by whether the left chip and the right one are out of range and by the lengths of trace, image and answers: each
-- whole record of the trace is answered
abbrev pub replay_table : Bool → Bool → ℕ → ℕ → ℕ → List Cause
replay_table left right trace ram answers = trace_table (sizes_wrong trace (trace / 4) ram answers) left right trace []

-- the replay: numbers 1 to 3, then the records
unfoldable pub replay_of : Panel → List ℕ → List ℕ → ReplayOutcome
replay_of p trace answers =
    unless_refused (replay_table (out_of_range p.left) (out_of_range p.right) (length trace) (length p.ram) (length answers))
    (λ n at. refused_at n at p answers) (ended_bytes p trace answers)

-- what the code's replay by value gives back and leaves in what it was lent, as an outcome
abbrev pub replay_outcome : Replayed → List ℕ → List ℕ → ReplayOutcome
replay_outcome r ram answers =
    let t = r.tally in ended_at t.number t.place t.compared t.differing (as_panel r.chips.left r.chips.right ram) answers

-- bytes of both chips that number 2 lets pass become those of a panel's chips; any others stay
abbrev pub rewritten : List ℕ → Chip → Chip → List ℕ
rewritten chips left right = if (bytes_pass (take chip_length chips) && bytes_pass (drop chip_length chips)) (chips_bytes left right) chips

-- a replay's outcome on the panel that is read from chip bytes, with its chips written back as bytes
abbrev pub over_bytes : List ℕ → ReplayOutcome → InPlace Tally
over_bytes chips o =
    in_place o.answer (rewritten chips o.lent.state.left o.lent.state.right) o.lent.ram o.lent.answers

-- numbers 1 to 3 of a replay over chip bytes as they lie: number 1 also for chips that are not 24 bytes
abbrev pub replay_bytes_table : List ℕ → ℕ → ℕ → ℕ → List Cause
replay_bytes_table chips trace ram answers =
    cause 1 0 (not (eqb (length chips) chips_length))
    ∷ replay_table (not (bytes_pass (take chip_length chips))) (not (bytes_pass (drop chip_length chips))) trace ram answers

-- the replay over chip bytes: numbers 1 to 3, then the records on the panel read from them
unfoldable pub replay_in_place : List ℕ → List ℕ → List ℕ → List ℕ → InPlace Tally
replay_in_place chips ram trace answers =
    unless_refused (replay_bytes_table chips (length trace) (length ram) (length answers))
    (λ n at. in_place (nothing_run n at) chips ram answers) (over_bytes chips (ended_bytes (panel_in chips ram) trace answers))
