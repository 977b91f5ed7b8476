-- What the inner functions give back and leave: a record on the half of its own chip and on the panel, an entry put into the buffer, and the walk
-- over all records.
use Rattle.std.specs.Prelude.{ℕ, ◌+◌, ◌*◌, ◌/◌, ◌%◌, ◌^◌, Bool, not, ◌&&◌, List, ◌++◌, ltb, eqb, length, take, drop}
use Rattle.std.specs.Prelude.{◌≡◌, Result, Ok, Err, IfOk}
use Rattle.std.specs.Bool.{beq}
use Rattle.basics.specs.Choice.{if}
use Rattle.basics.specs.Counts.{count_below}
use Rattle.basics.specs.Refusals.{number_of, refused_or}
use Rattle.basics.specs.Verdict.{Verdict, verdict, CallResult, result_of}
use Rattle.basics.specs.declared.refusal.Refusal.{Refusal}
use Rattle.basics.specs.declared.verdict.Refused.{Refused}
use Rattle.sed1520.specs.Cycle.{cycle_of}
use Rattle.sed1520.specs.Records.{whole_records}
use Rattle.panel.specs.Panel.{Panel, as_panel, outcome_of, stepped}
use Rattle.panel.specs.Trace.{trace_run}
use Rattle.panel.specs.declared.chips.Chips.{Chips}
use Rattle.sed1520.specs.declared.bus.Record.{Record}
use Rattle.sed1520.specs.declared.registers.Chip.{Chip}
use Rattle.visible.specs.Changes.{Entry, entries_before, entry_bytes, entries_bytes, half_changed, pixels_changed}
use Rattle.visible.specs.declared.watch.Pixels.{Pixels}

-- how many of the 32 lowest bits of two numbers differ
abbrev pub bits_differing : ℕ → ℕ → ℕ
bits_differing one other = count_below (λ b. not (eqb (one / 2 ^ b % 2) (other / 2 ^ b % 2))) 32

-- what is seen of a record on one chip: the record's number, the chip after it, and how many pixels of the chip's half differ from before it
pub record HalfSeen : Type 0 where
  pub number : ℕ
  pub chip : Chip
  pub pixels : ℕ

-- what is seen of a record on one chip, and the chip's RAM afterwards
abbrev pub HalfSight : Type 0
HalfSight = CallResult HalfSeen (List ℕ)

-- a half's sight of its four parts
abbrev pub half_seen : ℕ → Chip → ℕ → List ℕ → HalfSight
half_seen n c pixels ram = result_of (record { number = n; chip = c; pixels = pixels }) ram

-- what the code gives back and leaves for a record on one chip, as a half's sight: of a refused record its number and no pixels
abbrev pub half_sight : Result ℕ Refusal → Chip → List ℕ → HalfSight
half_sight (Ok pixels) next ram = half_seen 0 next pixels ram
half_sight (Err r) next ram = half_seen (number_of r) next 0 ram

-- a record on one chip: number, chip and RAM as the cycle leaves them, and how many pixels of the half differ from before it
abbrev pub half_sight_of : Record → Chip → List ℕ → HalfSight
half_sight_of r c ram =
    let o = cycle_of r c ram in let d = o.answer.chip in half_seen o.answer.number d (half_changed c ram d o.ram) o.ram

-- a record's number, the panel after it, and how many pixels of each half differ from before it
pub record Sight : Type 0 where
  pub number : ℕ
  pub panel : Panel
  pub left : ℕ
  pub right : ℕ

-- a sight of its four parts
abbrev pub sight : ℕ → Panel → ℕ → ℕ → Sight
sight n p left right = record { number = n; panel = p; left = left; right = right }

-- the sight of a record on a panel
abbrev pub sight_of : Panel → Record → Sight
sight_of p r = let next = stepped p r in sight (outcome_of p r).answer.number next (pixels_changed p next 0) (pixels_changed p next 1)

-- what the code gives back and leaves for a record on the panel, as a sight: of a refused record its number and no pixels
abbrev pub watched : Result Pixels Refusal → Chips → List ℕ → Sight
watched (Ok p) next ram = sight 0 (as_panel next.left next.right ram) p.left p.right
watched (Err r) next ram = sight (number_of r) (as_panel next.left next.right ram) 0 0

-- whether two chips are alike in the registers that are shown
unfoldable pub same_shown_registers : Chip → Chip → Bool
same_shown_registers c d =
    beq c.display_on d.display_on && (beq c.static_on d.static_on && (beq c.duty_32 d.duty_32
    && (beq c.reverse d.reverse && eqb c.start_line d.start_line)))

-- how many entries there are, and the buffer with those that it has room for
abbrev pub Listing : Type 0
Listing = CallResult ℕ (List ℕ)

-- a listing of so many entries, with the buffer
abbrev pub listing : ℕ → List ℕ → Listing
listing count buffer = result_of count buffer

-- an entry written behind n others where there is room for it
abbrev pub put_entry : Entry → ℕ → List ℕ → List ℕ
put_entry e n buffer = if (ltb n (length buffer / 8)) (take (8 * n) buffer ++ (entry_bytes e ++ drop (8 * n + 8) buffer)) buffer

-- a listing with one entry more, unless that has no pixels
unfoldable pub one_more : Entry → Listing → Listing
one_more e l = if (eqb (e.left + e.right) 0) l (listing (l.answer + 1) (put_entry e l.answer l.lent))

-- a buffer after as many entries as it has room for were put to its front
abbrev pub put_entries : List Entry → List ℕ → List ℕ
put_entries entries buffer =
    let fit = take (length buffer / 8) entries in entries_bytes fit ++ drop (8 * length fit) buffer

-- the entries of the records that ran: of all records, or of those before the one that was refused
abbrev pub entries_ran : Panel → List ℕ → List Entry
entries_ran p trace = entries_before p (whole_records trace) (length (trace_run p trace).answers)

-- how the run of the records ends: 0 or the number by which a record was refused, with how many records ran as place
abbrev pub run_verdict : Panel → List ℕ → Verdict
run_verdict p trace = let run = trace_run p trace in verdict run.number (length run.answers)

-- what a walk over the records gives back and leaves in the entries' buffer: how the run ends, how many entries there are where it was not refused,
-- and the entries put as far as there is room
pub record Walked (p : Panel) (trace buffer : List ℕ) (given : Result ℕ Refused) (after : List ℕ) : Type 0 where
  pub ended : refused_or (verdict 0 (length (trace_run p trace).answers)) given ≡ run_verdict p trace
  pub counted : IfOk given (λ n. n ≡ length (entries_ran p trace))
  pub put : after ≡ put_entries (entries_ran p trace) buffer
