-- What the programs lend to a replay.
use Rattle.std.specs.Prelude.{ℕ, ◌*◌, ◌/◌, List, replicate}
use Rattle.sed1520.specs.Chip.{fresh}
use Rattle.panel.specs.Panel.{image_length, Panel, as_panel}
use Rattle.panel.specs.Trace.{trace_limit}

-- the panel that the programs begin with: fresh chips, RAM all 0
abbrev pub start : Panel
start = as_panel fresh fresh (replicate image_length 0)

-- how many bytes their answer buffer has: two for each of 16,384 records, room for any trace that number 1 lets pass
abbrev pub answers_length : ℕ
answers_length = 2 * (trace_limit / 4)

-- their answer buffer, all 0
abbrev pub blank_answers : List ℕ
blank_answers = replicate answers_length 0
