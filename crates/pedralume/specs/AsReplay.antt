-- The list of changes and the replay refuse alike: what is proved of both together.
use Rattle.std.specs.Prelude.{ℕ, ◌*◌, ◌/◌, ◌<◌, ◌≤◌, ◌≡◌, List, ◌++◌, length, drop}
use Rattle.basics.specs.Verdict.{verdict, result_of}
use Rattle.sed1520.specs.Records.{whole_records}
use Rattle.panel.specs.Panel.{Panel}
use Rattle.trace.specs.Replay.{tally_verdict, replay_of}
use Rattle.visible.specs.Changes.{all_entries, entries_bytes, changes_of}

-- the list of changes refuses what a replay refuses that has room for its answers, with its number and place; then number 15 where the entries
-- need more than the room, with their full number as place; else it gives them all
pub record AsReplay (p : Panel) (trace answers buffer : List ℕ) : Type 0 where
  pub refused : ((replay_of p trace answers).answer.number ≡ 0 → ⊥)
      → changes_of p trace buffer ≡ result_of (tally_verdict (replay_of p trace answers).answer) buffer
  pub short : (replay_of p trace answers).answer.number ≡ 0 → let entries = all_entries p (whole_records trace) in
      length buffer < 8 * length entries → changes_of p trace buffer ≡ result_of (verdict 15 (length entries)) buffer
  pub done : (replay_of p trace answers).answer.number ≡ 0 → let entries = all_entries p (whole_records trace) in 8 * length entries ≤ length buffer
      → changes_of p trace buffer ≡ result_of (verdict 0 (length entries)) (entries_bytes entries ++ drop (8 * length entries) buffer)

-- AsReplay holds whatever is lent, where the replay has room for its answers
abbrev pub EveryCallAsReplay : Type 0
EveryCallAsReplay = (p : Panel) (trace answers buffer : List ℕ) → 2 * (length trace / 4) ≤ length answers → AsReplay p trace answers buffer
