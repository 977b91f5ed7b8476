-- Demand 2 after each cycle, and not only at the end; and what of demand 1 stands when a record is refused.
use Rattle.std.specs.Prelude.{ℕ, suc, ◌*◌, ◌/◌, ◌%◌, ◌<◌, ◌≤◌, ◌≡◌, List, [], ◌∷◌, ◌++◌, length, take, drop}
use Rattle.sed1520.specs.Cycle.{Reply, reply_of}
use Rattle.panel.specs.Panel.{Panel, outcome_of, stepped, after, Whole}
use Rattle.panel.specs.Trace.{trace_limit, trace_run}
use Rattle.sed1520.specs.Records.{front, whole_records}
use Rattle.trace.specs.Replay.{ended_at, panel_after, replay_of}
use Rattle.sed1520.specs.Replies.{compared_in, differing_in, replies_bytes}

-- a panel, a trace and an answer buffer that numbers 1 to 3 let pass
pub record Replayable (p : Panel) (trace answers : List ℕ) : Type 0 where
  pub size : length trace ≤ trace_limit
  pub space : 2 * (length trace / 4) ≤ length answers
  pub panel : Whole p
  pub whole : length trace % 4 ≡ 0

-- the replies to the records of a trace, up to the first refused one
abbrev pub replies_to : Panel → List ℕ → List Reply
replies_to p trace = (trace_run p trace).answers

-- the replay of the first k records is done and gives the panel, the answers and the counts that the whole replay had after k; the record at k,
-- where there is one more, is accepted on that panel, its answer is the next one, and the panel after it is what it makes of that panel
pub record AfterEach (p : Panel) (trace answers : List ℕ) (k : ℕ) : Type 0 where
  pub number : (replay_of p (take (4 * k) trace) answers).answer.number ≡ 0
  pub place : (replay_of p (take (4 * k) trace) answers).answer.place ≡ k
  pub compared : (replay_of p (take (4 * k) trace) answers).answer.compared ≡ compared_in (take k (replies_to p trace))
  pub differing : (replay_of p (take (4 * k) trace) answers).answer.differing ≡ differing_in (take k (replies_to p trace)) (whole_records trace)
  pub panel : panel_after (replay_of p (take (4 * k) trace) answers) ≡ after p (take k (whole_records trace))
  pub answer : k < (replay_of p trace answers).answer.place
      → let a = (outcome_of (panel_after (replay_of p (take (4 * k) trace) answers)) (front (drop (4 * k) trace))).answer in
      (a.number ≡ 0) × (take (suc k) (replies_to p trace) ≡ take k (replies_to p trace) ++ (reply_of a ∷ []))
  pub next : k < (replay_of p trace answers).answer.place
      → panel_after (replay_of p (take (4 * suc k) trace) answers)
      ≡ stepped (panel_after (replay_of p (take (4 * k) trace) answers)) (front (drop (4 * k) trace))
  pub answers-then : (replay_of p (take (4 * k) trace) answers).lent.answers ≡ replies_bytes (take k (replies_to p trace)) ++ drop (2 * k) answers

-- AfterEach holds of every replay that numbers 1 to 3 let pass, for every k up to its place
abbrev pub AfterEachRecord : Type 0
AfterEachRecord =
    (p : Panel) (trace answers : List ℕ) → Replayable p trace answers → (k : ℕ) → k ≤ (replay_of p trace answers).answer.place
    → AfterEach p trace answers k

-- how a replay ends: the panel, the counts and the answer buffer are those of the replay of the records before the place; the panel is as they
-- leave it; done, they are all; refused, the number is the one by which the record at the place is refused there
pub record Ends (p : Panel) (trace answers : List ℕ) : Type 0 where
  pub as_before : let whole = replay_of p trace answers in let before = replay_of p (take (4 * whole.answer.place) trace) answers in
      whole ≡ ended_at whole.answer.number whole.answer.place before.answer.compared before.answer.differing (panel_after before)
      before.lent.answers
  pub panel : panel_after (replay_of p trace answers) ≡ after p (take (replay_of p trace answers).answer.place (whole_records trace))
  pub done : (replay_of p trace answers).answer.number ≡ 0 → (replay_of p trace answers).answer.place ≡ length trace / 4
  pub before : ((replay_of p trace answers).answer.number ≡ 0 → ⊥) → (replay_of p trace answers).answer.place < length trace / 4
  pub refused : ((replay_of p trace answers).answer.number ≡ 0 → ⊥)
      → (outcome_of (panel_after (replay_of p trace answers)) (front (drop (4 * (replay_of p trace answers).answer.place) trace))).answer.number
      ≡ (replay_of p trace answers).answer.number

-- every replay that numbers 1 to 3 let pass ends as Ends says
abbrev pub EveryReplayEnds : Type 0
EveryReplayEnds = (p : Panel) (trace answers : List ℕ) → Replayable p trace answers → Ends p trace answers
