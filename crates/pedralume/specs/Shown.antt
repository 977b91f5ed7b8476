-- Demand 2 with its pixels: what the panel shows after each cycle of a replay, and after each part of a feed, and not only at the end.
use Rattle.std.specs.Prelude.{ℕ, ◌*◌, ◌≤◌, ◌≡◌, List, length, take}
use Rattle.panel.specs.Panel.{Whole}
use Rattle.panel.specs.Panel.{Panel, as_panel, after}
use Rattle.sed1520.specs.Records.{whole_records}
use Rattle.trace.specs.Promises.{Replayable, replies_to}
use Rattle.panel.specs.Trace.{trace_run}
use Rattle.trace.specs.Replay.{panel_after, replay_of}
use Rattle.trace.specs.Feed.{open_of}
use Rattle.trace.specs.FeedPromises.{Part, joined_bytes, fed_from, Taken}
use Rattle.basics.specs.Verdict.{verdict}
use Rattle.basics.specs.Verdict.{result_of}
use Rattle.frame.specs.Frame.{frame_length, frame_of, framed}

-- the panel that the replay of the first k records leaves has a frame, given with number 0 and place 488: that of the panel after these k records
abbrev pub ShownAfterEachRecord : Type 0
ShownAfterEachRecord =
    (p : Panel) (trace answers buffer : List ℕ) → Replayable p trace answers → length buffer ≡ frame_length → (k : ℕ)
    → k ≤ (replay_of p trace answers).answer.place
    → framed (panel_after (replay_of p (take (4 * k) trace) answers)) buffer
    ≡ result_of (verdict 0 frame_length) (frame_of (after p (take k (whole_records trace))))

-- the panel that a feed leaves after any parts that it takes, however long in all, has a frame: that of the panel after their whole records
abbrev pub ShownAfterEachPart : Type 0
ShownAfterEachPart =
    (p : Panel) (xs : List Part) (buffer : List ℕ) → Whole p → Taken (open_of p.left p.right).feed p.ram xs → length buffer ≡ frame_length
    → let o = fed_from p xs in let f = o.lent.state in
    framed (as_panel f.chips.left f.chips.right o.lent.ram) buffer
    ≡ result_of (verdict 0 frame_length) (frame_of (after p (whole_records (joined_bytes xs))))

-- the panel that a run of the first k records of any bytes, however many, leaves has a frame: that of the panel after these k records
abbrev pub ShownInEveryRun : Type 0
ShownInEveryRun =
    (p : Panel) (bytes buffer : List ℕ) → Whole p → length buffer ≡ frame_length → (k : ℕ) → k ≤ length (replies_to p bytes)
    → framed (trace_run p (take (4 * k) bytes)).state buffer ≡ result_of (verdict 0 frame_length) (frame_of (after p (take k (whole_records bytes))))
