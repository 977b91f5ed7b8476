-- What is proved of wear beside the contracts (request C-16): all else is as without it; when it is refused and when it stays as it came; each count
-- and their sum, taken from the trace; and that what a feed's parts leave adds up to what the replay leaves, at any cut.
use Rattle.std.specs.Prelude.{ℕ, ◌<◌, ◌≡◌, List, [], ◌∷◌, map, length, get_or, replicate}
use Rattle.basics.specs.Counts.{total}
use Rattle.basics.specs.Table.{First, NoneHolds, ExactlyWhen}
use Rattle.panel.specs.Panel.{image_length, Panel, as_panel, Whole}
use Rattle.panel.specs.Stores.{writes_finding}
use Rattle.panel.specs.Trace.{trace_run}
use Rattle.sed1520.specs.Records.{whole_records}
use Rattle.sed1520.specs.Replies.{stores_to}
use Rattle.trace.specs.Feed.{completed_by, joined_to, unless_stopped, not_taken, took_part, open_of, part_of}
use Rattle.trace.specs.FeedPromises.{Part, joined_bytes, BuffersFit, Taken}
use Rattle.trace.specs.Promises.{Replayable, replies_to}
use Rattle.trace.specs.Replay.{tally_verdict, refused_at, ended_bytes, replay_of}
use Rattle.trace.specs.Wear.{with_wear, replay_wear_table, replay_with_wear, part_wear_table, part_with_wear}
use Rattle.trace.specs.declared.progress.Ending.TheVariants.{Open, Stopped}
use Rattle.trace.specs.declared.feed.Feed.{Feed}

-- lent 640 counts, a replay and a part give back and leave what they do without them, whatever the counts held
pub record AsWithoutWear : Type 0 where
  pub replay : (p : Panel) (trace answers wear : List ℕ) → length wear ≡ image_length
      → (replay_with_wear p trace answers wear).outcome ≡ replay_of p trace answers
  pub part : (f : Feed) (ram part answers wear : List ℕ) → length wear ≡ image_length
      → (part_with_wear f ram part answers wear).outcome ≡ part_of f ram part answers

-- numbers 1 to 3 of a replay that is lent wear, and 1, 13 and 2 of a part given to a feed that is open, exactly when their lines say so, number 1
-- also for wear that is not 640 counts; else the number and the place of the records' run
pub record WearNumbers : Type 0 where
  pub replay : (p : Panel) (trace answers wear : List ℕ)
      → ExactlyWhen (replay_wear_table p trace answers wear) (tally_verdict (ended_bytes p trace answers).answer)
      (tally_verdict (replay_with_wear p trace answers wear).outcome.answer)
  pub part : (f : Feed) (ram part answers wear : List ℕ) → f.progress.ending ≡ Open → let bytes = joined_to f.progress part in
      ExactlyWhen (part_wear_table f ram part answers wear)
      (tally_verdict (took_part f bytes (ended_bytes (as_panel f.chips.left f.chips.right ram) bytes answers)).answer)
      (tally_verdict (part_with_wear f ram part answers wear).outcome.answer)

-- "numbers 1 to 3, 13 and a stopped feed leave the row": and all else that was lent
pub record WearStays : Type 0 where
  pub replay : (p : Panel) (trace answers wear : List ℕ) (n at : ℕ) → First (replay_wear_table p trace answers wear) n at
      → replay_with_wear p trace answers wear ≡ with_wear (refused_at n at p answers) wear
  pub part : (f : Feed) (ram part answers wear : List ℕ) (n at : ℕ) → f.progress.ending ≡ Open → First (part_wear_table f ram part answers wear) n at
      → part_with_wear f ram part answers wear ≡ with_wear (not_taken f ram answers n at) wear
  pub stopped : (f : Feed) (ram part answers wear : List ℕ) (n at : ℕ) → f.progress.ending ≡ Stopped n at
      → part_with_wear f ram part answers wear ≡ with_wear (not_taken f ram answers n at) wear

-- what a replay that numbers 1 to 3 let pass leaves in 640 counts, and a part that 1, 13 and 2 let pass of a feed that is open, whatever they held:
-- each is how many of its answers stored to that byte; their sum is how many of the accepted records write data and find a column below 80, counted
-- from the records and the panel before each; and a part that completes no record leaves zeros
pub record WearCounted : Type 0 where
  pub each : (p : Panel) (trace answers wear : List ℕ) → Replayable p trace answers → length wear ≡ image_length → (i : ℕ) → i < image_length
      → get_or (replay_with_wear p trace answers wear).wear i 0 ≡ stores_to i (replies_to p trace)
  pub sum : (p : Panel) (trace answers wear : List ℕ) → Replayable p trace answers → length wear ≡ image_length
      → total (replay_with_wear p trace answers wear).wear ≡ writes_finding p (whole_records trace)
  pub each-of-part : (f : Feed) (ram part answers wear : List ℕ) → f.progress.ending ≡ Open → NoneHolds (part_wear_table f ram part answers wear)
      → (i : ℕ) → i < image_length
      → get_or (part_with_wear f ram part answers wear).wear i 0
      ≡ stores_to i (replies_to (as_panel f.chips.left f.chips.right ram) (joined_to f.progress part))
  pub sum-of-part : (f : Feed) (ram part answers wear : List ℕ) → f.progress.ending ≡ Open → NoneHolds (part_wear_table f ram part answers wear)
      → total (part_with_wear f ram part answers wear).wear
      ≡ writes_finding (as_panel f.chips.left f.chips.right ram) (whole_records (joined_to f.progress part))
  pub none-completed : (f : Feed) (ram part answers wear : List ℕ) → f.progress.ending ≡ Open → NoneHolds (part_wear_table f ram part answers wear)
      → completed_by f.progress.kept (length part) ≡ 0 → (part_with_wear f ram part answers wear).wear ≡ replicate image_length 0

-- a part, and the wear that is lent with it
pub record PartAndWear : Type 0 where
  pub part : Part
  pub wear : List ℕ

-- the parts without their wear
abbrev pub parts_of : List PartAndWear → List Part
parts_of xs = map (λ (x : PartAndWear). x.part) xs

-- every part is lent 640 counts
unfoldable pub WearFits : List PartAndWear → Type 0
WearFits [] = Unit
WearFits (x ∷ xs) = (length x.wear ≡ image_length) × WearFits xs

-- the wear that each part leaves, given one after the other to a feed over an image, up to the part at which the feed stops: a stopped feed takes no
-- more of them and leaves theirs as it came
unfoldable pub wear_left : Feed → List ℕ → List PartAndWear → List (List ℕ)
wear_left f ram [] = []
wear_left f ram (x ∷ xs) =
    let o = part_with_wear f ram x.part.bytes x.part.buffer x.wear in
    unless_stopped f.progress.ending (λ n at. []) (o.wear ∷ wear_left o.outcome.lent.state o.outcome.lent.ram xs)

-- the counts of one byte added up
abbrev pub added_up : ℕ → List (List ℕ) → ℕ
added_up i wears = total (map (λ (wear : List ℕ). get_or wear i 0) wears)

-- what parts leave adds up, byte by byte: of any parts of which none is refused by 1, 13 or 2, to the stores of the whole records of all their bytes
-- run one after the other; and at any cut of a trace that numbers 1 to 3 let pass, to what its replay leaves
pub record WearAddsUp : Type 0 where
  pub parts : (p : Panel) → Whole p → (xs : List PartAndWear) → WearFits xs → let f = (open_of p.left p.right).feed in
      Taken f p.ram (parts_of xs)
      → (i : ℕ) → i < image_length → added_up i (wear_left f p.ram xs) ≡ stores_to i (trace_run p (joined_bytes (parts_of xs))).answers
  pub at-any-cut : (p : Panel) (trace buffer wear : List ℕ) → Replayable p trace buffer → length wear ≡ image_length → (xs : List PartAndWear)
      → WearFits xs → joined_bytes (parts_of xs) ≡ trace → BuffersFit 0 (parts_of xs) → (i : ℕ) → i < image_length
      → added_up i (wear_left (open_of p.left p.right).feed p.ram xs) ≡ get_or (replay_with_wear p trace buffer wear).wear i 0
