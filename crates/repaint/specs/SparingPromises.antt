-- What is proved of the sparing repaint beside its contract and demand 3: its runs, its count, and how it ends beside the repaint.
use Rattle.std.specs.Prelude.{ℕ, suc, ◌+◌, ◌<◌, ◌≤◌, ◌≡◌, Bool, true, false, eqb, length, drop}
use mathlib.Core.List.{List, [], ◌∷◌, ◌++◌, map, flat_map}
use Rattle.basics.specs.Choice.{if}
use Rattle.basics.specs.Counts.{count_below, total}
use Rattle.basics.specs.Verdict.{verdict, result_of}
use Rattle.sed1520.specs.Memory.{byte_at}
use Rattle.sed1520.specs.Records.{records_bytes}
use Rattle.sed1520.specs.declared.registers.Chip.{Chip}
use Rattle.sed1520.specs.declared.bus.Record.{Record}
use Rattle.panel.specs.Panel.{Panel, chip_at, ram_at}
use Rattle.frame.specs.Frame.{segments, ram_column}
use Rattle.repaint.specs.Repaint.{hidden_page, picture_byte, page_set, run_records, line_turns, repaint_cycles, repaint_sizes_wrong, repaint_of}
use Rattle.repaint.specs.Sparing.{begins, chosen_page, sparing_records, sparing_cycles, sparing_of}
use Rattle.repaint.specs.TearFree.{BothReady, shown, Request, asked, sent_so_far}

-- columns one after the other: the first, and how many they are
pub record Stretch : Type 0 where
  pub start : ℕ
  pub size : ℕ

-- a longest run among columns 0 to n - 1: one column or more, all of which pass a test, while neither the column just before them nor the one just
-- after them, where there is one, passes
pub record LongestRun (test : ℕ → Bool) (n : ℕ) (s : Stretch) : Type 0 where
  pub some : 1 ≤ s.size
  pub within : s.start + s.size ≤ n
  pub passes : (i : ℕ) → s.start ≤ i → i < s.start + s.size → test i ≡ true
  pub before : (i : ℕ) → suc i ≡ s.start → test i ≡ false
  pub after : s.start + s.size < n → test (s.start + s.size) ≡ false

-- stretches in rising order, from a column on, are longest runs, and from that column on no other column below n passes
abbrev pub LongestRuns : (ℕ → Bool) → ℕ → ℕ → List Stretch → Type 0
LongestRuns test n at [] = (i : ℕ) → at ≤ i → i < n → test i ≡ false
LongestRuns test n at (s ∷ more) =
    (at ≤ s.start) × (((i : ℕ) → at ≤ i → i < s.start → test i ≡ false) × (LongestRun test n s × LongestRuns test n (s.start + s.size) more))

-- request C-17's rule for a page, by its runs: it is passed over where there is none, else set page, then for each run one column set and the run's
-- writes
abbrev pub records_by_runs : Chip → ℕ → List ℕ → ℕ → List Stretch → List Record
records_by_runs c chip picture r [] = []
records_by_runs c chip picture r (s ∷ more) = page_set c chip r ∷ flat_map (λ i. run_records c chip picture r i.start i.size) (s ∷ more)

-- the records of a page, defined column by column, are those of that rule: there are stretches that are the longest runs of its 61 columns and give
-- these records; how many they are and how many columns they have is what the count of cycles has
pub record ByLongestRuns (c : Chip) (chip : ℕ) (picture : List ℕ) (r : ℕ) (test : ℕ → Bool) : Type 0 where
  pub runs : List Stretch
  pub longest : LongestRuns test segments 0 runs
  pub records : chosen_page c chip picture r test ≡ records_by_runs c chip picture r runs
  pub many : length runs ≡ count_below (begins test) segments
  pub columns : total (map (λ i. i.size) runs) ≡ count_below test segments

-- so it is of every page, whichever columns are chosen; the sparing repaint chooses those that differ
abbrev pub EveryPageByRuns : Type 0
EveryPageByRuns = (c : Chip) (chip : ℕ) (picture : List ℕ) (r : ℕ) (test : ℕ → Bool) → ByLongestRuns c chip picture r test

-- the count of cycles by pages and runs is how many records there are, and never over 254
pub record CyclesCounted : Type 0 where
  pub counted : (p : Panel) (picture : List ℕ) → length (sparing_records p picture) ≡ sparing_cycles p picture
  pub at_most : (p : Panel) (picture : List ℕ) → sparing_cycles p picture ≤ repaint_cycles

-- the panel after all the cycles of a repaint; refused, none is given
abbrev pub sent_whole : Panel → Request → Panel
sent_whole p q = let s = asked p q in if (eqb s.given.answer.number 0) (sent_so_far p s s.given.answer.place) p

-- two repaints of one picture, each sparing or not, begun on one panel whose chips are both ready and sent whole (TearFree: every cycle is accepted):
-- all 640 bytes of RAM end the same, and the panel shows the same
abbrev pub EndAlike : Type 0
EndAlike =
    (p : Panel) → BothReady p → (one other : Request) → one.picture ≡ other.picture
    → repaint_sizes_wrong (length one.picture) (length one.buffer) ≡ false
    → repaint_sizes_wrong (length other.picture) (length other.buffer) ≡ false
    → ((sent_whole p one).ram ≡ (sent_whole p other).ram) × (shown (sent_whole p one) ≡ shown (sent_whole p other))

-- a chip's RAM holds band r of the picture in the 61 shown columns of the hidden page for it
pub record BandHeld (c : Chip) (chip : ℕ) (picture : List ℕ) (r : ℕ) (ram : List ℕ) : Type 0 where
  pub byte : (n : ℕ) → n < segments → byte_at ram (hidden_page c r) (ram_column c n) ≡ picture_byte picture chip n r

-- a sparing repaint of the picture that the hidden pages hold already sends two cycles, the start lines
abbrev pub EqualTakesTwo : Type 0
EqualTakesTwo =
    (p : Panel) → BothReady p → (picture buffer : List ℕ) → repaint_sizes_wrong (length picture) (length buffer) ≡ false
    → ((k r : ℕ) → k < 2 → r < 2 → BandHeld (chip_at p k) k picture r (ram_at p k))
    → sparing_of p picture buffer ≡ result_of (verdict 0 2) (records_bytes (line_turns p.left p.right) ++ drop 8 buffer)

-- the sparing repaint never sends more cycles than the repaint; both calls are accepted here (TearFree)
abbrev pub NeverMore : Type 0
NeverMore =
    (p : Panel) → BothReady p → (picture one other : List ℕ)
    → repaint_sizes_wrong (length picture) (length one) ≡ false → repaint_sizes_wrong (length picture) (length other) ≡ false
    → (sparing_of p picture one).answer.place ≤ (repaint_of p.left p.right picture other).answer.place
