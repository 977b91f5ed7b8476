-- A replay over chip bytes: refused before the first record, the bytes stay; else they are those of the panel's chips.
use Prim.Native.Nat.{ℕ, ◌/◌}
use mathlib.Core.Path.{◌≡◌, refl, sym, ap, ◌∙◌}
use mathlib.Core.Bool.{true, false, not, ◌&&◌, true≢false}
use mathlib.Core.List.{List}
use mathlib.Core.Logic.{inl, inr}
use native.Mathlib.Omega.{arith}
use lib.ListN.{length, take, drop}
use borrow.Author.Tests.{eq-eqb, ne_eqb, not-false}
use Rattle.basics.specs.Table.{Cause, unless_refused, verdict_by, First, NoneHolds}
use Rattle.basics.specs.Verdict.{verdict}
use Rattle.basics.specs.Verdict.{Verdict}
use Rattle.basics.proofs.Table.{first-refuses, none-refuses, each_line, table-as, exactly-when, refusing-line, passing-table}
use Rattle.basics.proofs.Tests.{both, when}
use Rattle.sed1520.specs.Chip.{in_range}
use Rattle.sed1520.specs.ChipBytes.{bytes_pass, chip_in}
use Rattle.sed1520.specs.declared.registers.Chip.{Chip}
use Rattle.sed1520.proofs.ChipBytesUndo.{passes}
use Rattle.panel.specs.Chips.{chips_bytes, chips_in, panel_in, BothPass}
use Rattle.panel.specs.Panel.{Panel, as_panel}
use Rattle.panel.specs.declared.chips.Chips.{Chips}
use Rattle.panel.proofs.TwoChips.{two-chips, left-passes, right-passes, two-length, two-there, two_back, two-pass}
use Rattle.sed1520.specs.declared.tally.Tally.{Tally}
use Rattle.trace.specs.Refusals.{ReplayBytesNumbers, EveryRefusalBefore}
use Rattle.trace.specs.Replay.{ReplayOutcome, panel_after, ended_at, refused_at, ended_bytes, tally_verdict, replay_table, replay_of}
use Rattle.trace.specs.Replay.{rewritten, over_bytes, replay_bytes_table, replay_in_place}
use Rattle.sed1520.specs.Replies.{InPlace, in_place, tally, nothing_run}
use Rattle.trace.proofs.ReplayNumbers.{table, sizes-right}

-- the bytes of the chips that they are, are themselves
pub kept : (chips : List ℕ) → length chips ≡ 24 → rewritten chips (chips_in chips).left (chips_in chips).right ≡ chips
kept chips h =
    when (λ (l : List ℕ). l ≡ chips) (bytes_pass (take 12 chips) && bytes_pass (drop 12 chips))
    (λ t. let right = both (bytes_pass (take 12 chips)) _ t in two_back chips h right.0 right.1)
    (λ _. refl)

-- bytes that passed before and after are those of the panel afterwards
pub over-bytes-at : {from ram₀ chips ram answers : List ℕ} {n compared differing at : ℕ} {whole : ReplayOutcome}
    → BothPass from ram₀ → BothPass chips ram
    → ended_at n at compared differing (panel_in chips ram) answers ≡ whole
    → in_place (tally n at compared differing) chips ram answers ≡ over_bytes from whole
over-bytes-at {chips = chips} before after e =
    rw (← e, before.left, before.right, two_back chips after.size after.left after.right)

module _ (chips ram trace answers : List ℕ) where
  abbrev pub bytes_table : List Cause
  bytes_table = replay_bytes_table chips (length trace) (length ram) (length answers)

  pub bytes-refused : (n at : ℕ) → First bytes_table n at → replay_in_place chips ram trace answers ≡ in_place (nothing_run n at) chips ram answers
  unfolding replay_in_place
  bytes-refused = first-refuses (λ n at. in_place (nothing_run n at) chips ram answers) _ bytes_table

  pub chips-line : (length chips ≡ 24 → ⊥) → First bytes_table 1 0
  chips-line h = inl (ap not (ne_eqb (length chips) 24 h), (refl, refl))

  pub bytes-passed : NoneHolds bytes_table
      → replay_in_place chips ram trace answers ≡ over_bytes chips (ended_bytes (panel_in chips ram) trace answers)
  unfolding replay_in_place
  bytes-passed = none-refuses (λ n at. in_place (nothing_run n at) chips ram answers) _ bytes_table

  -- its lines but the first
  abbrev pub lines : List Cause
  lines = replay_table (not (bytes_pass (take 12 chips))) (not (bytes_pass (drop 12 chips))) (length trace) (length ram) (length answers)

  -- on 24 bytes it is the replay on the panel that is read from them, written back
  module _ (h : length chips ≡ 24) where
    pub same_lines : lines ≡ table (panel_in chips ram) trace answers
    same_lines = rw (left-passes chips h _ refl, right-passes chips h _ refl)

    pub on-panel : replay_in_place chips ram trace answers ≡ over_bytes chips (replay_of (panel_in chips ram) trace answers)
    unfolding replay_in_place replay_of
    on-panel =
        let refuse : ℕ → ℕ → InPlace Tally = λ n at. in_place (nothing_run n at) chips ram answers in
        let done = over_bytes chips (ended_bytes (panel_in chips ram) trace answers) in
        let past : replay_in_place chips ram trace answers ≡ unless_refused lines refuse done = rw (eq-eqb (length chips) 24 h) in
        past
        ∙ ap (λ (t : List Cause). unless_refused t refuse done) same_lines
        ∙ sym
        (table-as (over_bytes chips) (table (panel_in chips ram) trace answers)
        {refuse = λ n at. refused_at n at (panel_in chips ram) answers} {refused = refuse} (λ n at. rw (kept chips h)) refl)

  -- code that computes the verdict of these lines first
  module _ (v : Verdict) (e : v ≡ verdict_by lines (verdict 0 0)) where
    pub verdict-line : length chips ≡ 24 → (v.number ≡ 0 → ⊥) → First bytes_table v.number v.place
    verdict-line h nonzero = inr (ap not (eq-eqb (length chips) 24 h), refusing-line lines v 0 e nonzero)

    pub verdict-passed : v.number ≡ 0 → NoneHolds lines
    verdict-passed = passing-table lines v 0 e (λ z. omega arith, (λ z. omega arith, (λ z. omega arith, (λ z. omega arith, tt))))

  -- bytes that no line refuses
  pub lines_fit : length chips ≡ 24 → NoneHolds lines → BothPass chips ram
  lines_fit h none =
      record {
        size = h;
        left = not-false (bytes_pass (take 12 chips)) none.1.0;
        right = not-false (bytes_pass (drop 12 chips)) none.1.1.0;
        image = (sizes-right (length trace) (length trace / 4) (length ram) (length answers) none.0).image;
      }

  pub lines-passed : length chips ≡ 24 → NoneHolds lines → NoneHolds bytes_table
  lines-passed h none = (ap not (eq-eqb (length chips) 24 h), none)

pub replay-bytes-numbers : ReplayBytesNumbers
unfolding replay_in_place
replay-bytes-numbers chips ram trace answers =
    let sizes = bytes_table chips ram trace answers in
    let run = ended_bytes (panel_in chips ram) trace answers in
    rw (table-as (λ (i : InPlace Tally). tally_verdict i.answer) sizes (λ n at. refl) refl) (exactly-when sizes (tally_verdict run.answer))

pub every-refusal-before : EveryRefusalBefore
every-refusal-before = bytes-refused

-- bytes whose chips are in range, over the whole image
pub both-pass : (chips ram : List ℕ) → length chips ≡ 24 → in_range (chips_in chips).left ≡ true → in_range (chips_in chips).right ≡ true
    → length ram ≡ 640 → BothPass chips ram
both-pass chips ram h left right image =
    let l : in_range (chip_in (take 12 chips)) ≡ true = rw (two-chips chips h) at left in
    let r : in_range (chip_in (drop 12 chips)) ≡ true = rw (two-chips chips h) at right in
    record { size = h; left = sym (passes (take 12 chips)) ∙ l; right = sym (passes (drop 12 chips)) ∙ r; image = image }

-- a chip out of range: the panel stays
out_of_range : (p : Panel) (trace answers : List ℕ) → (in_range p.left && in_range p.right) ≡ false → panel_after (replay_of p trace answers) ≡ p
unfolding replay_of
out_of_range p trace answers out =
    each_line (λ n at. refused_at n at p answers) (ended_bytes p trace answers) (λ (o : ReplayOutcome). panel_after o ≡ p) (table p trace answers)
    (λ n at _. refl)
    (λ none.
    let left = not-false (in_range p.left) none.1.0 in
    let right = not-false (in_range p.right) none.1.1.0 in
    absurd (true≢false (rw (left, right) at out)))

-- the panel of two chips, read from their bytes
pub panel-there : (left right : Chip) (ram : List ℕ) → panel_in (chips_bytes left right) ram ≡ as_panel left right ram
panel-there left right ram = ap (λ (c : Chips). as_panel c.left c.right ram) (two-there left right)

-- a panel read back from the bytes of two chips, where it is theirs if one of them is out of range
pub panel-back : (left right : Chip) (ram : List ℕ) (p : Panel) → ((in_range left && in_range right) ≡ false → p ≡ as_panel left right ram)
    → panel_in (rewritten (chips_bytes left right) p.left p.right) p.ram ≡ p
panel-back left right ram p stays =
    rw (two-pass left right)
    (when (λ (l : List ℕ). panel_in l p.ram ≡ p) (in_range left && in_range right)
    (λ _. panel-there p.left p.right p.ram)
    (λ f. let same = stays f in
    panel-there left right p.ram ∙ ap (λ (q : Panel). as_panel left right q.ram) same ∙ sym same))

-- what stands after a replay over bytes, with the chips read back
abbrev as_outcome : InPlace Tally → ReplayOutcome
as_outcome i =
    let a = i.answer in
    ended_at a.number a.place a.compared a.differing (panel_in i.lent.state i.lent.ram) i.lent.answers

pub by_value : (left right : Chip) (chips ram trace answers : List ℕ) (i : InPlace Tally) → chips ≡ chips_bytes left right
    → i ≡ replay_in_place chips ram trace answers → as_outcome i ≡ replay_of (as_panel left right ram) trace answers
by_value left right chips ram trace answers i theirs e =
    let whole = replay_of (as_panel left right ram) trace answers in
    let on-records = on-panel (chips_bytes left right) ram trace answers (two-length left right) in
    let same = (rw theirs at e) ∙ (rw (two-there left right) at on-records) in
    let back = panel-back left right ram (panel_after whole) (out_of_range (as_panel left right ram) trace answers) in
    let a = whole.answer in
    ap as_outcome same
    ∙ ap (λ (q : Panel). ended_at a.number a.place a.compared a.differing q whole.lent.answers) back
