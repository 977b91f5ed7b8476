-- A part given over chip bytes, past each test; and by value, the chips read back.
use Prim.Native.Nat.{ℕ}
use mathlib.Core.Path.{◌≡◌, refl, ap, ◌∙◌}
use mathlib.Core.Bool.{false, ◌&&◌, true≢false}
use mathlib.Core.List.{List}
use lib.ListN.{length, take, drop}
use borrow.Author.Tests.{eq-eqb, ne_eqb}
use Rattle.basics.specs.Table.{First, NoneHolds}
use Rattle.basics.proofs.Table.{each_line}
use Rattle.basics.proofs.Tests.{when}
use Rattle.sed1520.specs.Chip.{in_range}
use Rattle.sed1520.specs.ChipBytes.{bytes_pass}
use Rattle.sed1520.specs.declared.registers.Chip.{Chip}
use Rattle.panel.specs.Chips.{chips_bytes, panel_in}
use Rattle.panel.specs.Panel.{Panel, as_panel}
use Rattle.panel.proofs.TwoChips.{two-length, two-there}
use Rattle.trace.specs.Replay.{ended_bytes, rewritten, over_bytes}
use Rattle.sed1520.specs.Replies.{InPlace, in_place}
use Rattle.trace.specs.Feed.{joined_to, as_feed, part_table, as_fed, PartOutcome, part_outcome, not_taken, took_part, moved_on, open_part, part_of}
use Rattle.trace.specs.FeedInPlace.{feed_in, fed_in_place, part_over_bytes, part_in_place}
use Rattle.sed1520.specs.declared.tally.Tally.{Tally}
use Rattle.trace.specs.declared.progress.Progress.{Progress}
use Rattle.trace.specs.declared.progress.Ending.{Ending}
use Rattle.trace.specs.declared.progress.Ending.TheVariants.{Open, Stopped}
use Rattle.trace.specs.declared.feed.FedInPlace.{FedInPlace}
use Rattle.trace.proofs.FeedCases.{of_feed, part_right, part-refused, part-taken, by-ending, stays-stopped, goes_on}
use Rattle.trace.proofs.InPlace.{kept, panel-back}

module _ (chips ram part answers : List ℕ) (t : Progress) where
  pub still-stopped : (n at : ℕ) → t.ending ≡ Stopped n at
      → part_in_place chips t ram part answers ≡ in_place (fed_in_place t n at) chips ram answers
  unfolding part_in_place
  still-stopped n at e = rw e

  pub chips-wrong : t.ending ≡ Open → (length chips ≡ 24 → ⊥)
      → part_in_place chips t ram part answers ≡ in_place (fed_in_place t 1 0) chips ram answers
  unfolding part_in_place
  chips-wrong e h = rw (e, ne_eqb (length chips) 24 h)

  module _ (size : length chips ≡ 24) where
    pub still_open : t.ending ≡ Open
        → part_in_place chips t ram part answers ≡ part_over_bytes chips (open_part (feed_in chips t) ram part answers)
    unfolding part_in_place
    still_open e = rw (e, eq-eqb (length chips) 24 size)

    pub not_taken_lem : (n at : ℕ) → First (of_feed part_table (feed_in chips t) (length ram) (length part) (length answers)) n at
        → in_place (fed_in_place t n at) chips ram answers ≡ part_over_bytes chips (open_part (feed_in chips t) ram part answers)
    not_taken_lem n at first = rw (part-refused (feed_in chips t) ram part answers n at first) (rw (kept chips size))

    pub part-run : NoneHolds (of_feed part_table (feed_in chips t) (length ram) (length part) (length answers))
        → (i : InPlace Tally) → i ≡ over_bytes chips (ended_bytes (panel_in chips ram) (joined_to t part) answers)
        → (next : Progress) → next ≡ moved_on t (joined_to t part) i.answer
        → in_place (fed_in_place next i.answer.number next.records) i.lent.state i.lent.ram i.lent.answers
        ≡ part_over_bytes chips (open_part (feed_in chips t) ram part answers)
    part-run none i ran next moved = rw (part-taken (feed_in chips t) ram part answers none) (rw moved (rw ran))

-- by value
module _ (left right : Chip) (t : Progress) (ram part answers : List ℕ) where
  -- the panel after a part
  abbrev panel_left : PartOutcome → Panel
  panel_left o = as_panel o.lent.state.chips.left o.lent.state.chips.right o.lent.ram

  abbrev Stays : PartOutcome → Type 0
  Stays o = panel_left o ≡ as_panel left right ram

  -- a chip out of range: the part is not taken
  out_of_range : (in_range left && in_range right) ≡ false → Stays (part_of (as_feed left right t) ram part answers)
  unfolding part_of open_part
  out_of_range out =
      let f = as_feed left right t in
      by-ending Stays t.ending (λ n at e. refl)
      (λ _. each_line (not_taken f ram answers)
      (took_part f (joined_to t part) (ended_bytes (as_panel left right ram) (joined_to t part) answers)) Stays
      (of_feed part_table f (length ram) (length part) (length answers)) (λ n at _. refl)
      (λ none. let state = (part_right f _ _ _ none).state in
      absurd (true≢false (rw (state.left, state.right) at out))))

  abbrev theirs : List ℕ
  theirs = chips_bytes left right

  same_bytes : rewritten theirs left right ≡ theirs
  same_bytes = when (λ (l : List ℕ). l ≡ theirs) (bytes_pass (take 12 theirs) && bytes_pass (drop 12 theirs)) (λ _. refl) (λ _. refl)

  -- over the bytes of both chips it is the part by value, written back
  pub on-bytes : part_in_place theirs t ram part answers ≡ part_over_bytes theirs (part_of (as_feed left right t) ram part answers)
  on-bytes = either t.ending refl
    where
      either : (e : Ending) → t.ending ≡ e
          → part_in_place theirs t ram part answers ≡ part_over_bytes theirs (part_of (as_feed left right t) ram part answers)
      either (Stopped n at) e =
          still-stopped theirs ram part answers t n at e ∙ rw (stays-stopped (as_feed left right t) ram part answers n at e) (rw same_bytes)
      either Open e =
          still_open theirs ram part answers t (two-length left right) e
          ∙ rw (goes_on (as_feed left right t) ram part answers e, two-there left right)

  pub by_value : (chips : List ℕ) → chips ≡ theirs → (i : InPlace FedInPlace) → i ≡ part_in_place chips t ram part answers
      → part_outcome (as_fed i.answer.tally (feed_in i.lent.state i.answer.progress)) i.lent.ram i.lent.answers
      ≡ part_of (as_feed left right t) ram part answers
  by_value chips same i e =
      let o = part_of (as_feed left right t) ram part answers in
      let back = panel-back left right ram (panel_left o) out_of_range in
      let there : i ≡ part_over_bytes theirs o = (rw same at e) ∙ on-bytes in
      let next = o.lent.state.progress in
      rw there (ap (λ (p : Panel). part_outcome (as_fed o.answer (as_feed p.left p.right next)) o.lent.ram o.lent.answers) back)
