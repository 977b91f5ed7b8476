-- `trace::feed::open_part` meets its contract: numbers 1, 13 and 2, then the records.
use Prim.Native.Nat.{ℕ, ◌-◌}
use native.Mathlib.Omega.{arith}
use mathlib.Core.Path.{◌≡◌, refl, sym, ap, ◌∙◌}
use mathlib.Core.Bool.{Bool, not}
use mathlib.Core.List.{List}
use lib.ListN.{length, take, drop}
use Rattle.basics.specs.Verdict.{Verdict}
use Rattle.basics.proofs.Parts.{rest}
use Rattle.basics.proofs.Refusals.{refusal-number}
use Rattle.sed1520.specs.ChipBytes.{bytes_pass}
use Rattle.sed1520.specs.Replies.{InPlace}
use Rattle.sed1520.specs.declared.tally.Tally.{Tally}
use Rattle.panel.proofs.TwoChips.{left-passes, right-passes}
use Rattle.trace.specs.Feed.{part_verdict}
use Rattle.trace.specs.declared.progress.Progress.{Progress}
use Rattle.trace.specs.FeedInPlace.{feed_in}
use Rattle.trace.proofs.Bounds.{tally-few}
use Rattle.trace.proofs.FeedCases.{of_feed, part_right, part-line, part-passed}
use Rattle.trace.proofs.InPlace.{both-pass}
use Rattle.trace.proofs.KeptOver.{joined_length}
use Rattle.trace.proofs.PartCases.{not_taken_lem, part-run}
use Rattle.trace.proofs.WearCases.{open_kept, open-counted}
use Rattle.trace.proofs.feed.open_part.Goals as goal

-- the verdict is that of the feed on the chips that are read from their bytes
reported : {left right : Bool} {v : Verdict} (chips : List ℕ) (t : Progress) (ram part answers : ℕ) → length chips ≡ 24
    → left ≡ bytes_pass (take 12 chips) → right ≡ bytes_pass (take (length chips - 12) (drop 12 chips))
    → v ≡ part_verdict (not left) (not right) t ram part answers
    → v ≡ of_feed part_verdict (feed_in chips t) ram part answers
reported chips t ram part answers size l r e = rw (left-passes chips size _ refl, right-passes chips size _ refl, ← l, ← rest chips 12, ← r) e

-- refused, the line that says so
pub returns-in-Err : goal.returns-in-Err
returns-in-Err c =
    let at = c.args in
    let told = reported at.chips.now at.progress _ _ _ c.requires c.bytes_pass-left_out.ensures c.bytes_pass-right_out.ensures c.in-Err.ensures in
    let line = part-line _ _ _ _ _ told (refusal-number c.in-Err.refused.refusal) in
    record {
      ran = rw (c.reported_in_place.ensures, c.number.ensures) (not_taken_lem _ _ _ _ _ c.requires _ _ line);
      wear = sym (open_kept _ _ _ _ _ _ _ line);
    }

-- else no line does, and the sizes and the state are right
pub run_part-tally-requires : goal.run_part-tally-requires
run_part-tally-requires c =
    let at = c.args in
    let told = reported at.chips.now at.progress _ _ _ c.requires c.bytes_pass-left_out.ensures c.bytes_pass-right_out.ensures c.in_default.ensures in
    let right = part_right _ _ _ _ (part-passed _ _ _ _ _ told refl) in
    record {
      both_pass = both-pass _ _ c.requires right.state.left right.state.right right.sizes.image;
      kept_bound = right.state.few;
      part_len_bound = right.sizes.short;
      part_in_bounds = right.sizes.space;
    }

pub moved_on-next-requires : goal.moved_on-next-requires
moved_on-next-requires c =
    let at = c.args in
    let told = reported at.chips.now at.progress _ _ _ c.requires c.bytes_pass-left_out.ensures c.bytes_pass-right_out.ensures c.in_default.ensures in
    let right = part_right _ _ _ _ (part-passed _ _ _ _ _ told refl) in
    let few = tally-few _ _ _ (ap (λ (i : InPlace Tally). i.answer) c.run_part-tally.ensures.ran) in
    let state = right.state in
    let bytes = joined_length at.progress state.few at.part.now in
    record {
      kept_bound = state.few;
      part_len_bound = right.sizes.short;
      place_bound = omega (arith, few.place-few, bytes, right.countable);
      compared_bound = omega (arith, few.compared-few, bytes, right.countable, state.compared);
      differing_bound = omega (arith, few.differing-few, bytes, right.countable, state.compared, state.differing);
    }

pub returns : goal.returns
returns c =
    let at = c.args in
    let told = reported at.chips.now at.progress _ _ _ c.requires c.bytes_pass-left_out.ensures c.bytes_pass-right_out.ensures c.in_default.ensures in
    let none = part-passed _ _ _ _ _ told refl in
    record {
      ran = rw c.reported_in_place-2.ensures (part-run _ _ _ _ _ c.requires none _ c.run_part-tally.ensures.ran _ c.moved_on-next.ensures);
      wear = c.run_part-tally.ensures.wear ∙ sym (open-counted _ _ _ _ _ none);
    }
