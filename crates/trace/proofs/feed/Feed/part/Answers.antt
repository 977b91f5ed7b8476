-- `trace::feed::Feed::part` meets its contract: without 640 counts a stopped feed repeats and an open one refuses; else the part is given over the
-- bytes of both chips, which are read back.
use Prim.Native.Nat.{ℕ}
use native.Mathlib.Omega.{arith}
use mathlib.Core.Path.{◌≡◌, refl, sym, ap, ◌∙◌}
use mathlib.Core.List.{List}
use Rattle.trace.specs.Feed.{unless_stopped, as_fed, as_feed, fed_with, part_outcome, not_taken}
use Rattle.panel.specs.declared.chips.Chips.{Chips}
use Rattle.trace.specs.Wear.{part_wear}
use Rattle.trace.specs.declared.feed.Feed.{Feed}
use Rattle.trace.specs.declared.progress.Ending.{Ending}
use Rattle.trace.specs.declared.progress.Ending.TheVariants.{Open, Stopped}
use Rattle.trace.proofs.PartCases.{by_value}
use Rattle.trace.proofs.WithWear.{both_left, part-wear-refused, part-with-wear, part-wear-over-bytes}
use Rattle.trace.proofs.feed.Feed.part.Goals as goal

-- a feed that repeats or refuses takes no part
not-given : (f : Feed) (ram answers : List ℕ) (e : Ending)
    → part_outcome (unless_stopped e (fed_with f) (fed_with f 1 0)) ram answers
    ≡ unless_stopped e (not_taken f ram answers) (not_taken f ram answers 1 0)
not-given f ram answers Open = refl
not-given f ram answers (Stopped n at) = refl

pub returns-then-wear-ne-IMAGE_BYTES : goal.returns-then-wear-ne-IMAGE_BYTES
returns-then-wear-ne-IMAGE_BYTES c =
    let at = c.args in
    both_left (rw c.wrong_wear.ensures (not-given at.self at.ram.now at.answers.now at.self.progress.ending)) refl
    ∙ sym (part-wear-refused at.self _ _ _ _ (λ size. omega arith))

pub returns : goal.returns
returns c =
    let at = c.args in
    let f = at.self in
    let theirs = c.chips_bytes-bytes.ensures in
    let went = c.part_counting-went in
    let t = went.result in
    both_left
    (ap (λ (both : Chips). part_outcome (as_fed t.tally (as_feed both.left both.right t.progress)) went.new.ram went.new.answers)
    c.chips_in-chips.ensures
    ∙ by_value _ _ _ _ _ _ _ theirs _ went.ensures.ran)
    (went.ensures.wear
    ∙ ap (λ (chips : List ℕ). part_wear chips f.progress at.ram.now at.part.now at.answers.now at.wear.now) theirs
    ∙ part-wear-over-bytes f.chips.left f.chips.right f.progress _ _ _ _)
    ∙ sym (part-with-wear f _ _ _ _ (omega arith))
