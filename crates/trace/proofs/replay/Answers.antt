-- `trace::replay` meets its contract: without 640 counts it is refused; else it is the replay over the bytes of both chips, which are read back.
use mathlib.Core.Path.{sym, ap, ◌∙◌}
use Prim.Native.Nat.{ℕ}
use mathlib.Core.List.{List}
use native.Mathlib.Omega.{arith}
use Rattle.trace.specs.Wear.{replay_wear}
use Rattle.trace.proofs.InPlace.{by_value}
use Rattle.trace.proofs.WithWear.{both_left, wear-refused, with-wear, wear-over-bytes}
use Rattle.trace.proofs.replay.Goals as goal

pub returns-then-wear-ne-IMAGE_BYTES : goal.returns-then-wear-ne-IMAGE_BYTES
returns-then-wear-ne-IMAGE_BYTES c =
    rw (c.refused-tally.ensures, c.new.ensures) (sym (wear-refused _ _ _ _ (λ size. omega arith)))

pub returns : goal.returns
returns c =
    let at = c.args in
    let theirs = c.chips_bytes-bytes.ensures in
    let given = c.replay_counting-tally.ensures in
    both_left (rw c.chips_in-chips.ensures (by_value _ _ _ _ _ _ _ theirs given.ran))
    (given.wear
    ∙ ap (λ (chips : List ℕ). replay_wear chips at.ram.now at.trace.now at.answers.now at.wear.now) theirs
    ∙ wear-over-bytes at.chips.left at.chips.right _ _ _ _ (omega arith))
    ∙ sym (with-wear _ _ _ _ (omega arith))
