-- `trace::feed::part_counting` meets its contract: a stopped feed repeats; number 1 for chips that are not 24 bytes; an open feed takes the part.
use native.Mathlib.Omega.{arith}
use mathlib.Core.Path.{◌≡◌, sym, ◌∙◌}
use lib.ListN.{length}
use Rattle.trace.proofs.PartCases.{chips-wrong, still-stopped, still_open}
use Rattle.trace.proofs.WearCases.{stopped-kept, chips-kept, as-open}
use Rattle.trace.proofs.feed.part_counting.Goals as goal

pub returns-then-chips-ne-CHIPS_BYTES : goal.returns-then-chips-ne-CHIPS_BYTES
returns-then-chips-ne-CHIPS_BYTES c =
    let wrong : length c.args.chips.now ≡ 24 → ⊥ = λ size. omega arith in
    record {
      ran = rw (c.reported_in_place-then-chips-ne-CHIPS_BYTES.ensures, c.number.ensures) (sym (chips-wrong _ _ _ _ _ c.in-Open.is wrong));
      wear = sym (chips-kept _ _ _ _ _ _ c.in-Open.is wrong);
    }

pub returns-in-Stopped : goal.returns-in-Stopped
returns-in-Stopped c =
    record {
      ran = rw c.reported_in_place.ensures (sym (still-stopped _ _ _ _ _ _ _ c.in-Stopped.is));
      wear = sym (stopped-kept _ _ _ _ _ _ _ _ c.in-Stopped.is);
    }

pub returns-else-chips-ne-CHIPS_BYTES : goal.returns-else-chips-ne-CHIPS_BYTES
returns-else-chips-ne-CHIPS_BYTES c =
    record {
      ran = c.open_part.ensures.ran ∙ sym (still_open _ _ _ _ _ (omega arith) c.in-Open.is);
      wear = c.open_part.ensures.wear ∙ sym (as-open _ _ _ _ _ _ c.in-Open.is (omega arith));
    }
