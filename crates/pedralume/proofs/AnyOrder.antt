-- In any order between the chips a trace ends the same; so the panel shows the same at the end, and the C calls come to the same.
use Prim.Native.Nat.{ℕ}
use mathlib.Core.Path.{◌≡◌, ap}
use mathlib.Core.List.{List}
use Rattle.frame.proofs.FrameCases.{every-frame-given}
use Rattle.panel.specs.Panel.{Panel, Whole}
use Rattle.panel.proofs.PanelLaws.{after-whole}
use Rattle.sed1520.specs.declared.tally.Tally.{Tally}
use Rattle.trace.specs.Replay.{panel_after}
use Rattle.trace.specs.Wear.{replay_with_wear}
use Rattle.trace.proofs.AnyOrder.{accepted-lent, accepted-wear, in-any-order}
use Rattle.trace.proofs.Ends.{every-replay-ends}
use Rattle.trace.proofs.WearRefusals.{as-without-wear}
use Rattle.pedralume.specs.AnyOrder.{TwoChipsOneBus}
use Rattle.pedralume.specs.Call.{packed}

-- the panel that an accepted replay leaves is whole, so it has a frame
left-whole : (p : Panel) (trace answers wear : List ℕ) → (replay_with_wear p trace answers wear).outcome.answer.number ≡ 0
    → Whole (panel_after (replay_with_wear p trace answers wear).outcome)
left-whole p trace answers wear accepted =
    let plain = as-without-wear.replay p trace answers wear (accepted-wear p trace answers wear accepted) in
    let lent = accepted-lent p trace answers (rw plain at accepted) in
    rw (plain, (every-replay-ends p trace answers lent).panel) (after-whole _ p lent.panel)

pub two-chips-one-bus : TwoChipsOneBus
two-chips-one-bus =
    record {
      replay = λ p trace answers wear accepted other buffer counts reordered room size.
          let same = in-any-order.replay p trace answers wear accepted other buffer counts reordered room size in
          record {
            end = same.0;
            wear = same.1;
            frame = λ frame long.
                let shown = every-frame-given _ frame (left-whole p trace answers wear accepted) long in
                (shown, rw (← same.0.state, ← same.0.ram) shown);
          };
      calls = λ chips ram trace answers accepted other buffer reordered room.
          let same = in-any-order.in_place chips ram trace answers accepted other buffer reordered room in
          record {
            number = ap (λ (a : Tally). packed a.number a.place a.compared a.differing) same.reported;
            answers = same.answers;
            chips = same.state;
            ram = same.ram;
            frame = λ frame. rw (same.state, same.ram);
          };
    }
