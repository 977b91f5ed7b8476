-- Two traces one after the other, the first in whole records: run as one, they end as the second does from where the first led, or as the first
-- does where a record of it is refused.
use Prim.Native.Nat.{ℕ, ◌+◌, ◌*◌}
use native.Mathlib.Omega.{arith}
use mathlib.Core.Path.{◌≡◌, refl}
use mathlib.Core.List.{List, [], ◌++◌, append_assoc}
use lib.ListN.{length, take, drop, length-append}
use lib.Seq.{take_at, drop_at, drop-drop}
use Rattle.basics.proofs.Lists.{flat_append, flat-length}
use Rattle.basics.proofs.Run.{run_ends, run_join, run-cut, answers-bound}
use Rattle.sed1520.specs.Cycle.{Reply}
use Rattle.panel.specs.Panel.{Panel, panel_step, panel_run}
use Rattle.sed1520.specs.Records.{front}
use Rattle.sed1520.specs.declared.bus.Record.{Record}
use Rattle.trace.specs.Replay.{ReplayOutcome, ended_at, panel_after, ended}
use Rattle.sed1520.specs.Replies.{reply_bytes, replies_bytes}
use Rattle.sed1520.proofs.Counts.{compared-join, differing-join, differing-front}

-- the bytes of replies
pub replies-length : (given : List Reply) → length (replies_bytes given) ≡ 2 * length given
replies-length = flat-length reply_bytes 2 (λ a. refl)

-- answers put into a buffer, and more of them behind
answers-join : (given more : List Reply) (buffer : List ℕ) → let once = replies_bytes given ++ drop (2 * length given) buffer in
    let n = 2 * length given in
    replies_bytes (given ++ more) ++ drop (2 * length (given ++ more)) buffer
    ≡ take n once ++ (replies_bytes more ++ drop (2 * length more) (drop n once))
answers-join given more buffer =
    let rest = drop (2 * length given) buffer in
    let wide = replies-length given in
    let both : 2 * length (given ++ more) ≡ 2 * length given + 2 * length more = rw length-append (omega arith) in
    rw (take_at (replies_bytes given) rest (2 * length given) wide, drop_at (replies_bytes given) rest (2 * length given) wide, both)
    (rw (flat_append reply_bytes given more, drop-drop (2 * length more) (2 * length given) buffer)
    (append_assoc (replies_bytes given) (replies_bytes more) _))

module _ (p : Panel) (rs : List Record) (buffer : List ℕ) where
  abbrev first : ReplayOutcome
  first = ended (panel_run p rs) rs buffer

  -- done, all of them are answered
  pub ended-all : first.answer.number ≡ 0 → first.answer.place ≡ length rs
  unfolding ended
  ended-all done = (run_ends panel_step (front []) rs p).done done

  module _ (qs : List Record) where
    pub ended-join : first.answer.number ≡ 0
        → let n = 2 * first.answer.place in let second = ended (panel_run (panel_after first) qs) qs (drop n first.lent.answers) in
        ended (panel_run p (rs ++ qs)) (rs ++ qs) buffer
        ≡ ended_at second.answer.number (first.answer.place + second.answer.place) (first.answer.compared + second.answer.compared)
        (first.answer.differing + second.answer.differing)
        (panel_after second) (take n first.lent.answers ++ second.lent.answers)
    unfolding ended
    ended-join done =
        let given = (panel_run p rs).answers in
        let more = (panel_run (panel_run p rs).state qs).answers in
        rw (run_join panel_step p rs qs done)
        (rw (compared-join given more, differing-join given more rs qs (ended-all done), answers-join given more buffer)
        (rw length-append))

    pub ended-cut : (first.answer.number ≡ 0 → ⊥) → ended (panel_run p (rs ++ qs)) (rs ++ qs) buffer ≡ first
    unfolding ended
    ended-cut h =
        rw (run-cut panel_step p rs qs h) (rw (differing-front (panel_run p rs).answers rs qs (answers-bound panel_step rs p)))
