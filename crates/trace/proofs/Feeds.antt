-- Parts given one after the other run the whole records of all their bytes; so any cut of a trace is its replay.
use Prim.Native.Nat.{ℕ, ◌+◌, ◌/◌, ◌%◌, ◌≤◌}
use native.Mathlib.Omega.{arith}
use mathlib.Core.Path.{◌≡◌, sym, ap, ◌∙◌}
use mathlib.Core.List.{List, [], ◌∷◌, ◌++◌, flat_map, append-nil, append_assoc}
use lib.ListN.{length, length-append}
use Rattle.basics.specs.Lists.{pieces}
use Rattle.basics.specs.Run.{run_of}
use Rattle.panel.specs.Panel.{Whole}
use Rattle.panel.specs.Panel.{Panel}
use Rattle.panel.specs.Trace.{trace_run}
use Rattle.sed1520.specs.Replies.{compared_in, differing_in, replies_bytes}
use Rattle.trace.specs.Feed.{begun, as_feed, open_of, PartOutcome, part_outcome, fed_by}
use Rattle.trace.specs.FeedPromises.{Part, joined_bytes, fed_parts, Taken, fed_after}
use Rattle.trace.specs.FeedPromises.{FeedsRun, BuffersFit, Short, FittingTaken}
use Rattle.trace.specs.declared.progress.Ending.TheVariants.{Open}
use Rattle.trace.specs.declared.feed.Fed.{Fed}
use Rattle.trace.proofs.FeedCases.{StateRight, open_done, right-state}
use Rattle.trace.proofs.Feeding.{takes-if, takes, nothing-refuses}
use Rattle.trace.proofs.RunNumbers.{own-number, run-number}

module _ (p : Panel) where
  -- what a feed that took bytes holds and gave
  abbrev pub fed_at : List ℕ → Fed
  fed_at bytes = fed_after (trace_run p bytes) bytes

  abbrev pub image_at : List ℕ → List ℕ
  image_at bytes = (trace_run p bytes).state.ram

  abbrev answers_at : List ℕ → List ℕ
  answers_at bytes = replies_bytes (trace_run p bytes).answers

  record Reaches (bytes more : List ℕ) (end : PartOutcome) : Type 0 where
    fed : fed_by end ≡ fed_at (bytes ++ more)
    image : end.lent.ram ≡ image_at (bytes ++ more)
    answers : answers_at bytes ++ end.lent.answers ≡ answers_at (bytes ++ more)

  feeds-from : (xs : List Part) (bytes : List ℕ) → Taken (fed_at bytes).feed (image_at bytes) xs
      → Reaches bytes (joined_bytes xs) (fed_parts (fed_at bytes) (image_at bytes) xs)
  unfolding fed_parts Taken flat_map
  feeds-from [] bytes h =
      let same = sym (append-nil bytes) in
      record { fed = ap fed_at same; image = ap image_at same; answers = append-nil (answers_at bytes) ∙ ap answers_at same }
  feeds-from (x ∷ xs) bytes h =
      let here = takes p bytes x h.0 in
      let rest = feeds-from xs (bytes ++ x.bytes) (rw (here.feed, here.image) at h.1) in
      let all = append_assoc bytes x.bytes (joined_bytes xs) in
      record {
        fed = rw (here.tally, here.feed, here.image, ← all) rest.fed;
        image = rw (here.tally, here.feed, here.image, ← all) rest.image;
        answers =
            rw (← all, ← rest.answers, ← here.answers, here.tally, here.feed, here.image) (sym (append_assoc (answers_at bytes) _ _));
      }

  -- parts that are short, have room and are countable are taken
  taken-from : Whole p → (xs : List Part) (bytes : List ℕ) → Short xs → BuffersFit (length bytes % 4) xs
      → (length bytes + length (joined_bytes xs)) / 4 ≤ 4294967295 → Taken (fed_at bytes).feed (image_at bytes) xs
  unfolding Taken Short BuffersFit flat_map
  taken-from whole [] bytes short room countable = tt
  taken-from whole (x ∷ xs) bytes short room countable =
      let joined = length-append x.bytes (joined_bytes xs) in
      let on = length-append bytes x.bytes in
      let here = takes-if p bytes x (λ done. nothing-refuses p whole bytes done x short.0 room.0 (omega (arith, joined))) in
      let left : (length bytes % 4 + length x.bytes) % 4 ≡ length (bytes ++ x.bytes) % 4 = omega (arith, on) in
      let rest = taken-from whole xs (bytes ++ x.bytes) short.1 (rw left at room.1) (omega (arith, joined, on)) in
      rw (here.tally, here.feed, here.image) (own-number (trace_run p (bytes ++ x.bytes)).number (run-number p whole (bytes ++ x.bytes)), rest)

  -- an opened feed took no bytes yet
  pub opened : Whole p → open_of p.left p.right ≡ fed_at []
  unfolding run_of pieces compared_in differing_in
  opened whole =
      let f = as_feed p.left p.right (begun Open) in
      let right : StateRight f =
      record { left = whole.left; right = whole.right; few = omega arith; compared = omega arith; differing = omega arith } in
      open_done p.left p.right (right-state f right)

built : (end : PartOutcome) {d : Fed} {ram answers : List ℕ} → fed_by end ≡ d → end.lent.ram ≡ ram → end.lent.answers ≡ answers
    → end ≡ part_outcome d ram answers
built end f i a = rw (← f, ← i, ← a)

pub feeds-run : FeedsRun
unfolding run_of pieces flat_map
feeds-run p whole xs h =
    let at-start = opened p whole in
    let end = feeds-from p xs [] (rw at-start at h) in
    rw at-start (built (fed_parts (fed_at p []) p.ram xs) end.fed end.image end.answers)

pub fitting-taken : FittingTaken
unfolding run_of pieces
fitting-taken p whole xs short room countable = rw (opened p whole) (taken-from p whole xs [] short room (omega arith))
