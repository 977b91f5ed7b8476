-- What the parts of a feed leave in their counts adds up to the stores of all their records, and so at any cut to what the replay leaves.
use Prim.Native.Nat.{ℕ, ◌+◌, ◌<◌}
use native.Mathlib.Omega.{arith}
use mathlib.Core.Path.{◌≡◌, refl, sym, ap, ◌∙◌}
use mathlib.Core.Bool.{false, not}
use mathlib.Core.List.{List, [], ◌∷◌, ◌++◌, flat_map, append-nil, append_assoc}
use mathlib.Core.Logic.{⊎_elim}
use lib.Dec.{eqb}
use lib.ListN.{length, get_or}
use borrow.Author.Tests.{eqb-true, eqb-false, eq-eqb, ne_eqb}
use Rattle.basics.specs.Counts.{total}
use Rattle.basics.specs.Lists.{pieces}
use Rattle.basics.specs.Run.{Run, run_of}
use Rattle.sed1520.specs.Cycle.{Reply}
use Rattle.basics.proofs.Tests.{tested}
use Rattle.panel.specs.Panel.{Panel, Whole}
use Rattle.panel.specs.Trace.{trace_run}
use Rattle.sed1520.specs.Replies.{stores_to}
use Rattle.sed1520.proofs.Counts.{stores-join}
use Rattle.trace.specs.Feed.{PartOutcome, unless_stopped, open_of}
use Rattle.trace.specs.FeedPromises.{Part, joined_bytes, given, refuses_part, Taken}
use Rattle.trace.specs.Wear.{WithWear, part_with_wear, part_replies}
use Rattle.trace.specs.WearPromises.{PartAndWear, parts_of, WearFits, wear_left, added_up, WearAddsUp}
use Rattle.trace.specs.declared.progress.Ending.{Ending}
use Rattle.trace.specs.declared.progress.Ending.TheVariants.{Open}
use Rattle.trace.specs.declared.feed.Feed.{Feed}
use Rattle.trace.proofs.AnyCut.{taken-whole}
use Rattle.trace.proofs.Feeding.{passed, takes, same-run, replies-after}
use Rattle.trace.proofs.Feeds.{fed_at, image_at, opened}
use Rattle.trace.proofs.WearCounts.{stores_at}
use Rattle.trace.proofs.WearRefusals.{as-without-wear}
use Rattle.trace.proofs.WearSums.{part-wear, wear-counted}

-- a part given to a feed that is open, and what those behind it leave
open-left : (f : Feed) (ram : List ℕ) (x : PartAndWear) (xs : List PartAndWear) → f.progress.ending ≡ Open
    → let o = part_with_wear f ram x.part.bytes x.part.buffer x.wear in
    wear_left f ram (x ∷ xs) ≡ o.wear ∷ wear_left o.outcome.lent.state o.outcome.lent.ram xs
unfolding wear_left
open-left f ram x xs is =
    let o = part_with_wear f ram x.part.bytes x.part.buffer x.wear in
    ap (λ (e : Ending). unless_stopped e (λ n at. []) (o.wear ∷ wear_left o.outcome.lent.state o.outcome.lent.ram xs)) is

module _ (p : Panel) (i : ℕ) (below : i < 640) where
  -- the stores of the records of some bytes, and what further parts leave behind them
  abbrev stores_by : List ℕ → ℕ
  stores_by bytes = stores_to i (trace_run p bytes).answers

  abbrev left_by : List ℕ → List PartAndWear → ℕ
  left_by bytes xs = added_up i (wear_left (fed_at p bytes).feed (image_at p bytes) xs)

  -- a stopped feed takes no more parts
  stopped-adds : (xs : List PartAndWear) (bytes : List ℕ) → ((trace_run p bytes).number ≡ 0 → ⊥)
      → stores_by bytes + left_by bytes xs ≡ stores_by (bytes ++ joined_bytes (parts_of xs))
  unfolding wear_left total
  stopped-adds xs bytes h =
      let same = same-run p bytes (record { bytes = joined_bytes (parts_of xs); buffer = [] }) h in
      rw (none xs) (omega (arith, ap (λ (r : Run Panel Reply). stores_to i r.answers) same))
    where
      none : (xs : List PartAndWear) → left_by bytes xs ≡ 0
      none [] = refl
      none (x ∷ xs) = rw (ne_eqb (trace_run p bytes).number 0 h)

  module _ (x : PartAndWear) (xs : List PartAndWear) (bytes : List ℕ) (fits : length x.wear ≡ 640)
      (taken : refuses_part (given (fed_at p bytes).feed (image_at p bytes) x.part).answer.number ≡ false)
      (done : (trace_run p bytes).number ≡ 0) where
    abbrev part : Part
    part = x.part

    abbrev f : Feed
    f = (fed_at p bytes).feed

    abbrev o : WithWear PartOutcome
    o = part_with_wear f (image_at p bytes) part.bytes part.buffer x.wear

    abbrev own : List Reply
    own = part_replies f (image_at p bytes) part.bytes

    is_open : f.progress.ending ≡ Open
    is_open = rw (eq-eqb (trace_run p bytes).number 0 done)

    -- a part of a feed that is open leaves its own stores, and the feed that took its bytes too
    one_left : left_by bytes (x ∷ xs) ≡ stores_to i own + left_by (bytes ++ part.bytes) xs
    unfolding total
    one_left =
        let here = takes p bytes part taken in
        let none = passed p bytes part taken done in
        let left = part-wear f (image_at p bytes) part.bytes part.buffer x.wear is_open (ap not (eq-eqb (length x.wear) 640 fits), none) in
        let same = as-without-wear.part f (image_at p bytes) part.bytes part.buffer x.wear fits in
        let counted = ap (λ (w : List ℕ). get_or w i 0) left ∙ stores_at own 640 i below in
        let behind : added_up i (wear_left o.outcome.lent.state o.outcome.lent.ram xs) ≡ left_by (bytes ++ part.bytes) xs =
        ap (λ (o : PartOutcome). added_up i (wear_left o.lent.state o.lent.ram xs)) same ∙ rw (here.feed, here.image) in
        ap (added_up i) (open-left f (image_at p bytes) x xs is_open) ∙ rw (counted, behind)

    joined : stores_by (bytes ++ part.bytes) ≡ stores_by bytes + stores_to i own
    joined = ap (stores_to i) (replies-after p bytes part done) ∙ stores-join i (trace_run p bytes).answers own

  adds-from : (xs : List PartAndWear) (bytes : List ℕ) → WearFits xs → Taken (fed_at p bytes).feed (image_at p bytes) (parts_of xs)
      → stores_by bytes + left_by bytes xs ≡ stores_by (bytes ++ joined_bytes (parts_of xs))
  unfolding WearFits Taken flat_map wear_left total
  adds-from [] bytes fits taken = rw (append-nil bytes) (omega arith)
  adds-from (x ∷ xs) bytes fits taken =
      ⊎_elim
      (λ z. let done = eqb-true (trace_run p bytes).number 0 z in
      let here = takes p bytes x.part taken.0 in
      let rest = adds-from xs (bytes ++ x.part.bytes) fits.1 (rw (here.feed, here.image) at taken.1) in
      let all = append_assoc bytes x.part.bytes (joined_bytes (parts_of xs)) in
      rw (← all) (omega (arith, rest, one_left x xs bytes fits.0 taken.0 done, joined x xs bytes fits.0 taken.0 done)))
      (λ z. stopped-adds (x ∷ xs) bytes (eqb-false (trace_run p bytes).number 0 z))
      (tested (eqb (trace_run p bytes).number 0))

parts-add-up : (p : Panel) → Whole p → (xs : List PartAndWear) → WearFits xs → Taken (open_of p.left p.right).feed p.ram (parts_of xs)
    → (i : ℕ) → i < 640
    → added_up i (wear_left (open_of p.left p.right).feed p.ram xs) ≡ stores_to i (trace_run p (joined_bytes (parts_of xs))).answers
unfolding run_of pieces flat_map stores_to
parts-add-up p whole xs fits taken i below =
    let start = opened p whole in
    let all = adds-from p i below xs [] fits (rw start at taken) in
    rw start (omega (arith, all))

pub wear-adds-up : WearAddsUp
wear-adds-up =
    record {
      parts = parts-add-up;
      at-any-cut = λ p trace buffer wear r h xs fits joined room i below.
          let all = parts-add-up p r.panel xs fits (taken-whole p trace buffer r (parts_of xs) joined room) i below in
          (rw joined at all) ∙ sym (wear-counted.each p trace buffer wear r h i below);
    }
