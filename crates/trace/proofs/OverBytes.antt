-- Runs over chip bytes, one after the other: the second begins at the panel that the first left, and together they are one run.
use Prim.Native.Nat.{ℕ, ◌+◌, ◌-◌, ◌*◌, ◌/◌}
use native.Mathlib.Omega.{arith}
use mathlib.Core.Path.{◌≡◌, sym, ap, ◌∙◌}
use mathlib.Core.Bool.{true}
use mathlib.Core.List.{List, [], ◌++◌, append-nil}
use lib.ListN.{length, take, drop, length-drop, drop_of_length-le}
use Rattle.panel.specs.Chips.{chips_bytes, panel_in, BothPass}
use Rattle.panel.specs.Panel.{Whole}
use Rattle.panel.specs.Panel.{Panel, panel_step, panel_run}
use Rattle.basics.specs.Run.{Run}
use Rattle.basics.proofs.Run.{run_join, run-cut}
use Rattle.sed1520.specs.Cycle.{Reply}
use Rattle.sed1520.specs.Records.{whole_records}
use Rattle.sed1520.specs.declared.bus.Record.{Record}
use Rattle.sed1520.specs.declared.registers.Chip.{Chip}
use Rattle.basics.proofs.Parts.{rest}
use Rattle.panel.proofs.PanelLaws.{after-whole}
use Rattle.sed1520.proofs.Records.{records-length, whole-records-join}
use Rattle.panel.proofs.TwoChips.{left-passes, right-passes, two-fit}
use Rattle.sed1520.specs.declared.tally.Tally.{Tally}
use Rattle.trace.specs.Replay.{ReplayOutcome, panel_after, ended, ended_bytes, rewritten, over_bytes}
use Rattle.sed1520.specs.Replies.{InPlace, in_place, tally}
use Rattle.panel.specs.Trace.{trace_run}
use Rattle.trace.specs.Wear.{worn}
use Rattle.trace.proofs.WearCounts.{worn-more}
use Rattle.trace.proofs.InPlace.{panel-there}
use Rattle.trace.proofs.Joined.{ended-all, ended-join, ended-cut}

-- chip bytes that pass are rewritten to those of a panel's chips
rewritten-to : {chips ram : List ℕ} → BothPass chips ram → (left right : Chip) → rewritten chips left right ≡ chips_bytes left right
rewritten-to fit left right = rw (fit.left, fit.right)

module _ {chips ram : List ℕ} (fit : BothPass chips ram) where
  -- their panel is in range over the whole image
  pub whole-panel : Whole (panel_in chips ram)
  whole-panel =
      record {
        left = left-passes chips fit.size true fit.left;
        right = right-passes chips fit.size true fit.right;
        image = fit.image;
      }

  -- what a run over them leaves is its panel, and fits again where that is whole
  module _ {i : InPlace Tally} (o : ReplayOutcome) (e : i ≡ over_bytes chips o) where
    pub over-panel : panel_in i.lent.state i.lent.ram ≡ panel_after o
    over-panel =
        let c = o.lent.state in
        rw e (rw (rewritten-to fit c.left c.right) (panel-there c.left c.right o.lent.ram))

    pub over-fit : Whole (panel_after o) → BothPass i.lent.state i.lent.ram
    over-fit whole =
        let c = o.lent.state in
        rw e (rw (rewritten-to fit c.left c.right) (two-fit c.left c.right o.lent.ram whole.left whole.right whole.image))

  module _ (rs qs : List Record) (buffer : List ℕ) where
    abbrev first : ReplayOutcome
    first = ended (panel_run (panel_in chips ram) rs) rs buffer

    first-whole : Whole (panel_after first)
    unfolding ended
    first-whole = after-whole rs (panel_in chips ram) whole-panel

    module _ (i : InPlace Tally) (e : i ≡ over_bytes chips first) where
      pub fits_after : BothPass i.lent.state i.lent.ram
      fits_after = over-fit first e first-whole

      pub first-cut : (i.answer.number ≡ 0 → ⊥) → i ≡ over_bytes chips (ended (panel_run (panel_in chips ram) (rs ++ qs)) (rs ++ qs) buffer)
      first-cut h = e ∙ ap (over_bytes chips) (sym (ended-cut (panel_in chips ram) rs buffer qs (λ z. h (rw e z))))

      pub cut-replies : (i.answer.number ≡ 0 → ⊥) → (panel_run (panel_in chips ram) (rs ++ qs)).answers ≡ (panel_run (panel_in chips ram) rs).answers
      unfolding ended
      cut-replies h = rw (run-cut panel_step (panel_in chips ram) rs qs (λ z. h (rw e z)))

      pub both-replies : i.answer.number ≡ 0
          → (panel_run (panel_in chips ram) (rs ++ qs)).answers
          ≡ (panel_run (panel_in chips ram) rs).answers ++ (panel_run (panel_in i.lent.state i.lent.ram) qs).answers
      unfolding ended
      both-replies done =
          ap (λ (run : Run Panel Reply). run.answers) (run_join panel_step (panel_in chips ram) rs qs (rw e at done))
          ∙ ap (λ (q : Panel). (panel_run (panel_in chips ram) rs).answers ++ (panel_run q qs).answers) (sym (over-panel first e))

      -- the second run, on what the first left and the answers behind its own
      pub both_run : (n : ℕ) → length rs ≡ n → i.answer.number ≡ 0 → (k : InPlace Tally)
          → k ≡ over_bytes i.lent.state (ended (panel_run (panel_in i.lent.state i.lent.ram) qs) qs (drop (2 * n) i.lent.answers))
          → let a = i.answer in let b = k.answer in
          in_place (tally b.number (a.place + b.place) (a.compared + b.compared) (a.differing + b.differing)) k.lent.state k.lent.ram
          (take (2 * n) i.lent.answers ++ k.lent.answers)
          ≡ over_bytes chips (ended (panel_run (panel_in chips ram) (rs ++ qs)) (rs ++ qs) buffer)
      both_run n all done k then =
          let p = panel_in chips ram in
          let at_zero : first.answer.number ≡ 0 = rw e at done in
          let many : first.answer.place ≡ n = ended-all p rs buffer at_zero ∙ all in
          let joined = ended-join p rs buffer qs at_zero in
          let second = rw (over-panel first e, ap (λ (j : InPlace Tally). j.lent.answers) e, ← many) at then in
          let last = (ended (panel_run (panel_after first) qs) qs (drop (2 * first.answer.place) first.lent.answers)).lent.state in
          rw joined (rw (second, rewritten-to fits_after last.left last.right, rewritten-to fit last.left last.right)
          (rw (← many) (rw e)))

-- bytes in whole records and more behind them
module _ {chips ram : List ℕ} (fit : BothPass chips ram) (bytes more buffer : List ℕ) (n : ℕ) (size : length bytes ≡ 4 * n)
    {begun : Tally} {chips₁ ram₁ answers₁ : List ℕ}
    (e : in_place begun chips₁ ram₁ answers₁ ≡ over_bytes chips (ended_bytes (panel_in chips ram) bytes buffer)) where
  abbrev all : ReplayOutcome
  all = ended_bytes (panel_in chips ram) (bytes ++ more) buffer

  split : whole_records (bytes ++ more) ≡ whole_records bytes ++ whole_records more
  split = whole-records-join bytes more (omega arith)

  pub fits-behind : BothPass chips₁ ram₁
  fits-behind = fits_after fit (whole_records bytes) [] buffer _ e

  pub bytes_cut : (begun.number ≡ 0 → ⊥) → in_place begun chips₁ ram₁ answers₁ ≡ over_bytes chips all
  bytes_cut h = rw split (first-cut fit (whole_records bytes) (whole_records more) buffer _ e h)

  -- the answers behind lent as a part of the buffer
  pub bytes-both : begun.number ≡ 0 → {next : Tally} {chips₂ ram₂ part : List ℕ} → let at = 2 * n in
      in_place next chips₂ ram₂ part
      ≡ over_bytes chips₁ (ended_bytes (panel_in chips₁ ram₁) more (take (length answers₁ - at) (drop at answers₁)))
      → in_place (tally next.number (begun.place + next.place) (begun.compared + next.compared) (begun.differing + next.differing))
      chips₂ ram₂ (take at answers₁ ++ (part ++ drop (length answers₁ - at) (drop at answers₁)))
      ≡ over_bytes chips all
  bytes-both done then =
      let past = drop_of_length-le (drop (2 * n) answers₁) {i = length answers₁ - 2 * n} (simp length-drop (omega arith)) in
      let many : length (whole_records bytes) ≡ n = omega (arith, records-length (length bytes / 4) bytes) in
      let second = rw (rest answers₁ (2 * n)) at then in
      rw (past, append-nil, split) (both_run fit (whole_records bytes) (whole_records more) buffer _ e n many done _ second)

  -- wear counted on by both
  all-replies : (trace_run (panel_in chips ram) (bytes ++ more)).answers
      ≡ (panel_run (panel_in chips ram) (whole_records bytes ++ whole_records more)).answers
  all-replies = ap (λ (rs : List Record). (panel_run (panel_in chips ram) rs).answers) split

  pub worn-cut : (begun.number ≡ 0 → ⊥) → (wear : List ℕ) {wear₁ : List ℕ} → wear₁ ≡ worn wear (trace_run (panel_in chips ram) bytes).answers
      → wear₁ ≡ worn wear (trace_run (panel_in chips ram) (bytes ++ more)).answers
  worn-cut h wear w = w ∙ ap (worn wear) (sym (all-replies ∙ cut-replies fit (whole_records bytes) (whole_records more) buffer _ e h))

  pub worn-both : begun.number ≡ 0 → (wear : List ℕ) {wear₁ wear₂ : List ℕ} → wear₁ ≡ worn wear (trace_run (panel_in chips ram) bytes).answers
      → wear₂ ≡ worn wear₁ (trace_run (panel_in chips₁ ram₁) more).answers
      → wear₂ ≡ worn wear (trace_run (panel_in chips ram) (bytes ++ more)).answers
  worn-both done wear first then =
      then
      ∙ ap (λ (w : List ℕ). worn w (trace_run (panel_in chips₁ ram₁) more).answers) first
      ∙ worn-more wear (trace_run (panel_in chips ram) bytes).answers (trace_run (panel_in chips₁ ram₁) more).answers
      ∙ ap (worn wear) (sym (all-replies ∙ both-replies fit (whole_records bytes) (whole_records more) buffer _ e done))
