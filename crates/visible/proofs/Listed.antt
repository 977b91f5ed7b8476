-- The entries of a trace are those of the records after which the frame differs, once and in order, each with pixels that differ in one half.
use Prim.Native.Nat.{ℕ, suc, ◌<◌}
use native.Mathlib.Omega.{arith}
use mathlib.Core.Path.{◌≡◌, refl, sym, ap, ◌∙◌}
use mathlib.Core.Bool.{true, false, true≢false}
use mathlib.Core.List.{List}
use mathlib.Core.Logic.{◌⊎◌, inl, inr, ⊎_elim}
use lib.Dec.{eqb}
use lib.ListN.{length, take}
use lib.Seq.{take-suc}
use borrow.Author.Tests.{not-true, not-false}
use Rattle.basics.proofs.Bytes.{same_bytes_lem, are-same}
use Rattle.basics.proofs.Chosen.{ChosenList, chosen-list}
use Rattle.basics.proofs.Run.{run-keeps, leads-or-stays}
use Rattle.basics.proofs.Tests.{tested}
use Rattle.sed1520.specs.Laws.{sent}
use Rattle.panel.specs.Panel.{Panel, stepped, panel_step}
use Rattle.sed1520.specs.declared.bus.Record.{Record}
use Rattle.panel.proofs.PanelLaws.{every-record-apart}
use Rattle.visible.specs.Changes.{before, changed_at, pixels_changed, Entry, as_entry, entry_at, all_entries}
use Rattle.visible.specs.Promises.{entry_no, Listed, Unseen, EntrySays, EveryListSays}
use Rattle.visible.proofs.FramesSame.{no-pixels-same, same-no-pixels}
use Rattle.visible.proofs.PanelSights.{other-pixels}

-- one of the two halves has the pixels that it had
abbrev HalfSame : Panel → Panel → Type 0
HalfSame p q = (pixels_changed p q 0 ≡ 0) ⊎ (pixels_changed p q 1 ≡ 0)

-- the half of the chip that a record does not go to
stepped-half : (p : Panel) → length p.ram ≡ 640 → (r : Record) → HalfSame p (stepped p r)
stepped-half p image r =
    ⊎_elim
    (λ t. inr (other-pixels p image r 1 (λ same. true≢false (sym (same ∙ t)))))
    (λ t. inl (other-pixels p image r 0 (λ same. true≢false (same ∙ t))))
    (tested (eqb r.chip 0))

module _ (p : Panel) (rs : List Record) where
  same-unseen : (k : ℕ) → changed_at p rs k ≡ false → Unseen p rs k
  same-unseen k t = sym (same_bytes_lem _ _ (not-false _ t))

  changed-seen : (k : ℕ) → changed_at p rs k ≡ true → Unseen p rs k → ⊥
  changed-seen k t unseen = true≢false (sym (are-same _ _ (sym unseen)) ∙ not-true _ t)

  chosen : ChosenList (changed_at p rs) (entry_at p rs) (λ (e : Entry). e.index) (λ k. refl) (as_entry 0 0 0) 0 (length rs) (all_entries p rs)
  chosen = chosen-list _ _ _ _ _ 0 (length rs)

  listed-or-unseen : (k : ℕ) → k < length rs → Listed p rs k ⊎ Unseen p rs k
  listed-or-unseen k h =
      ⊎_elim (λ t. inl (chosen.every k (omega arith) (omega arith) t)) (λ t. inr (same-unseen k t)) (tested (changed_at p rs k))

  module _ (image : length p.ram ≡ 640) where
    whole_before : (k : ℕ) → length (before p rs k).ram ≡ 640
    whole_before k =
        run-keeps panel_step (λ (q : Panel). length q.ram ≡ 640) (λ q r whole _. (every-record-apart q whole r).image) (take k rs) p image

    -- a record that is accepted leads on, any other leaves the panel
    one-half-same : (k : ℕ) → k < length rs → HalfSame (before p rs k) (before p rs (suc k))
    one-half-same k h =
        let q = before p rs k in
        rw (take-suc rs k (sent 0 0 0) h)
        (leads-or-stays panel_step (HalfSame q) p (take k rs) _ (stepped-half q (whole_before k) _) (inl (same-no-pixels q q refl 0)))

    entry-says : (i : ℕ) → i < length (all_entries p rs) → EntrySays p rs i
    entry-says i h =
        let own = chosen.each i h in
        let k = (entry_no p rs i).index in
        let within : k < length rs = omega (arith, own.below) in
        let left = ap (λ (e : Entry). e.left) own.itself in
        let right = ap (λ (e : Entry). e.right) own.itself in
        record {
          within = within;
          counts = own.itself;
          seen = changed-seen k own.holds;
          some = λ none. changed-seen k own.holds (sym (no-pixels-same (before p rs k) (before p rs (suc k)) (omega arith) (omega arith)));
          one-half = ⊎_elim (λ e. inl (left ∙ e)) (λ e. inr (right ∙ e)) (one-half-same k within);
        }

pub every-list-says : EveryListSays
every-list-says p image rs =
    record {
      each = entry-says p rs image;
      every = λ k h seen. ⊎_elim (λ listed. listed) (λ unseen. absurd (seen unseen)) (listed-or-unseen p rs k h);
      order = (chosen p rs).order;
      unlisted = λ k h missing. ⊎_elim (λ listed. absurd (missing listed)) (λ unseen. unseen) (listed-or-unseen p rs k h);
    }
