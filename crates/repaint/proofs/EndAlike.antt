-- Two repaints of one picture, sent whole from one panel, end in the same RAM and show the same.
use Prim.Native.Nat.{ℕ, zero, suc, ◌+◌, ◌-◌, ◌<◌}
use native.Mathlib.Omega.{arith}
use mathlib.Core.Path.{◌≡◌, refl, sym, ap, ◌∙◌}
use mathlib.Core.Bool.{false}
use mathlib.Core.List.{List}
use mathlib.Core.Logic.{⊎_elim}
use lib.Dec.{eqb, leb, ltb}
use lib.ListN.{length, take-append-drop}
use borrow.Author.Tests.{eqb-true, eqb-false, leb-true, leb-false, ltb-true, ltb-false}
use Rattle.basics.proofs.Halves.{part_length}
use Rattle.basics.proofs.Tests.{tested}
use Rattle.sed1520.specs.Memory.{byte_at}
use Rattle.sed1520.proofs.Cells.{same-cells}
use Rattle.sed1520.specs.declared.registers.Chip.{Chip}
use Rattle.panel.specs.Panel.{Panel, chip_at, ram_at}
use Rattle.frame.specs.Frame.{segments}
use Rattle.repaint.specs.Repaint.{hidden_page, lowest_column, column_segment, picture_byte, repaint_sizes_wrong}
use Rattle.repaint.specs.SparingPromises.{sent_whole, EndAlike}
use Rattle.repaint.specs.TearFree.{BothReady, Request, asked, shown, wanted}
use Rattle.repaint.proofs.Small.{segment-small}
use Rattle.repaint.proofs.Page.{InBand, column-shown}
use Rattle.repaint.proofs.Plan.{Brought}
use Rattle.repaint.proofs.RepaintCases.{sizes-right}
use Rattle.repaint.proofs.TearFree.{plans, accepted, repaints, stop, ready-at-stop, shown-at-stop}

-- a place is one that a band is written to, or it is not
by_place : (c : Chip) (page column : ℕ) {P : Type 0} → ((r : ℕ) → r < 2 → InBand c r page column → P)
    → (((r : ℕ) → r < 2 → InBand c r page column → ⊥) → P) → P
by_place c page column {P} in-band else =
    ⊎_elim
    (λ t. let from = leb-true (lowest_column c) column t in
    ⊎_elim
    (λ u. let below = ltb-true column (lowest_column c + segments) u in
    ⊎_elim
    (λ v. in-band 0 (omega arith) (record { own-page = eqb-true page (hidden_page c 0) v; from = from; below = below }))
    (λ v. ⊎_elim
    (λ w. in-band 1 (omega arith) (record { own-page = eqb-true page (hidden_page c 1) w; from = from; below = below }))
    (λ w. else (neither (eqb-false page (hidden_page c 0) v) (eqb-false page (hidden_page c 1) w)))
    (tested (eqb page (hidden_page c 1))))
    (tested (eqb page (hidden_page c 0))))
    (λ u. else (λ r h b. let past = ltb-false column (lowest_column c + segments) u in omega (arith, b.below)))
    (tested (ltb column (lowest_column c + segments))))
    (λ t. else (λ r h b. let before = leb-false (lowest_column c) column t in omega (arith, b.from)))
    (tested (leb (lowest_column c) column))
  where
    neither : (page ≡ hidden_page c 0 → ⊥) → (page ≡ hidden_page c 1 → ⊥) → (r : ℕ) → r < 2 → InBand c r page column → ⊥
    neither lower upper zero h b = lower b.own-page
    neither lower upper (suc zero) h b = upper b.own-page
    neither lower upper (suc (suc r)) h b = omega arith

module _ (p : Panel) (picture : List ℕ) where
  -- a byte of a band is the picture's
  in-band-byte : (s : Panel) → Brought p picture s → (k r page column : ℕ) → k < 2 → r < 2 → InBand (chip_at p k) r page column
      → byte_at (ram_at s k) page column ≡ picture_byte picture k (column_segment (chip_at p k) (column - lowest_column (chip_at p k))) r
  in-band-byte s brought k r page column side band b =
      let c = chip_at p k in
      let j = column - lowest_column c in
      let from = b.from in
      let below : j < segments = omega (arith, b.below) in
      let n = column_segment c j in
      let at : column ≡ lowest_column c + j = omega arith in
      rw b.own-page
      (ap (λ m. byte_at (ram_at s k) (hidden_page c r) m) (at ∙ sym (column-shown c j below))
      ∙ (brought.held k r side band).byte n (segment-small c j below))

  module _ (s t : Panel) (one : Brought p picture s) (other : Brought p picture t) (k : ℕ) (side : k < 2) where
    same_byte : (page column : ℕ) → column < 80 → byte_at (ram_at s k) page column ≡ byte_at (ram_at t k) page column
    same_byte page column h =
        by_place (chip_at p k) page column
        (λ r band b. in-band-byte s one k r page column side band b ∙ sym (in-band-byte t other k r page column side band b))
        (λ out. one.others k side page column h out ∙ sym (other.others k side page column h out))

    same-part : length s.ram ≡ 640 → length t.ram ≡ 640 → ram_at s k ≡ ram_at t k
    same-part l m = same-cells (ram_at s k) (ram_at t k) (part_length 320 k s.ram l) (part_length 320 k t.ram m) same_byte

  same-ram : (s t : Panel) → Brought p picture s → Brought p picture t → length s.ram ≡ 640 → length t.ram ≡ 640 → s.ram ≡ t.ram
  same-ram s t one other l m =
      sym (take-append-drop 320 s.ram)
      ∙ rw (same-part s t one other 0 (omega arith) l m, same-part s t one other 1 (omega arith) l m) (take-append-drop 320 t.ram)

module _ (p : Panel) (ready : BothReady p) where
  -- what a repaint leaves that is sent whole
  record Ends (q : Request) (s : Panel) : Type 0 where
    brought : Brought p q.picture s
    ram : length s.ram ≡ 640
    frame : shown s ≡ wanted q.picture

  ends : (q : Request) → repaint_sizes_wrong (length q.picture) (length q.buffer) ≡ false → Ends q (sent_whole p q)
  ends q sizes =
      let size = (sizes-right (length q.picture) (length q.buffer) sizes).0 in
      let planned = plans p ready q.sparing q refl sizes in
      let all = repaints p ready (asked p q) size q.bytes planned in
      let n = (asked p q).quiet + 2 in
      rw ((accepted p ready q sizes).number, (accepted p ready q sizes).place)
      (record {
        brought = rw (stop p ready (asked p q) size q.bytes planned n (omega arith)) all.brought;
        ram = (ready-at-stop p ready (asked p q) size q.bytes planned n (omega arith)).ram;
        frame = shown-at-stop p ready (asked p q) size q.bytes planned n (omega arith) ∙ all.whole;
      })

brought-same : (p s : Panel) {one other : List ℕ} → one ≡ other → Brought p one s → Brought p other s
brought-same p s e brought = rw e at brought

pub end-alike : EndAlike
end-alike p ready one other same sizes sizes' =
    let first = ends p ready one sizes in
    let second = ends p ready other sizes' in (
      same-ram p other.picture (sent_whole p one) (sent_whole p other) (brought-same p _ same first.brought) second.brought first.ram
          second.ram,
      first.frame ∙ ap wanted same ∙ sym second.frame,
    )
