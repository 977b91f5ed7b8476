-- The records that run together, over chip bytes that number 2 lets pass: what they store to is counted from where their first data write stands up
-- to where the next would.
use Prim.Native.Nat.{ℕ, ◌+◌, ◌-◌, ◌*◌, ◌/◌, ◌≤◌}
use native.Mathlib.Omega.{arith}
use mathlib.Core.Path.{◌≡◌, refl, sym, ap, ◌∙◌}
use mathlib.Core.List.{List, [], ◌∷◌}
use lib.ListN.{length, get_or, take, drop}
use mathlib.Core.Logic.{⊎_elim}
use lib.Dec.{eqb}
use borrow.Author.Tests.{eq-eqb, ne_eqb, eqb-true, eqb-false}
use Rattle.basics.specs.Halves.{part_start}
use Rattle.basics.proofs.Tests.{tested}
use Rattle.panel.specs.Chips.{panel_in, BothPass}
use Rattle.panel.specs.Panel.{Panel, chip_at, panel_run}
use Rattle.panel.specs.Step.{run_chips}
use Rattle.panel.specs.Stores.{write_index}
use Rattle.panel.proofs.StoreRuns.{StoresFrom, others-store, writes-store}
use Rattle.panel.proofs.RegisterBytes.{page-byte, column-byte}
use Rattle.sed1520.specs.BytesRun.{together, columns_written}
use Rattle.sed1520.specs.Memory.{image_index}
use Rattle.sed1520.specs.Records.{front, whole_records}
use Rattle.sed1520.specs.Replies.{in_place}
use Rattle.sed1520.specs.declared.bus.Record.{Record}
use Rattle.sed1520.specs.declared.tally.Tally.{Tally}
use Rattle.sed1520.proofs.Cells.{cells-between}
use Rattle.sed1520.proofs.TogetherCases.{first-record, together-alike}
use Rattle.trace.specs.Replay.{ended}
use Rattle.trace.specs.Wear.{raised, worn, replies_together}
use Rattle.trace.proofs.OverBytes.{over-panel, fits_after}
use Rattle.trace.proofs.RunOn.{left_after, run-together}
use Rattle.trace.proofs.WearCounts.{raised-none, raised-worn, worn-unstored}

module _ {chips ram : List ℕ} (fit : BothPass chips ram) (trace buffer : List ℕ) (room : 2 * (length trace / 4) ≤ length buffer)
    (some : 4 ≤ length trace) {went : Tally} {chips' ram' answers : List ℕ}
    (e : in_place went chips' ram' answers ≡ run_chips chips ram trace buffer) where
  abbrev p : Panel
  p = panel_in chips ram

  abbrev r : Record
  r = front trace

  abbrev first : List Record
  first = let rs = whole_records trace in take (together rs) rs

  ran : in_place went chips' ram' answers ≡ left_after chips ram (whole_records trace) (together (whole_records trace)) buffer
  ran = e ∙ run-together fit trace buffer room

  left : panel_in chips' ram' ≡ (panel_run p first).state
  unfolding ended
  left = over-panel fit _ ran

  fits : BothPass chips' ram'
  fits = fits_after fit first [] buffer _ ran

  -- the records that run together are like the first
  those : whole_records trace ≡ r ∷ whole_records (drop 4 trace)
  those = first-record trace some

  -- of data writes, as many as they moved the column on, up to the place after them
  stored-from : r.lines ≡ 3 → StoresFrom r.chip p (panel_run p first)
  stored-from is =
      let writes : Record → Type 0 = λ q. (q.lines ≡ 3) × (q.chip ≡ r.chip) in
      let like = together-alike writes r (λ q lines chip. (lines ∙ is, chip)) (whole_records (drop 4 trace)) in
      writes-store r.chip first (rw those like) p

  -- of any other records, none
  not-counted : (r.lines ≡ 3 → ⊥) → (wear : List ℕ) → wear ≡ worn wear (replies_together chips ram trace)
  not-counted other wear =
      let like = together-alike (λ (q : Record). q.lines ≡ 3 → ⊥) r (λ q lines _ three. other (sym lines ∙ three)) (whole_records (drop 4 trace)) in
      worn-unstored wear _ (λ i. others-store i first (rw those like) p)

  -- where the chip stands after them, by its bytes
  module _ (own : ℕ) (begins : own ≡ part_start 12 r.chip) where
    abbrev place : ℕ
    place = image_index r.chip (get_or chips' (own + 5) 0) (get_or chips' (own + 7) 0)

    stands : place ≡ write_index (panel_run p first).state r.chip
    stands =
        let page = sym (page-byte r chips' ram' fits) ∙ ap (λ (q : Panel). (chip_at q r.chip).page) left in
        let column = sym (column-byte r chips' ram' fits) ∙ ap (λ (q : Panel). (chip_at q r.chip).column) left in
        rw begins (rw (page, column))

    module _ (moved : ℕ) (m : moved ≡ columns_written trace (part_start 12 r.chip) chips chips') where
      stood : r.lines ≡ 3 → write_index p r.chip + moved ≡ place
      stood is =
          let s = stored-from is in
          let k = r.chip in
          let page = (chip_at p k).page in
          let c = (chip_at p k).column in
          let d = (chip_at (panel_run p first).state k).column in
          let by : moved ≡ d - c =
          m ∙ rw (eq-eqb r.lines 3 is, ← column-byte r chips ram fit, ← column-byte r chips' ram' fits)
          (ap (λ (q : Panel). (chip_at q k).column - c) left) in
          let to : place ≡ image_index k page d = stands ∙ ap (λ n. image_index k n d) s.page in
          let on = rw s.page at s.on in
          omega (arith, by, to, cells-between page c d (omega (arith, on)))

      -- other records moved it by none
      unmoved : (r.lines ≡ 3 → ⊥) → moved ≡ 0
      unmoved other = m ∙ rw (ne_eqb r.lines 3 other)

      pub enough : moved ≤ place
      enough =
          ⊎_elim
          (λ t. omega (arith, stood (eqb-true r.lines 3 t)))
          (λ t. omega (arith, unmoved (eqb-false r.lines 3 t)))
          (tested (eqb r.lines 3))

      written : (wear : List ℕ) → r.lines ≡ 3 → raised wear (place - moved) place ≡ worn wear (replies_together chips ram trace)
      written wear is =
          let from : place - moved ≡ write_index p r.chip = omega (arith, stood is) in
          rw from (ap (raised wear (write_index p r.chip)) stands ∙ raised-worn wear _ _ _ (stored-from is).stores)

      pub counted : (wear : List ℕ) → raised wear (place - moved) place ≡ worn wear (replies_together chips ram trace)
      counted wear =
          ⊎_elim
          (λ t. written wear (eqb-true r.lines 3 t))
          (λ t. let other = eqb-false r.lines 3 t in
          let none : place - moved ≡ place = omega (arith, unmoved other) in
          rw none (raised-none wear place ∙ not-counted other wear))
          (tested (eqb r.lines 3))

  -- a column that did not move, nothing counted
  pub not-moved : (moved : ℕ) → moved ≡ columns_written trace (part_start 12 r.chip) chips chips' → (wear : List ℕ) → moved ≡ 0
      → wear ≡ worn wear (replies_together chips ram trace)
  not-moved moved m wear none =
      let at = place (part_start 12 r.chip) refl in
      let here : at - moved ≡ at = omega (arith, none) in
      sym (raised-none wear at) ∙ ap (λ n. raised wear n at) (sym here) ∙ counted (part_start 12 r.chip) refl moved m wear
