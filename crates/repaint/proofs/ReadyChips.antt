-- Ready chips, with picture and output buffer of the right sizes: number 0, the number of records as place, and the records.
use Prim.Native.Nat.{ℕ, ◌*◌}
use mathlib.Core.Path.{◌≡◌, refl}
use mathlib.Core.Bool.{Bool, true, false, not, ◌&&◌, ◌||◌, false≢true}
use mathlib.Core.List.{List, ◌++◌}
use lib.Dec.{eqb}
use lib.ListN.{length, drop}
use Rattle.basics.specs.Table.{unless_refused}
use Rattle.basics.specs.Verdict.{verdict, result_of}
use Rattle.sed1520.specs.declared.registers.Chip.{Chip}
use Rattle.sed1520.specs.Records.{records_bytes}
use Rattle.panel.specs.Panel.{Panel}
use Rattle.repaint.specs.Repaint.{repaint_records, repaint_sizes_wrong, wrong_line, ready_table, repaint_of}
use Rattle.repaint.specs.Sparing.{sparing_records, sparing_cycles, sparing_of}
use Rattle.repaint.specs.TearFree.{Ready, BothReady}

-- a ready chip's start line is not between
line-right : (c : Chip) → Ready c → wrong_line c ≡ false
line-right c ready = right (eqb c.start_line 0) (eqb c.start_line 16) ready.line
  where
    right : (a b : Bool) → (a || b) ≡ true → (not a && not b) ≡ false
    right true b e = refl
    right false true e = refl
    right false false e = absurd (false≢true e)

-- no number of the chips is given
ready-passes : {A : Type 0} (left right : Chip) → Ready left → Ready right → (refuse : ℕ → ℕ → A) (done : A)
    → unless_refused (ready_table left right) refuse done ≡ done
ready-passes left right l r refuse done =
    let left-line = line-right left l in
    let right-line = line-right right r in
    rw (l.range, r.range, l.display, r.display, l.static, r.static, l.duty, r.duty, left-line, right-line, l.modify, r.modify)

pub ready-outcome : (left right : Chip) → Ready left → Ready right
    → (picture buffer : List ℕ) → repaint_sizes_wrong (length picture) (length buffer) ≡ false
    → repaint_of left right picture buffer ≡ result_of (verdict 0 254) (records_bytes (repaint_records left right picture) ++ drop 1016 buffer)
unfolding repaint_of
ready-outcome left right l r picture buffer sizes = rw sizes (ready-passes left right l r (λ n at. result_of (verdict n at) buffer) _)

pub sparing-outcome : (p : Panel) → BothReady p → (picture buffer : List ℕ) → repaint_sizes_wrong (length picture) (length buffer) ≡ false
    → let n = sparing_cycles p picture in
    sparing_of p picture buffer ≡ result_of (verdict 0 n) (records_bytes (sparing_records p picture) ++ drop (4 * n) buffer)
unfolding sparing_of
sparing-outcome p ready picture buffer sizes =
    rw (ready.ram, sizes) (ready-passes p.left p.right ready.left ready.right (λ n at. result_of (verdict n at) buffer) _)
