-- The repaint's call: its sizes, in numbers, its own numbers, and how large a place can be.
use Prim.Native.Nat.{ℕ, ◌<◌, ◌≤◌}
use native.Mathlib.Omega.{arith}
use mathlib.Core.Path.{◌≡◌, sym, ◌∙◌}
use mathlib.Core.Bool.{true, false, not}
use mathlib.Core.List.{List, ◌++◌}
use mathlib.Core.Logic.{inr, ⊎_elim}
use lib.Dec.{ltb, eqb}
use lib.ListN.{length, drop}
use borrow.Author.Rules.{rules}
use borrow.Author.Tests.{eqb-true, eq-eqb, ltb-false, le-ltb, not-false}
use Rattle.basics.specs.Table.{Cause, First, NoneHolds}
use Rattle.basics.specs.Verdict.{verdict, CallResult, result_of}
use Rattle.basics.specs.Verdict.{Verdict}
use Rattle.basics.proofs.Table.{first-refuses, none-refuses, refusing-line, passing-table}
use Rattle.basics.proofs.Tests.{tested, neither}
use Rattle.sed1520.specs.Records.{records_bytes}
use Rattle.sed1520.specs.declared.registers.Chip.{Chip}
use Rattle.basics.proofs.Table.{call-exactly, call-place}
use Rattle.repaint.specs.Numbers.{RepaintNumbers}
use Rattle.repaint.specs.Repaint.{picture_length, repaint_records, repaint_sizes_wrong, ready_table, chips_verdict, repaint_table, repaint_of}
use Rattle.repaint.specs.TearFree.{SizesInNumbers}

pub sizes-right : (picture buffer : ℕ) → repaint_sizes_wrong picture buffer ≡ false → (picture ≡ picture_length) × (1016 ≤ buffer)
unfolding repaint_sizes_wrong
sizes-right picture buffer e =
    let right = neither (not (eqb picture picture_length)) (ltb buffer 1016) e in
    (eqb-true picture picture_length (not-false (eqb picture picture_length) right.0), ltb-false buffer 1016 right.1)

pub sizes-in-numbers : SizesInNumbers
unfolding repaint_sizes_wrong
sizes-in-numbers =
    record {
      right = λ picture buffer p b. rw (eq-eqb picture picture_length p, le-ltb buffer 1016 b);
      wrong = λ picture buffer h.
          ⊎_elim
          (λ t. t)
          (λ f. let right = sizes-right picture buffer f in absurd (h right.0 right.1))
          (tested (repaint_sizes_wrong picture buffer));
    }

-- the verdict on both chips: a number is that of a line, and with number 0 no line holds
module _ (left right : Chip) (v : Verdict) (e : v ≡ chips_verdict left right) where
  pub chip-refused : (v.number ≡ 0 → ⊥) → First (ready_table left right) v.number v.place
  unfolding chips_verdict
  chip-refused = refusing-line (ready_table left right) v 254 e

  pub chips-pass : v.number ≡ 0 → NoneHolds (ready_table left right)
  unfolding chips_verdict
  chips-pass = passing-table (ready_table left right) v 254 e (search rules)

  -- and then it is done, with place 254
  chips-done : v.number ≡ 0 → v ≡ verdict 0 254
  unfolding chips_verdict
  chips-done zero = e ∙ none-refuses verdict (verdict 0 254) (ready_table left right) (chips-pass zero)

module _ (left right : Chip) (picture buffer : List ℕ) where
  -- the lines of a call, and what is given where none holds
  abbrev table : List Cause
  table = repaint_table left right (length picture) (length buffer)

  abbrev given : CallResult Verdict (List ℕ)
  given = result_of (verdict 0 254) (records_bytes (repaint_records left right picture) ++ drop 1016 buffer)

  -- every place fits 16 bits
  pub places-small : (repaint_of left right picture buffer).answer.place < 65536
  unfolding repaint_of
  places-small = call-place table buffer given (λ at. at < 65536) (search rules) (λ _. omega arith)

  pub wrong_size : repaint_sizes_wrong (length picture) (length buffer) ≡ true
      → repaint_of left right picture buffer ≡ result_of (verdict 1 0) buffer
  unfolding repaint_of
  wrong_size wrong = rw wrong

  -- the sizes right, and then the verdict on both chips: a number refuses, and number 0 gives the records
  module _ (sizes : repaint_sizes_wrong (length picture) (length buffer) ≡ false) (v : Verdict) (e : v ≡ chips_verdict left right) where
    pub chips-refused : (v.number ≡ 0 → ⊥) → result_of v buffer ≡ repaint_of left right picture buffer
    unfolding repaint_of
    chips-refused nonzero =
        sym (first-refuses (λ n at. result_of (verdict n at) buffer) given table v.number v.place
        (inr (sizes, chip-refused left right v e nonzero)))

    pub chips-ready : v.number ≡ 0 → {after : List ℕ} → after ≡ given.lent → result_of v after ≡ repaint_of left right picture buffer
    unfolding repaint_of
    chips-ready zero written =
        rw (written, chips-done left right v e zero)
        (sym (none-refuses (λ n at. result_of (verdict n at) buffer) given table (sizes, chips-pass left right v e zero)))

pub repaint-numbers : RepaintNumbers
unfolding repaint_of
repaint-numbers left right picture buffer = call-exactly (table left right picture buffer) buffer (given left right picture buffer)

-- a call case by case
pub ruleset call_cases = (sizes-right, wrong_size, chips-refused, chips-ready)
