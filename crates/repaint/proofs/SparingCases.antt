-- The sparing repaint's call, case by case: its own numbers, and how large a place can be.
use Prim.Native.Nat.{ℕ, ◌*◌, ◌/◌, ◌<◌, ◌≤◌}
use native.Mathlib.Omega.{arith}
use mathlib.Core.Path.{◌≡◌, sym, ◌∙◌}
use mathlib.Core.Bool.{true, false, not}
use mathlib.Core.List.{List, ◌++◌}
use mathlib.Core.Logic.{inr}
use lib.Dec.{eqb}
use lib.ListN.{length, drop, length-append}
use borrow.Author.Rules.{rules}
use Rattle.basics.specs.Table.{Cause}
use Rattle.basics.specs.Verdict.{verdict, CallResult, result_of}
use Rattle.basics.specs.Verdict.{Verdict}
use Rattle.basics.proofs.Tests.{neither, no_other}
use Rattle.basics.proofs.Table.{first-refuses, none-refuses, call-exactly, call-place}
use Rattle.sed1520.specs.Records.{records_bytes}
use Rattle.panel.specs.Panel.{image_length, Panel}
use Rattle.repaint.specs.Numbers.{SparingNumbers}
use Rattle.repaint.specs.Repaint.{picture_length, line_turns, repaint_sizes_wrong, chips_verdict}
use Rattle.repaint.specs.Sparing.{sparing_pages, sparing_records, sparing_cycles, put_front, sparing_sizes_wrong, sparing_table, sparing_of}
use Rattle.repaint.proofs.Bytes.{answer-of, lent_of}
use Rattle.repaint.proofs.Counts.{sparing-length, sparing-few}
use Rattle.repaint.proofs.RepaintCases.{sizes-right, chip-refused, chips-pass}

module _ (p : Panel) (picture : List ℕ) where
  -- the records are as many as the rule counts
  pub cycles-counted : length (sparing_records p picture) ≡ sparing_cycles p picture
  unfolding sparing_records
  cycles-counted = length-append (sparing_pages p picture) (line_turns p.left p.right) ∙ rw (sparing-length p picture)

module _ (p : Panel) (picture buffer : List ℕ) where
  -- the lines of a call, and what is given where none holds
  abbrev table : List Cause
  table = sparing_table p.left p.right (length p.ram) (length picture) (length buffer)

  abbrev given : CallResult Verdict (List ℕ)
  given = let n = sparing_cycles p picture in result_of (verdict 0 n) (records_bytes (sparing_records p picture) ++ drop (4 * n) buffer)

  -- no place is over 254
  places-few : (sparing_of p picture buffer).answer.place ≤ 254
  unfolding sparing_of
  places-few = call-place table buffer given (λ at. at ≤ 254) (search rules) (λ _. omega (arith, sparing-few p picture))

  pub places-small : (sparing_of p picture buffer).answer.place < 65536
  places-small = omega (arith, places-few)

  pub wrong_size : sparing_sizes_wrong (length p.ram) (length picture) (length buffer) ≡ true
      → sparing_of p picture buffer ≡ result_of (verdict 1 0) buffer
  unfolding sparing_of
  wrong_size wrong = rw wrong

  -- the sizes right, and then the verdict on both chips: a number refuses, and number 0 gives the records
  module _
      (sizes : sparing_sizes_wrong (length p.ram) (length picture) (length buffer) ≡ false) (v : Verdict)
      (e : v ≡ chips_verdict p.left p.right) where
    pub refused : (v.number ≡ 0 → ⊥) → result_of v buffer ≡ sparing_of p picture buffer
    unfolding sparing_of
    refused nonzero =
        sym (first-refuses (λ n at. result_of (verdict n at) buffer) given table v.number v.place
        (inr (sizes, chip-refused p.left p.right v e nonzero)))

    pub accepted : v.number ≡ 0 → {n : ℕ} {after : List ℕ} → result_of n after ≡ put_front (sparing_records p picture) buffer
        → result_of (verdict 0 (n / 4)) after ≡ sparing_of p picture buffer
    unfolding sparing_of
    accepted zero {n} written =
        let counted = cycles-counted p picture in
        let many = answer-of written in
        let place : n / 4 ≡ sparing_cycles p picture = omega (arith, many, counted) in
        let bytes = rw counted at (lent_of written) in
        rw (place, bytes)
        (sym (none-refuses (λ n at. result_of (verdict n at) buffer) given table (sizes, chips-pass p.left p.right v e zero)))

-- the sizes in numbers
pub sparing-sizes-right : (ram picture buffer : ℕ) → sparing_sizes_wrong ram picture buffer ≡ false
    → (ram ≡ image_length) × ((picture ≡ picture_length) × (1016 ≤ buffer))
sparing-sizes-right ram picture buffer e =
    let right = neither (not (eqb ram image_length)) (repaint_sizes_wrong picture buffer) e in
    (no_other ram image_length right.0, sizes-right picture buffer right.1)

pub sparing-numbers : SparingNumbers
unfolding sparing_of
sparing-numbers p picture buffer = call-exactly (table p picture buffer) buffer (given p picture buffer)

-- a refused call, case by case
pub ruleset call_cases = (sparing-sizes-right, wrong_size, refused)
