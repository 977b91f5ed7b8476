-- Records written into an output buffer one part after the other.
use Prim.Native.Nat.{ℕ, ◌+◌, ◌-◌, ◌*◌, ◌<◌, ◌≤◌}
use native.Mathlib.Omega.{arith}
use native.Mathlib.Numerals.{add-one}
use mathlib.Core.Path.{◌≡◌, refl, sym, ap, ◌∙◌}
use mathlib.Core.Bool.{Bool, true, false, not}
use mathlib.Core.List.{List, [], ◌∷◌, ◌++◌, flat_map, append_assoc, append-nil}
use lib.ListN.{length, take, drop}
use Rattle.basics.specs.Lists.{tabulated}
use Rattle.basics.specs.Verdict.{CallResult, result_of}
use Rattle.basics.proofs.Filling.{Begun, begun-rest}
use Rattle.basics.proofs.Lists.{joined-more, tabulated-length}
use Rattle.sed1520.specs.Records.{record_bytes, records_bytes}
use Rattle.sed1520.specs.declared.registers.Chip.{Chip}
use Rattle.sed1520.specs.declared.bus.Record.{Record}
use Rattle.sed1520.proofs.Records.{bytes-append, bytes-length}
use Rattle.frame.specs.Frame.{segments}
use Rattle.repaint.specs.declared.chip_plan.HiddenPage.{HiddenPage}
use Rattle.repaint.specs.declared.sparing_page.HeldPage.{HeldPage}
use Rattle.repaint.specs.Sparing.{differs, passes_before, chosen_columns, chosen_page, chip_records, put_front, next_column}
use Rattle.repaint.proofs.Counts.{chip-length, chip-few}
use Rattle.repaint.proofs.RunByRun.{Begins, run-added}
use Rattle.repaint.proofs.NextColumn.{next-is}
use Rattle.repaint.proofs.ChosenColumns.{none-counted, at_most_one, cycles-few, columns-length, chosen-length, chosen-few}
use Rattle.repaint.specs.Repaint.{column_write, column_set, page_records, turn, repaint_records}

-- what two results that are the same have in common
pub answer-of : {one other : CallResult ℕ (List ℕ)} → one ≡ other → one.answer ≡ other.answer
answer-of e = ap (λ (o : CallResult ℕ (List ℕ)). o.answer) e

pub lent_of : {one other : CallResult ℕ (List ℕ)} → one ≡ other → one.lent ≡ other.lent
lent_of e = ap (λ (o : CallResult ℕ (List ℕ)). o.lent) e

-- records put to the front of the rest, lent as a part, and the result that all of them make
pub begun-put : (rs more : List Record) {old : List ℕ} {at : ℕ} {now : List ℕ} → Begun old (records_bytes rs) at now
    → {n : ℕ} {part : List ℕ} → result_of n part ≡ put_front more (take (length now - at) (drop at now))
    → Begun old (records_bytes (rs ++ more)) (at + n) (take at now ++ (part ++ drop (length now - at) (drop at now)))
begun-put rs more begun {n} {part} e =
    let many : n ≡ 4 * length more = answer-of e in
    let bytes = lent_of e in
    rw (bytes-append rs more) (begun-rest begun (records_bytes more) (bytes-length more ∙ sym many) (rw (← many) at bytes))

pub begun-record : (rs : List Record) (r : Record) {old : List ℕ} {at : ℕ} {now : List ℕ} → Begun old (records_bytes rs) at now
    → {part : List ℕ} → part ≡ record_bytes r ++ drop 4 (take (length now - at) (drop at now))
    → Begun old (records_bytes (rs ++ (r ∷ []))) (at + 4) (take at now ++ (part ++ drop (length now - at) (drop at now)))
unfolding flat_map
begun-record rs r begun e = rw (bytes-append rs (r ∷ [])) (begun-rest begun (record_bytes r) refl e)

pub front-begun : (rs : List Record) {old : List ℕ} {n : ℕ} {now : List ℕ} → result_of n now ≡ put_front rs old → Begun old (records_bytes rs) n now
front-begun rs e =
    let many = answer-of e in
    record { size = bytes-length rs ∙ sym many; bytes = lent_of e ∙ rw many }

pub begun-front : (rs : List Record) {old : List ℕ} {at : ℕ} {now : List ℕ} → Begun old (records_bytes rs) at now
    → result_of at now ≡ put_front rs old
begun-front rs begun = let many = sym begun.size ∙ bytes-length rs in rw (begun.bytes, many)

-- one write more goes to the end
module _ (write : ℕ → Record) (from : ℕ) where
  abbrev pub written : ℕ → List ℕ
  written n = records_bytes (tabulated write from n)

  pub written-length : (n : ℕ) → length (written n) ≡ 4 * n
  written-length n = bytes-length (tabulated write from n) ∙ rw (tabulated-length write from n)

  -- the writes so far, and the next one in a part lent from there on
  pub begun-write : (n : ℕ) {j at : ℕ} {old out : List ℕ} → j ≡ from + n → Begun old (written n) at out
      → {part : List ℕ} → part ≡ record_bytes (write j) ++ drop 4 (take (length out - at) (drop at out))
      → Begun old (written (n + 1)) (at + 4) (take at out ++ (part ++ drop (length out - at) (drop at out)))
  unfolding flat_map
  begun-write n is begun e =
      rw (add-one n, joined-more (λ i. write i ∷ []) from n)
      (begun-record (tabulated write from n) (write (from + n)) begun (rw is at e))

-- the data write of a page to a column
abbrev pub write_of : HiddenPage → ℕ → Record
write_of page = column_write page.chip page.which page.picture.now page.band

module _ (held : HeldPage) where
  -- whether a column differs, the record that sets it, and the records of the columns so far
  abbrev pub changed : ℕ → Bool
  changed = differs held.page.chip held.page.which held.ram.now held.page.picture.now held.page.band

  abbrev pub set_of : ℕ → List Record
  set_of j = column_set held.page.chip held.page.which j ∷ []

  abbrev pub columns_to : ℕ → List Record
  columns_to = chosen_columns held.page.chip held.page.which held.page.picture.now held.page.band changed 0

  -- the writes of the columns up to this one are at the front, and the run that they are of ends where a search from here on says
  pub record WritesTo (from : ℕ) (old : List ℕ) (column bytes : ℕ) (now : List ℕ) : Type 0 where
    pub begun : Begun old (written (write_of held.page) from (column - from)) bytes now
    pub same_end :
        let equal : ℕ → Bool = λ i. not (changed i) in
        next_column equal column (segments - column) ≡ next_column equal from (segments - from)
    pub same_size : length now ≡ length old

  -- the records of the columns so far are at the front, and a run begins at the next one, if one is left
  pub record UpTo (old : List ℕ) (run at : ℕ) (now : List ℕ) : Type 0 where
    pub begun : Begun old (records_bytes (columns_to run)) at now
    pub begins : Begins changed run
    pub same_size : length now ≡ length old

  -- the columns so far, and the run that begins there
  module _ (j : ℕ) (before : passes_before changed j ≡ false) where
    -- four bytes for each column at most
    pub columns-fit : {old : List ℕ} {at : ℕ} {now : List ℕ} → Begun old (records_bytes (columns_to j)) at now → at ≤ 4 * j
    columns-fit begun =
        let few = rw before at (cycles-few changed j) in
        let many = columns-length changed held.page.chip held.page.which held.page.picture.now held.page.band j in
        omega (arith, begun.size, bytes-length (columns_to j), many, few)

    module _ (n : ℕ) (passes : (i : ℕ) → j ≤ i → i < j + n → changed i ≡ true) (some : 0 < n) where
      -- the column is set, and then its writes come
      pub begun-run : {old : List ℕ} {at : ℕ} {now : List ℕ} → Begun old (records_bytes (columns_to j ++ set_of j)) at now
          → {bytes : ℕ} {part : List ℕ} → result_of bytes part ≡ put_front (tabulated (write_of held.page) j n) (take (length now - at) (drop at now))
          → Begun old (records_bytes (columns_to (j + n))) (at + bytes) (take at now ++ (part ++ drop (length now - at) (drop at now)))
      begun-run begun e =
          let writes = tabulated (write_of held.page) j n in
          let added = run-added changed held.page.chip held.page.which held.page.picture.now held.page.band j before n passes some in
          rw (added ∙ sym (append_assoc (columns_to j) (set_of j) writes)) (begun-put (columns_to j ++ set_of j) writes begun e)

-- the columns of a page take 248 bytes at most, and the page 252
pub columns-bytes : (c : Chip) (chip : ℕ) (picture : List ℕ) (r : ℕ) (test : ℕ → Bool) (buffer : List ℕ) {n : ℕ} {now : List ℕ}
    → result_of n now ≡ put_front (chosen_columns c chip picture r test 0 segments) buffer → n ≤ 248
columns-bytes c chip picture r test buffer e =
    omega (arith, answer-of e, columns-length test c chip picture r segments, cycles-few test segments, at_most_one (test 60))

pub chosen-bytes : (c : Chip) (chip : ℕ) (picture : List ℕ) (r : ℕ) (test : ℕ → Bool) (buffer : List ℕ) {n : ℕ} {now : List ℕ}
    → result_of n now ≡ put_front (chosen_page c chip picture r test) buffer → n ≤ 252
chosen-bytes c chip picture r test buffer e = omega (arith, answer-of e, chosen-length test c chip picture r, chosen-few test)

-- where the search for the first column that passes comes to the end, the page takes none
pub page_unchanged : (c : Chip) (chip : ℕ) (picture : List ℕ) (r : ℕ) (test : ℕ → Bool) (buffer : List ℕ) → segments ≤ next_column test 0 segments
    → result_of 0 buffer ≡ put_front (chosen_page c chip picture r test) buffer
unfolding chosen_page flat_map
page_unchanged c chip picture r test buffer h =
    let first = next-is test 0 segments refl in
    rw (none-counted test (λ j l. first.before j (omega arith) (omega arith)))

-- both pages of a chip take 504 bytes at most
pub chip-bytes : (c : Chip) (chip : ℕ) (ram picture buffer : List ℕ) {n : ℕ} {now : List ℕ}
    → result_of n now ≡ put_front (chip_records c chip ram picture) buffer → n ≤ 504
chip-bytes c chip ram picture buffer e = omega (arith, answer-of e, chip-length c chip ram picture, chip-few c chip ram picture)

-- the parts in the order in which they are written: both pages of each chip, then both start lines
abbrev pub pages_bytes : List ℕ → Chip → ℕ → List ℕ
pages_bytes picture c k = records_bytes (page_records c k picture 0 ++ page_records c k picture 1)

module _ (left right : Chip) (picture : List ℕ) where
  pub in_order : ((pages_bytes picture left 0 ++ pages_bytes picture right 1) ++ record_bytes (turn left 0)) ++ record_bytes (turn right 1)
      ≡ records_bytes (repaint_records left right picture)
  unfolding repaint_records flat_map
  in_order = simp (bytes-append, append_assoc, append-nil)
