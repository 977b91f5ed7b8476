-- How many records a repaint has: 63 for a hidden page, 252 for the four, 254 in all; and how many bytes. A sparing repaint has as many as its rule
-- counts, at least 2 and at most 254.
use Prim.Native.Nat.{ℕ, suc, ◌*◌, ◌≤◌}
use native.Mathlib.Omega.{arith}
use mathlib.Core.Path.{◌≡◌, ap, ◌∙◌}
use mathlib.Core.List.{List, ◌++◌}
use lib.ListN.{length, length-append}
use Rattle.basics.proofs.Lists.{tabulated-length}
use Rattle.sed1520.specs.Records.{records_bytes}
use Rattle.sed1520.specs.declared.registers.Chip.{Chip}
use Rattle.sed1520.proofs.Records.{bytes-length}
use Rattle.frame.specs.Frame.{segments}
use Rattle.panel.specs.Panel.{Panel, ram_at}
use Rattle.repaint.specs.Repaint.{column_write, page_records, hidden_pages}
use Rattle.repaint.specs.Sparing.{differs, chip_records, sparing_pages, chip_cycles, sparing_quiet}
use Rattle.repaint.proofs.ChosenColumns.{chosen-length, chosen-few}

pub page-length : (c : Chip) (k : ℕ) (picture : List ℕ) (r : ℕ) → length (page_records c k picture r) ≡ 63
unfolding page_records
page-length c k picture r = ap (λ n. suc (suc n)) (tabulated-length (column_write c k picture r) 0 segments)

pub page-bytes : (c : Chip) (k : ℕ) (picture : List ℕ) (r : ℕ) → length (records_bytes (page_records c k picture r)) ≡ 252
page-bytes c k picture r = bytes-length (page_records c k picture r) ∙ ap (λ n. 4 * n) (page-length c k picture r)

pub pages-bytes : (c : Chip) (k : ℕ) (picture : List ℕ) → length (records_bytes (page_records c k picture 0 ++ page_records c k picture 1)) ≡ 504
pages-bytes c k picture = simp (bytes-length, length-append, page-length)

pub pages-length : (left right : Chip) (picture : List ℕ) → length (hidden_pages left right picture) ≡ 252
pages-length left right picture = simp (length-append, page-length)

module _ (c : Chip) (k : ℕ) (ram picture : List ℕ) where
  pub chip-length : length (chip_records c k ram picture) ≡ chip_cycles c k ram picture
  chip-length = simp (length-append, chosen-length)

  pub chip-few : chip_cycles c k ram picture ≤ 126
  chip-few = omega (arith, chosen-few (differs c k ram picture 0), chosen-few (differs c k ram picture 1))

module _ (p : Panel) (picture : List ℕ) where
  pub sparing-length : length (sparing_pages p picture) ≡ sparing_quiet p picture
  sparing-length = simp (length-append, chosen-length)

  pub sparing-few : sparing_quiet p picture ≤ 252
  sparing-few = omega (arith, chip-few p.left 0 (ram_at p 0) picture, chip-few p.right 1 (ram_at p 1) picture)
