-- The byte of a page and a column: it lies within the RAM, that of the next column comes next, those of two pages or columns lie apart, every byte of
-- the RAM is one, and what is read after a write.
use Prim.Native.Nat.{ℕ, ◌+◌, ◌-◌, ◌*◌, ◌/◌, ◌%◌, ◌<◌, ◌≤◌}
use native.Mathlib.Omega.{arith}
use mathlib.Core.Path.{◌≡◌, sym, ◌∙◌}
use mathlib.Core.List.{List}
use lib.ListN.{length}
use lib.Seq.{get_or-set_same, get_or-set_other, ext_get_or}
use Rattle.sed1520.specs.Memory.{ram_index, byte_at, byte_set}

pub within-ram : (page column : ℕ) → page < 4 → column < 80 → ram_index page column < 320
unfolding ram_index
within-ram page column h l = omega arith

pub next-cell : (page column : ℕ) → ram_index page (column + 1) ≡ ram_index page column + 1
unfolding ram_index
next-cell page column = omega arith

pub cells-between : (page c d : ℕ) → ram_index page c ≤ ram_index page d → ram_index page c + (d - c) ≡ ram_index page d
unfolding ram_index
cells-between page c d on = omega arith

pub same-cell : (page column page' column' : ℕ) → column < 80 → column' < 80 → ram_index page column ≡ ram_index page' column'
    → (page ≡ page') × (column ≡ column')
unfolding ram_index
same-cell page column page' column' h l e = (omega arith, omega arith)

-- two RAMs that have the same byte at every page and column
pub same-cells : (one other : List ℕ) → length one ≡ 320 → length other ≡ 320
    → ((page column : ℕ) → column < 80 → byte_at one page column ≡ byte_at other page column) → one ≡ other
unfolding ram_index
same-cells one other l m same =
    ext_get_or 0 one other (l ∙ sym m)
    (λ i h. let at : i ≡ 80 * (i / 80) + i % 80 = omega arith in let here = same (i / 80) (i % 80) (omega arith) in rw (← at) at here)

module _ (ram : List ℕ) (page column b : ℕ) (near : column < 80) where
  pub read-written : length ram ≡ 320 → page < 4 → byte_at (byte_set ram page column b) page column ≡ b
  read-written size h = get_or-set_same ram (ram_index page column) b 0 (let below = within-ram page column h near in omega arith)

  pub read-other : (page' column' : ℕ) → column' < 80 → (page' ≡ page → column' ≡ column → ⊥)
      → byte_at (byte_set ram page column b) page' column' ≡ byte_at ram page' column'
  read-other page' column' l apart =
      get_or-set_other ram (ram_index page column) (ram_index page' column') b 0
      (λ e. let same = same-cell page' column' page column l near e in apart same.0 same.1)
