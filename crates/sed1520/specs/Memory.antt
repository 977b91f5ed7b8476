-- A chip's 320 bytes of display RAM, 4 pages of 80 columns.
use Rattle.std.specs.Prelude.{ℕ, ◌+◌, ◌*◌, List, get_or, set}
use Rattle.sed1520.specs.Chip.{column_stop}

-- how many bytes of RAM a chip has: 320
abbrev pub ram_length : ℕ
ram_length = 4 * column_stop

-- where the byte of a page and a column lies
unfoldable pub ram_index : ℕ → ℕ → ℕ
ram_index page column = column_stop * page + column

-- where that byte lies in the RAM image of both chips, 640 bytes of which chip 0 has the first 320
abbrev pub image_index : ℕ → ℕ → ℕ → ℕ
image_index chip page column = ram_length * chip + ram_index page column

-- the byte of a page and a column
abbrev pub byte_at : List ℕ → ℕ → ℕ → ℕ
byte_at ram page column = get_or ram (ram_index page column) 0

-- the RAM with the byte of a page and a column written
abbrev pub byte_set : List ℕ → ℕ → ℕ → ℕ → List ℕ
byte_set ram page column b = set ram (ram_index page column) b
