-- Text that the programs print, put into a buffer: numbers in decimal, and the end line.
use Rattle.std.specs.Prelude.{ℕ, zero, suc, ◌+◌, ◌-◌, ◌/◌, ◌%◌, min, ◌≡◌, Bool, ◌&&◌, List, [], ◌∷◌, ◌++◌, ltb, leb, length}
use Rattle.std.proofs.lemmas.List.Edits.{sets}
use Rattle.basics.specs.Choice.{if}

-- the decimal digits of a number that has at most so many, in ASCII, no zeros in front
unfoldable pub decimal : ℕ → ℕ → List ℕ
decimal zero n = []
decimal (suc most) n = if (ltb n 10) ((48 + n) ∷ []) (decimal most (n / 10) ++ ((48 + n % 10) ∷ []))

-- a number in decimal: no 64-bit number has more than twenty digits
abbrev pub decimal_digits : ℕ → List ℕ
decimal_digits n = decimal 20 n

-- a number that follows others on its line; 32 is a space
abbrev pub next_number : ℕ → List ℕ
next_number n = 32 ∷ decimal_digits n

-- the end line: "end" and four numbers, number, place, compared and differing; 10 is the end of a line
unfoldable pub end_line : ℕ → ℕ → ℕ → ℕ → List ℕ
end_line number place compared differing =
    (101 ∷ 110 ∷ 100 ∷ []) ++ (next_number number ++ (next_number place ++ (next_number compared ++ (next_number differing ++ (10 ∷ [])))))

-- whether a number refuses a trace before its first record, so that its text is the end line alone
abbrev pub refused_before : ℕ → Bool
refused_before number = leb 1 number && leb number 3

-- what putting some bytes at a place of a buffer leaves, as many as there is room for from there on, and the place past these
pub record Put (before after : List ℕ) (at next : ℕ) (bytes : List ℕ) : Type 0 where
  pub text : after ≡ sets before at bytes
  pub next_place : next ≡ at + min (length bytes) (length before - at)
