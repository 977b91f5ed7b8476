-- Numbers as bytes, lowest first; bytes compared and copied.
use Rattle.std.specs.Prelude.{ℕ, ◌+◌, ◌*◌, ◌/◌, ◌%◌, Bool, true, false, ◌&&◌, List, [], ◌∷◌, ◌++◌, eqb, length, take, drop}

-- what two bytes hold is below this
abbrev pub pair_limit : ℕ
pair_limit = 65536

-- a number below 2^16 as two bytes
abbrev pub pair_bytes : ℕ → List ℕ
pair_bytes n = n % 256 ∷ n / 256 ∷ []

-- a number below 2^32 as four bytes
abbrev pub word_bytes : ℕ → List ℕ
word_bytes n = n % 256 ∷ n / 256 % 256 ∷ n / 65536 % 256 ∷ n / 16777216 ∷ []

-- four bytes as a number, lowest first
abbrev pub as_word : ℕ → ℕ → ℕ → ℕ → ℕ
as_word a b c d = a + 256 * b + 65536 * c + 16777216 * d

-- whether two buffers hold the same bytes
unfoldable pub same_bytes : List ℕ → List ℕ → Bool
same_bytes [] [] = true
same_bytes [] (b ∷ rest) = false
same_bytes (a ∷ more) [] = false
same_bytes (a ∷ more) (b ∷ rest) = eqb a b && same_bytes more rest

-- a buffer after bytes were copied to its front, as many as it has room for
abbrev pub copied : List ℕ → List ℕ → List ℕ
copied from to = take (length to) from ++ drop (length from) to
