-- What reading the input came to. That the count lies within the buffer is all that is proved: of standard input no contract says which bytes
-- come.
use Rattle.std.specs.Prelude.{ℕ, Result, Ok, Err}

-- how many bytes were read; a failed read counts none
abbrev pub read_in : {E : Type 0} → Result ℕ E → ℕ
read_in (Ok n) = n
read_in (Err e) = 0
