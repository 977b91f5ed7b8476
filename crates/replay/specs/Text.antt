-- The text that the program prints: a line for each answer, record, kind and byte; then the end line, number, place, compared and differing. All are
-- decimal but the byte, which is two upper-case hexadecimal digits.
use Rattle.std.specs.Prelude.{ℕ, ◌+◌, ◌*◌, ◌/◌, ◌%◌, List, [], ◌∷◌, ◌++◌, ltb, get_or}
use Rattle.basics.specs.Choice.{if}
use Rattle.basics.specs.Lists.{joined}
use Rattle.trace.specs.Replay.{ReplayOutcome, replay_of}
use Rattle.console.specs.Start.{start, blank_answers}
use Rattle.console.specs.Text.{decimal_digits, next_number, end_line, refused_before}

-- a hexadecimal digit: 0 to 9, A to F
unfoldable pub hex_digit : ℕ → ℕ
hex_digit n = if (ltb n 10) (48 + n) (55 + n)

-- a byte as two hexadecimal digits
abbrev pub hex_digits : ℕ → List ℕ
hex_digits b = hex_digit (b / 16) ∷ hex_digit (b % 16) ∷ []

-- the line of an answer; 32 is a space, 10 the end of a line
unfoldable pub answer_line : ℕ → ℕ → ℕ → List ℕ
answer_line index kind byte = decimal_digits index ++ (next_number kind ++ (32 ∷ hex_digits byte ++ (10 ∷ [])))

-- the line of the answer to a record, two bytes in the answer buffer
abbrev pub line_at : List ℕ → ℕ → List ℕ
line_at answers index = answer_line index (get_or answers (2 * index) 0) (get_or answers (2 * index + 1) 0)

-- the lines of the first n answers
abbrev pub answer_lines : List ℕ → ℕ → List ℕ
answer_lines answers n = joined (line_at answers) 0 n

-- how many answers a replay gave, by its number and place: none where it was refused before its first record
abbrev pub answers_given : ℕ → ℕ → ℕ
answers_given number place = if (refused_before number) 0 place

-- the text of a replay
unfoldable pub replay_text : ReplayOutcome → List ℕ
replay_text o =
    let a = o.answer in
    answer_lines o.lent.answers (answers_given a.number a.place) ++ end_line a.number a.place a.compared a.differing

-- what the program prints for the bytes that it read
unfoldable pub program_text : List ℕ → List ℕ
program_text trace = replay_text (replay_of start trace blank_answers)
