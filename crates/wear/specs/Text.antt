-- The text that the program prints: a line for each page of each chip with the 80 counts of its columns, the sum of all counts, and the end line.
use Rattle.std.specs.Prelude.{ℕ, List, [], ◌∷◌, ◌++◌, get_or, replicate}
use Rattle.basics.specs.Choice.{if}
use Rattle.basics.specs.Counts.{total}
use Rattle.basics.specs.Lists.{joined}
use Rattle.sed1520.specs.Chip.{column_stop}
use Rattle.sed1520.specs.Memory.{image_index}
use Rattle.panel.specs.Panel.{image_length}
use Rattle.trace.specs.Replay.{ReplayOutcome}
use Rattle.trace.specs.Wear.{WithWear, replay_with_wear}
use Rattle.console.specs.Start.{start, blank_answers}
use Rattle.console.specs.Text.{next_number, end_line, refused_before}

-- the count of a chip's page and column
abbrev pub count_at : List ℕ → ℕ → ℕ → ℕ → ℕ
count_at wear chip page column = get_or wear (image_index chip page column) 0

-- that count on its line
abbrev pub next_count : List ℕ → ℕ → ℕ → ℕ → List ℕ
next_count wear chip page column = next_number (count_at wear chip page column)

-- the counts of a chip's page, by column
abbrev pub page_counts : List ℕ → ℕ → ℕ → List ℕ
page_counts wear chip page = joined (next_count wear chip page) 0 column_stop

-- the line of a chip's page: "wear", chip, page and its counts; 10 is the end of the line
unfoldable pub page_line : List ℕ → ℕ → ℕ → List ℕ
page_line wear chip page =
    (119 ∷ 101 ∷ 97 ∷ 114 ∷ []) ++ (next_number chip ++ (next_number page ++ (page_counts wear chip page ++ (10 ∷ []))))

-- the lines of a chip's four pages
abbrev pub chip_lines : List ℕ → ℕ → List ℕ
chip_lines wear chip = joined (page_line wear chip) 0 4

-- the line of the sum: "sum" and the sum of all counts
unfoldable pub sum_line : List ℕ → List ℕ
sum_line wear = (115 ∷ 117 ∷ 109 ∷ []) ++ (next_number (total wear) ++ (10 ∷ []))

-- the lines of the wear that a replay left, by its number: both chips' and the sum, none where it was refused before its first record
unfoldable pub wear_lines : ℕ → List ℕ → List ℕ
wear_lines number wear = if (refused_before number) [] (chip_lines wear 0 ++ (chip_lines wear 1 ++ sum_line wear))

-- the text of a replay and its wear
unfoldable pub wear_text : WithWear ReplayOutcome → List ℕ
wear_text w =
    let a = w.outcome.answer in
    wear_lines a.number w.wear ++ end_line a.number a.place a.compared a.differing

-- what the program prints for the bytes that it read
unfoldable pub program_text : List ℕ → List ℕ
program_text trace = wear_text (replay_with_wear start trace blank_answers (replicate image_length 0))
