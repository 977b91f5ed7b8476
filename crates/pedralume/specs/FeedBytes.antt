-- A feed as the C side has it: 48 bytes, no header. 24 of the chips; kept count; 3 kept bytes; 1 = stopped; number; two 0;
-- then four numbers of 4 bytes, lowest first: place, records, compared, differing.
use Rattle.std.specs.Prelude.{ℕ, ◌+◌, Bool, ◌&&◌, ◌||◌, List, [], ◌∷◌, ◌++◌, eqb, get_or, take, drop}
use Rattle.basics.specs.Bytes.{as_word, word_bytes}
use Rattle.basics.specs.Choice.{if}
use Rattle.panel.specs.Chips.{chips_length, chips_bytes}
use Rattle.trace.specs.declared.progress.Ending.{Ending}
use Rattle.trace.specs.declared.progress.Ending.TheVariants.{Open, Stopped}
use Rattle.trace.specs.declared.progress.Progress.{Progress}
use Rattle.trace.specs.declared.feed.Feed.{Feed}

-- how many bytes a feed's progress is
abbrev pub progress_length : ℕ
progress_length = 24

-- how many bytes a feed is, its chips' and its progress's: 48
abbrev pub feed_length : ℕ
feed_length = chips_length + progress_length

-- four bytes from a place on as a number
abbrev pub word_at : List ℕ → ℕ → ℕ
word_at b at = as_word (get_or b at 0) (get_or b (at + 1) 0) (get_or b (at + 2) 0) (get_or b (at + 3) 0)

-- four bytes from a place on replaced by those of a number
abbrev pub put_word : List ℕ → ℕ → ℕ → List ℕ
put_word b at n = take at b ++ (word_bytes n ++ drop (at + 4) b)

-- the byte that marks a stopped feed: 1; 0 for an open one
abbrev pub stopped_byte : Ending → ℕ
stopped_byte Open = 0
stopped_byte (Stopped n at) = 1

-- the number that a stopped feed repeats; 0 for an open one
abbrev pub number_byte : Ending → ℕ
number_byte Open = 0
number_byte (Stopped n at) = n

-- the place that a stopped feed repeats; 0 for an open one
abbrev pub stop_place : Ending → ℕ
stop_place Open = 0
stop_place (Stopped n at) = at

-- a feed's progress as the 24 bytes behind its chips
unfoldable pub progress_bytes : Progress → List ℕ
progress_bytes t =
    (t.kept ∷ t.first ∷ t.second ∷ t.third ∷ stopped_byte t.ending ∷ number_byte t.ending ∷ 0 ∷ 0 ∷ [])
    ++ (word_bytes (stop_place t.ending) ++ (word_bytes t.records ++ (word_bytes t.compared ++ word_bytes t.differing)))

-- the 48 bytes of a feed
abbrev pub feed_bytes : Feed → List ℕ
feed_bytes f = chips_bytes f.chips.left f.chips.right ++ progress_bytes f.progress

-- the ending that the 24 bytes behind the chips give: stopped with its number and place, whatever else they say, else open
abbrev pub ending_in : List ℕ → Ending
ending_in b = if (eqb (get_or b 4 0) 1) (Stopped (get_or b 5 0) (word_at b 8)) Open

-- whether the marks are those of a stopped feed or of an open one: stopped is 1; or stopped, number and the two zeros are 0, and the place is 0
unfoldable pub marks_right : List ℕ → Bool
marks_right b = eqb (get_or b 4 0) 1 || (eqb (word_at b 4) 0 && eqb (word_at b 8) 0)

-- the progress that 24 bytes stand for; where the marks are wrong, with counts that number 2 refuses at place 3, never reported or written
unfoldable pub progress_in : List ℕ → Progress
progress_in b =
    record {
      kept = get_or b 0 0;
      first = get_or b 1 0;
      second = get_or b 2 0;
      third = get_or b 3 0;
      records = word_at b 12;
      compared = if (marks_right b) (word_at b 16) 0;
      differing = if (marks_right b) (word_at b 20) 1;
      ending = ending_in b;
    }
