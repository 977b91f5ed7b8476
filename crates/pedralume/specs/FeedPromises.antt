-- What is proved of the feed's calls beside their contracts.
use Rattle.std.specs.Prelude.{ℕ, ◌/◌, ◌%◌, ◌<◌, ◌≡◌, true, false, not, ◌||◌, List, [], ◌∷◌, ◌++◌, ltb, eqb, length, get_or, take, drop}
use Rattle.basics.specs.Choice.{if}
use Rattle.sed1520.specs.ChipBytes.{chip_length, bytes_pass}
use Rattle.panel.specs.Chips.{chips_length, chips_bytes}
use Rattle.basics.specs.Table.{Cause, cause, left_then_right, First, NoneHolds}
use Rattle.basics.specs.Verdict.{result_of}
use Rattle.sed1520.specs.declared.registers.Chip.{Chip}
use Rattle.trace.specs.Replay.{sizes_wrong}
use Rattle.sed1520.specs.Replies.{in_place}
use Rattle.trace.specs.Feed.{begun, completed_by, too_many, open_of, part_of, close_of}
use Rattle.trace.specs.FeedInPlace.{feed_in}
use Rattle.trace.specs.FeedPromises.{refuses_part}
use Rattle.trace.specs.declared.progress.Ending.TheVariants.{Stopped}
use Rattle.trace.specs.declared.progress.Progress.{Progress}
use Rattle.trace.specs.declared.feed.Feed.{Feed}
use Rattle.pedralume.specs.FeedBytes.{progress_length, feed_length, word_at, number_byte, stop_place, progress_bytes, feed_bytes, marks_right}
use Rattle.pedralume.specs.FeedBytes.{progress_in}
use Rattle.pedralume.specs.FeedCall.{feed_packed, tally_packed, open_call, part_call, close_call}

-- each element of a list fits a byte
pub record BytesFit (b : List ℕ) : Type 0 where
  pub each : (i : ℕ) → get_or b i 0 < 256

-- each field of a progress fits those of the feed's bytes that hold it
pub record Fits (t : Progress) : Type 0 where
  pub kept : t.kept < 256
  pub first : t.first < 256
  pub second : t.second < 256
  pub third : t.third < 256
  pub records : t.records < 4294967296
  pub compared : t.compared < 4294967296
  pub differing : t.differing < 4294967296
  pub number : number_byte t.ending < 256
  pub place : stop_place t.ending < 4294967296

-- both parts of a feed's 64-bit number are read back, where the number is a byte, as the code's is; and each place reported fits 32 bits
pub record FeedUnpacks : Type 0 where
  pub number_of : (n at : ℕ) → n < 256 → feed_packed n at % 256 ≡ n
  pub place_of : (n at : ℕ) → n < 256 → feed_packed n at / 256 ≡ at
  pub open-place : (left right : Chip) → (open_of left right).tally.place < 4294967296
  pub part-place : (f : Feed) (ram part answers : List ℕ) → Fits f.progress → (part_of f ram part answers).answer.place < 4294967296
  pub close-place : (f : Feed) → Fits f.progress → (close_of f).tally.place < 4294967296

-- a progress is read back from its 24 bytes, which are bytes where its fields fit; 24 bytes with right marks and the two 0 are those of the progress
-- read from them; a feed is read back from its bytes, which are 48
pub record FeedBytesUndo : Type 0 where
  pub there : (t : Progress) → progress_in (progress_bytes t) ≡ t
  pub feed-there : (f : Feed) → feed_in (take chips_length (feed_bytes f)) (progress_in (drop chips_length (feed_bytes f))) ≡ f
  pub back : (b : List ℕ) → length b ≡ progress_length → BytesFit b → marks_right b ≡ true → get_or b 6 0 ≡ 0 → get_or b 7 0 ≡ 0
      → progress_bytes (progress_in b) ≡ b
  pub bytes : (t : Progress) → Fits t → BytesFit (progress_bytes t)
  pub progress-length : (t : Progress) → length (progress_bytes t) ≡ progress_length
  pub feed-length : (f : Feed) → length (feed_bytes f) ≡ feed_length

-- each call on a feed's bytes gives back and leaves what the feed by value does, whose progress fits again
pub record FeedCallsFollow : Type 0 where
  pub opened : (feed : List ℕ) (left right : Chip) → length feed ≡ feed_length → let o = open_of left right in
      open_call feed (chips_bytes left right) ≡ result_of (tally_packed o.tally) (feed_bytes o.feed)
  pub opened-fits : (left right : Chip) → Fits (open_of left right).feed.progress
  pub part : (f : Feed) (ram part answers : List ℕ) → let o = part_of f ram part answers in
      part_call (feed_bytes f) ram part answers ≡ in_place (tally_packed o.answer) (feed_bytes o.lent.state) o.lent.ram o.lent.answers
  pub part-fits : (f : Feed) (ram part answers : List ℕ) → Fits f.progress → BytesFit part
      → Fits (part_of f ram part answers).lent.state.progress
  pub closed : (f : Feed) → let o = close_of f in close_call (feed_bytes f) ≡ result_of (tally_packed o.tally) (feed_bytes o.feed)
  pub closed-fits : (f : Feed) → Fits f.progress → Fits (close_of f).feed.progress

-- a feed whose stopped byte is 1 repeats its number and place, and every buffer stays as it came, whatever they hold
pub record StoppedBytesRepeat : Type 0 where
  pub part : (feed ram part answers : List ℕ) → length feed ≡ feed_length → get_or feed 28 0 ≡ 1
      → part_call feed ram part answers ≡ in_place (feed_packed (get_or feed 29 0) (word_at feed 32)) feed ram answers
  pub closed : (feed : List ℕ) → length feed ≡ feed_length → get_or feed 28 0 ≡ 1
      → close_call feed ≡ result_of (feed_packed (get_or feed 29 0) (word_at feed 32)) feed

-- number 2 by the feed's bytes as they lie: the left chip's, the right one's, then place 3: over 3 bytes kept, compared above records, differing
-- above compared, marks of neither a stopped feed nor an open one
abbrev pub feed_bytes_table : List ℕ → List Cause
feed_bytes_table feed =
    let b = drop chips_length feed in
    left_then_right 2 (not (bytes_pass (take chip_length (take chips_length feed)))) (not (bytes_pass (drop chip_length (take chips_length feed))))
    (cause 2 3 (ltb 3 (get_or b 0 0) || (ltb (word_at b 12) (word_at b 16) || (ltb (word_at b 16) (word_at b 20) || not (marks_right b)))) ∷ [])

-- numbers 1, 13 and 2 of a part by the feed's bytes as they lie, and by the lengths of image, part and answers
abbrev pub part_call_table : List ℕ → ℕ → ℕ → ℕ → List Cause
part_call_table feed ram part answers =
    let b = drop chips_length feed in
    let more = completed_by (get_or b 0 0) part in
    cause 1 0 (sizes_wrong part more ram answers) ∷ cause 13 0 (too_many (word_at b 12) more) ∷ feed_bytes_table feed

-- what each call refuses by its lengths, and a part and a close by their tables where the feed is not stopped: every buffer stays as it came; an
-- opening's number 2 by the chips' bytes, which stops the feed; and where no line refuses: a part then gives none of 1, 2 and 13, a close 0 or 3
pub record FeedCallsRefuse : Type 0 where
  pub open-feed : (feed chips : List ℕ) → (length feed ≡ feed_length → ⊥) → open_call feed chips ≡ result_of (feed_packed 1 0) feed
  pub open-chips : (feed chips : List ℕ) → (length chips ≡ chips_length → ⊥) → open_call feed chips ≡ result_of (feed_packed 1 0) feed
  pub open-state : (feed chips : List ℕ) → length feed ≡ feed_length → length chips ≡ chips_length → (n at : ℕ)
      → First (left_then_right 2 (not (bytes_pass (take chip_length chips))) (not (bytes_pass (drop chip_length chips))) []) n at
      → open_call feed chips ≡ result_of (feed_packed n at) (chips ++ progress_bytes (begun (Stopped n at)))
  pub part-feed : (feed ram part answers : List ℕ) → (length feed ≡ feed_length → ⊥)
      → part_call feed ram part answers ≡ in_place (feed_packed 1 0) feed ram answers
  pub part : (feed ram part answers : List ℕ) → length feed ≡ feed_length → (get_or feed 28 0 ≡ 1 → ⊥) → (n at : ℕ)
      → First (part_call_table feed (length ram) (length part) (length answers)) n at
      → part_call feed ram part answers ≡ in_place (feed_packed n at) feed ram answers
  pub part-taken : (feed ram part answers : List ℕ) → length feed ≡ feed_length → (get_or feed 28 0 ≡ 1 → ⊥)
      → NoneHolds (part_call_table feed (length ram) (length part) (length answers))
      → refuses_part ((part_call feed ram part answers).answer % 256) ≡ false
  pub close-feed : (feed : List ℕ) → (length feed ≡ feed_length → ⊥) → close_call feed ≡ result_of (feed_packed 1 0) feed
  pub close-state : (feed : List ℕ) → length feed ≡ feed_length → (get_or feed 28 0 ≡ 1 → ⊥) → (n at : ℕ) → First (feed_bytes_table feed) n at
      → close_call feed ≡ result_of (feed_packed n at) feed
  pub close-done : (feed : List ℕ) → length feed ≡ feed_length → (get_or feed 28 0 ≡ 1 → ⊥) → NoneHolds (feed_bytes_table feed)
      → (close_call feed).answer ≡ feed_packed (if (eqb (get_or (drop chips_length feed) 0 0) 0) 0 3) (word_at (drop chips_length feed) 12)
