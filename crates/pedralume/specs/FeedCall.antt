-- The feed's calls of the C side: what each gives back, and what it leaves in every buffer that it was lent.
use Rattle.std.specs.Prelude.{ℕ, ◌+◌, ◌*◌, Bool, true, not, ◌||◌, List, ◌++◌, eqb, length, take, drop}
use Rattle.basics.specs.Choice.{if}
use Rattle.panel.specs.Chips.{chips_length, chips_in}
use Rattle.basics.specs.Verdict.{CallResult, result_of}
use Rattle.trace.specs.Feed.{open_of, close_of}
use Rattle.trace.specs.FeedPromises.{refuses_part}
use Rattle.trace.specs.FeedInPlace.{feed_in, part_in_place}
use Rattle.sed1520.specs.Replies.{InPlace, in_place}
use Rattle.sed1520.specs.declared.tally.Tally.{Tally}
use Rattle.trace.specs.declared.progress.Ending.{Ending}
use Rattle.trace.specs.declared.progress.Ending.TheVariants.{Open, Stopped}
use Rattle.trace.specs.declared.progress.Progress.{Progress}
use Rattle.pedralume.specs.FeedBytes.{feed_length, progress_bytes, progress_in}

-- the 64-bit number that the feed's calls give back: the number and a place of 32 bits; the counts stand in the feed's bytes
abbrev pub feed_packed : ℕ → ℕ → ℕ
feed_packed number place = number + 256 * place

-- a tally's number and place as the 64-bit number that a feed's call gives back
abbrev pub tally_packed : Tally → ℕ
tally_packed r = feed_packed r.number r.place

-- whether the feed's bytes stay as they came: the feed was stopped before, or the call is refused by 1, 2 or 13
abbrev pub stays : Ending → ℕ → Bool
stays Open n = refuses_part n
stays (Stopped m at) n = true

-- the 24 bytes behind the chips after a call: as they came where the feed's bytes stay, else those of the progress
abbrev pub kept_or : Ending → ℕ → List ℕ → Progress → List ℕ
kept_or e n old t = if (stays e n) old (progress_bytes t)

-- the call that opens a feed: number 1 for lengths that are wrong; else all 48 bytes are written, the chips as given
unfoldable pub open_call : List ℕ → List ℕ → CallResult ℕ (List ℕ)
open_call feed chips =
    let o = open_of (chips_in chips).left (chips_in chips).right in
    if (not (eqb (length feed) feed_length) || not (eqb (length chips) chips_length)) (result_of (feed_packed 1 0) feed)
    (result_of (tally_packed o.tally) (chips ++ progress_bytes o.feed.progress))

-- the call that gives a part: number 1 where the feed's bytes are not 48; else the part is given to the feed that lies there
unfoldable pub part_call : List ℕ → List ℕ → List ℕ → List ℕ → InPlace ℕ
part_call feed ram part answers =
    let t = progress_in (drop chips_length feed) in
    let o = part_in_place (take chips_length feed) t ram part answers in
    let r = o.answer.tally in
    if (not (eqb (length feed) feed_length)) (in_place (feed_packed 1 0) feed ram answers)
    (in_place (tally_packed r) (o.lent.state ++ kept_or t.ending r.number (drop chips_length feed) o.answer.progress) o.lent.ram
    o.lent.answers)

-- the call that closes a feed: number 1 where the feed's bytes are not 48; else the feed that lies there is closed
unfoldable pub close_call : List ℕ → CallResult ℕ (List ℕ)
close_call feed =
    let t = progress_in (drop chips_length feed) in
    let o = close_of (feed_in (take chips_length feed) t) in
    if (not (eqb (length feed) feed_length)) (result_of (feed_packed 1 0) feed)
    (result_of (tally_packed o.tally) (take chips_length feed ++ kept_or t.ending o.tally.number (drop chips_length feed) o.feed.progress))
