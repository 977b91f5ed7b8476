-- A part given to a feed whose chips lie as bytes, which are rewritten.
use Rattle.std.specs.Prelude.{ℕ, not, List, eqb, length}
use Rattle.basics.specs.Choice.{if}
use Rattle.panel.specs.Chips.{chips_length, chips_in}
use Rattle.trace.specs.Replay.{rewritten}
use Rattle.sed1520.specs.Replies.{InPlace, in_place}
use Rattle.trace.specs.Feed.{PartOutcome, so_far, as_feed, unless_stopped, open_part}
use Rattle.trace.specs.declared.progress.Progress.{Progress}
use Rattle.trace.specs.declared.feed.Feed.{Feed}
use Rattle.trace.specs.declared.feed.FedInPlace.{FedInPlace}

-- the feed of chips that lie as bytes, and a progress
abbrev pub feed_in : List ℕ → Progress → Feed
feed_in chips t = as_feed (chips_in chips).left (chips_in chips).right t

-- a number and its place with the counts of a progress, and that progress
abbrev pub fed_in_place : Progress → ℕ → ℕ → FedInPlace
fed_in_place t n at = record { tally = so_far t n at; progress = t }

-- what a part gives back and leaves, its chips written back as bytes
abbrev pub part_over_bytes : List ℕ → PartOutcome → InPlace FedInPlace
part_over_bytes chips o =
    let f = o.lent.state in
    in_place (record { tally = o.answer; progress = f.progress }) (rewritten chips f.chips.left f.chips.right) o.lent.ram o.lent.answers

-- a stopped feed repeats its number and place before any other test; then number 1 for chips that are not 24 bytes, which are no feed; then the
-- part given to the feed read from the bytes
unfoldable pub part_in_place : List ℕ → Progress → List ℕ → List ℕ → List ℕ → InPlace FedInPlace
part_in_place chips t ram part answers =
    unless_stopped t.ending (λ n at. in_place (fed_in_place t n at) chips ram answers)
    (if (not (eqb (length chips) chips_length)) (in_place (fed_in_place t 1 0) chips ram answers)
    (part_over_bytes chips (open_part (feed_in chips t) ram part answers)))
