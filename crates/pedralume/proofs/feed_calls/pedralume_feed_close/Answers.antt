-- `pedralume::feed_calls::pedralume_feed_close` meets its contract: the feed that is read from the bytes is closed, and its place fits.
use native.Mathlib.Omega.{arith}
use mathlib.Core.Path.{sym}
use Rattle.pedralume.proofs.FeedPlaces.{read_fits, close-place}
use Rattle.pedralume.proofs.FeedCallCases.{close-whole}
use Rattle.pedralume.proofs.feed_calls.pedralume_feed_close.Goals as goal

pub pack_feed-requires-2 : goal.pack_feed-requires-2
pack_feed-requires-2 c =
    let fits = read_fits c.args.feed.now (λ i. grind arith) _ c.split_at_mut-chips.ensures.back _ c.progress_in-progress.ensures in
    rw c.close.ensures (close-place _ fits)

pub returns : goal.returns
returns c =
    let split = c.split_at_mut-chips.ensures in
    let read = rw split.back at c.progress_in-progress.ensures in
    let closed = rw (c.chips_in-chips.ensures, split.front) at c.close.ensures in
    rw (c.pack_feed-2.ensures, c.write_back.ensures, split.front, split.back) (sym (close-whole _ (omega arith) _ read _ closed))
