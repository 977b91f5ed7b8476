-- `pedralume::feed_calls::pedralume_feed_part` meets its contract: the place that a part gives fits.
use native.Mathlib.Omega.{arith}
use Rattle.pedralume.proofs.FeedPlaces.{read_fits, in-place-place}
use Rattle.pedralume.proofs.feed_calls.pedralume_feed_part.Goals as goal

pub pack_feed-requires-2 : goal.pack_feed-requires-2
pack_feed-requires-2 c =
    let fits = read_fits c.args.feed.now (λ i. grind arith) _ c.split_at_mut-chips.ensures.back _ c.progress_in-held.ensures in
    in-place-place _ _ _ _ _ fits _ c.part_in_place.ensures
