-- `wear::listing` meets its contract: the lines of the wear, then the end line, all of which the buffer has room for.
use native.Mathlib.Omega.{arith}
use Rattle.console.proofs.Puts.{whole}
use Rattle.wear.proofs.Listed.{listed, text-bound}
use Rattle.wear.proofs.listing.Goals as goal

pub returns : goal.returns
returns c =
    let text = listed c.args.trace.now c.fresh.ensures c.fresh-2.ensures c.replay.ensures c.put_wear.ensures c.end_line.ensures in
    record {
      put = text;
      whole = λ room. whole text (omega (arith, text-bound c.args.trace.now, room));
    }
