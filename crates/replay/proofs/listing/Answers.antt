-- `replay::listing`: the lines of the answers given, then the end line, all of which the buffer has room for.
use Rattle.std.proofs.Common.{arith}
use Rattle.console.proofs.Puts.{whole}
use Rattle.replay.proofs.Listed.{from-fresh, given-fits, listed, text-bound}
use Rattle.replay.proofs.listing.Goals as goal

pub put_lines-requires : goal.put_lines-requires
put_lines-requires c =
    let ran = from-fresh c.args.trace.now c.fresh.ensures c.fresh-2.ensures c.chips_bytes-chips.ensures c.replay_in_place-done.ensures in
    omega (arith, given-fits ran, c.given_in.ensures, c.replay_in_place-done.auto.answers)

pub returns : goal.returns
returns c =
    let ran = from-fresh c.args.trace.now c.fresh.ensures c.fresh-2.ensures c.chips_bytes-chips.ensures c.replay_in_place-done.ensures in
    let text = listed ran c.given_in.ensures c.put_lines.ensures c.end_line.ensures in
    record {
      put = text;
      whole = λ room. whole text (omega (arith, text-bound c.args.trace.now, room));
    }
