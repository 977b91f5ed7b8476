-- `replay::print`: the buffer has room for all of the text.
use Rattle.std.proofs.Common.{◌≡◌, rules, arith, length, take_all}
use Rattle.std.proofs.lemmas.Result.{on_ok_weaker}
use Rattle.replay.specs.Text.{program_text}
use Rattle.replay.proofs.Listed.{text-bound}
use Rattle.replay.proofs.print.Goals as goal

pub returns : goal.returns
returns g c =
    let buffer = c.text_buffer.result in
    let room : length buffer ≡ 737368 = search rules in
    on_ok_weaker
    c.print_listing.result
    (λ w.
    let all = take_all (length buffer) (program_text w.0) (omega (arith, room, text-bound w.0)) in
    (w.0, rw all at w.2))
    c.print_listing.ensures.printed
