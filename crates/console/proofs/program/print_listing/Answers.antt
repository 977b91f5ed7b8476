-- `console::program::print_listing` meets its contract: what is written is as much of the listing as the buffer has room for.
use Rattle.std.proofs.Common.{rules, ◌∙◌, inr, take}
use Rattle.std.proofs.lemmas.Result.{on_ok_weaker}
use Rattle.console.proofs.Puts.{from_empty}
use Rattle.console.proofs.program.print_listing.Goals as goal

pub returns : goal.returns
returns g c =
    let put = c.put.ensures in
    let text = rw (c.new-text.ensures.empty, c.new-text.ensures.buffer) at put.put.text in
    let same = put.same_buffer ∙ c.new-text.ensures.same in
    record {
      made = inr (take c.in_ok-count.count c.read_input.new.buffer, search rules);
      printed =
          on_ok_weaker
          c.write_all.result
          (λ w. (
            _,
            search rules,
            rw (c.as_bytes.ensures ∙ from_empty c.new-text.ensures.empty put, c.new-text.ensures.buffer) at w,
          ))
          c.write_all.ensures.bytes;
    }
