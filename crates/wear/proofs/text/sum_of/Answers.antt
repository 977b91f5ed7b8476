-- `wear::text::sum_of` meets its contract: no count is over 2^32 - 1, so the sum fits.
use Rattle.std.proofs.Common.{◌≡◌, ◌∙◌, rules}
use Rattle.std.proofs.iter.runs.Made.{chains}
use Rattle.std.proofs.iter.runs.Sources.{sums}
use Rattle.std.specs.List.{sum}
use Rattle.wear.proofs.Sums.{sum-total}
use Rattle.wear.proofs.text.sum_of.Goals as goal

pub sum-requires-clause-fits : goal.sum-requires-clause-fits
sum-requires-clause-fits c = search (rules, sums)

pub returns : goal.returns
returns c =
    let summed : c.sum.result ≡ sum c.args.wear.now = search (rules, chains) in
    summed ∙ sum-total c.args.wear.now
