-- `visible::half::differing` meets its contract.
use Rattle.visible.proofs.Bits.{ones-differing}
use Rattle.visible.proofs.half.differing.Goals as goal

pub returns : goal.returns
returns c =
    ones-differing 32 c.args.one c.args.other c.ranges.one.fits c.ranges.other.fits
