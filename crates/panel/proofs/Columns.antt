-- No records lead past the column at which counting stops.
use Rattle.sed1520.proofs.ChipRange.{ranges}
use Rattle.panel.specs.Promises.{NeverPastTheStop}
use Rattle.panel.proofs.PanelLaws.{after-whole}
use Rattle.panel.proofs.WholePanel.{whole-fit}

pub never-past-the-stop : NeverPastTheStop
never-past-the-stop p whole rs k = let r = ranges _ (whole-fit _ (after-whole rs p whole) k).range in (r.column, r.saved)
