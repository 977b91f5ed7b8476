-- The panel after each record of a replay has a frame: its chips are in range and its image whole.
use mathlib.Core.Path.{ap, ◌∙◌}
use lib.ListN.{take}
use Rattle.basics.specs.Run.{Run}
use Rattle.sed1520.specs.Cycle.{Reply}
use Rattle.panel.specs.Panel.{Panel, after}
use Rattle.sed1520.specs.Records.{whole_records}
use Rattle.panel.proofs.PanelLaws.{after-whole}
use Rattle.trace.proofs.AfterEach.{after-each-record}
use Rattle.frame.specs.Frame.{framed}
use Rattle.frame.proofs.FrameCases.{every-frame-given}
use Rattle.trace.specs.FeedPromises.{joined_bytes}
use Rattle.trace.proofs.EveryRun.{every-run}
use Rattle.trace.proofs.Feeds.{feeds-run}
use Rattle.pedralume.specs.Shown.{ShownAfterEachRecord, ShownAfterEachPart, ShownInEveryRun}

pub shown-after-each-record : ShownAfterEachRecord
shown-after-each-record p trace answers buffer runs size k h =
    let rs = take k (whole_records trace) in
    let whole = after-whole rs p runs.panel in
    ap (λ (q : Panel). framed q buffer) (after-each-record p trace answers runs k h).panel
    ∙ every-frame-given (after p rs) buffer whole size

pub shown-after-each-part : ShownAfterEachPart
shown-after-each-part p xs buffer whole taken size =
    let rs = whole_records (joined_bytes xs) in
    rw (feeds-run p whole xs taken) (every-frame-given (after p rs) buffer (after-whole rs p whole) size)

pub shown-in-every-run : ShownInEveryRun
shown-in-every-run p bytes buffer whole size k h =
    let rs = take k (whole_records bytes) in
    ap (λ (r : Run Panel Reply). framed r.state buffer) (every-run.each p bytes k h).cut
    ∙ every-frame-given (after p rs) buffer (after-whole rs p whole) size
