-- Nobody can see a status read, a data read or a refused record: the frame stays as it was.
use Prim.Native.Nat.{ℕ, ◌<◌}
use native.Mathlib.Omega.{arith}
use mathlib.Core.Path.{◌≡◌, refl, sym, ap, ◌∙◌}
use mathlib.Core.Bool.{beq}
use lib.Dec.{eqb}
use lib.ListN.{length}
use Rattle.basics.proofs.Tests.{when}
use Rattle.panel.specs.Panel.{Panel, chip_at, ram_at, outcome_of, stepped}
use Rattle.sed1520.specs.declared.bus.Record.{Record}
use Rattle.panel.proofs.PanelLaws.{every-record-apart, refused-record}
use Rattle.frame.specs.Frame.{frame_of}
use Rattle.visible.specs.Changes.{half_changed, pixels_changed}
use Rattle.visible.specs.Promises.{ReadsAndRefusalsUnseen}
use Rattle.visible.proofs.FramesSame.{no-pixels-same}
use Rattle.visible.proofs.HalfSights.{read-sight}
use Rattle.visible.proofs.PanelSights.{half-pixels}

-- neither a command nor a data write
read-unseen : (p : Panel) → length p.ram ≡ 640 → (r : Record) → 3 < r.lines → frame_of (stepped p r) ≡ frame_of p
read-unseen p image r read = sym (no-pixels-same p (stepped p r) (none 0) (none 1))
  where
    own : 0 ≡ half_changed (chip_at p r.chip) (ram_at p r.chip) (outcome_of p r).answer.chip (outcome_of p r).ram
    own = read-sight r _ _ (outcome_of p r) (every-record-apart p image r).own-cycle (λ two. omega arith) (λ three. omega arith)

    none : (k : ℕ) → pixels_changed p (stepped p r) k ≡ 0
    none k = half-pixels p image r k ∙ when (λ (n : ℕ). n ≡ 0) (beq (eqb k 0) (eqb r.chip 0)) (λ _. sym own) (λ _. refl)

pub reads-and-refusals-unseen : ReadsAndRefusalsUnseen
reads-and-refusals-unseen p image r =
    record {
      status-read = λ e. read-unseen p image r (omega arith);
      data-read = λ e. read-unseen p image r (omega arith);
      refused = λ h. ap frame_of (refused-record p r h);
    }
