-- A chip's page and column, of bytes of both chips that number 2 lets pass, as they lie there.
use Prim.Native.Nat.{ℕ, ◌+◌}
use native.Mathlib.Omega.{arith}
use mathlib.Core.Path.{◌≡◌, ap, ◌∙◌}
use mathlib.Core.List.{List}
use lib.ListN.{get_or}
use Rattle.basics.specs.Halves.{part_start, part_at}
use Rattle.basics.proofs.Halves.{part-byte}
use Rattle.sed1520.specs.ChipBytes.{registers_in}
use Rattle.sed1520.specs.declared.registers.Chip.{Chip}
use Rattle.sed1520.specs.declared.bus.Record.{Record}
use Rattle.sed1520.proofs.ChipBytesUndo.{marked-in, passed}
use Rattle.panel.specs.Chips.{panel_in, BothPass}
use Rattle.panel.specs.Panel.{chip_at}
use Rattle.panel.proofs.RecordSteps.{own-right, own-chip}

module _ (r : Record) (chips ram : List ℕ) (fit : BothPass chips ram) where
  own-registers : chip_at (panel_in chips ram) r.chip ≡ registers_in (part_at 12 r.chip chips)
  own-registers =
      let pass = passed (part_at 12 r.chip chips) (own-right r chips ram fit) in
      own-chip r chips ram fit ∙ marked-in (part_at 12 r.chip chips) pass.size pass.flags

  pub page-byte : (chip_at (panel_in chips ram) r.chip).page ≡ get_or chips (part_start 12 r.chip + 5) 0
  unfolding registers_in
  page-byte = ap (λ (c : Chip). c.page) own-registers ∙ part-byte 12 r.chip chips 5 (omega arith)

  pub column-byte : (chip_at (panel_in chips ram) r.chip).column ≡ get_or chips (part_start 12 r.chip + 7) 0
  unfolding registers_in
  column-byte = ap (λ (c : Chip). c.column) own-registers ∙ part-byte 12 r.chip chips 7 (omega arith)
