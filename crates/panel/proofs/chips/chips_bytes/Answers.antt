-- `panel::chips::chips_bytes` meets its contract: each chip's bytes in their part.
use native.Mathlib.Omega.{arith}
use mathlib.Core.Path.{◌≡◌, refl, ap, ◌∙◌}
use mathlib.Core.List.{◌++◌}
use lib.ListN.{length, take, drop, replicate, length-append, length-take, length-drop}
use Rattle.sed1520.specs.ChipBytes.{chip_bytes}
use Rattle.sed1520.proofs.ChipBytesUndo.{chip-bytes-length, written_out}
use Rattle.basics.proofs.Halves.{both-written}
use Rattle.panel.proofs.chips.chips_bytes.Goals as goal

pub returns : goal.returns
returns c =
    let first-written : c.chip_out.new.bytes ≡ chip_bytes c.args.chips.left =
    c.chip_out.ensures
    in
    let first-length : length c.chip_out.new.bytes ≡ 12 =
    ap length (first-written) ∙ chip-bytes-length c.args.chips.left
    in
    let whole = first-length in
    let rest = take 12 (drop 12 (c.chip_out.new.bytes ++ replicate 12 0)) in
    let second = written_out c.args.chips.right rest c.chip_out-2.ensures
    (simp (length-take, length-drop, length-append) (omega arith)) in
    both-written 12 _ _ _ _ _ (chip-bytes-length c.args.chips.left) refl (first-written) second
