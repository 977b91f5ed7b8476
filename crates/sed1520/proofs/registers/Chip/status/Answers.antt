-- `sed1520::registers::Chip::status` meets its contract, by what it calls.

use Rattle.sed1520.proofs.registers.Chip.status.Goals as goal

pub returns : goal.returns
returns c =
    cc
