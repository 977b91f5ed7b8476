-- `vectors::document` meets its contract: each of its sequences, computed from the definitions, agrees.
use Rattle.basics.specs.Run.{run_of}
use Rattle.sed1520.specs.Memory.{ram_index}
use Rattle.sed1520.specs.Chip.{in_range, fresh}
use Rattle.sed1520.specs.Command.{among, decode_of}
use Rattle.sed1520.specs.Cycle.{execute, command_write, data_write, after_read, data_read, status_byte, action_of, bus_refusal, step_of, cycle_of}
use Rattle.vectors.specs.Cases.{case_agrees, agrees_of}
use Rattle.vectors.proofs.document.Goals as goal

pub returns : goal.returns
unfolding agrees_of run_of case_agrees ram_index cycle_of step_of bus_refusal action_of command_write data_write data_read after_read status_byte
    execute decode_of among in_range fresh
returns c = rw (c.agrees.ensures, c.agrees-2.ensures)
