-- The examples, computed from the definitions.
use mathlib.Core.Path.{refl}
use Rattle.basics.specs.Run.{run_of}
use Rattle.sed1520.specs.Memory.{ram_index}
use Rattle.sed1520.specs.Chip.{in_range, fresh}
use Rattle.sed1520.specs.Command.{among, decode_of}
use Rattle.sed1520.specs.Cycle.{execute, command_write, data_write, after_read, data_read, status_byte, action_of, bus_refusal, step_of, cycle_of}
use Rattle.sed1520.specs.Examples.{commanded, ChipExamples, CommandedChips}

pub chip-examples : ChipExamples
unfolding run_of ram_index cycle_of step_of bus_refusal action_of command_write data_write data_read after_read status_byte execute decode_of among in_range fresh
chip-examples =
    record {
      p1 = refl;
      p2 = refl;
      p3 = (refl, refl);
      p3-ends = refl;
      p4-fresh = refl;
      p4-on-reverse = refl;
      p6-counted = refl;
      p6-returned = refl;
      p7-on = refl;
      p7 = refl;
      p10-80 = (refl, refl);
      p10-ac = (refl, refl);
      p10-bc = (refl, refl);
      p10-e3 = (refl, refl);
      p10-df = (refl, refl);
      p11-0 = λ b. refl;
      p11-6 = λ b. refl;
      p11-8 = λ b. refl;
    }

pub commanded-chips : CommandedChips
unfolding commanded run_of cycle_of step_of bus_refusal action_of command_write execute decode_of among in_range fresh
commanded-chips = record { static-display-off = refl; static-display-on = refl; line-31 = refl; forward = refl; reverse = refl }
