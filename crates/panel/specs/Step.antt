-- Records given to the bytes of both chips and their image: the chip that a record names is lent its own 12 bytes and its own 320 bytes.
use Rattle.std.specs.Prelude.{ℕ, List}
use Rattle.basics.specs.Halves.{part_at, part_put}
use Rattle.basics.specs.Run.{Step}
use Rattle.sed1520.specs.BytesRun.{BytesAndRam, with_ram, bytes_step, run_together}
use Rattle.sed1520.specs.ChipBytes.{chip_length}
use Rattle.sed1520.specs.Cycle.{Reply}
use Rattle.sed1520.specs.Memory.{ram_length}
use Rattle.sed1520.specs.Replies.{InPlace}
use Rattle.sed1520.specs.declared.bus.Record.{Record}
use Rattle.sed1520.specs.declared.tally.Tally.{Tally}
use Rattle.panel.specs.Chips.{chips_length}
use Rattle.panel.specs.Panel.{image_length}

-- a chip's own bytes and RAM, of those of both
abbrev pub own_of : ℕ → BytesAndRam → BytesAndRam
own_of k both = with_ram (part_at chip_length k both.bytes) (part_at ram_length k both.ram)

-- a chip's bytes and RAM put in place, the other chip's as they were
abbrev pub put_back : ℕ → BytesAndRam → BytesAndRam → BytesAndRam
put_back k both own = with_ram (part_put chip_length k both.bytes own.bytes) (part_put ram_length k both.ram own.ram)

-- a record given to the chip that it names; one that names neither goes to the right chip, which refuses it
unfoldable pub chips_step : BytesAndRam → Record → Step BytesAndRam Reply
chips_step both r =
    let own = bytes_step (own_of r.chip both) r in
    record { number = own.number; answer = own.answer; next = put_back r.chip both own.next }

-- the records that a trace begins with and that run together, given to the bytes of both chips
abbrev pub run_chips : List ℕ → List ℕ → List ℕ → List ℕ → InPlace Tally
run_chips chips ram trace answers = run_together chips_step chips_length image_length chips ram trace answers
