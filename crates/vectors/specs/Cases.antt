-- Cases of seven bytes: a record, then the number, the kind and the byte that its cycle must answer.
use Rattle.std.specs.Prelude.{ℕ, Bool, ◌&&◌, List, eqb, get_or, replicate}
use Rattle.sed1520.specs.Memory.{ram_length}
use Rattle.basics.specs.Choice.{if}
use Rattle.basics.specs.Run.{Step, Run, run_of}
use Rattle.sed1520.specs.Chip.{fresh}
use Rattle.sed1520.specs.Cycle.{Reply, ChipAndRam, cycle_of, chip_step}
use Rattle.sed1520.specs.Records.{front}
use Rattle.sed1520.specs.Cycle.{Answer}

-- whether the case says what the cycle answered
unfoldable pub case_agrees : List ℕ → Answer → Bool
case_agrees case a = eqb (get_or case 4 0) a.number && (eqb (get_or case 5 0) a.kind && eqb (get_or case 6 0) a.byte)

-- a case given to the chip: it ends the run, with number 1, where the cycle answers otherwise; a refused record that the case expects does not
abbrev pub case_step : ChipAndRam → List ℕ → Step ChipAndRam Reply
case_step s case =
    let step = chip_step s (front case) in
    record { number = if (case_agrees case (cycle_of (front case) s.chip s.ram).answer) 0 1; answer = step.answer; next = step.next }

-- the run of cases one after the other, from a fresh chip over RAM all 0
abbrev pub cases_run : List (List ℕ) → Run ChipAndRam Reply
cases_run = run_of case_step (record { chip = fresh; ram = replicate ram_length 0 })

-- whether all cases agree
unfoldable pub agrees_of : List (List ℕ) → Bool
agrees_of cases = eqb (cases_run cases).number 0
