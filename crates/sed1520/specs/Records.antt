-- Bus records as bytes: 4 each, no header: lines, chip, data, 0.
use Rattle.std.specs.Prelude.{ℕ, ◌/◌, length, get_or}
use mathlib.Core.List.{List, [], ◌∷◌, flat_map}
use Rattle.basics.specs.Lists.{pieces}
use Rattle.sed1520.specs.declared.bus.Record.{Record}

-- a record as 4 bytes
abbrev pub record_bytes : Record → List ℕ
record_bytes r = r.lines ∷ r.chip ∷ r.byte ∷ r.spare ∷ []

-- records as bytes, one after the other
abbrev pub records_bytes : List Record → List ℕ
records_bytes rs = flat_map record_bytes rs

-- the record in the first four of some bytes
abbrev pub front : List ℕ → Record
front bytes = record { lines = get_or bytes 0 0; chip = get_or bytes 1 0; byte = get_or bytes 2 0; spare = get_or bytes 3 0 }

-- the first n records in some bytes
abbrev pub records_in : List ℕ → ℕ → List Record
records_in bytes n = pieces front 4 bytes n

-- all whole records in some bytes
abbrev pub whole_records : List ℕ → List Record
whole_records bytes = records_in bytes (length bytes / 4)
