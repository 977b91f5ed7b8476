-- What is proved of the byte of the image that a record says it stored to, and how many bytes records store to (request C-16).
use Rattle.std.specs.Prelude.{ℕ, ◌+◌, ◌<◌, ◌≡◌, List, [], ◌∷◌, eqb, length}
use Rattle.std.specs.Prelude.{None, Some}
use Rattle.basics.specs.Choice.{if}
use Rattle.sed1520.specs.Memory.{image_index}
use Rattle.sed1520.specs.Stores.{finds_column, OneStored}
use Rattle.sed1520.specs.declared.bus.Record.{Record}
use Rattle.panel.specs.Panel.{image_length, Panel, chip_at, outcome_of, stepped}

-- the index in the image of the byte at a chip's page and column; at column 80, where nothing is stored, the index after that of column 79
abbrev pub write_index : Panel → ℕ → ℕ
write_index p k = image_index k (chip_at p k).page (chip_at p k).column

-- what a record says that it stored to on a panel: accepted, a data write below column 80 the byte at its chip's page and column, any other record
-- nothing; refused, nothing; nothing said, the image is as it was; a byte said is one of the 640, the only one that can differ afterwards, and it
-- holds the written byte
pub record SaysStoredInImage (p : Panel) (r : Record) : Type 0 where
  pub accepted : (outcome_of p r).answer.number ≡ 0
      → (outcome_of p r).answer.stored ≡ if (finds_column r (chip_at p r.chip)) (Some (write_index p r.chip)) None
  pub refused : ((outcome_of p r).answer.number ≡ 0 → ⊥) → (outcome_of p r).answer.stored ≡ None
  pub nothing : (outcome_of p r).answer.stored ≡ None → (stepped p r).ram ≡ p.ram
  pub byte : (i : ℕ) → (outcome_of p r).answer.stored ≡ Some i
      → (i < image_length) × OneStored i r.byte p.ram (stepped p r).ram

-- every record on every panel of 640 bytes, also where number 2 refuses a chip, says what it stored to as `SaysStoredInImage` has it
abbrev pub EveryRecordSays : Type 0
EveryRecordSays = (p : Panel) → length p.ram ≡ image_length → (r : Record) → SaysStoredInImage p r

-- how many of some records, up to the first that is refused, write data and find a column below 80: counted from each record and the panel before it,
-- and not from what a cycle says that it stored to
unfoldable pub writes_finding : Panel → List Record → ℕ
writes_finding p [] = 0
writes_finding p (r ∷ rs) =
    if (eqb (outcome_of p r).answer.number 0) (if (finds_column r (chip_at p r.chip)) 1 0 + writes_finding (stepped p r) rs) 0
