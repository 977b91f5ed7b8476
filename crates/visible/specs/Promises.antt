-- What is proved beside the call's contract: of the entries, of the records that nobody can see, and of what is refused.
use Rattle.std.specs.Prelude.{ℕ, suc, ◌+◌, ◌<◌, ◌≡◌, List, ◌⊎◌, length, get_or}
use Rattle.panel.specs.Panel.{image_length, Panel, outcome_of, stepped}
use Rattle.sed1520.specs.Records.{whole_records}
use Rattle.basics.specs.Table.{ExactlyWhen}
use Rattle.basics.specs.Verdict.{verdict}
use Rattle.sed1520.specs.declared.bus.Record.{Record}
use Rattle.frame.specs.Frame.{frame_of}
use Rattle.visible.specs.Changes.{before, Entry, as_entry, entry_at, all_entries, changes_table, changes_of}

-- entry i of the list of changes
abbrev pub entry_no : Panel → List Record → ℕ → Entry
entry_no p rs i = get_or (all_entries p rs) i (as_entry 0 0 0)

-- record k is listed: some entry is that of record k
abbrev pub Listed : Panel → List Record → ℕ → Type 0
Listed p rs k = (i : ℕ) × ((i < length (all_entries p rs)) × ((entry_no p rs i).index ≡ k))

-- record k leaves the frame as it was
abbrev pub Unseen : Panel → List Record → ℕ → Type 0
Unseen p rs k = frame_of (before p rs (suc k)) ≡ frame_of (before p rs k)

-- entry i is of a record of the trace, after which the frame differs from before it; its two counts are how many pixels of the halves differ; they
-- are not both 0, and one is 0, as a record goes to one chip
pub record EntrySays (p : Panel) (rs : List Record) (i : ℕ) : Type 0 where
  pub within : (entry_no p rs i).index < length rs
  pub counts : entry_no p rs i ≡ entry_at p rs (entry_no p rs i).index
  pub seen : Unseen p rs (entry_no p rs i).index → ⊥
  pub some : (entry_no p rs i).left + (entry_no p rs i).right ≡ 0 → ⊥
  pub one-half : ((entry_no p rs i).left ≡ 0) ⊎ ((entry_no p rs i).right ≡ 0)

-- a record is listed exactly when the frame after it differs from the frame before it, once and in the order of the trace; one that is not
-- listed changed nothing that can be seen
pub record ListSays (p : Panel) (rs : List Record) : Type 0 where
  pub each : (i : ℕ) → i < length (all_entries p rs) → EntrySays p rs i
  pub every : (k : ℕ) → k < length rs → (Unseen p rs k → ⊥) → Listed p rs k
  pub order : (i j : ℕ) → i < j → j < length (all_entries p rs) → (entry_no p rs i).index < (entry_no p rs j).index
  pub unlisted : (k : ℕ) → k < length rs → (Listed p rs k → ⊥) → Unseen p rs k

-- ListSays holds of any records on any panel whose image has 640 bytes
abbrev pub EveryListSays : Type 0
EveryListSays = (p : Panel) → length p.ram ≡ image_length → (rs : List Record) → ListSays p rs

-- a status read, a data read and a refused record leave the frame
pub record LeavesFrame (p : Panel) (r : Record) : Type 0 where
  pub status-read : r.lines ≡ 4 → frame_of (stepped p r) ≡ frame_of p
  pub data-read : r.lines ≡ 5 → frame_of (stepped p r) ≡ frame_of p
  pub refused : ((outcome_of p r).answer.number ≡ 0 → ⊥) → frame_of (stepped p r) ≡ frame_of p

-- LeavesFrame holds of any record on any panel whose image has 640 bytes
abbrev pub ReadsAndRefusalsUnseen : Type 0
ReadsAndRefusalsUnseen = (p : Panel) → length p.ram ≡ image_length → (r : Record) → LeavesFrame p r

-- the list of changes gives each number exactly when its line says so, else number 0 with how many entries there are as place
abbrev pub ChangesNumbers : Type 0
ChangesNumbers =
    (p : Panel) (trace buffer : List ℕ)
    → ExactlyWhen (changes_table p trace (length buffer)) (verdict 0 (length (all_entries p (whole_records trace))))
    (changes_of p trace buffer).answer

-- the list of changes leaves the entries' buffer as it came wherever its number is not 0
abbrev pub EveryRefusalKeeps : Type 0
EveryRefusalKeeps =
    (p : Panel) (trace buffer : List ℕ) → ((changes_of p trace buffer).answer.number ≡ 0 → ⊥) → (changes_of p trace buffer).lent ≡ buffer
