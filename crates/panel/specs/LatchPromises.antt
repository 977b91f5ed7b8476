-- What is proved of the read latches of two chips (document 01: the holder): the byte of a fresh one stands in RAM; and a mark, fresh or stale,
-- decides between kinds 1 and 2 and changes nothing else.
use Rattle.std.specs.Prelude.{ℕ, ◌≡◌, List, map, length}
use Rattle.basics.specs.Choice.{if}
use Rattle.basics.specs.Run.{Step, Run, run_of}
use Rattle.sed1520.specs.Chip.{staled, with_latch}
use Rattle.sed1520.specs.Cycle.{Reply, as_step}
use Rattle.sed1520.specs.LatchPromises.{Stands, FreshStands, unmarked_reply, sets_page_or_writes}
use Rattle.sed1520.specs.declared.registers.Chip.{Chip}
use Rattle.sed1520.specs.declared.registers.ReadLatch.TheVariants.{Stale}
use Rattle.sed1520.specs.declared.bus.Record.{Record}
use Rattle.panel.specs.Panel.{image_length, Panel, as_panel, chip_at, ram_at, put, outcome_of, panel_step, panel_run, after}

-- `FreshStands` holds of a chip with a stale latch, as a fresh chip has; where it holds of chip k it does after any records on the whole image; and
-- where it holds of the chip that is read, an answer of kind 1 is a byte that stands in RAM as `Stands` says
pub record EveryFreshByte : Type 0 where
  pub begun : (c : Chip) (ram : List ℕ) (a : ℕ) → c.latch ≡ Stale a → FreshStands c ram
  pub kept : (p : Panel) → length p.ram ≡ image_length → (k : ℕ) → FreshStands (chip_at p k) (ram_at p k) → (rs : List Record)
      → FreshStands (chip_at (after p rs) k) (ram_at (after p rs) k)
  pub answered : (p : Panel) (r : Record) → FreshStands (chip_at p r.chip) (ram_at p r.chip) → (outcome_of p r).answer.kind ≡ 1
      → Stands (chip_at p r.chip) (ram_at p r.chip) (outcome_of p r).answer.byte

-- a panel with both latches made stale: what it holds but for their marks
abbrev pub unmarked : Panel → Panel
unmarked p = as_panel (staled p.left) (staled p.right) p.ram

-- a step that gives each record the number and the reply that the cycle gives, and leads to the same panel, but for the marks
pub record MarksAlone (step : Panel → Record → Step Panel Reply) : Type 0 where
  pub number : (p : Panel) (r : Record) → (step p r).number ≡ (panel_step p r).number
  pub answer : (p : Panel) (r : Record) → unmarked_reply (step p r).answer ≡ unmarked_reply (panel_step p r).answer
  pub next : (p : Panel) (r : Record) → unmarked (step p r).next ≡ unmarked (panel_step p r).next

-- two runs with the same number, the same replies and the same panel at the end, but for the marks
pub record SameButMarks (one other : Run Panel Reply) : Type 0 where
  pub number : one.number ≡ other.number
  pub answers : map unmarked_reply one.answers ≡ map unmarked_reply other.answers
  pub state : unmarked one.state ≡ unmarked other.state

-- a record given to the panel by the rule without request C-12: a page set or a data write leaves the latch as it was
abbrev pub former_step : Panel → Record → Step Panel Reply
former_step p r =
    let o = outcome_of p r in
    let kept = with_latch (chip_at p r.chip).latch o.answer.chip in
    as_step o (put p r.chip (if (sets_page_or_writes r) kept o.answer.chip) o.ram)

-- whatever marks the latches begin with and whatever marks a step leaves, all but marks and kinds 1 and 2 is as the cycle has it; and the rule
-- without request C-12 is such a step, so with the request no byte that is answered changes, none of RAM and no register but the mark
pub record BytesStay : Type 0 where
  pub any_step : (step : Panel → Record → Step Panel Reply) → MarksAlone step → (p q : Panel) → unmarked p ≡ unmarked q → (rs : List Record)
      → SameButMarks (run_of step p rs) (panel_run q rs)
  pub former : MarksAlone former_step
