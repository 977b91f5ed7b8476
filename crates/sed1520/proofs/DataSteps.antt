-- A data write and a data read on the bytes of a chip of which the column and the read latch are held apart, as a loop holds them in locals.
use Prim.Native.Nat.{ℕ, ◌+◌, ◌-◌, ◌<◌, ◌≤◌}
use native.Mathlib.Omega.{arith}
use mathlib.Core.Path.{◌≡◌, refl, ap, ◌∙◌}
use mathlib.Core.Bool.{Bool, true, false}
use mathlib.Core.List.{List}
use lib.ListN.{length, get_or, set}
use Rattle.basics.specs.Choice.{if}
use Rattle.sed1520.specs.BytesRun.{BytesAndRam, with_ram, bytes_step}
use Rattle.sed1520.specs.Chip.{latched, read_kind}
use Rattle.sed1520.specs.ChipBytes.{bit, flag, chip_bytes, registers_in}
use Rattle.sed1520.specs.Cycle.{Outcome, outcome, answered, bus_refusal, step_of, data_write, after_read, data_read, Reply}
use Rattle.sed1520.specs.Laws.{sent}
use Rattle.sed1520.specs.Memory.{image_index, byte_at, byte_set}
use Rattle.sed1520.specs.Replies.{is_compared, reply, write_reply}
use Rattle.sed1520.specs.declared.registers.Chip.{Chip}
use Rattle.sed1520.specs.declared.registers.ReadLatch.TheVariants.{Fresh, Stale}
use Rattle.sed1520.proofs.ActionCases.{data-write-stored, data-write-stopped, after-read-below, after-read-stopped}
use Rattle.sed1520.proofs.BytesSteps.{accepted, by-outcome}
use Rattle.sed1520.proofs.ChipBytesUndo.{latched-latch}
use Rattle.sed1520.proofs.StepCases.{action-data-write, action-data-read, not-refused, strobes-differ, step-action}
use Rattle.sed1520.proofs.TwelveBytes.{twelve, twelve_by}

-- column, mark and latch stored as the bytes have them change nothing
pub as_written : (b : List ℕ) → length b ≡ 12 → set (set b 7 (get_or b 7 0)) 9 (get_or b 9 0) ≡ b
as_written b size = twelve (λ (b : List ℕ). set (set b 7 (get_or b 7 0)) 9 (get_or b 9 0) ≡ b) b size (λ at. refl)

pub as_read : (b : List ℕ) → length b ≡ 12 → set (set (set b 7 (get_or b 7 0)) 9 (get_or b 9 0)) 10 (get_or b 10 0) ≡ b
as_read b size = twelve (λ (b : List ℕ). set (set (set b 7 (get_or b 7 0)) 9 (get_or b 9 0)) 10 (get_or b 10 0) ≡ b) b size (λ at. refl)

kind-latch : (t : Bool) (b : ℕ) → read_kind (if t (Fresh b) (Stale b)) ≡ if t 1 2
kind-latch true b = refl
kind-latch false b = refl

-- the kind that a data read answers with, and its count of compared reads, from whether the latch is fresh as 1 or 0
pub fresh-kind : (t : Bool) → 2 - bit t ≡ if t 1 2
fresh-kind true = refl
fresh-kind false = refl

pub fresh-compared : (t : Bool) → bit t ≡ if (is_compared (if t 1 2)) 1 0
fresh-compared true = refl
fresh-compared false = refl

module _ (k : ℕ) (addressed : k < 2) (v : ℕ) where
  not-refused-sent : (lines : ℕ) → 2 ≤ lines → lines ≤ 5 → bus_refusal (sent lines k v) ≡ 0
  not-refused-sent lines low high = not-refused (sent lines k v) (omega arith) refl addressed (strobes-differ lines low high)

  writes : (s : BytesAndRam) → step_of (sent 3 k v) (registers_in s.bytes) s.ram ≡ data_write k v (registers_in s.bytes) s.ram
  writes s = step-action (sent 3 k v) _ _ (not-refused-sent 3 (omega arith) (omega arith)) ∙ action-data-write (sent 3 k v) _ _ refl

  -- what a data read answers, with a chip afterwards
  abbrev answering : BytesAndRam → Chip → Outcome
  answering s next = let l = (registers_in s.bytes).latch in outcome (answered (read_kind l) (latched l) next) s.ram

  reads : (s : BytesAndRam) → step_of (sent 5 k v) (registers_in s.bytes) s.ram ≡ answering s (after_read (registers_in s.bytes) s.ram)
  unfolding data_read
  reads s = step-action (sent 5 k v) _ _ (not-refused-sent 5 (omega arith) (omega arith)) ∙ action-data-read (sent 5 k v) _ _ refl

  -- a data write below the stop, and from it on
  module _ (column mark : ℕ) (ram : List ℕ) where
    abbrev written : List ℕ → BytesAndRam
    written b = with_ram (set (set b 7 column) 9 mark) ram

    pub write-below : (b : List ℕ) → length b ≡ 12 → column < 80
        → bytes_step (written b) (sent 3 k v)
        ≡ accepted (write_reply (image_index k (get_or b 5 0) column))
        (with_ram (set (set b 7 (column + 1)) 9 0) (byte_set ram (get_or b 5 0) column v))
    unfolding registers_in chip_bytes
    write-below b size below =
        twelve (λ (b : List ℕ). bytes_step (written b) (sent 3 k v)
        ≡ accepted (write_reply (image_index k (get_or b 5 0) column))
        (with_ram (set (set b 7 (column + 1)) 9 0) (byte_set ram (get_or b 5 0) column v))) b size
        (λ at. let s = written (twelve_by at) in by-outcome s (sent 3 k v) (writes s ∙ data-write-stored (registers_in s.bytes) ram below k v))

    pub write-past : (b : List ℕ) → length b ≡ 12 → 80 ≤ column
        → bytes_step (written b) (sent 3 k v) ≡ accepted (reply 0 0) (with_ram (set (set b 7 column) 9 0) ram)
    unfolding registers_in chip_bytes
    write-past b size past =
        twelve (λ (b : List ℕ). bytes_step (written b) (sent 3 k v) ≡ accepted (reply 0 0) (with_ram (set (set b 7 column) 9 0) ram)) b size
        (λ at. let s = written (twelve_by at) in by-outcome s (sent 3 k v) (writes s ∙ data-write-stopped (registers_in s.bytes) ram past k v))

    -- a data read below the stop, and from it on
    module _ (latch : ℕ) where
      abbrev read : List ℕ → BytesAndRam
      read b = with_ram (set (set (set b 7 column) 9 mark) 10 latch) ram

      abbrev replied : Reply
      replied = reply (if (flag mark) 1 2) latch

      pub read_below : (b : List ℕ) → length b ≡ 12 → column < 80
          → bytes_step (read b) (sent 5 k v)
          ≡ accepted replied
          (with_ram (set (set (set b 7 (if (flag (get_or b 4 0)) column (column + 1))) 9 1) 10 (byte_at ram (get_or b 5 0) column)) ram)
      unfolding registers_in chip_bytes
      read_below b size below =
          twelve (λ (b : List ℕ). bytes_step (read b) (sent 5 k v)
          ≡ accepted replied
          (with_ram (set (set (set b 7 (if (flag (get_or b 4 0)) column (column + 1))) 9 1) 10 (byte_at ram (get_or b 5 0) column)) ram)) b size
          (λ at. let s = read (twelve_by at) in
          by-outcome s (sent 5 k v) (reads s ∙ ap (answering s) (after-read-below (registers_in s.bytes) ram below))
          ∙ rw (kind-latch (flag mark) latch, latched-latch (flag mark) latch))

      pub read_past : (b : List ℕ) → length b ≡ 12 → 80 ≤ column
          → bytes_step (read b) (sent 5 k v) ≡ accepted replied (with_ram (set (set (set b 7 column) 9 0) 10 latch) ram)
      unfolding registers_in chip_bytes
      read_past b size past =
          twelve (λ (b : List ℕ). bytes_step (read b) (sent 5 k v) ≡ accepted replied (with_ram (set (set (set b 7 column) 9 0) 10 latch) ram)) b size
          (λ at. let s = read (twelve_by at) in
          by-outcome s (sent 5 k v) (reads s ∙ ap (answering s) (after-read-stopped (registers_in s.bytes) ram past))
          ∙ rw (kind-latch (flag mark) latch, latched-latch (flag mark) latch))
