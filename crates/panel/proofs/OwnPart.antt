-- Records that all name one chip: their run over the bytes of both chips is their run over that chip's own bytes, put back.
use Prim.Native.Nat.{ℕ, ◌+◌, ◌-◌, ◌*◌, ◌/◌, ◌≤◌}
use native.Mathlib.Omega.{arith}
use mathlib.Core.Path.{◌≡◌, sym, ap, ◌∙◌}
use mathlib.Core.List.{List, ◌∷◌, ◌++◌}
use mathlib.Core.Logic.{⊎_elim}
use lib.Dec.{ltb}
use lib.ListN.{length, get_or, take, drop}
use borrow.Author.Tests.{ltb-true, ltb-false}
use Rattle.basics.specs.Halves.{part_start, part_at, part_put}
use Rattle.basics.specs.Run.{run_of}
use Rattle.basics.proofs.Halves.{part_length, part-lent, part-back, same_back, put-own, put-again, part-byte}
use Rattle.basics.proofs.RunOfPart.{Each, with_state, step_in, run-of-part}
use Rattle.basics.proofs.Tests.{tested}
use Rattle.sed1520.specs.BytesRun.{BytesAndRam, with_ram, bytes_step, together, columns_written, run_bytes}
use Rattle.sed1520.specs.Records.{front, whole_records}
use Rattle.sed1520.specs.Replies.{InPlace, in_place}
use Rattle.sed1520.specs.declared.bus.Record.{Record}
use Rattle.sed1520.specs.declared.tally.Tally.{Tally}
use Rattle.sed1520.proofs.BytesSteps.{step-lengths}
use Rattle.sed1520.proofs.TogetherCases.{together-alike, answers-short, some-run}
use Rattle.panel.specs.Step.{own_of, put_back, chips_step, run_chips}

-- 12 bytes of a chip and 320 bytes of RAM
record Part (t : BytesAndRam) : Type 0 where
  bytes : length t.bytes ≡ 12
  ram : length t.ram ≡ 320

module _ (chips ram : List ℕ) (size : length chips ≡ 24) (image : length ram ≡ 640) (k : ℕ) where
  abbrev s : BytesAndRam
  s = with_ram chips ram

  steps : (t : BytesAndRam) → Part t → (r : Record) → r.chip ≡ k → chips_step (put_back k s t) r ≡ step_in (put_back k s) (bytes_step t r)
  unfolding chips_step
  steps t part r names =
      rw (names, put-own 12 k chips size t.bytes part.bytes, put-own 320 k ram image t.ram part.ram)
      (rw (put-again 12 k chips size t.bytes part.bytes _, put-again 320 k ram image t.ram part.ram _))

  keeps : (t : BytesAndRam) → Part t → (r : Record) → r.chip ≡ k → Part (bytes_step t r).next
  keeps t part r _ = let same = step-lengths t r in record { bytes = same.0 ∙ part.bytes; ram = same.1 ∙ part.ram }

  own-run : (rs : List Record) → Each (λ (r : Record). r.chip ≡ k) rs
      → run_of chips_step s rs ≡ with_state (put_back k s) (run_of bytes_step (own_of k s) rs)
  own-run rs named =
      let part : Part (own_of k s) = record { bytes = part_length 12 k chips size; ram = part_length 320 k ram image } in
      rw (same_back 12 k chips, same_back 320 k ram) at
      (run-of-part chips_step bytes_step (put_back k s) (λ (r : Record). r.chip ≡ k) Part steps keeps rs named (own_of k s) part)

-- the first record's chip is lent its own parts, and its run is put back
module _ (chips ram trace answers : List ℕ) (size : length chips ≡ 24) (image : length ram ≡ 640) (some : 4 ≤ length trace) where
  abbrev k : ℕ
  k = (front trace).chip

  abbrev placed : InPlace Tally → InPlace Tally
  placed o = in_place o.answer (part_put 12 k chips o.lent.state) (part_put 320 k ram o.lent.ram) o.lent.answers

  put-run : placed (run_bytes (part_at 12 k chips) (part_at 320 k ram) trace answers) ≡ run_chips chips ram trace answers
  put-run =
      ⊎_elim
      (λ t. let short = ltb-true (length answers) (2 * (length trace / 4)) t in
      let own = answers-short bytes_step 12 320 (part_at 12 k chips) (part_at 320 k ram) trace answers short in
      rw (own, answers-short chips_step 24 640 chips ram trace answers short) (rw (same_back 12 k chips, same_back 320 k ram)))
      (λ t. let room = ltb-false (length answers) (2 * (length trace / 4)) t in
      let right = part_length 12 k chips size in
      let half = part_length 320 k ram image in
      let own = some-run bytes_step 12 320 (part_at 12 k chips) (part_at 320 k ram) trace answers right half room some in
      let rs = front trace ∷ whole_records (drop 4 trace) in
      let named = together-alike (λ (q : Record). q.chip ≡ k) (front trace) (λ q _ e. e) (whole_records (drop 4 trace)) in
      rw (own, some-run chips_step 24 640 chips ram trace answers size image room some)
      (rw (own-run chips ram size image k (take (together rs) rs) named)))
      (tested (ltb (length answers) (2 * (length trace / 4))))

  -- as code lends them and takes them back
  pub on-parts : (from start : ℕ) → from ≡ part_start 12 k → start ≡ part_start 320 k → {i : Tally} {own part left : List ℕ}
      → in_place i own part left
      ≡ run_bytes (take (from + 12 - from) (drop from chips)) (take (start + 320 - start) (drop start ram)) trace answers
      → in_place i
      (take from chips ++ (own ++ drop (from + 12 - from) (drop from chips)))
      (take start ram ++ (part ++ drop (start + 320 - start) (drop start ram)))
      left
      ≡ run_chips chips ram trace answers
  on-parts from start is-from is-start {i} {own} {part} e =
      let lent = rw (part-lent 12 k from chips size is-from, part-lent 320 k start ram image is-start) at e in
      rw (part-back 12 k from chips size is-from own, part-back 320 k start ram image is-start part) (ap placed lent ∙ put-run)

  -- the columns moved in the chip's own bytes are moved where these begin
  pub moved-on-parts : (from : ℕ) → from ≡ part_start 12 k → {m : ℕ} (own : List ℕ) → length own ≡ 12
      → m ≡ columns_written trace 0 (take (from + 12 - from) (drop from chips)) own
      → m ≡ columns_written trace (part_start 12 k) chips (take from chips ++ (own ++ drop (from + 12 - from) (drop from chips)))
  moved-on-parts from is-from own whole e =
      let lent = rw (part-lent 12 k from chips size is-from) at e in
      let put = part_put 12 k chips own in
      let after : get_or own 7 0 ≡ get_or put (part_start 12 k + 7) 0 =
      ap (λ (b : List ℕ). get_or b 7 0) (sym (put-own 12 k chips size own whole)) ∙ part-byte 12 k put 7 (omega arith) in
      rw (part-back 12 k from chips size is-from own) (lent ∙ rw (after, part-byte 12 k chips 7 (omega arith)))
