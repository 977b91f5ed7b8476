-- A loop over the data writes or the data reads of one chip, before each record: the records so far have run, their replies stand in the buffer and
-- their counts are taken. A record more carries it on; where none is left, or the next is another, the run ends there.
use Prim.Native.Nat.{ℕ, ◌+◌, ◌*◌, ◌/◌, ◌<◌, ◌≤◌}
use native.Mathlib.Omega.{arith}
use mathlib.Core.Path.{◌≡◌, refl, sym, ap, ◌∙◌}
use mathlib.Core.Bool.{Bool, true, false, not, ◌&&◌}
use mathlib.Core.List.{List, [], ◌∷◌, ◌++◌, append_assoc, flat_map}
use lib.Dec.{eqb, ltb}
use lib.ListN.{length, get_or, take, drop, set, length-take, take-append-drop}
use borrow.Author.Tests.{lt-ltb, ltb-true}
use Rattle.basics.specs.Choice.{if}
use Rattle.basics.proofs.Filling.{Begun, begun-none, begun-byte, begun-length}
use Rattle.basics.proofs.Lists.{flat_append}
use Rattle.basics.proofs.LeadingRun.{Ran, ran-none, ran-more, ran-all, leading-most}
use Rattle.basics.proofs.Tests.{both}
use Rattle.sed1520.specs.BytesRun.{BytesAndRam, bytes_step, carries, run_leading}
use Rattle.sed1520.specs.Cycle.{Reply}
use Rattle.sed1520.specs.Laws.{sent}
use Rattle.sed1520.specs.Records.{front, whole_records}
use Rattle.sed1520.specs.Replies.{is_compared, compared_in, differing_in, reply_bytes, replies_bytes, tally, in_place}
use Rattle.sed1520.specs.declared.bus.Record.{Record}
use Rattle.sed1520.proofs.BytesSteps.{accepted}
use Rattle.sed1520.proofs.Carried.{as-sent}
use Rattle.sed1520.proofs.Counts.{compared-bound, compared-more, differing-bound, differing-more, differing-front}
use Rattle.sed1520.proofs.Records.{front_at, records-length, record-at}

module _ (lines k : ℕ) (s : BytesAndRam) (trace buffer : List ℕ) where
  abbrev records : List Record
  records = whole_records trace

  pub record Upto (n : ℕ) (t : BytesAndRam) (answers : List ℕ) (compared differing : ℕ) : Type 0 where
    pub replies : List Reply
    pub ran : Ran (carries lines k) (front []) bytes_step s records n replies t
    pub written : Begun buffer (replies_bytes replies) (2 * n) answers
    pub so-compared : compared ≡ compared_in replies
    pub so-differing : differing ≡ differing_in replies records

  pub started : Upto 0 s buffer 0 0
  unfolding flat_map compared_in differing_in
  started =
      record {
        replies = [];
        ran = ran-none (carries lines k) (front []) bytes_step s records;
        written = begun-none buffer;
        so-compared = refl;
        so-differing = refl;
      }

-- whether a trace has an n-th record and it is one of these
abbrev more : ℕ → ℕ → List ℕ → ℕ → Bool
more lines k trace n = ltb n (length trace / 4) && carries lines k (front (drop (4 * n) trace))

module _ {lines k : ℕ} {s : BytesAndRam} {trace buffer : List ℕ} {n : ℕ} {t : BytesAndRam} {answers : List ℕ} {compared differing : ℕ}
    (upto : Upto lines k s trace buffer n t answers compared differing) where
  abbrev rs : List Record
  rs = whole_records trace

  all : length rs ≡ length trace / 4
  all = records-length (length trace / 4) trace

  here : n < length trace / 4 → get_or rs n (front []) ≡ front (drop (4 * n) trace)
  here h = record-at (length trace / 4) n trace (front []) h

  pub fewer : compared ≤ n
  fewer = omega (arith, upto.so-compared, compared-bound upto.replies, upto.ran.answered)

  pub less : differing ≤ n
  less = omega (arith, upto.so-differing, differing-bound upto.replies rs, upto.ran.answered)

  pub within : more lines k trace n ≡ true → n < length trace / 4
  within e = ltb-true n (length trace / 4) (both (ltb n (length trace / 4)) _ e).0

  many : n ≤ length trace / 4
  many = omega (arith, all, upto.ran.few, leading-most (carries lines k) (front []) rs)

  pub buffered : 2 * (length trace / 4) ≤ length buffer → length answers ≡ length buffer
  buffered room = begun-length upto.written (omega (arith, many))

  -- one record more
  module _ (e : more lines k trace n ≡ true) (room : 2 * (length trace / 4) ≤ length buffer) where
    abbrev recorded : ℕ
    recorded = get_or trace (4 * n + 2) 0

    passes : carries lines k (front (drop (4 * n) trace)) ≡ true
    passes = (both (ltb n (length trace / 4)) _ e).1

    is : get_or rs n (front []) ≡ sent lines k recorded
    is =
        here (within e)
        ∙ as-sent lines k (front (drop (4 * n) trace)) passes
        ∙ ap (λ (r : Record). sent lines k r.byte) (sym (front_at trace (4 * n)))

    pub carried_on : {a : Reply} {next : BytesAndRam} → bytes_step t (sent lines k recorded) ≡ accepted a next
        → (one other : ℕ) → one ≡ if (is_compared a.kind) 1 0 → other ≡ if (is_compared a.kind && not (eqb a.byte recorded)) 1 0
        → Upto lines k s trace buffer (n + 1) next (set (set answers (2 * n) a.kind) (2 * n + 1) a.byte) (compared + one) (differing + other)
    unfolding flat_map
    carried_on {a} {next} step one other one-is other-is =
        let replies = upto.replies in
        let there = within e in
        let ran = ran-more (carries lines k) (front []) bytes_step s rs upto.ran (omega (arith, all)) (rw (here there) passes) (rw (is, step)) in
        let two : 2 * (n + 1) ≡ 2 * n + 1 + 1 = omega arith in
        let first = begun-byte upto.written a.kind (omega arith) in
        let second = begun-byte first a.byte (omega arith) in
        record {
          replies = replies ++ (a ∷ []);
          ran = rw (is, step) at ran;
          written = rw (two, flat_append reply_bytes replies (a ∷ [])) (rw append_assoc at second);
          so-compared = rw (compared-more replies a, one-is, upto.so-compared);
          so-differing =
              let further = differing-more (front []) replies rs a (omega (arith, all, upto.ran.answered)) in
              rw (further, upto.ran.answered, is, other-is, upto.so-differing);
        }

  -- the run ends here
  pub ends : more lines k trace n ≡ false
      → in_place (tally 0 n compared differing) t.bytes t.ram answers ≡ run_leading lines k s.bytes s.ram trace buffer
  ends e =
      let found = ran-all (carries lines k) (front []) bytes_step s rs upto.ran
      (λ h. rw (here (omega (arith, all))) (rw (lt-ltb n (length trace / 4) (omega (arith, all))) at e)) in
      let counted = rw (take-append-drop n rs) at (differing-front upto.replies (take n rs) (drop n rs)
      (simp length-take (omega (arith, upto.ran.answered, all, many)))) in
      rw (found, upto.ran.run, upto.ran.answered) (rw (← counted, ← upto.so-compared, ← upto.so-differing, ← upto.written.bytes))
