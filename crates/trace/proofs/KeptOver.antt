-- The bytes that a feed keeps over and the part after them: how many, which one stands where, and what is kept over next.
use Prim.Native.Nat.{ℕ, ◌+◌, ◌-◌, ◌*◌, ◌/◌, ◌%◌, ◌<◌, ◌≤◌}
use native.Mathlib.Omega.{arith}
use mathlib.Core.Path.{◌≡◌, refl, sym, ap, ◌∙◌}
use mathlib.Core.List.{List, [], ◌∷◌, ◌++◌, flat_map, append_assoc, append-nil}
use lib.ListN.{length, get_or, take, drop, take-append-drop, length-append, length-drop}
use lib.Seq.{length-take-le, get_or-drop, drop-append-add}
use Rattle.basics.specs.Lists.{pieces}
use Rattle.basics.specs.Run.{run_of}
use Rattle.panel.specs.Panel.{Panel}
use Rattle.sed1520.specs.Records.{whole_records}
use Rattle.sed1520.proofs.Records.{front-there, whole-records-join}
use Rattle.trace.specs.Replay.{ended_at, ended, ended_bytes}
use Rattle.sed1520.specs.Replies.{compared_in, differing_in}
use Rattle.trace.specs.Feed.{keeping, kept_bytes, joined_to, cut_off}
use Rattle.panel.specs.Trace.{trace_run}
use Rattle.trace.specs.Wear.{worn}
use Rattle.trace.proofs.WearCounts.{worn-no-answers}
use Rattle.trace.specs.declared.progress.Ending.{Ending}
use Rattle.trace.specs.declared.progress.Progress.{Progress}

module _ (t : Progress) (few : t.kept ≤ 3) where
  pub kept-length : length (kept_bytes t) ≡ t.kept
  kept-length = length-take-le t.kept (t.first ∷ t.second ∷ t.third ∷ []) (omega arith)

  pub joined_length : (part : List ℕ) → length (joined_to t part) ≡ t.kept + length part
  joined_length part = rw length-append (omega (arith, kept-length))

  -- the record that the bytes kept over begin, and what is left of the part behind it
  pub straddled : (part : List ℕ) → 4 ≤ t.kept + length part → let bytes = joined_to t part in
      (get_or bytes 0 0 ∷ get_or bytes 1 0 ∷ get_or bytes 2 0 ∷ get_or bytes 3 0 ∷ []) ++ drop (4 - t.kept) part ≡ bytes
  straddled part h =
      let bytes = joined_to t part in
      let four : length (kept_bytes t) + (4 - t.kept) ≡ 4 = omega (arith, kept-length) in
      let behind = rw four at (drop-append-add (kept_bytes t) part (4 - t.kept)) in
      let four_bytes = front-there bytes (omega (arith, joined_length part)) in
      ap (λ (l : List ℕ). l ++ drop (4 - t.kept) part) four_bytes ∙ rw (← behind) (take-append-drop 4 bytes)

pub kept-none : (t : Progress) (part : List ℕ) → t.kept ≡ 0 → joined_to t part ≡ part
kept-none t part h = rw h

-- fewer than four bytes are no record
pub no_record : (bytes : List ℕ) → length bytes < 4 → whole_records bytes ≡ []
unfolding pieces
no_record bytes h = let none : length bytes / 4 ≡ 0 = omega arith in rw none

pub nothing_run : (p : Panel) (bytes answers : List ℕ) → length bytes < 4 → ended_bytes p bytes answers ≡ ended_at 0 0 0 0 p answers
unfolding ended run_of compared_in differing_in flat_map
nothing_run p bytes answers h = rw (no_record bytes h)

pub none-stored : (wear : List ℕ) (p : Panel) (bytes : List ℕ) → length bytes < 4 → wear ≡ worn wear (trace_run p bytes).answers
unfolding run_of
none-stored wear p bytes h = rw (no_record bytes h) (worn-no-answers wear)

-- fewer than four bytes are cut off
pub cut-off-length : (bytes : List ℕ) → length (cut_off bytes) ≡ length bytes % 4
cut-off-length bytes = simp length-drop (omega arith)

-- what is kept over of so many bytes, byte by byte
pub kept-over : (bytes : List ℕ) (n records compared differing : ℕ) (ending : Ending) → length bytes ≡ n → let from = 4 * (n / 4) in
    keeping (cut_off bytes) records compared differing ending
    ≡ record {
      kept = n % 4;
      first = get_or bytes from 0;
      second = get_or bytes (from + 1) 0;
      third = get_or bytes (from + 2) 0;
      records = records;
      compared = compared;
      differing = differing;
      ending = ending;
    }
kept-over bytes n records compared differing ending h =
    let from = 4 * (length bytes / 4) in
    let same : from + 0 ≡ from = omega arith in
    rw (cut-off-length bytes, get_or-drop from bytes 0 0, get_or-drop from bytes 1 0, get_or-drop from bytes 2 0, same) (rw h)

-- bytes cut at the last whole record, and more behind them
module _ (bytes more : List ℕ) where
  whole : List ℕ
  whole = take (4 * (length bytes / 4)) bytes

  whole_length : length whole ≡ 4 * (length bytes / 4)
  unfolding whole
  whole_length = length-take-le (4 * (length bytes / 4)) bytes (omega arith)

  cut-here : bytes ++ more ≡ whole ++ (cut_off bytes ++ more)
  unfolding whole
  cut-here = rw (← append_assoc whole (cut_off bytes) more, take-append-drop (4 * (length bytes / 4)) bytes)

  same-records : whole_records whole ≡ whole_records bytes
  unfolding whole
  same-records =
      let none = no_record (cut_off bytes) (omega (arith, cut-off-length bytes)) in
      let both = whole-records-join whole (cut_off bytes) (omega (arith, whole_length)) in
      sym (rw (take-append-drop (4 * (length bytes / 4)) bytes, none, append-nil) at both)

  pub records-on : whole_records (bytes ++ more) ≡ whole_records bytes ++ whole_records (cut_off bytes ++ more)
  records-on = rw (cut-here, whole-records-join whole (cut_off bytes ++ more) (omega (arith, whole_length)), same-records)

  pub cut-off-on : cut_off (bytes ++ more) ≡ cut_off (cut_off bytes ++ more)
  cut-off-on =
      let rest = cut_off bytes ++ more in
      let long : length (whole ++ rest) ≡ length whole + length rest = length-append whole rest in
      let from : 4 * (length (whole ++ rest) / 4) ≡ length whole + 4 * (length rest / 4) = omega (arith, whole_length) in
      rw cut-here (rw from (drop-append-add whole rest (4 * (length rest / 4))))

-- what was kept over is what is kept
pub kept_back : (rest : List ℕ) (records compared differing : ℕ) (ending : Ending) → length rest ≤ 3
    → kept_bytes (keeping rest records compared differing ending) ≡ rest
kept_back [] records compared differing ending h = refl
kept_back (a ∷ []) records compared differing ending h = refl
kept_back (a ∷ b ∷ []) records compared differing ending h = refl
kept_back (a ∷ b ∷ c ∷ []) records compared differing ending h = refl
kept_back (a ∷ b ∷ c ∷ d ∷ more) records compared differing ending h = absurd (omega arith)
