-- The replay's loop, before each run of records: the first records have run over the chips' bytes, and what stands is what their replay leaves. The
-- records that run together carry it on; refused, or with none left, the replay ends there.
use Prim.Native.Nat.{ℕ, ◌+◌, ◌-◌, ◌*◌, ◌/◌, ◌<◌, ◌≤◌}
use native.Mathlib.Omega.{arith}
use mathlib.Core.Path.{◌≡◌, refl, sym, ap, ◌∙◌}
use mathlib.Core.List.{List, [], ◌++◌, append-nil, flat_map}
use lib.ListN.{length, take, drop, length-take, length-drop, take-append-drop, drop_of_length-le}
use lib.Seq.{take_all, drop_at, take-add, length-take-le}
use Rattle.basics.specs.Run.{run_of}
use Rattle.basics.proofs.Parts.{rest}
use Rattle.panel.specs.Chips.{panel_in, BothPass}
use Rattle.panel.specs.Panel.{Panel, panel_step, panel_run}
use Rattle.panel.specs.Trace.{trace_run}
use Rattle.basics.proofs.Run.{answers-bound}
use Rattle.sed1520.specs.Cycle.{Reply}
use Rattle.panel.specs.Step.{chips_step, run_chips}
use Rattle.panel.proofs.RecordSteps.{every-records-run}
use Rattle.sed1520.specs.BytesRun.{with_ram, together}
use Rattle.sed1520.specs.Records.{whole_records}
use Rattle.sed1520.specs.Replies.{compared_in, differing_in, tally, answers_left, InPlace, in_place}
use Rattle.sed1520.specs.declared.bus.Record.{Record}
use Rattle.sed1520.specs.declared.tally.Tally.{Tally}
use Rattle.sed1520.proofs.Records.{records-length, whole-records-join}
use Rattle.sed1520.proofs.TogetherCases.{runs, together-some, together-most}
use Rattle.trace.specs.Replay.{ReplayOutcome, ended_at, ended, ended_bytes, over_bytes}
use Rattle.trace.proofs.Bounds.{Few, answered-few, answers-length}
use Rattle.trace.proofs.InPlace.{over-bytes-at}
use Rattle.trace.proofs.Joined.{ended-all}
use Rattle.trace.proofs.OverBytes.{fits_after, first-cut, both_run, cut-replies, both-replies}
use Rattle.trace.specs.Wear.{AtMost, worn, replies_together}
use Rattle.trace.proofs.WearCounts.{worn-no-answers, worn-more, worn-bound}

-- what the first n of some records leave over chip bytes, on the panel that the bytes and the image say
abbrev pub left_after : List ℕ → List ℕ → List Record → ℕ → List ℕ → InPlace Tally
left_after chips ram rs n buffer = over_bytes chips (ended (panel_run (panel_in chips ram) (take n rs)) (take n rs) buffer)

-- the records that bytes begin with and that run together, over chip bytes that number 2 lets pass
pub run-together : {chips ram : List ℕ} → BothPass chips ram → (bytes buffer : List ℕ) → 2 * (length bytes / 4) ≤ length buffer
    → let rs = whole_records bytes in run_chips chips ram bytes buffer ≡ left_after chips ram rs (together rs) buffer
unfolding ended
run-together {chips} {ram} fit bytes buffer room =
    let rs = whole_records bytes in
    let first = take (together rs) rs in
    let run = run_of chips_step (with_ram chips ram) first in
    let same = every-records-run first chips ram fit in
    let on : Panel → ReplayOutcome = λ q. ended_at run.number (length run.answers) (compared_in run.answers)
    (differing_in run.answers first) q (answers_left run.answers buffer) in
    runs chips_step 24 640 chips ram bytes buffer fit.size fit.image room
    ∙ over-bytes-at fit same.fit (ap on same.panel ∙ rw (same.number, same.answers))

-- the records of a trace past its first n
pub records-past : (trace : List ℕ) (n : ℕ) → n ≤ length trace / 4 → whole_records (drop (4 * n) trace) ≡ drop n (whole_records trace)
records-past trace n h =
    let front = take (4 * n) trace in
    let many : length front ≡ 4 * n = simp length-take (omega arith) in
    let split = rw (take-append-drop (4 * n) trace) at (whole-records-join front (drop (4 * n) trace) (omega arith)) in
    let few : length (whole_records front) ≡ n = omega (arith, records-length (length front / 4) front) in
    sym (rw split (drop_at (whole_records front) (whole_records (drop (4 * n) trace)) n few))

-- the answers to the first n of some records, over chip bytes
abbrev replies_of : List ℕ → List ℕ → List Record → ℕ → List Reply
replies_of chips ram rs n = (panel_run (panel_in chips ram) (take n rs)).answers

module _ (chips₀ ram₀ trace buffer wear₀ : List ℕ) where
  abbrev records : List Record
  records = whole_records trace

  -- n records have run, and what they stored to is counted
  pub record RunOn (chips ram answers wear : List ℕ) (compared differing n : ℕ) : Type 0 where
    pub within : n ≤ length trace / 4
    pub fits : BothPass chips ram
    pub so_far : in_place (tally 0 n compared differing) chips ram answers ≡ left_after chips₀ ram₀ records n buffer
    pub so-worn : wear ≡ worn wear₀ (replies_of chips₀ ram₀ records n)

  pub none-run : BothPass chips₀ ram₀ → RunOn chips₀ ram₀ buffer wear₀ 0 0 0
  unfolding ended run_of flat_map compared_in differing_in
  none-run fit =
      record {
        within = omega arith;
        fits = fit;
        so_far = over-bytes-at fit fit refl;
        so-worn = worn-no-answers wear₀;
      }

module _ {chips₀ ram₀ trace buffer wear₀ chips ram answers wear : List ℕ} {compared differing n : ℕ} (fit : BothPass chips₀ ram₀)
    (room : 2 * (length trace / 4) ≤ length buffer) (on : RunOn chips₀ ram₀ trace buffer wear₀ chips ram answers wear compared differing n) where
  abbrev rs : List Record
  rs = whole_records trace

  all : length rs ≡ length trace / 4
  all = records-length (length trace / 4) trace

  taken : length (take n rs) ≡ n
  taken = length-take-le n rs (omega (arith, all, on.within))

  pub so-few : Few n n compared differing
  so-few = rw taken at (answered-few (panel_in chips₀ ram₀) (take n rs) buffer (ap (λ (i : InPlace Tally). i.answer) on.so_far))

  pub buffered : length answers ≡ length buffer
  buffered =
      ap (λ (i : InPlace Tally). length i.lent.answers) on.so_far
      ∙ answers-length (panel_in chips₀ ram₀) (take n rs) buffer (omega (arith, taken, on.within))

  -- there is room for one store more in each count
  pub so-low : length trace ≤ 65536 → AtMost 65536 wear₀ → AtMost 4294967294 wear
  so-low short low i =
      let replies = replies_of chips₀ ram₀ rs n in
      let few = worn-bound 65536 wear₀ replies low i in
      let many = answers-bound panel_step (take n rs) (panel_in chips₀ ram₀) in
      rw on.so-worn (omega (arith, few, many, taken, on.within))

  -- none is left
  pub finished : length trace / 4 ≤ n
      → (in_place (tally 0 n compared differing) chips ram answers ≡ over_bytes chips₀ (ended_bytes (panel_in chips₀ ram₀) trace buffer))
      × (wear ≡ worn wear₀ (trace_run (panel_in chips₀ ram₀) trace).answers)
  finished h =
      let whole = take_all n rs (omega (arith, all)) in
      (rw whole at on.so_far, on.so-worn ∙ ap (λ (qs : List Record). worn wear₀ (panel_run (panel_in chips₀ ram₀) qs).answers) whole)

  -- the records that run together from here
  module _ (more : n < length trace / 4) {went : Tally} {chips' ram' part wear' : List ℕ}
      (given : let bytes = take (length trace - 4 * n) (drop (4 * n) trace) in
      (in_place went chips' ram' part ≡ run_chips chips ram bytes (take (length answers - 2 * n) (drop (2 * n) answers)))
      × (wear' ≡ worn wear (replies_together chips ram bytes))) where
    abbrev left : List Record
    left = drop n rs

    abbrev many : ℕ
    many = together left

    -- what stands behind them, the answers taken back
    abbrev behind : InPlace Tally
    behind =
        in_place (tally went.number (n + went.place) (compared + went.compared) (differing + went.differing)) chips' ram'
        (take (2 * n) answers ++ (part ++ drop (length answers - 2 * n) (drop (2 * n) answers)))

    some_left : length left ≡ length trace / 4 - n
    some_left = length-drop n rs ∙ omega (arith, all)

    ran : in_place went chips' ram' part ≡ left_after chips ram left many (drop (2 * n) answers)
    ran =
        let here = rw (rest trace (4 * n), rest answers (2 * n)) at given.0 in
        let space : 2 * (length (drop (4 * n) trace) / 4) ≤ length (drop (2 * n) answers) = simp length-drop (omega (arith, buffered)) in
        let together-here = run-together on.fits (drop (4 * n) trace) (drop (2 * n) answers) space in
        here ∙ (rw (records-past trace n on.within) at together-here)

    joined : behind ≡ left_after chips₀ ram₀ rs (n + many) buffer
    joined =
        let past = drop_of_length-le (drop (2 * n) answers) {i = length answers - 2 * n} (simp length-drop (omega arith)) in
        rw (past, append-nil, take-add n many rs) (both_run fit (take n rs) (take many left) buffer _ on.so_far n taken refl _ ran)

    -- and the wear counted on
    worn-on : wear' ≡ worn wear₀ (replies_of chips₀ ram₀ rs (n + many))
    worn-on =
        let then = both-replies fit (take n rs) (take many left) buffer _ on.so_far refl in
        given.1
        ∙ ap (λ (bytes : List ℕ). worn wear (replies_together chips ram bytes)) (rest trace (4 * n))
        ∙ ap (λ (qs : List Record). worn wear (replies_of chips ram qs (together qs))) (records-past trace n on.within)
        ∙ ap (λ (w : List ℕ). worn w (replies_of chips ram left many)) on.so-worn
        ∙ worn-more wear₀ (replies_of chips₀ ram₀ rs n) (replies_of chips ram left many)
        ∙ ap (worn wear₀) (sym (ap (λ (qs : List Record). (panel_run (panel_in chips₀ ram₀) qs).answers) (take-add n many rs) ∙ then))

    fits_on : BothPass chips' ram'
    fits_on = fits_after on.fits (take many left) [] (drop (2 * n) answers) _ ran

    -- with those before, no more than the trace has
    pub few-on : Few (length trace / 4) (n + went.place) (compared + went.compared) (differing + went.differing)
    few-on =
        let few = answered-few (panel_in chips ram) (take many left) (drop (2 * n) answers) (ap (λ (i : InPlace Tally). i.answer) ran) in
        let most : length (take many left) ≤ length trace / 4 - n = simp length-take (omega (arith, some_left)) in
        record {
          place-few = omega (arith, few.place-few);
          compared-few = omega (arith, few.compared-few, so-few.compared-few);
          differing-few = omega (arith, few.differing-few, so-few.differing-few);
        }

    -- done, they are all answered
    answered : went.number ≡ 0 → went.place ≡ many
    answered done =
        let given = ap (λ (i : InPlace Tally). i.answer) ran in
        ap (λ (r : Tally). r.place) given
        ∙ ended-all (panel_in chips ram) (take many left) (drop (2 * n) answers) (sym (ap (λ (r : Tally). r.number) given) ∙ done)
        ∙ length-take-le many left (together-most left)

    pub some-ran : went.number ≡ 0 → 1 ≤ went.place
    some-ran done = omega (arith, answered done, together-some left (omega (arith, some_left)))

    pub goes_on : went.number ≡ 0
        → RunOn chips₀ ram₀ trace buffer wear₀ chips' ram' behind.lent.answers wear' (compared + went.compared) (differing + went.differing)
        (n + went.place)
    goes_on done =
        record {
          within = omega (arith, answered done, together-most left, some_left);
          fits = fits_on;
          so_far = rw (done, ← answered done) at joined;
          so-worn = rw (answered done) worn-on;
        }

    pub stopped : (went.number ≡ 0 → ⊥)
        → (behind ≡ over_bytes chips₀ (ended_bytes (panel_in chips₀ ram₀) trace buffer))
        × (wear' ≡ worn wear₀ (trace_run (panel_in chips₀ ram₀) trace).answers)
    stopped h =
        let whole = take-append-drop (n + many) rs in
        let cut = first-cut fit (take (n + many) rs) (drop (n + many) rs) buffer _ joined h in
        let same = cut-replies fit (take (n + many) rs) (drop (n + many) rs) buffer _ joined h in
        let all-replies = ap (λ (qs : List Record). (panel_run (panel_in chips₀ ram₀) qs).answers) (sym whole) ∙ same in
        (rw whole at cut, worn-on ∙ ap (worn wear₀) (sym all-replies))
