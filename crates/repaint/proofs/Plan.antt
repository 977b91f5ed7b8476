-- A plan of any length: records that leave both halves as they were and the picture in the hidden pages, then the two turns. Whatever its length
-- n, the first n - 2 records show the panel as it was, the next one the left half of the picture, and the last one the whole.
use Prim.Native.Nat.{ℕ, zero, suc, ◌+◌, ◌<◌, ◌≤◌}
use native.Mathlib.Omega.{arith}
use mathlib.Core.Path.{◌≡◌, ◌∙◌}
use mathlib.Core.Bool.{true≢false, false≢true}
use mathlib.Core.List.{List, [], ◌∷◌, ◌++◌}
use lib.ListN.{length, get_or, take, replicate, length-append, length-replicate}
use lib.Seq.{take-length, take-append-le, take-append-add}
use Rattle.basics.proofs.Run.{Stops, stops-none, stops_first, stops_join, stops-weaker, state-none, state-first, state-join}
use Rattle.sed1520.specs.Memory.{byte_at}
use Rattle.panel.specs.Panel.{Panel, chip_at, ram_at, stepped, panel_step, after}
use Rattle.sed1520.specs.declared.bus.Record.{Record}
use Rattle.frame.specs.Frame.{frame_length, frame_of}
use Rattle.frame.proofs.HalfLaws.{half-laws}
use Rattle.repaint.specs.Repaint.{picture_length, turn, line_turns}
use Rattle.repaint.specs.TearFree.{BothReady, SameHalf, wanted}
use Rattle.repaint.proofs.Quiet.{Quiet, Still, quiet_at, quiet-ready, quiet_frame, half-same, halves-same}
use Rattle.repaint.specs.SparingPromises.{BandHeld}
use Rattle.repaint.proofs.Page.{InBand}
use Rattle.repaint.proofs.Turn.{Turned, TurnDone, turn-done, half-wanted}

-- on another panel the picture stands where the hidden pages of the first one are, and every other byte is that of the first
pub record Brought (p : Panel) (picture : List ℕ) (s : Panel) : Type 0 where
  pub held : (k r : ℕ) → k < 2 → r < 2 → BandHeld (chip_at p k) k picture r (ram_at s k)
  pub others : (k : ℕ) → k < 2 → (page column : ℕ) → column < 80 → ((r : ℕ) → r < 2 → InBand (chip_at p k) r page column → ⊥)
      → byte_at (ram_at s k) page column ≡ byte_at (ram_at p k) page column

-- the quiet records of a plan
pub record Plan (p : Panel) (picture : List ℕ) (hidden : List Record) : Type 0 where
  pub quiet : Stops panel_step (Quiet p) p hidden
  pub brought : Brought p picture (after p hidden)

-- what a repaint of any length does
pub record Repaints (p : Panel) (picture : List ℕ) (n : ℕ) (records : List Record) : Type 0 where
  pub many : length records ≡ n + 2
  pub ready : Stops panel_step BothReady p records
  pub before : (k : ℕ) → k ≤ n → frame_of (after p (take k records)) ≡ frame_of p
  pub turned : let t = after p (take (n + 1) records) in SameHalf 0 (frame_of t) (wanted picture) × SameHalf 1 (frame_of t) (frame_of p)
  pub whole : frame_of (after p (take (n + 2) records)) ≡ wanted picture
  pub brought : Brought p picture (after p (take (n + 2) records))

wanted-length : (picture : List ℕ) → length picture ≡ picture_length → length (wanted picture) ≡ frame_length
wanted-length picture size =
    length-append picture (replicate picture_length 0) ∙ omega (arith, size, length-replicate {A = ℕ} picture_length 0)

module _
    (p : Panel) (ready : BothReady p) (picture : List ℕ) (size : length picture ≡ picture_length) (bytes : (i : ℕ) → get_or picture i 0 < 256)
    (hidden : List Record) (plan : Plan p picture hidden) where
  -- the panel after the quiet records, after the left turn, and after the right one
  abbrev written : Panel
  written = after p hidden

  abbrev half-way : Panel
  half-way = stepped written (turn p.left 0)

  abbrev done : Panel
  done = stepped half-way (turn p.right 1)

  quiet : Quiet p written
  quiet = rw take-length at (plan.quiet.holds (length hidden) (omega arith))

  left-turn : TurnDone p.left 0 picture written half-way
  left-turn =
      turn-done p.left ready.left 0 (omega arith) picture written quiet.whole (ram_at p 0) (quiet.still 0)
      (λ r h. plan.brought.held 0 r (omega arith) h)

  right-chip : chip_at half-way 1 ≡ chip_at written 1
  right-chip = left-turn.other-chip 1 false≢true

  right-ram : ram_at half-way 1 ≡ ram_at written 1
  right-ram = left-turn.other-ram 1 false≢true

  right-still : Still p.right (chip_at half-way 1) (ram_at p 1) (ram_at half-way 1)
  right-still = rw (right-chip, right-ram) (quiet.still 1)

  right-turn : TurnDone p.right 1 picture half-way done
  right-turn =
      turn-done p.right ready.right 1 (omega arith) picture half-way left-turn.whole (ram_at p 1) right-still
      (λ r h. rw right-ram (plan.brought.held 1 r (omega arith) h))

  left-done : Turned p.left 0 picture (chip_at done 0) (ram_at done 0)
  left-done = rw (right-turn.other-chip 0 true≢false, right-turn.other-ram 0 true≢false) left-turn.own

  half-way-ready : BothReady half-way
  half-way-ready =
      record { left = left-turn.own.ready; right = rw right-chip (quiet_at p written ready quiet 1); ram = left-turn.whole.image }

  done-ready : BothReady done
  done-ready = record { left = left-done.ready; right = right-turn.own.ready; ram = right-turn.whole.image }

  -- the turns leave all RAM as it was
  ram-written : (k : ℕ) → k < 2 → ram_at done k ≡ ram_at written k
  ram-written zero h = right-turn.other-ram 0 true≢false ∙ left-turn.own-ram
  ram-written (suc zero) h = right-turn.own-ram ∙ right-ram
  ram-written (suc (suc k)) h = absurd (omega arith)

  done-brought : Brought p picture done
  done-brought =
      record {
        held = λ k r side band. rw (ram-written k side) (plan.brought.held k r side band);
        others = λ k side page column h out. rw (ram-written k side) (plan.brought.others k side page column h out);
      }

  abbrev turns : List Record
  turns = line_turns p.left p.right

  turns-ready : Stops panel_step BothReady written turns
  turns-ready =
      stops_first panel_step (quiet-ready p written ready quiet) left-turn.taken
      (stops_first panel_step half-way-ready right-turn.taken (stops-none panel_step done-ready))

  -- the panel k records past the quiet ones
  last : (k : ℕ) → after p (take (length hidden + k) (hidden ++ turns)) ≡ after written (take k turns)
  last k = rw (take-append-add hidden turns k) (state-join panel_step p hidden (take k turns) plan.quiet.done)

  after_one : after p (take (length hidden + 1) (hidden ++ turns)) ≡ half-way
  after_one = last 1 ∙ state-first panel_step written (turn p.left 0) [] left-turn.taken ∙ state-none panel_step half-way

  after_both : after p (take (length hidden + 2) (hidden ++ turns)) ≡ done
  after_both =
      last 2
      ∙ state-first panel_step written (turn p.left 0) (turn p.right 1 ∷ []) left-turn.taken
      ∙ state-first panel_step half-way (turn p.right 1) [] right-turn.taken
      ∙ state-none panel_step done

  pub plan-repaints : Repaints p picture (length hidden) (hidden ++ line_turns p.left p.right)
  plan-repaints =
      record {
        many = length-append hidden turns;
        ready = stops_join panel_step (stops-weaker panel_step (λ q quiet. quiet-ready p q ready quiet) plan.quiet) turns-ready;
        before = λ k h. rw (take-append-le k hidden turns h) (quiet_frame p (after p (take k hidden)) ready (plan.quiet.holds k h));
        turned =
            rw after_one (
              half-wanted p.left 0 picture size bytes half-way left-turn.own,
              half-same p half-way 1 ready.right half-way-ready.right right-still,
            );
        whole =
            rw after_both
            (halves-same (frame_of done) (wanted picture)
            (half-wanted p.left 0 picture size bytes done left-done)
            (half-wanted p.right 1 picture size bytes done right-turn.own)
            (half-laws.whole done)
            (wanted-length picture size));
        brought = rw after_both done-brought;
      }
