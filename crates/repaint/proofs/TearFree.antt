-- Demand 3: of every repaint of a list, sparing or not, each stopped after any whole cycle, only the last two cycles change what the panel shows.
use Prim.Native.Nat.{ℕ, ◌+◌, ◌*◌, ◌<◌, ◌≤◌}
use native.Mathlib.Omega.{arith}
use mathlib.Core.Path.{◌≡◌, refl, sym, subst, ◌∙◌}
use mathlib.Core.Bool.{Bool, true, false}
use mathlib.Core.List.{List, [], ◌∷◌, ◌++◌, map}
use mathlib.Core.Logic.{⊎_elim}
use lib.Dec.{ltb}
use lib.ListN.{length, get_or, take, drop}
use borrow.Author.Tests.{ltb-false, le-ltb}
use Rattle.basics.specs.Choice.{if}
use Rattle.basics.specs.Verdict.{verdict, result_of}
use Rattle.basics.proofs.Run.{accepted-at}
use Rattle.basics.proofs.Tests.{tested, when}
use Rattle.panel.specs.Panel.{Panel, outcome_of, panel_step, after}
use Rattle.sed1520.specs.Records.{records_bytes, front}
use Rattle.sed1520.specs.declared.bus.Record.{Record}
use Rattle.panel.proofs.PanelLaws.{every-place}
use Rattle.sed1520.proofs.Records.{records-back, record-back}
use Rattle.frame.specs.Frame.{frame_of}
use Rattle.repaint.specs.Repaint.{picture_length, hidden_pages, line_turns, repaint_records, repaint_sizes_wrong, repaint_of}
use Rattle.repaint.specs.Sparing.{sparing_pages, sparing_records, sparing_cycles, sparing_of}
use Rattle.repaint.specs.TearFree.{BothReady, Sending, sent_so_far, leaves, shown, Refused, Accepted, Safe, AllSafe}
use Rattle.repaint.specs.TearFree.{Request, quiet_of, asked, TearFree}
use Rattle.repaint.specs.TearFree.{PlainRequest, plain_asked, PlainTearFree}
use Rattle.repaint.proofs.Frames.{shown-frame, frame-given}
use Rattle.repaint.proofs.Counts.{pages-length, sparing-length}
use Rattle.repaint.proofs.Plan.{Plan, Repaints, plan-repaints}
use Rattle.repaint.proofs.Pages.{whole-plan, sparing-plan}
use Rattle.repaint.proofs.RepaintCases.{sizes-right}
use Rattle.repaint.proofs.ReadyChips.{ready-outcome, sparing-outcome}

-- a repaint that gives the records of a plan, of which no more are sent than it has
pub record Planned (p : Panel) (s : Sending) : Type 0 where
  pub hidden : List Record
  pub plan : Plan p s.picture hidden
  pub many : length hidden ≡ s.quiet
  pub rest : List ℕ
  pub given : s.given ≡ result_of (verdict 0 (s.quiet + 2)) (records_bytes (hidden ++ line_turns p.left p.right) ++ rest)
  pub within : s.stop ≤ s.quiet + 2

-- such a repaint is accepted
module _
    (p : Panel) (ready : BothReady p) (s : Sending) (size : length s.picture ≡ picture_length) (bytes : (i : ℕ) → get_or s.picture i 0 < 256)
    (planned : Planned p s) where
  abbrev records : List Record
  records = planned.hidden ++ line_turns p.left p.right

  pub repaints : Repaints p s.picture s.quiet records
  repaints = rw planned.many at (plan-repaints p ready s.picture size bytes planned.hidden planned.plan)

  -- where the first k cycles lead, and the record after them
  pub stop : (k : ℕ) → k ≤ s.quiet + 2 → sent_so_far p s k ≡ after p (take k records)
  stop k h = rw (planned.given, records-back records planned.rest k (omega (arith, repaints.many)))

  cycle : (k : ℕ) → k < s.quiet + 2 → (outcome_of (sent_so_far p s k) (front (drop (4 * k) s.given.lent))).answer.number ≡ 0
  cycle k h =
      let within : k < length records = omega (arith, repaints.many) in
      rw (stop k (omega arith), planned.given, record-back records planned.rest (front []) k within)
      (accepted-at panel_step (front []) records p repaints.ready.done k within)

  pub ready-at-stop : (k : ℕ) → k ≤ s.quiet + 2 → BothReady (sent_so_far p s k)
  ready-at-stop k h = rw (stop k h) (repaints.ready.holds k (omega (arith, repaints.many)))

  pub shown-at-stop : (k : ℕ) → k ≤ s.quiet + 2 → shown (sent_so_far p s k) ≡ frame_of (after p (take k records))
  shown-at-stop k h = shown-frame (sent_so_far p s k) (ready-at-stop k h) ∙ rw (stop k h)

  planned-accepted : Accepted p s
  planned-accepted =
      record {
        number = rw planned.given;
        place = rw planned.given;
        cycles = λ k h. cycle k (omega (arith, planned.within));
        places = λ k h. every-place (sent_so_far p s k) (front (drop (4 * k) s.given.lent));
        ready = λ k h. ready-at-stop k (omega (arith, planned.within));
        frames = λ k h. frame-given (sent_so_far p s k) (ready-at-stop k (omega (arith, planned.within)));
        before = λ k h l. shown-at-stop k (omega arith) ∙ repaints.before k l ∙ sym (shown-frame p ready);
        turned = λ h. rw (shown-at-stop (s.quiet + 1) (omega arith), shown-frame p ready) repaints.turned;
        whole = λ h. shown-at-stop (s.quiet + 2) (omega arith) ∙ repaints.whole;
      }

-- a stop beyond the last cycle comes after it
sent-within : (n stop : ℕ) → if (ltb n stop) n stop ≤ n
sent-within n stop = when (λ m. m ≤ n) (ltb n stop) (λ _. omega arith) (λ t. ltb-false n stop t)

module _ (p : Panel) (ready : BothReady p) where
  -- both repaints give the records of a plan
  pub plans : (sparing : Bool) (q : Request) → q.sparing ≡ sparing → repaint_sizes_wrong (length q.picture) (length q.buffer) ≡ false
      → Planned p (asked p q)
  unfolding repaint_records sparing_records
  plans false q is sizes =
      record {
        hidden = hidden_pages p.left p.right q.picture;
        plan = whole-plan p ready q.picture;
        many = pages-length p.left p.right q.picture ∙ rw is;
        rest = drop 1016 q.buffer;
        given = rw is (ready-outcome p.left p.right ready.left ready.right q.picture q.buffer sizes);
        within = sent-within (quiet_of p q + 2) q.stop;
      }
  plans true q is sizes =
      record {
        hidden = sparing_pages p q.picture;
        plan = sparing-plan p ready q.picture;
        many = sparing-length p q.picture ∙ rw is;
        rest = drop (4 * sparing_cycles p q.picture) q.buffer;
        given = rw is (sparing-outcome p ready q.picture q.buffer sizes);
        within = sent-within (quiet_of p q + 2) q.stop;
      }

  pub accepted : (q : Request) → repaint_sizes_wrong (length q.picture) (length q.buffer) ≡ false → Accepted p (asked p q)
  accepted q sizes =
      planned-accepted p ready (asked p q) (sizes-right (length q.picture) (length q.buffer) sizes).0 q.bytes
      (plans q.sparing q refl sizes)

  refused : (sparing : Bool) (q : Request) → q.sparing ≡ sparing → repaint_sizes_wrong (length q.picture) (length q.buffer) ≡ true
      → Refused p (asked p q)
  unfolding repaint_of sparing_of
  refused false q is e =
      record { number = rw (is, e); place = rw (is, e); buffer = rw (is, e); stays = rw (is, e); frame = frame-given p ready }
  refused true q is e =
      let m = ready.ram in
      record { number = rw (is, m, e); place = rw (is, m, e); buffer = rw (is, m, e); stays = rw (is, m, e); frame = frame-given p ready }

  safe : (q : Request) → Safe p (asked p q)
  safe q = (refused q.sparing q refl, accepted q)

  -- the next repaint begins at ready chips again
  leaves-ready : (q : Request) → BothReady (leaves p (asked p q))
  leaves-ready q =
      ⊎_elim
      (λ e. rw (refused q.sparing q refl e).stays ready)
      (λ e. let at = accepted q e in rw at.number (at.ready (asked p q).stop (omega arith)))
      (tested (repaint_sizes_wrong (length q.picture) (length q.buffer)))

pub tear-free : TearFree
unfolding AllSafe
tear-free p ready [] = safe p ready
tear-free p ready (q ∷ qs) = (safe p ready q, tear-free (leaves p (asked p q)) (leaves-ready p ready q) qs)

-- lists without a sparing repaint
abbrev as_request : PlainRequest → Request
as_request q = record { sparing = false; picture = q.picture; buffer = q.buffer; stop = q.stop; bytes = q.bytes }

plain-asked : (p : Panel) (q : PlainRequest) → asked p (as_request q) ≡ plain_asked p q
plain-asked p q = rw (le-ltb 254 q.stop q.within)

plain-safe : (p : Panel) (qs : List PlainRequest) → AllSafe asked p (map as_request qs) → AllSafe plain_asked p qs
unfolding AllSafe
plain-safe p [] all = λ q. rw (plain-asked p q) at (all (as_request q))
plain-safe p (q ∷ qs) all =
    let e = plain-asked p q in
    (rw e at all.0, subst (λ x. AllSafe plain_asked (leaves p x) qs) e (plain-safe (leaves p (asked p (as_request q))) qs all.1))

pub plain-tear-free : PlainTearFree
plain-tear-free p ready qs = plain-safe p qs (tear-free p ready (map as_request qs))
