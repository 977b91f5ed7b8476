-- `pedralume::feed_bytes::progress_out` meets its contract: eight bytes and four numbers, each behind what was put before.
use Prim.Native.Nat.{ℕ, ◌+◌}
use native.Mathlib.Omega.{arith}
use mathlib.Core.Path.{◌≡◌, refl, ap, ◌∙◌}
use mathlib.Core.List.{List, [], ◌∷◌, ◌++◌, append_assoc}
use lib.ListN.{take, drop, length-append}
use lib.Seq.{take_at, drop-drop}
use Rattle.basics.specs.Bytes.{word_bytes}
use Rattle.basics.proofs.Filling.{Begun, begun_first, still, begun_all}
use Rattle.pedralume.specs.FeedBytes.{put_word, progress_bytes}
use Rattle.pedralume.proofs.feed_bytes.progress_out.Goals as goal

-- a number written behind what was put so far
begun-number : {old front : List ℕ} {at : ℕ} {now next : List ℕ} → Begun old front at now → (n : ℕ) → next ≡ put_word now at n
    → Begun old (front ++ word_bytes n) (at + 4) next
begun-number {old} {front} {at} {now} begun n put =
    let before : take at now ≡ front = rw begun.bytes (take_at front (drop at old) at begun.size) in
    let behind : drop (at + 4) now ≡ drop (at + 4) old = rw (← drop-drop 4 at now, ← drop-drop 4 at old) (rw (still begun)) in
    record {
      size = length-append front (word_bytes n) ∙ omega (arith, begun.size);
      bytes = put ∙ rw (before, behind) (simp append_assoc);
    }

pub returns : goal.returns
unfolding progress_bytes
returns c =
    let bytes = c.args.bytes.now in
    let t = c.args.progress in
    let marks = c.marks_of-stopped in
    let head = t.kept ∷ t.first ∷ t.second ∷ t.third ∷ marks.result.0 ∷ marks.result.1 ∷ 0 ∷ 0 ∷ [] in
    let begun = begun_first bytes head refl (ap (λ (front : List ℕ). front ++ drop 8 bytes) c.copy_from_slice.ensures.after) in
    let two = begun-number (begun-number begun marks.result.2 c.put_word.ensures) t.records c.put_word-2.ensures in
    let all = begun-number (begun-number two t.compared c.put_word-3.ensures) t.differing c.put_word-4.ensures in
    begun_all all (omega arith) ∙ rw (marks.ensures.stopped, marks.ensures.number, marks.ensures.place)
