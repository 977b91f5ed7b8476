-- Entries put into a buffer one after the other, as far as there is room.
use Prim.Native.Nat.{ℕ, ◌+◌, ◌*◌, ◌/◌, ◌<◌}
use native.Mathlib.Omega.{arith}
use mathlib.Core.Path.{◌≡◌, refl}
use mathlib.Core.List.{List, [], ◌∷◌, ◌++◌, append_assoc, append-nil, flat_map}
use mathlib.Core.Logic.{⊎_elim}
use lib.Dec.{ltb, eqb}
use lib.ListN.{length, take, drop, length-append, length-take}
use lib.Seq.{take-nil, take_all, take-append-le, drop-drop, take_at, drop_at}
use borrow.Author.Tests.{ltb-true, ltb-false}
use Rattle.basics.specs.Choice.{if}
use Rattle.basics.proofs.Filling.{Begun, begun-length}
use Rattle.basics.proofs.Lists.{flat_append, flat-length}
use Rattle.basics.proofs.Tests.{tested}
use Rattle.visible.specs.Changes.{Entry, entry_bytes, entries_bytes}
use Rattle.visible.specs.Sight.{listing, put_entry, one_more, put_entries}

-- entries that are put
pub put-length : (entries : List Entry) → length (entries_bytes entries) ≡ 8 * length entries
put-length entries = flat-length entry_bytes 8 (λ e. refl) entries

-- no entry yet
pub none-put : (buffer : List ℕ) → put_entries [] buffer ≡ buffer
unfolding flat_map
none-put buffer = rw (take-nil {A = Entry} (length buffer / 8))

module _ (entries : List Entry) (buffer : List ℕ) where
  abbrev room : ℕ
  room = length buffer / 8

  abbrev put : List ℕ
  put = put_entries entries buffer

  put-begun : Begun buffer (entries_bytes (take room entries)) (8 * length (take room entries)) put
  put-begun = record { size = put-length (take room entries); bytes = refl }

  pub same-room : length put ≡ length buffer
  same-room = begun-length put-begun (simp length-take (omega arith))

  -- one entry more behind them
  module _ (e : Entry) where
    abbrev next : List Entry
    next = entries ++ (e ∷ [])

    next-length : length next ≡ length entries + 1
    next-length = length-append entries (e ∷ [])

    put-here : length entries < room
        → take (8 * length entries) put ++ (entry_bytes e ++ drop (8 * length entries + 8) put) ≡ put_entries next buffer
    unfolding flat_map
    put-here h =
        let all = take_all room entries (omega arith) in
        let size = put-length entries in
        let behind = drop (8 * length entries) buffer in
        let further : 8 * (length entries + 1) ≡ 8 * length entries + 8 = omega arith in
        rw (take_all room next (omega (arith, next-length)), flat_append entry_bytes entries (e ∷ []), next-length, further, all)
        (rw (take_at (entries_bytes entries) behind (8 * length entries) size, ← drop-drop 8 (8 * length entries) (entries_bytes entries ++ behind))
        (rw (drop_at (entries_bytes entries) behind (8 * length entries) size, drop-drop 8 (8 * length entries) buffer)
        (simp append_assoc)))

    pub one-put : put_entry e (length entries) put ≡ put_entries next buffer
    one-put =
        rw same-room
        (⊎_elim
        (λ t. let h = ltb-true (length entries) room t in rw t (put-here h))
        (λ t. let h = ltb-false (length entries) room t in rw (t, take-append-le room entries (e ∷ []) h))
        (tested (ltb (length entries) room)))

pub more-listed : (entries : List Entry) (buffer : List ℕ) (e : Entry)
    → let next = entries ++ if (eqb (e.left + e.right) 0) [] (e ∷ []) in
    one_more e (listing (length entries) (put_entries entries buffer)) ≡ listing (length next) (put_entries next buffer)
unfolding one_more
more-listed entries buffer e =
    ⊎_elim
    (λ t. rw t (rw (append-nil entries)))
    (λ t. rw t (rw (one-put entries buffer e, next-length entries buffer e)))
    (tested (eqb (e.left + e.right) 0))
