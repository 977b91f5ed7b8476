-- Bytes put one after the other into a text, as many as there is room for.
use Prim.Native.Nat.{ℕ, suc, ◌+◌, ◌<◌, ◌≤◌}
use native.Mathlib.Omega.{arith}
use mathlib.Core.Path.{◌≡◌, refl, sym, ap, ◌∙◌}
use mathlib.Core.Logic.{⊎_elim}
use mathlib.Core.List.{List, [], ◌∷◌, ◌++◌}
use lib.Dec.{leb}
use lib.ListN.{length, set, take, drop, length-append}
use lib.Seq.{paste, sets, set_out, length-sets}
use borrow.Author.Tests.{leb-true, leb-false}
use Rattle.std.proofs.lemmas.List.{take_all, take-append-drop, length-take-le}
use Rattle.std.proofs.lemmas.List.Edits.{sets-eq, take-paste}
use Rattle.basics.specs.Lists.{joined}
use Rattle.basics.proofs.Lists.{joined-next}
use Rattle.basics.proofs.Tests.{tested}
use Rattle.console.specs.Puts.{Puts, text_of}
use Rattle.console.specs.Text.{Put}
use Rattle.console.specs.declared.text.Text.{Text}

-- more bytes past those that were put
sets-append : (xs ys l : List ℕ) (i : ℕ) → sets l i (xs ++ ys) ≡ sets (sets l i xs) (i + length xs) ys
sets-append [] ys l i = let e : i + 0 ≡ i = omega arith in rw e
sets-append (x ∷ xs) ys l i =
    let e : suc i + length xs ≡ i + suc (length xs) = omega arith in
    sets-append xs ys (set l i x) (suc i) ∙ rw e

-- past the end nothing is put
sets-past : (xs l : List ℕ) (i : ℕ) → length l ≤ i → sets l i xs ≡ l
sets-past [] l i h = refl
sets-past (x ∷ xs) l i h = rw (set_out l i x h) (sets-past xs l (suc i) (omega arith))

-- where the first bytes do not all fit, no more do
none_more : (xs ys l : List ℕ) (at i : ℕ) → length l ≤ i → sets (sets l at xs) i ys ≡ sets l at xs
none_more xs ys l at i h = sets-past ys (sets l at xs) i (omega (arith, length-sets l at xs))

-- past the end nothing is put, and the place stays
pub put_past : (l xs : List ℕ) (at : ℕ) → length l < at → Put l l at at xs
put_past l xs at h = record { text = sym (sets-past xs l at (omega arith)); next_place = omega arith }

pub put-more : {l m n : List ℕ} {at mid end : ℕ} {xs ys : List ℕ} → Put l m at mid xs → Put m n mid end ys → Put l n at end (xs ++ ys)
put-more {l} {m} {n} {at} {mid} {end} {xs} {ys} p q =
    let same : length m ≡ length l = rw p.text (length-sets l at xs) in
    record {
      text =
          q.text ∙ rw (p.text, sets-append xs ys l at)
          (⊎_elim
          (λ t. let e : mid ≡ at + length xs = omega (arith, leb-true (at + length xs) (length l) t) in rw e)
          (λ t. let past = leb-false (at + length xs) (length l) t in
          none_more xs ys l at mid (omega arith) ∙ sym (none_more xs ys l at (at + length xs) (omega arith)))
          (tested (leb (at + length xs) (length l))));
      next_place = omega (arith, same, p.next_place, q.next_place, length-append xs ys);
    }

pub none : (t : Text) → Puts t [] t
none t = record { same_buffer = refl; put = record { text = refl; next_place = omega arith } }

pub more : {t u v : Text} {xs ys : List ℕ} → Puts t xs u → Puts u ys v → Puts t (xs ++ ys) v
more p q = record { same_buffer = q.same_buffer ∙ p.same_buffer; put = put-more p.put q.put }

-- pieces put one after the other, as a loop puts them
module _ (f : ℕ → List ℕ) where
  pub no-piece : (t : Text) → Puts t (joined f 0 0) t
  unfolding joined
  no-piece t = none t

  pub one-piece-more : {t u v : Text} (index : ℕ) → Puts t (joined f 0 index) u → Puts u (f index) v → Puts t (joined f 0 (index + 1)) v
  one-piece-more index so_far next = rw (joined-next f index) (more so_far next)

-- where there is room for all of it, the text ends with it
pub whole : {t u : Text} {xs : List ℕ} → Puts t xs u → t.len + length xs ≤ length t.out.now → text_of u ≡ text_of t ++ xs
whole {t} {u} {xs} p h =
    let end : u.len ≡ t.len + length xs = omega (arith, p.put.next_place) in
    let all : take (length xs) xs ≡ xs = take_all (length xs) xs (omega arith) in
    let front : take (t.len + length xs) (paste t.out.now t.len xs (length xs)) ≡ text_of t ++ take (length xs) xs =
    take-paste t.out.now t.len xs (length xs) t.within (omega arith) in
    rw (end, p.put.text, sets-eq xs t.out.now t.len h) (rw all at front)

-- what an empty text holds of what is put: as much as the buffer has room for
pub from_empty : {t u : Text} {xs : List ℕ} → t.len ≡ 0 → Puts t xs u → text_of u ≡ take (length t.out.now) xs
from_empty {t} {u} {xs} empty p =
    let out = t.out.now in
    let none_yet : text_of t ≡ [] = rw empty in
    ⊎_elim
    (λ f. let fits = leb-true (length xs) (length out) f in
    whole p (omega arith) ∙ rw (none_yet, take_all (length out) xs fits))
    (λ f. let over = leb-false (length xs) (length out) f in
    let front = take (length out) xs in
    let rest = drop (length out) xs in
    let count : length front ≡ length out = length-take-le (length out) xs (omega arith) in
    let cut : Puts t front u =
    record {
      same_buffer = p.same_buffer;
      put =
          record {
            text =
                p.put.text ∙ ap (sets out t.len) (sym (take-append-drop (length out) xs)) ∙ sets-append front rest out t.len
                ∙ none_more front rest out t.len (t.len + length front) (omega arith);
            next_place = omega (arith, p.put.next_place, count);
          };
    } in
    whole cut (omega arith) ∙ rw none_yet)
    (tested (leb (length xs) (length out)))
