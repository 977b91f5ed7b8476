-- The 24 bytes behind the chips, with right marks, are written back from what they say.
use Prim.Native.Nat.{ℕ, zero, suc, ◌+◌, ◌*◌, ◌/◌, ◌%◌, ◌<◌}
use native.Mathlib.Omega.{arith}
use mathlib.Core.Path.{◌≡◌, refl, sym, ◌∙◌}
use mathlib.Core.Bool.{true, false}
use mathlib.Core.List.{List, [], ◌∷◌, ◌++◌}
use mathlib.Core.Logic.{⊎_elim}
use lib.Dec.{eqb}
use lib.ListN.{length, get_or, drop, drop_of_length-le}
use lib.Seq.{drop-cons}
use borrow.Author.Tests.{eqb-true}
use Rattle.basics.proofs.Tests.{tested, both}
use Rattle.basics.specs.Bytes.{as_word, word_bytes}
use Rattle.pedralume.specs.FeedBytes.{word_at, progress_bytes, marks_right, progress_in}
use Rattle.pedralume.specs.FeedPromises.{BytesFit}

-- a list spelled out by its elements
spelled : ℕ → ℕ → List ℕ → List ℕ
spelled i zero l = []
spelled i (suc n) l = get_or l i 0 ∷ spelled (suc i) n l

spelled_out : (i n : ℕ) (l : List ℕ) → length l ≡ i + n → drop i l ≡ spelled i n l
unfolding spelled
spelled_out i zero l h = drop_of_length-le l {i = i} (omega arith)
spelled_out i (suc n) l h = drop-cons l i 0 (omega arith) ∙ rw (spelled_out (suc i) n l (omega arith))

-- four bytes are those of their number
of_word : (a b c d : ℕ) → a < 256 → b < 256 → c < 256 → d < 256 → word_bytes (as_word a b c d) ≡ a ∷ b ∷ c ∷ d ∷ []
of_word a b c d ha hb hc hd =
    let n = as_word a b c d in
    let first : n % 256 ≡ a = omega arith in
    let high : n / 256 ≡ b + 256 * c + 65536 * d = omega arith in
    let second : (b + 256 * c + 65536 * d) % 256 ≡ b = omega arith in
    let higher : n / 65536 ≡ c + 256 * d = omega arith in
    let third : (c + 256 * d) % 256 ≡ c = omega arith in
    let fourth : n / 16777216 ≡ d = omega arith in
    rw (first, high, second, higher, third, fourth)

-- each is 0 where their number is
no_word : (a b c d : ℕ) → as_word a b c d ≡ 0 → (a ≡ 0) × ((b ≡ 0) × ((c ≡ 0) × (d ≡ 0)))
no_word a b c d e = (omega arith, (omega arith, (omega arith, omega arith)))

-- eight bytes with four words behind them, each replaced
behind-eight : (eight : List ℕ) {a b c d e f g h : List ℕ} → a ≡ e → b ≡ f → c ≡ g → d ≡ h
    → eight ++ (a ++ (b ++ (c ++ d))) ≡ eight ++ (e ++ (f ++ (g ++ h)))
behind-eight eight i j k l = rw (i, j, k, l)

module _ (b : List ℕ) (h : length b ≡ 24) (fit : BytesFit b) (m : marks_right b ≡ true) (six : get_or b 6 0 ≡ 0) (seven : get_or b 7 0 ≡ 0) where
  word_back : (i : ℕ) → word_bytes (word_at b i) ≡ get_or b i 0 ∷ get_or b (i + 1) 0 ∷ get_or b (i + 2) 0 ∷ get_or b (i + 3) 0 ∷ []
  word_back i = of_word _ _ _ _ (fit.each i) (fit.each (i + 1)) (fit.each (i + 2)) (fit.each (i + 3))

  stopped-back : eqb (get_or b 4 0) 1 ≡ true → progress_bytes (progress_in b) ≡ b
  unfolding progress_bytes progress_in spelled
  stopped-back e =
      let bytes = rw (eqb-true (get_or b 4 0) 1 e, six, seven) at (sym (spelled_out 0 24 b h)) in
      let eight = get_or b 0 0 ∷ get_or b 1 0 ∷ get_or b 2 0 ∷ get_or b 3 0 ∷ 1 ∷ get_or b 5 0 ∷ 0 ∷ 0 ∷ [] in
      rw (m, e) (behind-eight eight (word_back 8) (word_back 12) (word_back 16) (word_back 20) ∙ bytes)

  open-back : eqb (get_or b 4 0) 1 ≡ false → progress_bytes (progress_in b) ≡ b
  unfolding progress_bytes progress_in spelled marks_right
  open-back e =
      let zeros = both (eqb (word_at b 4) 0) (eqb (word_at b 8) 0) (rw e at m) in
      let marks = no_word (get_or b 4 0) (get_or b 5 0) (get_or b 6 0) (get_or b 7 0) (eqb-true (word_at b 4) 0 zeros.0) in
      let place = no_word (get_or b 8 0) (get_or b 9 0) (get_or b 10 0) (get_or b 11 0) (eqb-true (word_at b 8) 0 zeros.1) in
      let bytes = rw (marks.0, marks.1.0, six, seven) at (sym (spelled_out 0 24 b h)) in
      let all = rw (place.0, place.1.0, place.1.1.0, place.1.1.1) at bytes in
      let eight = get_or b 0 0 ∷ get_or b 1 0 ∷ get_or b 2 0 ∷ get_or b 3 0 ∷ 0 ∷ 0 ∷ 0 ∷ 0 ∷ [] in
      rw (m, e) (behind-eight eight {a = word_bytes 0} refl (word_back 12) (word_back 16) (word_back 20) ∙ all)

  pub back : progress_bytes (progress_in b) ≡ b
  back = ⊎_elim stopped-back open-back (tested (eqb (get_or b 4 0) 1))
