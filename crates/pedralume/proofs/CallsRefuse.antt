-- Numbers 1 and 2 of the calls that fill a buffer, from those of their callees; and the callee's answer where neither is given.
use Prim.Native.Nat.{ℕ}
use mathlib.Core.Path.{◌≡◌, ◌∙◌}
use mathlib.Core.Bool.{Bool, true, false}
use mathlib.Core.List.{List}
use mathlib.Core.Logic.{⊎_elim}
use lib.ListN.{length}
use borrow.Author.Tests.{eqb-true, eqb-false, not-true, not-false}
use Rattle.basics.specs.Table.{First, NoneHolds}
use Rattle.basics.specs.Verdict.{CallResult}
use Rattle.sed1520.specs.Chip.{in_range}
use Rattle.sed1520.specs.declared.registers.Chip.{Chip}
use Rattle.panel.specs.Chips.{chips_in}
use Rattle.panel.proofs.TwoChips.{left-passes, right-passes}
use Rattle.frame.specs.Frame.{framed}
use Rattle.repaint.specs.Repaint.{repaint_of}
use Rattle.repaint.specs.Sparing.{sparing_of}
use Rattle.visible.specs.Changes.{changes_of}
use Rattle.pedralume.specs.Call.{packed_with, on_chips}
use Rattle.pedralume.specs.Refusals.{bytes_table, CallsRefuse}
use Rattle.pedralume.proofs.OnChips.{wrong-length, on-chips}

-- a call whose callee gives number 1 for its sizes, then number 2 for the left chip, then for the right
module _ (wrong : Bool) (chips buffer : List ℕ) (call : Chip → Chip → CallResult ℕ (List ℕ))
    (sizes : (l r : Chip) → wrong ≡ true → call l r ≡ packed_with buffer 1 0)
    (left : (l r : Chip) → wrong ≡ false → in_range l ≡ false → call l r ≡ packed_with buffer 2 0)
    (right : (l r : Chip) → wrong ≡ false → in_range l ≡ true → in_range r ≡ false → call l r ≡ packed_with buffer 2 1) where
  refuses : (n at : ℕ) → First (bytes_table wrong chips) n at → on_chips chips buffer call ≡ packed_with buffer n at
  refuses n at =
      ⊎_elim
      (λ one. rw (← one.1.0, ← one.1.1) (wrong-length chips buffer call (eqb-false (length chips) 24 (not-true _ one.0))))
      (λ past. let h = eqb-true (length chips) 24 (not-false _ past.0) in
      ⊎_elim
      (λ size. rw (← size.1.0, ← size.1.1) (on-chips chips buffer call h ∙ sizes _ _ size.0))
      (λ sized. ⊎_elim
      (λ two. rw (← two.1.0, ← two.1.1) (on-chips chips buffer call h ∙ left _ _ sized.0 (left-passes chips h false (not-true _ two.0))))
      (λ first. ⊎_elim
      (λ two. rw (← two.1.0, ← two.1.1)
      (on-chips chips buffer call h
      ∙ right _ _ sized.0 (left-passes chips h true (not-false _ first.0)) (right-passes chips h false (not-true _ two.0))))
      (λ none. absurd none.1)
      first.1)
      sized.1)
      past.1)

-- a call that no line of its table refuses
not-refused : (wrong : Bool) (chips buffer : List ℕ) (call : Chip → Chip → CallResult ℕ (List ℕ)) → NoneHolds (bytes_table wrong chips)
    → on_chips chips buffer call ≡ call (chips_in chips).left (chips_in chips).right
not-refused wrong chips buffer call none = on-chips chips buffer call (eqb-true (length chips) 24 (not-false _ none.0))

pub calls-refuse : CallsRefuse
unfolding framed repaint_of sparing_of changes_of
calls-refuse =
    record {
      frame =
          λ chips ram buffer. refuses _ chips buffer _
          (λ l r e. rw e) (λ l r s out. rw (s, out)) (λ l r s within out. rw (s, within, out));
      repaint =
          λ chips picture buffer. refuses _ chips buffer _
          (λ l r e. rw e) (λ l r s out. rw (s, out)) (λ l r s within out. rw (s, within, out));
      sparing =
          λ chips ram picture buffer. refuses _ chips buffer _
          (λ l r e. rw e) (λ l r s out. rw (s, out)) (λ l r s within out. rw (s, within, out));
      changes =
          λ chips ram trace buffer. refuses _ chips buffer _
          (λ l r e. rw e) (λ l r s out. rw (s, out)) (λ l r s within out. rw (s, within, out));
      frame-else = λ chips ram buffer. not-refused _ chips buffer _;
      repaint-else = λ chips picture buffer. not-refused _ chips buffer _;
      sparing-else = λ chips ram picture buffer. not-refused _ chips buffer _;
      changes-else = λ chips ram trace buffer. not-refused _ chips buffer _;
    }
