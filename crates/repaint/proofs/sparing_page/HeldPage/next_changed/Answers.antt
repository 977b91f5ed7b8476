-- `repaint::sparing_page::HeldPage::next_changed` meets its contract: a search from here on finds the same column.
use Rattle.std.proofs.Common.{arith, ℕ, suc, max, ◌≤◌, ◌+◌, ◌-◌, ◌<◌, ◌≡◌}
use mathlib.Core.Path.{refl, sym, ◌∙◌}
use mathlib.Core.Bool.{Bool}
use mathlib.Core.Logic.{⊎_elim}
use lib.Dec.{ltb}
use borrow.Author.Tests.{ltb-true, ltb-false}
use Rattle.basics.proofs.Tests.{tested}
use Rattle.frame.specs.Frame.{segments}
use Rattle.repaint.specs.Sparing.{next_column}
use Rattle.repaint.proofs.Bytes.{changed}
use Rattle.repaint.proofs.NextColumn.{next_here, next-later}
use Rattle.repaint.proofs.sparing_page.HeldPage.next_changed.Goals as goal

more : (j : ℕ) → j < segments → segments - j ≡ suc (segments - (j + 1))
more j h = omega arith

next_none : (test : ℕ → Bool) (j n : ℕ) → n ≡ 0 → j ≡ next_column test j n
unfolding next_column
next_none test j n none = rw none refl

pub returns-then-differs : goal.returns-then-differs
returns-then-differs c =
    let here = next_here (changed c.args.self.now) c.loop-j.j (more _ (omega arith)) (sym c.differs.ensures ∙ c.if-differs.true) in
    sym here ∙ c.loop-j.invariant

pub loop-j-preserved : goal.loop-j-preserved
loop-j-preserved c =
    let later = next-later (changed c.args.self.now) c.loop-j.j (more _ (omega arith)) (sym c.differs.ensures ∙ c.if-differs.false) in
    sym later ∙ c.loop-j.invariant

-- a search that has passed the last column ends there, or where it began when that is further on
ended : (test : ℕ → Bool) (j from : ℕ) → segments ≤ j → (from ≤ segments → j ≤ segments)
    → next_column test j (segments - j) ≡ next_column test from (segments - from) → max from segments ≡ next_column test from (segments - from)
unfolding next_column
ended test j from past within same =
    ⊎_elim
    (λ u. let less = ltb-true from segments u in
    let there = within (omega arith) in
    let last : j ≡ segments = omega arith in
    let top : max from segments ≡ segments = omega arith in
    top ∙ sym last ∙ next_none test j (segments - j) (omega arith) ∙ same)
    (λ u. let less = ltb-false from segments u in
    let top : max from segments ≡ from = omega arith in
    top ∙ next_none test from (segments - from) (omega arith))
    (tested (ltb from segments))

pub returns : goal.returns
returns c =
    c.max.ensures ∙ ended (changed c.args.self.now) c.loop-j.j c.args.from c.loop-j-test.false c.loop-j.auto.j-end c.loop-j.invariant
