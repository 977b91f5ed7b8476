-- `visible::walk::walk_over` meets its contract: the walk over a copy.
use Prim.Native.Nat.{ℕ}
use mathlib.Core.Path.{◌≡◌, sym, ◌∙◌}
use lib.ListN.{replicate, length-replicate}
use Rattle.basics.proofs.Bytes.{copied-whole}
use Rattle.visible.proofs.walk.walk_over.Goals as goal

pub returns : goal.returns
returns c =
    let copied : c.copy.new.to ≡ c.args.ram.now =
    c.copy.ensures ∙ copied-whole _ (replicate 640 0) (c.requires.whole.image ∙ sym (length-replicate {A = ℕ} 640 0))
    in
    rw copied at c.walk.ensures.walked
