-- `trace::feed::run_part` meets its contract: nothing kept over, too few bytes for a record, or a first record of bytes kept over.
use Prim.Native.Nat.{ℕ, ◌-◌}
use native.Mathlib.Omega.{arith}
use mathlib.Core.Path.{◌≡◌, sym, ap, ◌∙◌}
use mathlib.Core.List.{List, [], ◌∷◌, ◌++◌}
use lib.ListN.{length, take, drop, replicate}
use Rattle.basics.proofs.Parts.{rest}
use Rattle.sed1520.specs.Cycle.{Reply}
use Rattle.panel.specs.Chips.{panel_in}
use Rattle.panel.specs.Trace.{trace_run}
use Rattle.trace.specs.Feed.{joined_to}
use Rattle.trace.specs.Wear.{stores_in, worn}
use Rattle.trace.proofs.InPlace.{kept}
use Rattle.trace.proofs.KeptOver.{joined_length, kept-none, straddled, nothing_run, none-stored}
use Rattle.trace.proofs.WearCounts.{worn-cleared}
use Rattle.trace.proofs.feed.run_part.Goals as goal

-- what is counted on from wear that is cleared is counted from 0
from-cleared : {wear after : List ℕ} (n : ℕ) (replies : List Reply) → wear ≡ replicate n 0 → after ≡ worn wear replies
    → after ≡ stores_in replies n
from-cleared n replies zero e = e ∙ ap (λ (w : List ℕ). worn w replies) zero ∙ worn-cleared n replies

pub returns-then-kept-eq0-clause-wear : goal.returns-then-kept-eq0-clause-wear
returns-then-kept-eq0-clause-wear c =
    let at = c.args in
    let all = kept-none at.progress at.part.now (omega arith) in
    from-cleared _ _ c.clear.ensures
    (c.run.ensures.wear ∙ ap (λ (bytes : List ℕ). worn c.clear.new.wear (trace_run (panel_in at.chips.now at.ram.now) bytes).answers) (sym all))

pub returns-then-kept-part-lt-RECORD_BYTES-clause-ran : goal.returns-then-kept-part-lt-RECORD_BYTES-clause-ran
returns-then-kept-part-lt-RECORD_BYTES-clause-ran c =
    let at = c.args in
    let few = joined_length at.progress c.requires.kept_bound at.part.now in
    let none = nothing_run (panel_in at.chips.now at.ram.now) (joined_to at.progress at.part.now) at.answers.now (omega (arith, few)) in
    rw (c.nothing_run.ensures, none) (rw (kept at.chips.now c.requires.both_pass.size))

pub returns-then-kept-part-lt-RECORD_BYTES-clause-wear : goal.returns-then-kept-part-lt-RECORD_BYTES-clause-wear
returns-then-kept-part-lt-RECORD_BYTES-clause-wear c =
    let at = c.args in
    let few = joined_length at.progress c.requires.kept_bound at.part.now in
    from-cleared _ _ c.clear.ensures
    (none-stored c.clear.new.wear (panel_in at.chips.now at.ram.now) (joined_to at.progress at.part.now) (omega (arith, few)))

-- the first record, read byte by byte, and what is left of the part are the bytes kept over and the part
pub returns-clause-wear : goal.returns-clause-wear
returns-clause-wear c =
    let at = c.args in
    let past = 4 - at.progress.kept in
    let whole : (c.byte_at.result ∷ c.byte_at-2.result ∷ c.byte_at-3.result ∷ c.byte_at-4.result ∷ [])
    ++ take (length at.part.now - past) (drop past at.part.now)
    ≡ joined_to at.progress at.part.now =
    rw (c.byte_at-4.ensures, c.byte_at-3.ensures, c.byte_at-2.ensures, c.byte_at.ensures, rest at.part.now past)
    (straddled at.progress c.requires.kept_bound at.part.now (omega arith))
    in
    from-cleared _ _ c.clear.ensures
    (c.run_both.ensures.wear ∙ ap (λ (bytes : List ℕ). worn c.clear.new.wear (trace_run (panel_in at.chips.now at.ram.now) bytes).answers) whole)
