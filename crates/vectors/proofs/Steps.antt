-- One step over the cases, after those before it have agreed.
use Prim.Native.Nat.{ℕ, suc, ◌+◌, ◌<◌, ◌≤◌}
use native.Mathlib.Omega.{arith}
use native.Mathlib.Numerals.{add-one}
use mathlib.Core.Path.{◌≡◌}
use mathlib.Core.Bool.{true, false}
use mathlib.Core.List.{List, [], ◌∷◌, ◌++◌}
use lib.ListN.{length, get_or, take, drop, replicate}
use lib.Seq.{take-suc, split_at, take_all}
use Rattle.basics.specs.Run.{as_run}
use Rattle.basics.proofs.Run.{one_more, refused-next}
use Rattle.sed1520.specs.Chip.{fresh}
use Rattle.sed1520.specs.Cycle.{Reply, reply_of, outcome, cycle_of}
use Rattle.sed1520.specs.Records.{front}
use Rattle.sed1520.specs.declared.registers.Chip.{Chip}
use Rattle.sed1520.specs.Cycle.{Answer}
use Rattle.vectors.specs.Cases.{case_agrees, case_step, cases_run, agrees_of}

-- the first cases have agreed and led to this chip and RAM
pub record Agreed (cases : List (List ℕ)) (ram : List ℕ) (c : Chip) (at : ℕ) : Type 0 where
  pub replies : List Reply
  pub run : cases_run (take at cases) ≡ as_run 0 replies (record { chip = c; ram = ram })

pub all-agreed : {cases : List (List ℕ)} {ram : List ℕ} {c : Chip} {at : ℕ} → Agreed cases ram c at → length cases ≤ at → true ≡ agrees_of cases
unfolding agrees_of
all-agreed {cases} {at = at} agreed h =
    let run = rw (take_all at cases h) at agreed.run in
    rw run

module _ {cases : List (List ℕ)} {ram : List ℕ} {c : Chip} {at : ℕ} (agreed : Agreed cases ram c at) (more : at < length cases)
    {a : Answer} {after : List ℕ} (cycled : outcome a after ≡ cycle_of (front (get_or cases at [])) c ram) where
  pub next-case : case_agrees (get_or cases at []) a ≡ true → Agreed cases after a.chip (at + 1)
  next-case t =
      let added = one_more case_step (record { chip = fresh; ram = replicate 320 0 }) (take at cases) agreed.run (get_or cases at [])
      (rw (← cycled, t)) in
      record {
        replies = agreed.replies ++ (reply_of a ∷ []);
        run = rw (add-one at, take-suc cases at [] more) (rw (← cycled) at added);
      }

  pub last-case : case_agrees (get_or cases at []) a ≡ false → false ≡ agrees_of cases
  unfolding agrees_of
  last-case t =
      let ends = refused-next case_step (record { chip = fresh; ram = replicate 320 0 }) (take at cases) agreed.run (get_or cases at [])
      (drop (suc at) cases) (rw (← cycled, t) (λ e. omega arith)) in
      rw (split_at cases at [] more, ends) (rw (← cycled, t))
