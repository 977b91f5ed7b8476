-- The counts of a run of records: never more than its replies, counted on by one more, and those of the first k replies need only the first k
-- records.
use Prim.Native.Nat.{ℕ, zero, suc, ◌+◌, ◌<◌, ◌≤◌}
use native.Mathlib.Omega.{arith}
use mathlib.Core.Path.{◌≡◌, refl}
use mathlib.Core.Bool.{Bool, true, false, not, ◌&&◌}
use mathlib.Core.List.{List, [], ◌∷◌, ◌++◌}
use lib.Dec.{eqb}
use lib.ListN.{length, get_or, take}
use Rattle.basics.specs.Choice.{if}
use Rattle.sed1520.specs.Cycle.{Reply}
use Rattle.sed1520.specs.declared.bus.Record.{Record}
use Rattle.sed1520.specs.Replies.{is_compared, compared_in, differing_in, is_byte, stores_to}

pub at_most_one : (t : Bool) → if t 1 0 ≤ 1
at_most_one true = omega arith
at_most_one false = omega arith

pub no_more : (t : Bool) (n : ℕ) → if t 0 n ≤ n
no_more true n = omega arith
no_more false n = omega arith

-- what differs is counted where it was compared
pub differs-where : (compared same : Bool) → ◌≡◌ {A = ℕ} (if same 0 (if compared 1 0)) (if (compared && not same) 1 0)
differs-where true true = refl
differs-where true false = refl
differs-where false true = refl
differs-where false false = refl

-- one reply alone
pub compared-one : (a : Reply) → compared_in (a ∷ []) ≡ if (is_compared a.kind) 1 0
unfolding compared_in
compared-one a = omega arith

pub differing-one : (a : Reply) (r : Record) → differing_in (a ∷ []) (r ∷ []) ≡ if (is_compared a.kind && not (eqb a.byte r.byte)) 1 0
unfolding differing_in
differing-one a r = omega arith

pub compared-bound : (given : List Reply) → compared_in given ≤ length given
unfolding compared_in
compared-bound [] = omega arith
compared-bound (a ∷ more) = omega (arith, at_most_one (is_compared a.kind), compared-bound more)

pub differing-bound : (given : List Reply) (rs : List Record) → differing_in given rs ≤ length given
unfolding differing_in
differing-bound [] rs = omega arith
differing-bound (a ∷ more) [] = omega arith
differing-bound (a ∷ more) (r ∷ rs) =
    omega (arith, at_most_one (is_compared a.kind && not (eqb a.byte r.byte)), differing-bound more rs)

-- what differs was compared
pub differing-compared : (given : List Reply) (rs : List Record) → differing_in given rs ≤ compared_in given
unfolding differing_in compared_in
differing-compared [] rs = omega arith
differing-compared (a ∷ more) [] = omega arith
differing-compared (a ∷ more) (r ∷ rs) =
    omega (arith, at-most-if (is_compared a.kind) (not (eqb a.byte r.byte)), differing-compared more rs)
  where
    at-most-if : (s t : Bool) → if (s && t) 1 0 ≤ if s 1 0
    at-most-if true true = omega arith
    at-most-if true false = omega arith
    at-most-if false t = omega arith

pub compared-more : (given : List Reply) (a : Reply) → compared_in (given ++ (a ∷ [])) ≡ compared_in given + if (is_compared a.kind) 1 0
unfolding compared_in
compared-more [] a = omega arith
compared-more (b ∷ more) a = rw (compared-more more a) (omega arith)

pub differing-more : (none : Record) (given : List Reply) (rs : List Record) (a : Reply) → length given < length rs
    → differing_in (given ++ (a ∷ [])) rs
    ≡ differing_in given rs + if (is_compared a.kind && not (eqb a.byte (get_or rs (length given) none).byte)) 1 0
unfolding differing_in
differing-more none given [] a h = absurd (omega arith)
differing-more none [] (r ∷ rs) a h = omega arith
differing-more none (b ∷ more) (r ∷ rs) a h = rw (differing-more none more rs a (omega arith)) (omega arith)

-- two lists of replies joined, the first with a reply for each of its records
pub compared-join : (given more : List Reply) → compared_in (given ++ more) ≡ compared_in given + compared_in more
unfolding compared_in
compared-join [] more = omega arith
compared-join (a ∷ given) more = rw (compared-join given more) (omega arith)

pub differing-join : (given more : List Reply) (rs qs : List Record) → length given ≡ length rs
    → differing_in (given ++ more) (rs ++ qs) ≡ differing_in given rs + differing_in more qs
unfolding differing_in
differing-join [] more [] qs h = omega arith
differing-join [] more (r ∷ rs) qs h = absurd (omega arith)
differing-join (a ∷ given) more [] qs h = absurd (omega arith)
differing-join (a ∷ given) more (r ∷ rs) qs h = rw (differing-join given more rs qs (omega arith)) (omega arith)

-- records past the replies are not looked at
pub differing-front : (given : List Reply) (rs qs : List Record) → length given ≤ length rs → differing_in given (rs ++ qs) ≡ differing_in given rs
unfolding differing_in
differing-front [] rs qs h = refl
differing-front (a ∷ given) [] qs h = absurd (omega arith)
differing-front (a ∷ given) (r ∷ rs) qs h = rw (differing-front given rs qs (omega arith))

pub differing-prefix : (k : ℕ) (given : List Reply) (rs : List Record) → differing_in (take k given) (take k rs) ≡ differing_in (take k given) rs
unfolding differing_in
differing-prefix zero given rs = refl
differing-prefix (suc k) [] rs = refl
differing-prefix (suc k) (a ∷ given) [] = refl
differing-prefix (suc k) (a ∷ given) (r ∷ rs) = rw (differing-prefix k given rs)

-- the stores to one byte
pub stores-bound : (i : ℕ) (given : List Reply) → stores_to i given ≤ length given
unfolding stores_to
stores-bound i [] = omega arith
stores-bound i (a ∷ more) = omega (arith, at_most_one (is_byte i a.stored), stores-bound i more)

pub stores-join : (i : ℕ) (given more : List Reply) → stores_to i (given ++ more) ≡ stores_to i given + stores_to i more
unfolding stores_to
stores-join i [] more = omega arith
stores-join i (a ∷ given) more = rw (stores-join i given more) (omega arith)
