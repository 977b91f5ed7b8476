-- Why a call is refused, as document 01's number with its place.
use Rattle.std.specs.Prelude.{ℕ, Bool, true, false, Result, Ok, Err}
use Rattle.basics.specs.Verdict.{Verdict, verdict}
use Rattle.basics.specs.declared.refusal.Refusal.{Refusal}
use Rattle.basics.specs.declared.refusal.Refusal.TheVariants.{WrongSize, StateOutOfRange, CutRecord, SpareBits, NoSuchChip, EqualStrobes, NoCommand}
use Rattle.basics.specs.declared.refusal.Refusal.TheVariants.{ColumnInModify, ShowsNoRam, LongDuty, OtherStartLine, InModify, TooManyRecords}
use Rattle.basics.specs.declared.refusal.Refusal.TheVariants.{NoSuchColumn, TooManyEntries}
use Rattle.basics.specs.declared.verdict.Refused.{Refused}

-- the number of each cause in document 01's table; 13 to 15 are those of requests C-11, C-15 and C-14
abbrev pub number_of : Refusal → ℕ
number_of WrongSize = 1
number_of StateOutOfRange = 2
number_of CutRecord = 3
number_of SpareBits = 4
number_of NoSuchChip = 5
number_of EqualStrobes = 6
number_of NoCommand = 7
number_of ColumnInModify = 8
number_of ShowsNoRam = 9
number_of LongDuty = 10
number_of OtherStartLine = 11
number_of InModify = 12
number_of TooManyRecords = 13
number_of NoSuchColumn = 14
number_of TooManyEntries = 15

-- a refusal with its place
abbrev pub refused : Refusal → ℕ → Refused
refused r at = record { refusal = r; place = at }

-- the number of what is done or refused alone, without a place: 0 where it is done
abbrev pub numbered : {A : Type 0} → Result A Refusal → ℕ
numbered (Ok a) = 0
numbered (Err r) = number_of r

-- the number and the place of a refusal, or what stands in their place where there is none
abbrev pub refused_or : {A : Type 0} → Verdict → Result A Refused → Verdict
refused_or done (Ok a) = done
refused_or done (Err r) = verdict (number_of r.refusal) r.place

-- the number and the place that a call gives: 0 and its place where it is done, else those of its refusal
abbrev pub verdict_of : Result ℕ Refused → Verdict
verdict_of (Ok at) = verdict 0 at
verdict_of (Err r) = verdict (number_of r.refusal) r.place

-- a cause that is given by chip: with place 0 where it holds of the left chip, then with place 1 for the right one
abbrev pub by_chip : Refusal → Bool → Bool → Result Unit Refused
by_chip r true right = Err (refused r 0)
by_chip r false true = Err (refused r 1)
by_chip r false false = Ok tt
