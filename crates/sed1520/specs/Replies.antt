-- What a run of records gives back and leaves: its replies as they stand in the answer buffer, and the counts over them.
use Rattle.std.specs.Prelude.{ℕ, ◌+◌, ◌*◌, Bool, false, not, ◌&&◌, ◌||◌, eqb, length, drop}
use mathlib.Core.List.{List, [], ◌∷◌, ◌++◌, flat_map}
use Rattle.std.specs.Prelude.{Option, None, Some}
use Rattle.basics.specs.Choice.{if}
use Rattle.basics.specs.Verdict.{CallResult, result_of}
use Rattle.sed1520.specs.Cycle.{Reply}
use Rattle.sed1520.specs.declared.bus.Record.{Record}
use Rattle.sed1520.specs.declared.tally.Ran.{Ran}
use Rattle.sed1520.specs.declared.tally.Tally.{Tally}

-- whether an answer of this kind is compared with the byte that the recorder saw: kinds 1 and 3 are
abbrev pub is_compared : ℕ → Bool
is_compared kind = eqb kind 1 || eqb kind 3

-- how many of some replies are compared
unfoldable pub compared_in : List Reply → ℕ
compared_in [] = 0
compared_in (a ∷ more) = if (is_compared a.kind) 1 0 + compared_in more

-- how many of them differ from their record's byte
unfoldable pub differing_in : List Reply → List Record → ℕ
differing_in [] rs = 0
differing_in (a ∷ more) [] = 0
differing_in (a ∷ more) (r ∷ rs) = if (is_compared a.kind && not (eqb a.byte r.byte)) 1 0 + differing_in more rs

-- whether what is said to be stored to is this byte of the image
abbrev pub is_byte : ℕ → Option ℕ → Bool
is_byte i None = false
is_byte i (Some j) = eqb i j

-- how many of some replies say that their record stored to a byte of the image (request C-16)
unfoldable pub stores_to : ℕ → List Reply → ℕ
stores_to i [] = 0
stores_to i (a ∷ more) = if (is_byte i a.stored) 1 0 + stores_to i more

-- the reply to a record that stores nothing, from its kind and its byte
abbrev pub reply : ℕ → ℕ → Reply
reply kind byte = record { kind = kind; byte = byte; stored = None }

-- the reply to a data write that stores to a byte, from that byte's index
abbrev pub write_reply : ℕ → Reply
write_reply i = record { kind = 0; byte = 0; stored = Some i }

-- a reply as it stands in the answer buffer: kind, byte
abbrev pub reply_bytes : Reply → List ℕ
reply_bytes a = a.kind ∷ a.byte ∷ []

-- replies one after the other as they stand in the answer buffer
abbrev pub replies_bytes : List Reply → List ℕ
replies_bytes replies = flat_map reply_bytes replies

-- a tally of a number, its place and both counts
abbrev pub tally : ℕ → ℕ → ℕ → ℕ → Tally
tally n at compared differing = record { number = n; place = at; compared = compared; differing = differing }

-- the tally where no record ran: a number, its place, and both counts 0
abbrev pub nothing_run : ℕ → ℕ → Tally
nothing_run n at = tally n at 0 0

-- the tally of a run that ended with a number: how many of the records were answered, and the counts over the replies
abbrev pub tallied : ℕ → List Reply → List Record → Tally
tallied n replies rs = tally n (length replies) (compared_in replies) (differing_in replies rs)

-- what a run gives back in which no data write moved the column
abbrev pub ran_unmoved : Tally → Ran
ran_unmoved t = record { tally = t; moved = 0 }

-- the answer buffer after replies: they stand at its front, and past them the bytes that were there
abbrev pub answers_left : List Reply → List ℕ → List ℕ
answers_left replies answers = replies_bytes replies ++ drop (2 * length replies) answers

-- what records run on: a chip, both or a feed, by value or as bytes, their RAM and the answer buffer
pub record Lent (S : Type 0) : Type 0 where
  pub state : S
  pub ram : List ℕ
  pub answers : List ℕ

-- a state, its RAM and an answer buffer, as what is lent
abbrev pub lent : {S : Type 0} → S → List ℕ → List ℕ → Lent S
lent s ram answers = record { state = s; ram = ram; answers = answers }

-- what a call over the bytes of a chip, of both or of a feed gives back, and what it leaves in them, in the RAM and in the answer buffer
abbrev pub InPlace : Type 0 → Type 0
InPlace A = CallResult A (Lent (List ℕ))

-- an answer with what such a call leaves
abbrev pub in_place : {A : Type 0} → A → List ℕ → List ℕ → List ℕ → InPlace A
in_place a bytes ram answers = result_of a (lent bytes ram answers)
