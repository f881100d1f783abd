-- The fields of the lines that answer calls (the table of calls), but for an end as it stands. A text is a list of the octets of its
-- characters.
-- Assumes nothing.
use Rattle.std.specs.Prelude.{List, [], ◌∷◌, ℕ, ◌+◌, ◌-◌, ◌/◌, ◌%◌, ltb, if◌then◌else◌}
use Rattle.std.specs.Prelude.{Result}
use Rattle.std.specs.declared.result.Result.TheVariants as R
use Prim.Native.Char.{code}
use Rattle.basics.specs.Basics.{bit}
use Rattle.lister_text.specs.Texts.{ascii, decimal}
use Rattle.refusal.specs.declared.Refusal.{Refusal}
use Rattle.refusal.specs.Numbers.{number_of}
use Rattle.replay_answers.specs.declared.Answer.{Answer}
use Rattle.replay_answers.specs.declared.Answer.TheVariants.{Ok, Unopened, Unreadable, Lost, Sent, Freed, Taken, Room, Refused}

-- ---- the answers of one or a few numbers

-- a refusal, by its number
abbrev pub refused_fields : ℕ → List (List ℕ)
refused_fields number = ascii "refused" ∷ decimal number ∷ []

-- a word, and the numbers behind it
abbrev pub answer_fields : Answer → List (List ℕ)
answer_fields Ok = ascii "ok" ∷ []
answer_fields Unopened = ascii "unopened" ∷ []
answer_fields Unreadable = ascii "unreadable" ∷ []
answer_fields (Lost count) = ascii "lost" ∷ decimal count ∷ []
answer_fields (Sent number) = ascii "sent" ∷ decimal number ∷ []
answer_fields (Freed freed lost last) = ascii "freed" ∷ decimal freed ∷ ascii "lost" ∷ decimal lost ∷ ascii "final" ∷ decimal (bit last) ∷ []
answer_fields (Taken number pdcp size) = ascii "taken" ∷ decimal number ∷ decimal pdcp ∷ decimal size ∷ []
answer_fields (Room octets) = ascii "room" ∷ decimal octets ∷ []
answer_fields (Refused number) = refused_fields number

-- what a call answers, if it isn't refused
abbrev pub answer_by : Result Answer Refusal → Answer
answer_by (R.Ok a) = a
answer_by (R.Err r) = Refused (number_of r)

-- ---- a frame

-- a value below 16 as a lower-case hexadecimal digit
abbrev pub hex_digit : ℕ → ℕ
hex_digit n = if ltb n 10 then code "0" + n else code "a" + (n - 10)

-- octets in lower-case hexadecimal
abbrev pub hex_text : List ℕ → List ℕ
hex_text [] = []
hex_text (o ∷ os) = hex_digit (o / 16) ∷ hex_digit (o % 16) ∷ hex_text os

-- `frame` and its octets
abbrev pub frame_fields : List ℕ → List (List ℕ)
frame_fields octets = ascii "frame" ∷ hex_text octets ∷ []

-- the most of them in a line
abbrev pub most_frame : ℕ
most_frame = 2048
