-- What the C boundary answers and leaves, by the definitions that the contracts of the crates below it cite.
-- An answer is one integer: from 0 on what document 01 answers, below 0 a refusal.
-- Assumes nothing.
use Rattle.std.specs.Prelude.{Bool, List, [], ◌∷◌, ℕ, ◌-◌, ◌^◌, ltb, ℤ, pos, neg_ℤ, length, get_or, Option, Some, None, Result, Ok, Err, if◌then◌else◌}
use Rattle.std.proofs.lemmas.List.Edits.{sets}
use Rattle.basics.specs.Basics.{bit, Outcome, done, refused, is_set}
use Rattle.refusal.specs.declared.Refusal.{Refusal}
use Rattle.refusal.specs.Numbers.{number_of}
use Rattle.frame_layout.specs.Frames as frames
use Rattle.frame_layout.specs.Frames.{Reading, data_of, status_of, refuse, Written, starts_of, ends_of, data_type, status_type, width, list_at, most_octets}
use Rattle.bearer.specs.Bearer.{After}
use Rattle.bearer.specs.Keeper.{Keeper, Reported}
use Rattle.frame_reader.specs.declared.Cursor.{Cursor}
use Rattle.frame_reader.specs.declared.Step.{Step}
use Rattle.frame_reader.specs.Answers.{next_in}

-- ---- answers

-- the greatest answer
abbrev pub most_answer : ℕ
most_answer = 2 ^ 63 - 1

-- document 01's refusal n is answered as minus n
abbrev pub minus : ℕ → ℤ
minus n = neg_ℤ (pos n)

-- a result's answer: its value's number, or minus the number of its refusal
abbrev pub said : {T : Type 0} → (T → ℕ) → Result T Refusal → ℤ
said value (Ok t) = pos (value t)
said value (Err r) = minus (number_of r)

-- a value by its number, a refusal by minus its number
abbrev pub answer_of : {A : Type 0} → (A → ℕ) → Outcome A → ℤ
answer_of value (done a) = pos (value a)
answer_of value (refused n) = minus n

-- a number is its own
abbrev pub itself : ℕ → ℕ
itself n = n

-- what a call leaves: its answer, and what was lent to it
pub record Left (S : Type 0) : Type 0 where
  pub answer : ℤ
  pub lent : S

-- an answer, with what was lent
abbrev pub leaves : {S : Type 0} → ℤ → S → Left S
leaves r s = record { answer = r; lent = s }

-- ---- the writer and the keeper

-- how many octets were written, and the buffer
abbrev pub writes : Written → Left (List ℕ)
writes w = leaves (answer_of itself w.answer) w.buffer

-- how many became lost, and the end
abbrev pub counts : After Keeper ℕ → Left Keeper
counts a = leaves (answer_of itself a.answer) a.state

-- 0 for a success without a value, and the end
abbrev pub settles : After Keeper Unit → Left Keeper
settles a = leaves (answer_of (λ u. 0) a.answer) a.state

-- how many octets a status has, and the end and the buffer
abbrev pub reports : Reported → Left (Keeper × List ℕ)
reports a = leaves (answer_of itself a.answer) (a.state, a.buffer)

-- 1 for yes and 0 for no
abbrev pub tells : Outcome Bool → ℤ
tells a = answer_of bit a

-- ---- the reader

-- the answer to what is read: its type, or minus the refusal's number
abbrev pub type_of : Reading → ℤ
type_of (data_of long n) = pos (data_type long)
type_of (status_of s) = pos (status_type s.long)
type_of (refuse n) = minus n

-- the fields in place of what was there, each in a place of its own: the number of data, and of a status the highest PDCP number,
-- desired size, minimum size, Final and how many ranges. One that the frame hasn't is 0. A refusal leaves what was there.
abbrev pub fields_of : List ℕ → Reading → List ℕ
fields_of old (data_of long n) = n ∷ 0 ∷ 0 ∷ 0 ∷ 0 ∷ 0 ∷ []
fields_of old (status_of s) = 0 ∷ s.highest ∷ s.desired ∷ s.minimum ∷ bit s.final ∷ length s.ranges ∷ []
fields_of old (refuse n) = old

-- the ranges of a status
abbrev pub ranges_in : Reading → List frames.Range
ranges_in (data_of long n) = []
ranges_in (status_of s) = s.ranges
ranges_in (refuse n) = []

-- the type and the fields
abbrev pub reads : List ℕ → Reading → Left (List ℕ)
reads old r = leaves (type_of r) (fields_of old r)

-- the same with the ranges at the front of two arrays, in place of what was there
abbrev pub reads_all : List ℕ → List ℕ → List ℕ → Reading → Left (List ℕ × List ℕ × List ℕ)
reads_all old starts ends r = leaves (type_of r) (fields_of old r, sets starts 0 (starts_of (ranges_in r)), sets ends 0 (ends_of (ranges_in r)))

-- the cursor that words say: its form, its place, and how many ranges are left
abbrev pub cursor_in : List ℕ → Cursor
cursor_in w = record { long = is_set (get_or w 0 0); place = get_or w 1 0; left = get_or w 2 0 }

-- the words that say a cursor
abbrev pub words_of : Cursor → List ℕ
words_of c = bit c.long ∷ c.place ∷ c.left ∷ []

-- how many ranges a frame has, and the cursor before the first, in place of what was there: data has none. A refusal
-- leaves what was there.
abbrev pub begins : List ℕ → Reading → Left (List ℕ)
begins old (data_of long n) = leaves (pos 0) (0 ∷ 0 ∷ 0 ∷ [])
begins old (status_of s) = leaves (pos (length s.ranges)) (bit s.long ∷ list_at (width s.long) ∷ length s.ranges ∷ [])
begins old (refuse n) = leaves (minus n) old

-- the range at a cursor; octets longer than any frame have none
abbrev pub step_in : List ℕ → Cursor → Option Step
step_in s c = if ltb most_octets (length s) then None else next_in s c

-- 1, and the cursor behind the range and the range in place of what was there; 0 and no change where none is left
abbrev pub steps : List ℕ → List ℕ → Option Step → Left (List ℕ × List ℕ)
steps at old (Some t) = leaves (pos 1) (words_of t.rest, t.range.start ∷ t.range.end ∷ [])
steps at old None = leaves (pos 0) (at, old)
