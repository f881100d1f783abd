-- What a line of a script says (the table of calls): a word and its fields, parted by tabs. A text is a list of the octets of
-- its characters.
-- Assumes nothing.
use Rattle.std.specs.Prelude.{Bool, not, List, [], ◌∷◌, ℕ, ◌+◌, ◌-◌, ◌*◌, ltb, leb, eqb, length, take, drop, if◌then◌else◌, Option, Some, None}
use Prim.Native.Char.{code}
use Rattle.basics.specs.Basics.{◌and◌, ◌or◌, all}
use Rattle.std.specs.Str.{bytes_eq}
use Rattle.lister_text.specs.Texts.{ascii, tab, onto}
use Rattle.lister_text.specs.Hexadecimal.{decoded_of, decoded_into}
use Rattle.replay_calls.specs.declared.Call.{Call}
use Rattle.replay_calls.specs.declared.Call.TheVariants.{Open, Keeper, Ledger}
use Rattle.replay_calls.specs.declared.KeeperCall as K
use Rattle.replay_calls.specs.declared.LedgerCall as L

-- ---- fields

-- the fields of a line: what stands between tabs
abbrev pub fields_in : List ℕ → List (List ℕ)
fields_in [] = [] ∷ []
fields_in (c ∷ cs) = if eqb c tab then [] ∷ fields_in cs else onto c (fields_in cs)

-- the first of them
abbrev pub first_field : List ℕ → List ℕ
first_field [] = []
first_field (c ∷ cs) = if eqb c tab then [] else (c ∷ first_field cs)

-- fields that each have a tab before them
abbrev pub tabbed_fields : List ℕ → List (List ℕ)
tabbed_fields [] = []
tabbed_fields (t ∷ cs) = fields_in cs

-- ---- numbers

-- a decimal digit
abbrev pub is_decimal : ℕ → Bool
is_decimal c = leb (code "0") c and leb c (code "9")

-- its value
abbrev pub digit_in : ℕ → Option ℕ
digit_in c = if is_decimal c then Some (c - code "0") else None

-- the number that digits behind a number say
abbrev pub value_of : ℕ → List ℕ → ℕ
value_of v [] = v
value_of v (c ∷ cs) = value_of (v * 10 + (c - code "0")) cs

-- the largest number
abbrev pub most_number : ℕ
most_number = 4294967295

-- a field that is no number: not of 1 to 10 decimal digits, or above 4294967295
abbrev pub no_number : List ℕ → Bool
no_number f = eqb (length f) 0 or ltb 10 (length f) or not (all is_decimal f) or ltb most_number (value_of 0 f)

-- what a field says
abbrev pub number_of : List ℕ → Option ℕ
number_of f = if no_number f then None else Some (value_of 0 f)

-- a number before others, if all can be read
abbrev pub before : Option ℕ → Option (List ℕ) → Option (List ℕ)
before None ns = None
before (Some n) None = None
before (Some n) (Some ns) = Some (n ∷ ns)

-- the numbers that fields say, if all can be read
abbrev pub numbers_of : List (List ℕ) → Option (List ℕ)
numbers_of [] = Some []
numbers_of (f ∷ fs) = before (number_of f) (numbers_of fs)

-- no call has more than four of them
abbrev pub few : Option (List ℕ) → Option (List ℕ)
few None = None
few (Some ns) = if leb (length ns) 4 then Some ns else None

-- as the code holds them: so many at the front of an array, if all can be read
abbrev pub held_in : Option ℕ → List ℕ → Option (List ℕ)
held_in None values = None
held_in (Some n) values = Some (take n values)

-- ---- calls

-- the most room that a status is given
abbrev pub most_room : ℕ
most_room = 2048

-- a status's sizes, Final, which is 0 or 1, and the room, at most so much
abbrev pub status_call : ℕ → ℕ → ℕ → ℕ → Option Call
status_call desired minimum final room = if ltb 1 final or ltb most_room room then None else Some (Keeper (K.TheVariants.Status (record { desired = desired; minimum = minimum; last = eqb final 1; room = room })))

-- a call by its word and its numbers, if there is one with so many
abbrev pub call_with : List ℕ → Option (List ℕ) → Option Call
call_with w None = None
call_with w (Some []) =
    if bytes_eq w (ascii "take") then Some (Ledger L.TheVariants.Take) else
    (if bytes_eq w (ascii "room") then Some (Ledger L.TheVariants.Room) else
    (if bytes_eq w (ascii "keeper") then Some (Keeper K.TheVariants.Show) else
    (if bytes_eq w (ascii "ledger") then Some (Ledger L.TheVariants.Show) else
    None)))
call_with w (Some (a ∷ [])) =
    if bytes_eq w (ascii "expire") then Some (Keeper (K.TheVariants.Expire a)) else
    (if bytes_eq w (ascii "confirm") then Some (Keeper (K.TheVariants.Confirm a)) else
    None)
call_with w (Some (a ∷ b ∷ [])) =
    if bytes_eq w (ascii "arrive") then Some (Keeper (K.TheVariants.Arrive a b)) else
    (if bytes_eq w (ascii "send") then Some (Ledger (L.TheVariants.Send a b)) else
    None)
call_with w (Some (a ∷ b ∷ c ∷ [])) = if bytes_eq w (ascii "open") then Some (Open (record { bits = a; first = b; pdcp = c })) else None
call_with w (Some (a ∷ b ∷ c ∷ d ∷ [])) = if bytes_eq w (ascii "status") then status_call a b c d else None
call_with w (Some (a ∷ b ∷ c ∷ d ∷ e ∷ ns)) = None

-- a frame to accept, by how the lister reads it
abbrev pub framed : Option ℕ → Option Call
framed (Some n) = Some (Ledger (L.TheVariants.Accept n))
framed None = None

-- accept has one field
abbrev pub accept_of : List (List ℕ) → Option Call
accept_of [] = None
accept_of (f ∷ []) = framed (decoded_of f)
accept_of (f ∷ g ∷ fs) = None

-- a call by its word and its fields
abbrev pub call_by : List ℕ → List (List ℕ) → Option Call
call_by w fs = if bytes_eq w (ascii "accept") then accept_of fs else call_with w (numbers_of fs)

-- the first field is the word
abbrev pub call_in : List (List ℕ) → Option Call
call_in [] = None
call_in (w ∷ fs) = call_by w fs

-- what a line says
unfoldable pub read_call : List ℕ → Option Call
read_call l = call_in (fields_in l)

-- ---- the frame's buffer

-- what decoding leaves in it: octets behind a tab are decoded
abbrev pub decoded_behind : List ℕ → List ℕ → List ℕ
decoded_behind [] frame = frame
decoded_behind (t ∷ cs) frame = decoded_into cs frame

-- by a word and the octets behind it
abbrev pub frame_by : List ℕ → List ℕ → List ℕ → List ℕ
frame_by w behind frame = if bytes_eq w (ascii "accept") then decoded_behind behind frame else frame

-- by a line
abbrev pub frame_after : List ℕ → List ℕ → List ℕ
frame_after l frame = frame_by (first_field l) (drop (length (first_field l)) l) frame
