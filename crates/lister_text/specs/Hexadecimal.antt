-- A line in hexadecimal (document 01, its last section), and what decoding it answers and leaves.
-- Assumes nothing.
use Rattle.std.specs.Prelude.{ℕ, ◌+◌, ◌-◌, ◌*◌, ◌%◌, Bool, not, ltb, List, [], ◌∷◌, length, ◌==◌, nat_le, nat_lt, Option, Some, None, if◌then◌else◌}
use Prim.Native.Char.{code}
use Rattle.std.proofs.lemmas.List.Edits.{sets}
use Rattle.basics.specs.Basics.{◌and◌, ◌or◌, all}
use Rattle.frame_layout.specs.Frames.{most_octets}

-- the value of c among n characters from `first` on, the first of which has the value v; `other` if it is none of them
abbrev pub among : ℕ → ℕ → ℕ → ℕ → ℕ → ℕ
among first n v c other = if nat_le first c and ltb c (first + n) then v + (c - first) else other

-- the value of a digit, 0 to 9, A to F or a to f; 256, more than any octet, for another character
unfoldable pub digit_of : ℕ → ℕ
digit_of c = among (code "0") 10 0 c (among (code "A") 6 10 c (among (code "a") 6 10 c 256))

-- a character is a digit
abbrev pub is_digit : ℕ → Bool
is_digit c = nat_lt (digit_of c) 16

-- the octet that two digits say
abbrev pub octet_of : ℕ → ℕ → ℕ
octet_of a b = digit_of a * 16 + digit_of b

-- the octet that two characters say, unless one is no digit
abbrev pub octet_said : ℕ → ℕ → Option ℕ
octet_said a b = if is_digit a and is_digit b then Some (octet_of a b) else None

-- the octets that the pairs of digits at the front of a line say, up to a pair with another character
abbrev pub octets_in : List ℕ → List ℕ
octets_in [] = []
octets_in (a ∷ []) = []
octets_in (a ∷ b ∷ cs) = if is_digit a and is_digit b then octet_of a b ∷ octets_in cs else []

-- the most digits of a line, 2,036: those of the longest frame
abbrev pub most_digits : ℕ
most_digits = 2 * most_octets

-- a count of characters that no readable line has: too many, or odd
abbrev pub bad_count : ℕ → Bool
bad_count n = ltb most_digits n or not (n % 2 == 0)

-- a line with an odd digit count, another character or more than 2,036 digits
abbrev pub unreadable : List ℕ → Bool
unreadable l = bad_count (length l) or not (all is_digit l)

-- how many octets a line says, unless it can't be read
abbrev pub decoded_of : List ℕ → Option ℕ
decoded_of l = if unreadable l then None else Some (length (octets_in l))

-- what decoding a line leaves in a frame's buffer: of a right count of characters, the octets before the first that is no digit
abbrev pub decoded_into : List ℕ → List ℕ → List ℕ
decoded_into l frame = if bad_count (length l) then frame else sets frame 0 (octets_in l)
