-- The lister's answer to a line (document 01, its last section): the line in hexadecimal is a frame, and the answer to it is a line of
-- the frame's fields.
-- Assumes nothing.
use Rattle.std.specs.Prelude.{Bool, List, [], ◌∷◌, ◌++◌, ℕ, leb, if◌then◌else◌}
use Rattle.basics.specs.Basics.{bit}
use Rattle.frame_layout.specs.Frames.{data_type, status_type, Reading, data_of, status_of, refuse, read_frame}
use Rattle.lister_text.specs.Texts.{ascii, line_feed, tab, decimal, parted, ranges_text}
use Rattle.lister_text.specs.Hexadecimal.{octets_in, unreadable, decoded_into}

-- data: type, number; status: type, highest, desired, minimum, Final as 0 or 1, ranges; refused: `refused`, number
abbrev pub fields_of : Reading → List (List ℕ)
fields_of (data_of long n) = decimal (data_type long) ∷ decimal n ∷ []
fields_of (status_of s) =
    decimal (status_type s.long)
    ∷ decimal s.highest
    ∷ decimal s.desired
    ∷ decimal s.minimum
    ∷ decimal (bit s.final)
    ∷ ranges_text s.ranges
    ∷ []
fields_of (refuse n) = ascii "refused" ∷ decimal n ∷ []

-- the fields parted by tabs, and the line's end
unfoldable pub answer_to : Reading → List ℕ
answer_to r = parted tab (fields_of r) ++ (line_feed ∷ [])

-- the answer to a line, which is given without its line feed
unfoldable pub line_of : List ℕ → List ℕ
line_of l = if unreadable l then ascii "unreadable\n" else answer_to (read_frame (octets_in l))

-- the most octets of an answer
abbrev pub most_text : ℕ
most_text = 4096

-- an output of that room has room for any answer
abbrev pub roomy : ℕ → Bool
roomy room = leb most_text room

-- the answer to a line in an output of that room: none where there is no room for any
abbrev pub answer_in : ℕ → List ℕ → List ℕ
answer_in room l = if roomy room then line_of l else []

-- what answering a line in an output of that room leaves in a frame's buffer
abbrev pub frame_in : ℕ → List ℕ → List ℕ → List ℕ
frame_in room l frame = if roomy room then decoded_into l frame else frame
