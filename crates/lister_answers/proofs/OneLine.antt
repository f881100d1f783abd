-- Each answer of the lister is a line.
-- Assumes nothing.
use mathlib.Core.Path.{◌≡◌, refl}
use mathlib.Core.Bool.{true}
use mathlib.Core.List.{List}
use Prim.Native.Nat.{ℕ}
use Rattle.basics.specs.Basics.{bit, all}
use Rattle.frame_layout.specs.Frames.{data_type, status_type, Reading, data_of, status_of, refuse, read_frame}
use Rattle.lister_text.specs.Texts.{ascii, unended, IsLine}
use Rattle.lister_text.specs.Hexadecimal.{octets_in, unreadable}
use Rattle.lister_text.proofs.Cases.{true_or}
use Rattle.lister_text.proofs.LineFeeds.{unended_decimal, unended_ranges, fields_line}
use Rattle.lister_answers.specs.Answers.{fields_of, answer_to, line_of}

-- no field has a line feed
fields_plain : (r : Reading) → all unended (fields_of r) ≡ true
fields_plain (data_of long n) = rw (unended_decimal (data_type long), unended_decimal n)
fields_plain (status_of s) =
    rw (
      unended_decimal (status_type s.long),
      unended_decimal s.highest,
      unended_decimal s.desired,
      unended_decimal s.minimum,
      unended_decimal (bit s.final),
      unended_ranges s.ranges,
    )
fields_plain (refuse n) = rw (unended_decimal n)

answer_line : (r : Reading) → IsLine (answer_to r)
unfolding answer_to
answer_line r = fields_line (fields_of r) (fields_plain r)

pub line_line : (l : List ℕ) → IsLine (line_of l)
unfolding line_of
line_line l =
    true_or (unreadable l)
    (λ e. rw e (record { text = ascii "unreadable"; ended = refl; once = refl }))
    (λ e. rw e (answer_line (read_frame (octets_in l))))
