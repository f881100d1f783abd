-- The front of a line that is one character longer than any readable one is answered as the whole line.
-- Assumes nothing.
use Rattle.std.proofs.Common.{◌≡◌, ℕ, suc, ◌<◌, List, length, take, lt-ltb}
use Rattle.lister_text.specs.Texts.{ascii}
use Rattle.lister_text.specs.Hexadecimal.{most_digits}
use Rattle.lister_text.proofs.Holding.{front_answers}
use Rattle.lister_answers.specs.Answers.{line_of}

-- too long a line can't be read
too_long : (l : List ℕ) → most_digits < length l → line_of l ≡ ascii "unreadable\n"
unfolding line_of
too_long l h = rw (lt-ltb most_digits (length l) h)

pub line_kept : (l : List ℕ) → line_of (take (suc most_digits) l) ≡ line_of l
line_kept = front_answers line_of (ascii "unreadable\n") most_digits too_long
