-- All that the lister prints for an input (document 01, its last section): an answer to each of its lines.
-- Assumes nothing.
use Rattle.std.specs.Prelude.{List, ℕ}
use Rattle.lister_text.specs.Hexadecimal.{most_digits}
use Rattle.program_lines.specs.Lines.{Answering, lines_of, answers, LinesCount}
use Rattle.lister_answers.specs.Answers.{line_of, most_text}

-- the lister answers each line by itself: no line with more than the most digits is readable, and an answer has its most octets
abbrev pub lister : Answering Unit
lister = record {
  next = λ (s : Unit) (l : List ℕ). s;
  answer = λ (s : Unit) (l : List ℕ). line_of l;
  most_line = most_digits;
  most_text = most_text;
}

-- all that the lister prints for an input
abbrev pub listing : List ℕ → List ℕ
listing input = answers lister tt (lines_of input)

-- The statement, proved in proofs/Blocks.antt: each line is answered by one, so where a front of that was written, as many lines were answered
-- as it has line feeds.
abbrev pub ListingCounts : Type 0
ListingCounts = LinesCount lister
