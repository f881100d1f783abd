-- The lines of an input, and all that a program says to them which answers each line in turn.
-- Assumes nothing.
use Rattle.std.specs.Prelude.{◌≡◌, true, List, [], ◌∷◌, ◌++◌, ℕ, eqb, take, if◌then◌else◌}
use Rattle.lister_text.specs.Texts.{line_feed, onto, unended, line_feeds, IsLine}

-- the lines of an input: what each line feed ends, and what stands behind the last of them, unless that is nothing
abbrev pub lines_of : List ℕ → List (List ℕ)
lines_of [] = []
lines_of (c ∷ cs) = if eqb c line_feed then [] ∷ lines_of cs else onto c (lines_of cs)

-- a program that answers lines: the state that a line leaves, the answer to it, the most octets of a line that is told from all longer
-- ones, and the most octets of an answer
pub record Answering (S : Type 0) : Type 0 where
  pub next : S → List ℕ → S
  pub answer : S → List ℕ → List ℕ
  pub most_line : ℕ
  pub most_text : ℕ

-- the answers to lines, one after another, each in the state that the lines before it leave
abbrev pub answers : {S : Type 0} → Answering S → S → List (List ℕ) → List ℕ
answers p s [] = []
answers p s (l ∷ ls) = p.answer s l ++ answers p (p.next s l) ls

-- ---- how many lines were answered

-- each answer is a line
abbrev pub AnswersAreLines : {S : Type 0} → Answering S → Type 0
AnswersAreLines {S} p = (s : S) (l : List ℕ) → IsLine (p.answer s l)

-- octets are the answers to as many lines as they have line feeds, and behind them a part without any
pub record AnswersWhole {S : Type 0} (p : Answering S) (s : S) (ls : List (List ℕ)) (t : List ℕ) : Type 0 where
  pub part : List ℕ
  pub whole : t ≡ answers p s (take (line_feeds t) ls) ++ part
  pub none : unended part ≡ true

-- so is every front of the answers
abbrev pub FrontsTell : {S : Type 0} → Answering S → Type 0
FrontsTell {S} p = (s : S) (ls : List (List ℕ)) (t rest : List ℕ) → t ++ rest ≡ answers p s ls → AnswersWhole p s ls t

-- The statement: each line is answered by one line, so that a program which has written a front of its answers has answered as many lines as
-- that has line feeds, and a part of the next answer at most. proofs/Fronts.antt proves the second of the first.
abbrev pub LinesCount : {S : Type 0} → Answering S → Type 0
LinesCount p = AnswersAreLines p × FrontsTell p
