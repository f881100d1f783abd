-- How many lines were answered, as a program counts them where it writes, and what it says where a read or a write fails. What a write
-- leaves outside is said where that is known (Rattle.std.specs.Io.KnownBytes).
-- Assumes nothing.
use Rattle.std.specs.Prelude.{◌≡◌, ◌≢◌, ℕ, ◌+◌, ◌%◌, ◌^◌, ◌<◌, ◌≤◌, List, ◌++◌, length, take, ℤ, pos, negsuc, Result, Ok, Err, is_ok, ◌==◌, slice_index}
use Prim.Native.Char.{code}
use Rattle.lister_text.specs.Texts.{ascii, line_feeds, decimal}
use Rattle.program_io.specs.declared.Part.{Part}
use Rattle.program_io.specs.declared.Short.{Short}

-- how many of some octets were taken where they were written out
abbrev pub taken : List ℕ → Result Unit Short → ℕ
taken octets (Ok u) = length octets
taken octets (Err short) = short.octets

-- how many of an output's octets were
abbrev pub written : List ℕ → Result ℕ Part → ℕ
written octets (Ok lines) = length octets
written octets (Err part) = part.octets

-- how many lines were answered then
abbrev pub lines_in : Result ℕ Part → ℕ
lines_in (Ok lines) = lines
lines_in (Err part) = part.lines

-- octets are written, with so many lines before: how many octets went out, whether all did, and the lines with theirs (64 bits of them)
pub record Writes (octets : List ℕ) (before : ℕ) (r : Result ℕ Part) : Type 0 where
  pub within : written octets r ≤ length octets
  pub whole : is_ok r ≡ (written octets r == length octets)
  pub lines : lines_in r ≡ (before + line_feeds (take (written octets r) octets)) % 2 ^ 64

-- ---- what is said

-- so many octets are said of a name
abbrev pub most_word : ℕ
most_word = 24

-- how many lines a program of that name answered
abbrev pub answered : List ℕ → ℕ → List ℕ
answered name lines = name ++ ascii ": lines answered: " ++ decimal lines

-- the number of an error, as C holds it: none is below 0
abbrev pub error_number : ℤ → ℕ
error_number (pos n) = n
error_number (negsuc n) = 0

-- what failed, and the error's number
abbrev pub failed : List ℕ → ℕ → List ℕ
failed what error = ascii "; " ++ what ++ ascii " failed, error " ++ decimal error

-- both: what a program says where something failed
abbrev pub failing : List ℕ → List ℕ → ℕ → ℕ → List ℕ
failing name what lines error = answered name lines ++ failed what error

-- std says an error in words with its number behind them in round brackets, as "No space left on device (os error 28)": where the last
-- bracket opens at i + 1, and a blank stands before it, the words end at i
abbrev pub WordsEnd : List ℕ → ℕ → Type 0
WordsEnd text n = (i : ℕ) → i + 1 < length text → slice_index text (i + 1) ≡ code "("
    → ((k : ℕ) → i + 1 < k → k < length text → slice_index text k ≢ code "(") → n ≡ i
