-- What a program says that answers the lines of an input block by block, where it is known which octets the input gives and the output
-- holds: of which octets it read, and which it wrote. Of an input or an output that isn't known only so much is said: there are such octets.
-- A program, as it stands between two blocks, is here what it says to all octets that still come, the answer to a last line included.
-- Assumes nothing.
use Rattle.std.specs.Prelude.{◌≡◌, ◌⊎◌, ℕ, ◌-◌, ◌^◌, ◌≤◌, Bool, true, List, [], ◌++◌, length, take, Option}
use Rattle.std.specs.Io.KnownBytes.{Appends, Consumes, IsAtEnd}
use Rattle.program_lines.specs.Lines.{Answering, lines_of, answers}
use Rattle.program_lines.specs.Feeding.{told}
use Rattle.program_run.specs.declared.Reading.{Reading}

-- what is said to the octets that still come
abbrev pub Telling : Type 0
Telling = List ℕ → List ℕ

-- by a program in a state, behind what is held of an unfinished line
abbrev pub told_by : {S A : Type 0} {N : ℕ} → Answering S → (A → S) → Reading A N → Telling
told_by p state r = told p (state r.program) (take r.line.held r.line.octets)

-- octets came: an output grew by a front of all that is said to them, whatever comes later; and where it was written whole, the rest of that
-- is what is said then to those that are pending and what comes later
pub record Answered (output output' : Option (List ℕ)) (told : Telling) (octets : List ℕ) (whole : Bool) (told' : Telling) (pending : List ℕ) : Type 0 where
  pub written : List ℕ
  pub writes : Appends output output' written
  pub front : (later : List ℕ) → (rest : List ℕ) × (written ++ rest ≡ told (octets ++ later))
  pub on : whole ≡ true → (later : List ℕ) → written ++ told' (pending ++ later) ≡ told (octets ++ later)

-- octets were read and answered, at least so many
pub record Going (input input' output output' : Option (List ℕ)) (told : Telling) (least : ℕ) (whole : Bool) (told' : Telling) : Type 0 where
  pub read : List ℕ
  pub reads : Consumes input input' read
  pub some : least ≤ length read
  pub answered : Answered output output' told read whole told' []

-- A run: octets were read from the input, and the output grew by a front of what is said to them. Where nothing failed it grew by all of that,
-- and the input was read to its end, unless that is farther than anything is.
pub record Says (told : Telling) (input input' output output' : Option (List ℕ)) (whole : Bool) : Type 0 where
  pub read : List ℕ
  pub written : List ℕ
  pub reads : Consumes input input' read
  pub writes : Appends output output' written
  pub front : (rest : List ℕ) × (written ++ rest ≡ told read)
  pub all : whole ≡ true → (written ≡ told read) × (IsAtEnd input' ⊎ (2 ^ 64 - 1 ≤ length read))

-- ... of a program from a state on: what is said are the answers to the lines that were read, one after another
abbrev pub Ran : {S : Type 0} → Answering S → S → Option (List ℕ) → Option (List ℕ) → Option (List ℕ) → Option (List ℕ) → Bool → Type 0
Ran p s = Says (λ octets. answers p s (lines_of octets))
