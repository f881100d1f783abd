-- How words and lent arrays stand for the secondary's machine (the crate bearer, Keeper.antt). Slots past a count are no part of
-- the state; a count past the end counts as full, a length that is none of document 01's counts as 18, and an end is open by one
-- word alone, so that words and arrays of any content are a state, and where that word doesn't stand they are a closed end.
-- Assumes nothing.
use Rattle.std.specs.Prelude.{◌≡◌, Bool, true, false, not, List, [], ◌∷◌, ℕ, min, eqb, length, get_or, take}
use Rattle.basics.specs.Basics.{is_set}
use Rattle.circle.specs.Lengths.{length_in, modulus_of}
use Rattle.frame_layout.specs.Frames.{Range, ranges_of}
use Rattle.bearer.specs.Bearer.{most_runs, most_records}
use Rattle.bearer.specs.Keeper.{Keeper, Record}
use Rattle.keeper_state.specs.declared.Words.{Words}

-- ---- the words

-- words whose parts that calls change are put anew
abbrev pub words_with : Words → ℕ → ℕ → ℕ → ℕ → ℕ → Words
words_with w base reported opened runs records = record {
  bits = w.bits;
  base = base;
  reported = reported;
  opened = opened;
  runs = runs;
  records = records;
}

-- ... that say another base
infixl 20 ◌saying_base◌
abbrev pub ◌saying_base◌ : Words → ℕ → Words
◌saying_base◌ w base = words_with w base w.reported w.opened w.runs w.records

-- ... that say another reported highest
infixl 20 ◌saying_reported◌
abbrev pub ◌saying_reported◌ : Words → ℕ → Words
◌saying_reported◌ w reported = words_with w w.base reported w.opened w.runs w.records

-- ... that say open or closed
infixl 20 ◌saying_opened◌
abbrev pub ◌saying_opened◌ : Words → ℕ → Words
◌saying_opened◌ w opened = words_with w w.base w.reported opened w.runs w.records

-- ... that say how many runs
infixl 20 ◌saying_runs◌
abbrev pub ◌saying_runs◌ : Words → ℕ → Words
◌saying_runs◌ w runs = words_with w w.base w.reported w.opened runs w.records

-- ... that say how many records
infixl 20 ◌saying_records◌
abbrev pub ◌saying_records◌ : Words → ℕ → Words
◌saying_records◌ w records = words_with w w.base w.reported w.opened w.runs records

-- the word by which an end is open: the letters "open", 6f70656e in hexadecimal
abbrev pub open_word : ℕ
open_word = 1869636974

-- an end is open by that word alone: any other says closed, 0 among them
abbrev pub is_open : ℕ → Bool
is_open word = eqb word open_word

-- the word of an end that is closed or open
abbrev pub opened_word : Bool → ℕ
opened_word true = 0
opened_word false = open_word

-- M, as the words say it
abbrev pub modulus_in : Words → ℕ
modulus_in w = modulus_of (length_in w.bits)

-- how many runs are listed
abbrev pub listed_in : Words → ℕ
listed_in w = min w.runs most_runs

-- how many records are held
abbrev pub held_in : Words → ℕ
held_in w = min w.records most_records

-- the state that words, runs and records are
abbrev pub state_of : Words → List Range → List Record → Keeper
state_of w runs records = record {
  bits = length_in w.bits;
  base = w.base;
  reported = w.reported;
  closed = not (is_open w.opened);
  runs = runs;
  records = records;
}

-- ---- the arrays

-- numbers, PDCP numbers and marks as records: as many as there are of all three
abbrev pub records_of : List ℕ → List ℕ → List ℕ → List Record
records_of [] ps cs = []
records_of (n ∷ ns) [] cs = []
records_of (n ∷ ns) (p ∷ ps) [] = []
records_of (n ∷ ns) (p ∷ ps) (c ∷ cs) = record { number = n; pdcp = p; confirmed = is_set c } ∷ records_of ns ps cs

-- the state that words and arrays are: as many runs and records as the words say
abbrev pub state_in : Words → List ℕ → List ℕ → List ℕ → List ℕ → List ℕ → Keeper
state_in w ns ps cs ss es = state_of w (take (listed_in w) (ranges_of ss es)) (take (held_in w) (records_of ns ps cs))

-- the arrays of records are as long as document 01 allows records
pub record HeldSizes (ns ps cs : List ℕ) : Type 0 where
  pub numbers : length ns ≡ most_records
  pub pdcps : length ps ≡ most_records
  pub marks : length cs ≡ most_records

-- the arrays of runs are as long as it allows runs
pub record ListedSizes (ss es : List ℕ) : Type 0 where
  pub starts : length ss ≡ most_runs
  pub ends : length es ≡ most_runs

-- ---- the words in their array

-- how many there are
abbrev pub word_count : ℕ
word_count = 6

-- the words by name: L, base, the reported highest, open, how many runs and how many records
abbrev pub words_in : List ℕ → Words
words_in w = record { bits = get_or w 0 0; base = get_or w 1 0; reported = get_or w 2 0; opened = get_or w 3 0; runs = get_or w 4 0; records = get_or w 5 0 }

-- and in their places
abbrev pub words_of : Words → List ℕ
words_of w = w.bits ∷ w.base ∷ w.reported ∷ w.opened ∷ w.runs ∷ w.records ∷ []

-- ---- all that is lent

-- the state in the lent arrays
abbrev pub keeper_in : List ℕ → List ℕ → List ℕ → List ℕ → List ℕ → List ℕ → Keeper
keeper_in ns ps cs ss es w = state_in (words_in w) ns ps cs ss es

-- the lent arrays themselves, slots past a count included
pub record Arrays : Type 0 where
  pub numbers : List ℕ
  pub pdcps : List ℕ
  pub marks : List ℕ
  pub starts : List ℕ
  pub ends : List ℕ
  pub words : List ℕ

-- six lists as the lent arrays
abbrev pub arrays : List ℕ → List ℕ → List ℕ → List ℕ → List ℕ → List ℕ → Arrays
arrays ns ps cs ss es w = record { numbers = ns; pdcps = ps; marks = cs; starts = ss; ends = es; words = w }

-- the state that they hold
abbrev pub state_held : Arrays → Keeper
state_held a = keeper_in a.numbers a.pdcps a.marks a.starts a.ends a.words
