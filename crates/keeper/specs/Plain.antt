-- Arrays as calls leave them, told as numbers: an accepted open makes them so, and every call keeps them so. Where they are, arrays that
-- are read as one state are equal up to the slots past the counts (proofs/Unique.antt).
-- Assumes nothing.
use Rattle.std.specs.Prelude.{◌≡◌, true, List, ◌⊎◌, ℕ, ◌≤◌, ◌<◌, length, take}
use Rattle.circle.specs.Lengths.{is_length}
use Rattle.bearer.specs.Bearer.{most_runs, most_records}
use Rattle.bearer.specs.Packets.{Each}
use Rattle.keeper_state.specs.declared.Words.{Words}
use Rattle.keeper_state.specs.State.{open_word, HeldSizes, ListedSizes}
use Rattle.keeper.specs.View.{word_count, words_in, Arrays}

-- ---- what calls leave

-- so many records are no more than document 01 allows, and the mark of each is 0 or 1
pub record Marked (count : ℕ) (cs : List ℕ) : Type 0 where
  pub within : count ≤ most_records
  pub flags : Each (λ (mark : ℕ). mark < 2) (take count cs)

-- L is one of document 01's, the word that says open or closed is one of the two that are written, the counts are no more than it allows, and the mark of each record is 0 or 1
pub record PlainIn (w : Words) (cs : List ℕ) : Type 0 where
  pub bits : is_length w.bits ≡ true
  pub opened : (w.opened ≡ open_word) ⊎ (w.opened ≡ 0)
  pub runs : w.runs ≤ most_runs
  pub records : Marked w.records cs

-- as the words stand in their array
abbrev pub Plain : List ℕ → List ℕ → Type 0
Plain w cs = PlainIn (words_in w) cs

-- ---- what makes them one

-- the arrays are as long as their types say
pub record Sized (a : Arrays) : Type 0 where
  pub held : HeldSizes a.numbers a.pdcps a.marks
  pub listed : ListedSizes a.starts a.ends
  pub words : length a.words ≡ word_count

-- arrays that are equal up to the slots past the counts
pub record Alike (a b : Arrays) : Type 0 where
  pub words : a.words ≡ b.words
  pub numbers : take (words_in a.words).records a.numbers ≡ take (words_in a.words).records b.numbers
  pub pdcps : take (words_in a.words).records a.pdcps ≡ take (words_in a.words).records b.pdcps
  pub marks : take (words_in a.words).records a.marks ≡ take (words_in a.words).records b.marks
  pub starts : take (words_in a.words).runs a.starts ≡ take (words_in a.words).runs b.starts
  pub ends : take (words_in a.words).runs a.ends ≡ take (words_in a.words).runs b.ends
