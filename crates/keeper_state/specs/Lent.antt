-- The lent arrays of an end as one value, to be changed in place (State) or to be read (Held): what they hold, and which loans they are.
-- Assumes nothing.
use Rattle.std.specs.Prelude.{◌≡◌, take}
use Rattle.frame_layout.specs.Frames.{ranges_of}
use Rattle.bearer.specs.Keeper.{Keeper}
use Rattle.keeper_state.specs.declared.State.{State}
use Rattle.keeper_state.specs.declared.Held.{Held}
use Rattle.keeper_state.specs.State.{words_in, listed_in, held_in, records_of, state_of, Arrays, arrays, state_held}

-- ---- to be changed

-- what stands in the arrays
abbrev pub arrays_of : State → Arrays
arrays_of s = arrays s.numbers.now s.pdcps.now s.marks.now s.starts.now s.ends.now s.words.now

-- the state that they hold
abbrev pub keeper_of : State → Keeper
keeper_of s = state_held (arrays_of s)

-- the six loans are the same
abbrev pub SameLoans : State → State → Type 0
SameLoans old new = (new.numbers.ghost_name ≡ old.numbers.ghost_name)
    × (new.pdcps.ghost_name ≡ old.pdcps.ghost_name)
    × (new.marks.ghost_name ≡ old.marks.ghost_name)
    × (new.starts.ghost_name ≡ old.starts.ghost_name)
    × (new.ends.ghost_name ≡ old.ends.ghost_name)
    × (new.words.ghost_name ≡ old.words.ghost_name)

-- ---- to be read

-- the state that is read
abbrev pub state_shown : Held → Keeper
state_shown h = state_of h.words (ranges_of h.starts.now h.ends.now) (records_of h.numbers.now h.pdcps.now h.marks.now)

-- of these arrays the words are read, and as many of each as they say
pub record Shows (h : Held) (a : Arrays) : Type 0 where
  pub words : h.words ≡ words_in a.words
  pub numbers : h.numbers.now ≡ take (held_in h.words) a.numbers
  pub pdcps : h.pdcps.now ≡ take (held_in h.words) a.pdcps
  pub marks : h.marks.now ≡ take (held_in h.words) a.marks
  pub starts : h.starts.now ≡ take (listed_in h.words) a.starts
  pub ends : h.ends.now ≡ take (listed_in h.words) a.ends
