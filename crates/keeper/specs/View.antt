-- How the lent arrays stand for the secondary's machine (the crate bearer, Keeper.antt), and what the answers mean in
-- document 01's words. Slots past a count are no part of the state; a count past the end counts as full, and a length
-- that is none of document 01's counts as 18, so that arrays of any content are a state (the crate keeper_state, State.antt);
-- those without the one word by which an end is open are a closed one (Unopened.antt).
-- Assumes nothing.
use Rattle.std.specs.Prelude.{not, List, ℕ, Result}
use Rattle.basics.specs.Basics.{Outcome, done, refused}
use Rattle.circle.specs.Lengths.{pdcp_before}
use Rattle.refusal.specs.declared.Refusal.{Refusal}
use Rattle.refusal.specs.Numbers.{answer_of}
use Rattle.bearer.specs.Bearer.{After, refusing, answering}
use Rattle.bearer.specs.Keeper.{Keeper, Reported}
use Rattle.keeper_state.specs.declared.Words.{Words}
use Rattle.keeper_state.specs.State.{open_word, is_open, listed_in, held_in}
pub use Rattle.keeper_state.specs.State.{records_of, word_count, words_in, words_of, keeper_in, Arrays, arrays, state_held}
use Rattle.keeper.specs.declared.Shown.{Shown}

-- ---- the words

-- those of a fresh end
abbrev pub fresh_words : ℕ → ℕ → ℕ → Words
fresh_words L first f = record { bits = L; base = first; reported = pdcp_before L f; opened = open_word; runs = 0; records = 0 }

-- what they say to those who show a state
abbrev pub shown_in : List ℕ → Shown
shown_in w = record {
  base = (words_in w).base;
  reported = (words_in w).reported;
  closed = not (is_open (words_in w).opened);
  runs = listed_in (words_in w);
  records = held_in (words_in w);
}

-- ---- what the answers mean

-- a call's answer, and the state that it leaves
abbrev pub answered : {A : Type 0} → Result A Refusal → Keeper → After Keeper A
answered r k = record { answer = answer_of (λ a. a) r; state = k }

-- of a status, with the buffer
abbrev pub reported_as : Result ℕ Refusal → Keeper → List ℕ → Reported
reported_as r k d = record { answer = answer_of (λ n. n) r; state = k; buffer = d }

-- an open in place of what was there: a refusal leaves it
abbrev pub opens_into : Keeper → Outcome Keeper → After Keeper Unit
opens_into k (done new) = answering tt new
opens_into k (refused n) = refusing n k
