-- What the steps of the calls promise one another: the state that each leaves in the lent arrays, and what a status's head says.
-- Assumes nothing.
use Rattle.std.specs.Prelude.{◌≡◌, List, ℕ, ◌≤◌, length, take}
use Rattle.frame_layout.specs.Frames.{Range, Status, ranges_of}
use Rattle.frame_writer.specs.declared.Head.{Head}
use Rattle.bearer.specs.Keeper.{Keeper}
use Rattle.keeper_state.specs.declared.State.{State}
use Rattle.keeper_state.specs.Lent.{keeper_of, SameLoans}
use Rattle.keeper_judge.specs.declared.Losses.{Losses}
use Rattle.keeper_judge.specs.Judgements.{Losing}
use Rattle.keeper.specs.Plain.{Plain}

-- the same loans hold another state, and what was plain is
pub record Becomes (old new : State) (k : Keeper) : Type 0 where
  pub loans : SameLoans old new
  pub state : keeper_of new ≡ k
  pub plain : Plain old.words.now old.marks.now → Plain new.words.now new.marks.now

-- what is lost can be listed behind the first so many runs of starts and ends
pub record Lists (lost : Losses) (M base : ℕ) (ns ss es : List ℕ) (listed : ℕ) : Type 0 where
  pub losing : Losing lost M base ns (take listed (ranges_of ss es))
  pub within : listed ≤ length ss
  pub alike : length ss ≡ length es
  pub few : lost.runs ≤ length ss

-- the status that a head and runs say
abbrev pub status_with : Head → List Range → Status
status_with h runs = record { long = h.long; final = h.last; highest = h.highest; desired = h.desired; minimum = h.minimum; ranges = runs }
