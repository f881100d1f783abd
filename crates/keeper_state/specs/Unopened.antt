-- An end that was never opened. An accepted open writes the one word by which an end is open, and Final takes it away; where it doesn't
-- stand, as in memory of zeros, the end is closed, whatever else stands in words and arrays.
-- Assumes nothing.
use Rattle.std.specs.Prelude.{◌≡◌, Bool, List, ℕ}
use Rattle.basics.specs.Basics.{refused}
use Rattle.bearer.specs.Bearer.{refusing}
use Rattle.bearer.specs.Keeper.{Keeper, arrive, expire, confirm, status, unreported, anything}
use Rattle.keeper_state.specs.declared.Words.{Words}
use Rattle.keeper_state.specs.State.{open_word, state_in}

-- the word isn't the one by which an end is open
abbrev pub Unopened : Words → Type 0
Unopened w = w.opened ≡ open_word → ⊥

-- 0 isn't
abbrev pub ZeroIsUnopened : Type 0
ZeroIsUnopened = (w : Words) → w.opened ≡ 0 → Unopened w

-- every call but open answers 9, and leaves the end and the buffer as they are
pub record Answers9 (k : Keeper) : Type 0 where
  pub arrival : (n p : ℕ) → arrive k n p ≡ refusing 9 k
  pub expiry : (n : ℕ) → expire k n ≡ refusing 9 k
  pub confirming : (n : ℕ) → confirm k n ≡ refusing 9 k
  pub report : (desired minimum : ℕ) (final : Bool) (d : List ℕ) → status k desired minimum final d ≡ unreported 9 k d

-- so does such an end, whatever its arrays hold
abbrev pub UnopenedAnswers9 : Type 0
UnopenedAnswers9 = (w : Words) (ns ps cs ss es : List ℕ) → Unopened w → Answers9 (state_in w ns ps cs ss es)

-- and 9 to the question whether there is anything to say
abbrev pub UnopenedAsks9 : Type 0
UnopenedAsks9 = (w : Words) (ns ps cs ss es : List ℕ) → Unopened w → anything (state_in w ns ps cs ss es) ≡ refused 9
