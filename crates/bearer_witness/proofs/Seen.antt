-- Lists of numbers that are computed, and what one expects of them: a table is compared by computation, and its rows are then equations.
-- Assumes nothing.
use mathlib.Core.Path.{◌≡◌}
use mathlib.Core.Bool.{Bool, true}
use mathlib.Core.List.{List, [], ◌∷◌}
use Prim.Native.Nat.{ℕ}
use Rattle.basics.specs.Basics.{◌and◌, same}
use Rattle.basics.proofs.Lists.{same_equal}
use Rattle.basics.proofs.Choices.{and_true}

infix 4 ◌is◌
-- a row: what is seen, and what one expects
pub data Row : Type 0 where
  ◌is◌ : List ℕ → List ℕ → Row

-- every row of a table shows what one expects
abbrev pub AllSeen : List Row → Type 0
AllSeen [] = Unit
AllSeen ((seen is expected) ∷ rs) = (seen ≡ expected) × AllSeen rs

-- the rows pass
abbrev pub are_seen : List Row → Bool
are_seen [] = true
are_seen ((seen is expected) ∷ rs) = same seen expected and are_seen rs

-- rows that pass are equations
pub all_seen : (rs : List Row) → are_seen rs ≡ true → AllSeen rs
all_seen [] t = tt
all_seen ((seen is expected) ∷ rs) t = let b = and_true (same seen expected) (are_seen rs) t in (same_equal seen expected b.0, all_seen rs b.1)
