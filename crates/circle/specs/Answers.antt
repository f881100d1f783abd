-- Which of the four answers (Sides.antt) an answer of the code is.
-- Assumes nothing.
use Rattle.circle.specs.Sides.{Side, same, ahead, behind, opposite}
use Rattle.circle.specs.declared.Side as S

-- one for one
abbrev pub side_in : S.Side → Side
side_in S.TheVariants.Same = same
side_in S.TheVariants.Ahead = ahead
side_in S.TheVariants.Behind = behind
side_in S.TheVariants.Opposite = opposite
