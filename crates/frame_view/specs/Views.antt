-- What is ahead of a view in a frame.
-- Assumes nothing.
use Rattle.std.specs.Prelude.{List, [], ◌∷◌, ℕ, zero, suc, ◌+◌, ◌*◌, ltb, length, if◌then◌else◌}
use Rattle.frame_layout.specs.Frames.{Range, width}
use Rattle.frame_layout.specs.Types.{range_of}
use Rattle.frame_reader.specs.Answers.{range_in}
use Rattle.frame_view.specs.declared.View.{View}

-- so many ranges at a place of a frame, up to the first that it doesn't hold; w is the width of a number
abbrev pub ahead : List ℕ → ℕ → ℕ → ℕ → List Range
ahead s w place zero = []
ahead s w place (suc n) = if ltb (length s) (place + 2 * w) then [] else range_of (range_in s place w) ∷ ahead s w (place + 2 * w) n

-- those that a view still shows
abbrev pub ahead_of : View → List Range
ahead_of v = ahead v.frame.now (width v.at.long) v.at.place v.at.left
