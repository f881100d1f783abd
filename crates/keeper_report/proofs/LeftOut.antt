-- Which runs a status leaves out: the starts past the first 162.
-- Assumes nothing.
use mathlib.Core.Path.{◌≡◌}
use mathlib.Core.List.{List, []}
use Prim.Native.Nat.{ℕ, ◌≤◌}
use lib.ListN.{length, drop, drop_of_length-le}
use Rattle.frame_layout.specs.Frames.{most_ranges}

-- up to 162 runs none is left out
pub none_left_out : (ss : List ℕ) → length ss ≤ most_ranges → drop most_ranges ss ≡ []
none_left_out ss h = drop_of_length-le ss h
