-- The frame types of the code by their numbers (document 01, "Layout"), and its ranges as frames have them.
-- Assumes nothing.
use Rattle.std.specs.Prelude.{List, map, ℕ}
use Rattle.frame_layout.specs.Frames as frames
use Rattle.frame_layout.specs.declared.FrameType.{FrameType}
use Rattle.frame_layout.specs.declared.FrameType.TheVariants.{Data, Status, LongStatus, LongData}
use Rattle.frame_layout.specs.declared.Range.{Range}

-- the number of each type
abbrev pub number_of : FrameType → ℕ
number_of Data = 0
number_of Status = 1
number_of LongStatus = 2
number_of LongData = 3

-- a range, as frames have it
abbrev pub range_of : Range → frames.Range
range_of r = record { start = r.start; end = r.end }

-- the ranges of a list, as frames have them
abbrev pub ranges_in : List Range → List frames.Range
ranges_in rs = map range_of rs
