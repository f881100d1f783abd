-- What a look at a frame tells: the words in which `look` and the functions beside it speak of what is read.
-- Assumes nothing.
use Rattle.std.specs.Prelude.{Bool, true, false, ℕ, ltb, eqb, ℤ, pos, Option, Some, None, if◌then◌else◌}
use Rattle.basics.specs.Basics.{◌or◌, Outcome, done, refused}
use Rattle.frame_layout.specs.Frames.{Reading, data_of, status_of, refuse, data_type, status_type, width, list_at}
use Rattle.frame_layout.specs.declared.FrameType.{FrameType}
use Rattle.frame_layout.specs.declared.FrameType.TheVariants.{Data, Status, LongStatus, LongData}
use Rattle.frame_reader.specs.declared.Cursor.{Cursor}
use Rattle.c_calls.specs.Boundary.{minus}

-- the type, or the number of the refusal
abbrev pub kind_of : Reading → Outcome ℕ
kind_of (data_of long n) = done (data_type long)
kind_of (status_of s) = done (status_type s.long)
kind_of (refuse n) = refused n

-- the kind of a refusal: past every type
abbrev pub no_type : ℕ
no_type = 4

-- a status is of type 1 or 2
abbrev pub is_status : ℕ → Bool
is_status kind = eqb kind 1 or eqb kind 2

-- the answer by both numbers
abbrev pub answer_to : ℕ → ℕ → ℤ
answer_to kind refusal = if ltb kind no_type then pos kind else minus refusal

-- the cursor before the first of so many ranges of a status of this type
abbrev pub first_of : ℕ → ℕ → Cursor
first_of kind count = record { long = eqb kind 2; place = list_at (width (eqb kind 2)); left = count }

-- the cursor before the first of so many ranges of a frame of this type, if it is a status
abbrev pub before_first : FrameType → ℕ → Option Cursor
before_first Data count = None
before_first Status count = Some (record { long = false; place = list_at (width false); left = count })
before_first LongStatus count = Some (record { long = true; place = list_at (width true); left = count })
before_first LongData count = None
