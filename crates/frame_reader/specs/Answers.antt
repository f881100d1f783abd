-- What the reader's answers mean in document 01's words, and what the walk over a status's ranges answers.
-- Assumes nothing.
use Rattle.std.specs.Prelude.{List, [], ℕ, ◌+◌, ◌-◌, ◌*◌, ◌≤◌, Option, Some, None, ltb, eqb, length, if◌then◌else◌}
use Rattle.basics.specs.Basics.{◌or◌}
use Rattle.frame_layout.specs.Octets.{field}
use Rattle.frame_layout.specs.Frames as frames
use Rattle.frame_layout.specs.declared.Range.{Range}
use Rattle.frame_layout.specs.Frames.{Reading, data_of, status_of, refuse, width, most_ranges, list_at, ranges_at}
use Rattle.frame_reader.specs.declared.Head.{Head}
use Rattle.frame_reader.specs.declared.Frame.{Frame}
use Rattle.frame_reader.specs.declared.Frame.TheVariants.{Data, Status, Refused}
use Rattle.frame_reader.specs.declared.Cursor.{Cursor}
use Rattle.frame_reader.specs.declared.Step.{Step}
use Rattle.refusal.specs.Numbers.{number_of}

-- the cursor before the first range of a status
abbrev pub cursor_of : Head → Cursor
cursor_of h = record { long = h.long; place = list_at (width h.long); left = h.count }

-- the ranges from a cursor on
abbrev pub ranges_from : List ℕ → Cursor → List frames.Range
ranges_from s c = ranges_at s (width c.long) c.place c.left

-- the status that a head says, its ranges out of the frame that was read
abbrev pub head_status : List ℕ → Head → frames.Status
head_status s h = record {
  long = h.long;
  final = h.last;
  highest = h.highest;
  desired = h.desired;
  minimum = h.minimum;
  ranges = ranges_from s (cursor_of h);
}

-- the reading that an answer stands for
abbrev pub reading_of : List ℕ → Frame → Reading
reading_of s (Data long n) = data_of long n
reading_of s (Status h) = status_of (head_status s h)
reading_of s (Refused r) = refuse (number_of r)

-- the frame holds them all
abbrev pub Held : List ℕ → Cursor → Type 0
Held s c = c.place + c.left * (2 * width c.long) ≤ length s

-- the ranges from a cursor on, where the frame holds them all and they are no more than a frame carries; otherwise none
abbrev pub there : List ℕ → Cursor → List frames.Range
there s c = if ltb most_ranges c.left or ltb (length s) (c.place + c.left * (2 * width c.long)) then [] else ranges_from s c

-- the range whose numbers have w octets, from a place on
abbrev pub range_in : List ℕ → ℕ → ℕ → Range
range_in s place w = record { start = field s place w; end = field s (place + w) w }

-- the range at a cursor and the cursor behind it; none where none is left or the frame has ended
abbrev pub next_in : List ℕ → Cursor → Option Step
next_in s c =
    if eqb c.left 0 or ltb (length s) (c.place + 2 * width c.long) then None
    else Some (record {
      range = range_in s c.place (width c.long);
      rest = record { long = c.long; place = c.place + 2 * width c.long; left = c.left - 1 };
    })
