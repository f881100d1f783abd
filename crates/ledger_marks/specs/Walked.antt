-- The ranges that a pass meets in a frame, and what marking leaves, in the machine's words.
-- Assumes nothing.
use Rattle.std.specs.Prelude.{List, ℕ, Result, Ok, Err}
use Rattle.std.proofs.Math.Option.{Option, none, some}
use Rattle.frame_layout.specs.Frames.{Range, width}
use Rattle.bearer.specs.Ledger.{Passed}
use Rattle.frame_reader.specs.declared.Cursor.{Cursor}
use Rattle.frame_view.specs.Views.{ahead}
use Rattle.refusal.specs.declared.Refusal.{Refusal}
use Rattle.ledger_entries.specs.View.{entries_of}
use Rattle.ledger_marks.specs.declared.Marked.{Marked}

-- the ranges from a cursor on, up to the first that the frame doesn't hold
abbrev pub walked : List ℕ → Cursor → List Range
walked s c = ahead s (width c.long) c.place c.left

-- the entries with the ranges applied, or that a number wasn't found
abbrev pub marked_as : Result Marked Refusal → Option (Passed Unit)
marked_as (Ok marked) = some (record { entries = entries_of marked.entries; count = marked.lost })
marked_as (Err refusal) = none
