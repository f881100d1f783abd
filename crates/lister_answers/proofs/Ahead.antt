-- A view of a status whose ranges the frame holds shows them all.
-- Assumes nothing.
use Rattle.std.proofs.Common.{◌≡◌, ℕ, zero, suc, ◌+◌, ◌*◌, ◌≤◌, Bool, List, ◌∷◌, length, refl, ap, arith, le-ltb}
use Rattle.frame_layout.specs.Frames.{Range, width, ranges_at}
use Rattle.frame_layout.specs.Types.{range_of}
use Rattle.frame_reader.specs.declared.Cursor.{Cursor}
use Rattle.frame_reader.specs.Answers.{range_in, ranges_from, Held}
use Rattle.frame_reader.proofs.Walk.{held_behind}
use Rattle.frame_view.specs.declared.View.{View}
use Rattle.frame_view.specs.Views.{ahead, ahead_of}

all_ahead : (s : List ℕ) (long : Bool) (place n : ℕ) → place + n * (2 * width long) ≤ length s → ahead s (width long) place n ≡ ranges_at s (width long) place n
all_ahead s long place zero h = refl
all_ahead s long place (suc n) h =
    let behind = held_behind long place n (length s) h in
    rw (le-ltb (length s) (place + 2 * width long) (omega arith)) (ap (λ (rs : List Range). range_of (range_in s place (width long)) ∷ rs) (all_ahead s long (place + 2 * width long) n behind))

pub view_shows : (v : View) (s : List ℕ) (c : Cursor) → v.frame.now ≡ s → v.at ≡ c → Held s c → ahead_of v ≡ ranges_from s c
view_shows v s c e f h = rw (e, f) (all_ahead s c.long c.place c.left h)
