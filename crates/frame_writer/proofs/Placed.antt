-- A padded frame laid at the front of a buffer is what the layout says that a writer leaves.
-- Assumes nothing.
use Rattle.std.proofs.Common.{◌≡◌, ℕ, ◌+◌, ◌≤◌, ◌<◌, List, length, replicate, Ok, Err}
use Rattle.std.proofs.Math.Nat.{zero-add}
use Rattle.std.proofs.lemmas.Bool.{lt-ltb, le-ltb}
use Rattle.std.proofs.lemmas.List.Edits.{sets-eq}
use Rattle.frame_layout.specs.Frames.{padding, padded, place}
use Rattle.frame_layout.proofs.Padded.{length_padded}
use Rattle.refusal.specs.declared.Refusal.TheVariants.{Room}
use Rattle.frame_writer.specs.Answers.{left}
use Rattle.basics.specs.Laid.{Laid}
use Rattle.basics.proofs.Laying.{laid_then}

-- a buffer too short for fields and their padding
pub unplaced : {count : ℕ} (fields d : List ℕ) → count ≡ padding (length fields) → length d < length fields + count → left (Err Room) d ≡ place (padded fields) d
unplaced fields d said short = rw (length_padded fields, ← said, lt-ltb _ _ short)

-- fields, and their padding right behind them, in a buffer that holds both
pub placed : {e f : List ℕ} {mid next count : ℕ} (fields d : List ℕ) → count ≡ padding (length fields) → length fields + count ≤ length d
    → Laid d 0 fields mid e → Laid e mid (replicate count 0) next f → left (Ok next) f ≡ place (padded fields) d
placed {e} {f} {mid} {next} fields d said room front zeros =
    let all = rw said at (laid_then front zeros) in
    let fits : length (padded fields) ≤ length d = rw (length_padded fields, ← said) room in
    let first : 0 + length (padded fields) ≡ length (padded fields) = zero-add _ in
    rw (le-ltb _ _ fits, all.behind, all.buffer, sets-eq (padded fields) d 0 (rw first fits), first)
