-- What a judgement of a confirm and of a status means: the machine's answer and the state that it leaves (the crate bearer, Keeper.antt).
-- Assumes nothing.
use Rattle.std.specs.Prelude.{◌≡◌, Bool, List, Result, Ok, Err, ℕ, ◌<◌, length, get_or, set}
use Rattle.basics.specs.Basics.{is_set}
use Rattle.frame_layout.specs.Frames.{write_status}
use Rattle.refusal.specs.Numbers.{number_of}
use Rattle.refusal.specs.declared.Refusal.{Refusal}
use Rattle.bearer.specs.Bearer.{refusing, answering}
use Rattle.bearer.specs.Losses.{goes_before}
use Rattle.bearer.specs.Keeper.{Keeper, no_record, delivered, confirm, let_go, highest_of, unreported, status_now, reported_as, status, ◌with_records◌}
use Rattle.keeper_report.specs.declared.Gone.{Gone}

-- ---- confirm

-- an accepted confirm: the record stands there, and is delivered
pub record AcceptsConfirm (at : ℕ) (k : Keeper) (n : ℕ) : Type 0 where
  pub within : at < length k.records
  pub outcome : confirm k n ≡ answering tt (k with_records set k.records at (delivered (get_or k.records at no_record)))

-- a judgement of a confirm is the machine's
abbrev pub JudgesConfirm : Result ℕ Refusal → Keeper → ℕ → Type 0
JudgesConfirm (Err r) k n = confirm k n ≡ refusing (number_of r) k
JudgesConfirm (Ok at) k n = AcceptsConfirm at k n

-- ---- status

-- whether a record may go, by its number and mark and the starts of the runs left out
abbrev pub goes : ℕ → List ℕ → ℕ × ℕ → Bool
goes M left r = goes_before M left r.0 (is_set r.1)

-- how many records a status lets go, and the highest that is reported then
abbrev pub gone_of : Keeper → Gone
gone_of k = record { count = let_go k; highest = highest_of k (let_go k) }

-- a status that isn't refused before its frame is written: it answers as the writer does
pub record AcceptsStatus (gone : Gone) (k : Keeper) (final : Bool) : Type 0 where
  pub gone_is : gone ≡ gone_of k
  pub outcome : (desired minimum : ℕ) (d : List ℕ) → status k desired minimum final d ≡ reported_as k final (write_status (status_now k desired minimum final) d)

-- a judgement of a status is the machine's
abbrev pub JudgesStatus : Result Gone Refusal → Keeper → Bool → Type 0
JudgesStatus (Err r) k final = (desired minimum : ℕ) (d : List ℕ) → status k desired minimum final d ≡ unreported (number_of r) k d
JudgesStatus (Ok gone) k final = AcceptsStatus gone k final
