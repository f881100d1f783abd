-- What a status leaves, in every state: it is refused and nothing changes, or its frame stands at the front of the buffer and the state is the
-- reported one.
-- Assumes nothing.
use Rattle.std.specs.Prelude.{if◌then◌else◌}
use mathlib.Core.Path.{◌≡◌, refl, sym, ap}
use mathlib.Core.Bool.{Bool, true, false}
use mathlib.Core.List.{List, ◌++◌}
use Prim.Native.Nat.{ℕ, ◌≤◌}
use native.Mathlib.Omega.{arith}
use lib.ListN.{length, drop, length-append}
use Rattle.basics.specs.Basics.{done, is_done}
use Rattle.basics.proofs.Choices.{contrary, done_one, never_done}
use Rattle.frame_layout.specs.Frames.{Status, Written, Within, status_octets, write_status}
use Rattle.frame_layout.specs.Trips.{Leaves, refuses as not_written, writes}
use Rattle.frame_layout.proofs.Within.{status_leaves}
use Rattle.bearer.specs.Keeper as K

-- what a status s leaves
pub data Reports (k : K.Keeper) (s : Status) (final : Bool) (buffer : List ℕ) : K.Reported → Type 0 where
  refuses : (n : ℕ) → Reports k s final buffer (K.unreported n k buffer)
  builds : k.closed ≡ false → length (status_octets s) ≤ length buffer → Reports k s final buffer (record {
    answer = done (length (status_octets s));
    state = K.reported_state k final;
    buffer = status_octets s ++ drop (length (status_octets s)) buffer;
  })

pub reports : (k : K.Keeper) (d m : ℕ) (final : Bool) (buffer : List ℕ) → Reports k (K.status_now k d m final) final buffer (K.status k d m final buffer)
reports k d m final buffer = by k.closed (K.final_too_early k final) refl
  where
    written : {w : Written} → k.closed ≡ false → Leaves (status_octets (K.status_now k d m final)) buffer w → Reports k (K.status_now k d m final) final buffer (K.reported_as k final w)
    written c (not_written n) = refuses n
    written c (writes room) = builds c room

    by : (c t : Bool) → k.closed ≡ c
        → Reports k (K.status_now k d m final) final buffer (if c then K.unreported 9 k buffer else (if t then K.unreported 22 k buffer else K.reported_as k final (write_status (K.status_now k d m final) buffer)))
    by true t e = refuses 9
    by false true e = refuses 22
    by false false e = written e (status_leaves (K.status_now k d m final) buffer)

-- ---- a status that is accepted

module _ {k : K.Keeper} {s : Status} {final : Bool} {buffer : List ℕ} {c : ℕ} where
  -- leaves the reported state
  pub reported_state_lem : {r : K.Reported} → Reports k s final buffer r → r.answer ≡ done c → r.state ≡ K.reported_state k final
  reported_state_lem (refuses n) e = never_done n c e
  reported_state_lem (builds o room) e = refl

  -- answers its frame's length, and leaves the frame at the front of the buffer
  pub reported_frame : {r : K.Reported} → Reports k s final buffer r → r.answer ≡ done c
      → (c ≡ length (status_octets s)) × (r.buffer ≡ status_octets s ++ drop c buffer)
  reported_frame (refuses n) e = never_done n c e
  reported_frame (builds o room) e =
      let long : length (status_octets s) ≡ c = done_one (length (status_octets s)) c e in
      (sym long, ap (λ (n : ℕ). status_octets s ++ drop n buffer) long)

-- was asked of an open end, and written
pub status_written : (k : K.Keeper) (d m : ℕ) (final : Bool) (buffer : List ℕ) (c : ℕ) → (K.status k d m final buffer).answer ≡ done c
    → (k.closed ≡ false) × ((write_status (K.status_now k d m final) buffer).answer ≡ done c)
status_written k d m final buffer c = by k.closed (K.final_too_early k final) refl
  where
    by : (x t : Bool) → k.closed ≡ x
        → (if x then K.unreported 9 k buffer else (if t then K.unreported 22 k buffer else K.reported_as k final (write_status (K.status_now k d m final) buffer))).answer ≡ done c
        → (k.closed ≡ false) × ((write_status (K.status_now k d m final) buffer).answer ≡ done c)
    by true t e a = never_done 9 c a
    by false true e a = never_done 22 c a
    by false false e a = (e, a)

-- ---- one that is refused changes neither state nor buffer

pub status_keeps : (k : K.Keeper) (desired minimum : ℕ) (final : Bool) (d : List ℕ) → is_done (K.status k desired minimum final d).answer ≡ false
    → ((K.status k desired minimum final d).state ≡ k) × ((K.status k desired minimum final d).buffer ≡ d)
status_keeps k desired minimum final d = by (reports k desired minimum final d)
  where
    by : {s : Status} {r : K.Reported} → Reports k s final d r → is_done r.answer ≡ false → (r.state ≡ k) × (r.buffer ≡ d)
    by (refuses n) e = (refl, refl)
    by (builds o room) e = absurd (contrary refl e)

-- ---- the length that is answered

-- lies within the buffer that was lent
pub within_report : (k : K.Keeper) (desired minimum : ℕ) (final : Bool) (d : List ℕ) → Within d (K.status k desired minimum final d).answer
within_report k desired minimum final d = by (reports k desired minimum final d)
  where
    by : {s : Status} {r : K.Reported} → Reports k s final d r → Within d r.answer
    by (refuses n) = tt
    by (builds o room) = room

-- and within the buffer that a status leaves
pub left_report : (k : K.Keeper) (desired minimum : ℕ) (final : Bool) (d : List ℕ) → Within (K.status k desired minimum final d).buffer (K.status k desired minimum final d).answer
left_report k desired minimum final d = by (reports k desired minimum final d)
  where
    by : {s : Status} {r : K.Reported} → Reports k s final d r → Within r.buffer r.answer
    by (refuses n) = tt
    by {s} (builds o room) = omega (arith, length-append (status_octets s) (drop (length (status_octets s)) d))
