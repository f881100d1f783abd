-- Whether there is anything to say, in every state: that it agrees with building the whole frame, and what it looks at (`AnythingAgrees` and
-- `AnythingLooks` of specs/KeeperMeaning.antt).
-- Assumes nothing.
use Rattle.std.specs.Prelude.{if◌then◌else◌}
use mathlib.Core.Path.{◌≡◌, refl, sym, ◌∙◌, ap, ap₂}
use mathlib.Core.Bool.{Bool, true, false}
use mathlib.Core.List.{List, [], ◌∷◌, ◌++◌}
use mathlib.Core.Logic.{⊎_elim}
use Prim.Native.Nat.{ℕ, suc, ◌-◌, ◌^◌, ◌≤◌, ◌<◌}
use native.Mathlib.Omega.{arith}
use borrow.Author.Tests.{ltb-true, lt-ltb}
use lib.Dec.{ltb}
use lib.ListN.{length, take, drop, length-drop}
use lib.Seq.{take-append_seam}
use Rattle.basics.specs.Basics.{◌or◌, some_in, done, refused}
use Rattle.basics.proofs.Choices.{tested, contrary, same_test, otherwise, done_one, never_done}
use Rattle.frame_layout.specs.Frames.{Range, Status, read_frame, status_octets, most_ranges}
use Rattle.frame_layout.specs.Trips.{status_frame}
use Rattle.frame_layout.proofs.Trips.{was_writable, is_read}
use Rattle.bearer.specs.Demand3.{ranges_read}
use Rattle.bearer.specs.Keeper as K
use Rattle.bearer.specs.KeeperMeaning.{AnythingLooks, AnythingAgrees}
use Rattle.bearer.proofs.Lists.Elements.{run_within}
use Rattle.bearer.proofs.Answers.Reported.{Reports, refuses, builds, reports, reported_state_lem, reported_frame, status_written}

-- ---- what it agrees with

module _ (k : K.Keeper) where
  -- how many of records go where these runs are listed
  abbrev goes : List Range → List K.Record → ℕ
  goes runs records = K.run_with (K.may_go k (drop most_ranges runs)) records

  -- the first run or record tells what a status would carry and let go
  first_tells : (runs : List Range) (records : List K.Record) → K.news runs records ≡ (some_in (take most_ranges runs) or ltb 0 (goes runs records))
  first_tells [] [] = refl
  first_tells [] (r ∷ rs) = ⊎_elim (λ e. rw e (sym (lt-ltb 0 (suc (goes [] rs)) (omega arith)))) (λ e. rw e refl) (tested r.confirmed)
  first_tells (run ∷ runs) records = refl

  -- where it tells no, no run is listed, and no record goes
  none_told : (runs : List Range) (records : List K.Record) → K.news runs records ≡ false → (runs ≡ []) × (goes runs records ≡ 0)
  none_told [] [] e = (refl, refl)
  none_told [] (r ∷ rs) e = (refl, rw e refl)
  none_told (run ∷ runs) records e = absurd (contrary refl e)

  -- what a status would carry or let go
  abbrev would : Bool
  would = some_in (take most_ranges k.runs) or ltb 0 (K.let_go k)

  planned : K.anything k ≡ (if k.closed then refused 9 else done would)
  planned = ap (λ (b : Bool). if k.closed then refused 9 else done b) (first_tells k.runs k.records)

  -- ---- a status that is accepted

  module _ (d m : ℕ) (final : Bool) (buffer : List ℕ) (c : ℕ) (desired : d < 2 ^ 32) (minimum : m < 2 ^ 32) (e : (K.status k d m final buffer).answer ≡ done c) where
    -- what it says, and what it leaves
    abbrev said : Status
    said = K.status_now k d m final

    abbrev left : K.Reported
    left = K.status k d m final buffer

    -- its frame is read as what it says
    frame_read : read_frame (take c left.buffer) ≡ read_frame (status_octets said)
    frame_read =
        let f = reported_frame (reports k d m final buffer) e in
        ap read_frame
        (ap (take c) f.1 ∙ ap (λ (n : ℕ). take n (status_octets said ++ drop c buffer)) f.0 ∙ take-append_seam (status_octets said) (drop c buffer))

    ranges_read_lem : ranges_read (read_frame (take c left.buffer)) ≡ take most_ranges k.runs
    ranges_read_lem =
        let writable = was_writable said buffer c desired minimum (status_written k d m final buffer c e).1 in
        ap ranges_read (frame_read ∙ is_read (status_frame said) writable)

    -- there are fewer records exactly if one goes
    fewer_left : ltb (length left.state.records) (length k.records) ≡ ltb 0 (K.let_go k)
    fewer_left =
        let most : K.let_go k ≤ length k.records = run_within (K.may_go k (drop most_ranges k.runs)) k.records in
        let after : length left.state.records ≡ length k.records - K.let_go k =
        ap (λ (s : K.Keeper). length s.records) (reported_state_lem (reports k d m final buffer) e) ∙ length-drop (K.let_go k) k.records in
        same_test (ltb (length left.state.records) (length k.records)) (ltb 0 (K.let_go k))
        (λ t. lt-ltb 0 (K.let_go k) (let h = ltb-true (length left.state.records) (length k.records) t in omega (arith, after, h)))
        (λ t. lt-ltb (length left.state.records) (length k.records) (let h = ltb-true 0 (K.let_go k) t in omega (arith, after, h, most)))

    built : K.anything k ≡ done (some_in (ranges_read (read_frame (take c left.buffer))) or ltb (length left.state.records) (length k.records))
    built =
        planned
        ∙ otherwise (refused 9) (done would) (status_written k d m final buffer c e).0
        ∙ ap₂ (λ (ranges : List Range) (fewer : Bool). done (some_in ranges or fewer)) (sym ranges_read_lem) (sym fewer_left)

  -- ---- nothing new

  -- an end that answers is open
  open_end : (b : Bool) → K.anything k ≡ done b → (k.closed ≡ false) × (K.news k.runs k.records ≡ b)
  open_end b = by k.closed refl
    where
      by : (x : Bool) → k.closed ≡ x → (if x then refused 9 else done (K.news k.runs k.records)) ≡ done b → (k.closed ≡ false) × (K.news k.runs k.records ≡ b)
      by true c e = never_done 9 b e
      by false c e = (c, done_one (K.news k.runs k.records) b e)

  -- a status that carries no run and lets none go leaves the state
  same_state : k.closed ≡ false → k.runs ≡ [] → K.let_go k ≡ 0 → K.reported_state k false ≡ k
  same_state c none zero =
      ap (λ (n : ℕ). K.changed k k.base (K.highest_of k n) false (drop most_ranges k.runs) (drop n k.records)) zero
      ∙ ap (λ (runs : List Range). K.changed k k.base k.reported false (drop most_ranges runs) k.records) none
      ∙ ap₂ (λ (x : Bool) (runs : List Range). K.changed k k.base k.reported x runs k.records) (sym c) (sym none)

  nothing_new : K.anything k ≡ done false → (d m : ℕ) (final : Bool) (buffer : List ℕ)
      → ((K.status_now k d m final).ranges ≡ []) × ((K.status_now k d m final).highest ≡ k.reported) × ((K.status k d m false buffer).state ≡ k)
  nothing_new e d m final buffer =
      let o = open_end false e in
      let none = none_told k.runs k.records o.1 in
      (ap (take most_ranges) none.0, ap (K.highest_of k) none.1, by o.0 none (reports k d m false buffer))
    where
      by : {s : Status} {r : K.Reported} → k.closed ≡ false → (k.runs ≡ []) × (K.let_go k ≡ 0) → Reports k s false buffer r → r.state ≡ k
      by c none (refuses n) = refl
      by c none (builds o room) = same_state c none.0 none.1

pub anything_agrees : AnythingAgrees
anything_agrees k = record { planned = λ d m final. planned k; built = built k; nothing_new = nothing_new k }

-- ---- what it looks at

-- the first of records tells what all do
first_told : (records : List K.Record) → K.first_confirmed records ≡ K.first_confirmed (take 1 records)
first_told [] = refl
first_told (r ∷ rs) = refl

-- none is the first of others
none_first : {A P : Type 0} (x : A) → ◌≡◌ {A = List A} [] (x ∷ []) → P
none_first x e = absurd (let z = ap length e in omega (arith, z))

told_alike : (runs others : List Range) (xs ys : List K.Record) → take 1 runs ≡ take 1 others → (runs ≡ [] → take 1 xs ≡ take 1 ys)
    → K.news runs xs ≡ K.news others ys
told_alike [] [] xs ys e f = first_told xs ∙ ap K.first_confirmed (f refl) ∙ sym (first_told ys)
told_alike [] (o ∷ os) xs ys e f = none_first o e
told_alike (r ∷ rs) [] xs ys e f = none_first r (sym e)
told_alike (r ∷ rs) (o ∷ os) xs ys e f = refl

pub anything_looks : AnythingLooks
anything_looks k l c e f =
    ap₂ (λ (x told : Bool). if x then refused 9 else done told) c (told_alike k.runs l.runs k.records l.records e f)
