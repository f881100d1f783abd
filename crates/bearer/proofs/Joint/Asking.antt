-- Whether there is anything to say, of both ends joined: it is no exactly if all is said (`AnythingAnswered` of specs/Demand3.antt).
-- Assumes nothing.
use mathlib.Core.Path.{◌≡◌, refl, sym, ◌∙◌, ap, subst}
use mathlib.Core.Bool.{Bool, true, false}
use mathlib.Core.List.{List, [], ◌∷◌, ◌++◌, map, append_assoc, append-nil}
use mathlib.Core.Logic.{◌⊎◌, inl, inr, ⊎_elim}
use Prim.Native.Nat.{ℕ, ◌≤◌, ◌<◌}
use native.Mathlib.Omega.{arith}
use lib.ListN.{length, take, drop, length-map, take-append-drop}
use lib.Seq.{take-length, length-take-le}
use Rattle.basics.specs.Basics.{done, refused}
use Rattle.basics.proofs.Choices.{tested, contrary, chosen, otherwise}
use Rattle.frame_layout.specs.Frames.{most_ranges}
use Rattle.bearer.specs.Losses.{Gap}
use Rattle.bearer.specs.Keeper as K
use Rattle.bearer.specs.Rule.{Fates}
use Rattle.bearer.specs.Packets.{In, Rising, Each, number_of}
use Rattle.bearer.specs.World.{World, Built, had_final}
use Rattle.bearer.specs.Demand3.{in_frames, last_confirmed, confirmed_then, reported_lost, Deserved, with_all_there, AllSaid, AnythingAnswered}
use Rattle.bearer.specs.Account.{Held, run_at, indexes, packets_of}
use Rattle.bearer.specs.KeeperMeaning.{record_at}
use Rattle.bearer.proofs.Lists.Elements.{in_take, rising_first, some_behind}
use Rattle.bearer.proofs.Lists.Rows.{run_in}
use Rattle.bearer.proofs.Secondary.Index.{Indexed, image, may_go_i, let_go_i}
use Rattle.bearer.proofs.Secondary.Open.{closed}
use Rattle.bearer.proofs.Secondary.Runs.{maximal_first}
use Rattle.bearer.proofs.Secondary.FollowsStatus.{told_after}
use Rattle.bearer.proofs.Joint.Flight.{Mark, Earned, Flight, all_there, then}
use Rattle.bearer.proofs.Joint.Joined.{Second, Joint}
use Rattle.bearer.proofs.Joint.Delivery.{last_of}
use Rattle.bearer.proofs.Joint.Cut.{told_now, deserving_after}

-- what the last of frames earned, behind those that are there
flight_earned : {L first : ℕ} {sent : List ℕ} {r : Fates} {bs : List Built} {m k : Mark} (xs : List Built) → Earned m.told m.cut r (last_confirmed xs)
    → Flight L first sent r bs m k → Earned k.told k.cut r (last_confirmed (xs ++ bs))
flight_earned {r = r} {m = m} xs e all_there = subst (λ (l : List Built). Earned m.told m.cut r (last_confirmed l)) (sym (append-nil xs)) e
flight_earned {r = r} {k = k} xs e (then {b} {bs} s f) =
    subst (λ (l : List Built). Earned k.told k.cut r (last_confirmed l)) (append_assoc xs (b ∷ []) bs)
    (flight_earned (xs ++ (b ∷ [])) (rw (last_of xs b) s.earned) f)

module _ {L first : ℕ} {w : World} (j : Joint L first w) where
  -- the secondary, its state by packets, how many of the lost it told, its cut, and what was lost
  abbrev s : Second L first w.keeper w.fates w.sent w.confirmed
  s = j.second

  abbrev a : Indexed
  a = s.a

  abbrev told : ℕ
  told = s.told

  abbrev cut : ℕ
  cut = s.cut

  abbrev lost : List ℕ
  lost = w.fates.lost

  -- ---- what the frames built say

  -- the last frame built
  last_earned : Earned told cut w.fates (last_confirmed w.built)
  last_earned =
      subst (λ (l : List Built). Earned told cut w.fates (last_confirmed l)) (take-append-drop w.delivered w.built)
      (flight_earned (take w.delivered w.built) j.there.earned j.flight)

  told_count : length (in_frames L w.built) ≡ told
  told_count =
      ap length j.frames.all_told ∙ length-map (take told lost) (number_of L first) ∙ length-take-le told lost s.follows.runs.told_most

  all_frames : take (length w.built) w.built ≡ w.built
  all_frames = take-length w.built

  confirmed_there : confirmed_then (with_all_there w) ≡ last_confirmed w.built
  confirmed_there = ap last_confirmed all_frames

  reported_there : reported_lost L (with_all_there w) ≡ take told lost
  reported_there = ap (λ (n : ℕ). take n lost) (ap (λ (bs : List Built). length (in_frames L bs)) all_frames ∙ told_count)

  -- what lies before the cut is freed by them if it is confirmed
  before_cut : (i : ℕ) → i < cut → In i w.confirmed → Deserved L (with_all_there w) i
  before_cut i h p =
      let way : (k : ℕ) → k < cut → In k (last_confirmed w.built) ⊎ In k (take told lost) = λ k l. ⊎_elim inr inl (last_earned.divides.below k l) in
      let kept = s.follows.fates.not_both i (s.marked.received i p) in
      rw (confirmed_there, reported_there) (
        ⊎_elim (λ q. q) (λ q. absurd (contrary (in_take i told lost q) kept)) (way i h),
        (λ k l. way k (omega arith)),
      )

  -- and what is freed by them lies before the cut
  freed_before : (i : ℕ) → Deserved L (with_all_there w) i → i < cut
  freed_before i d = let p = rw (confirmed_there, reported_there) at d in last_earned.deserving i p.0 p.1

  -- ---- no run is listed, and no record goes

  all_said : a.runs ≡ [] → let_go_i a ≡ 0 → AllSaid L first w
  all_said none zero = record {
    losses = j.frames.all_told ∙ ap (map (number_of L first)) all_told;
    confirms = λ i p f. before_cut i (deserving_after s 0 zero i p (λ k h. ⊎_elim inl (λ q. inr (rw all_then q)) (f k h))) p;
  }
    where
      all_told : take told lost ≡ lost
      all_told =
          sym (append-nil (take told lost))
          ∙ ap (λ (l : List ℕ). take told lost ++ l) (sym (ap packets_of none) ∙ s.follows.runs.hold)
          ∙ take-append-drop told lost

      all_then : take (told_after a told) lost ≡ lost
      all_then =
          told_now s
          ∙ ap (λ (gs : List Gap). take told lost ++ packets_of (take most_ranges gs)) none
          ∙ append-nil (take told lost)
          ∙ all_told

  -- ---- a run is listed

  run_unsaid : (g : Gap) (gs : List Gap) → a.runs ≡ g ∷ gs → AllSaid L first w → ⊥
  run_unsaid g gs e said =
      let proper = maximal_first g gs (rw e at s.follows.runs.maximal) in
      let there : In g.from (drop told lost) = rw (sym (ap packets_of e) ∙ s.follows.runs.hold) at (run_in g gs g.from (omega arith) proper) in
      let behind = some_behind told lost g.from there in
      let all = sym told_count ∙ ap length said.losses ∙ length-map lost (number_of L first) in
      omega (arith, behind, all)

  -- ---- the first record is confirmed

  record_unsaid : (h : Held) (hs : List Held) → a.records ≡ h ∷ hs → h.confirmed ≡ true → AllSaid L first w → ⊥
  record_unsaid h hs e c said =
      let at_cut = of_first (λ (x : Held). cut ≤ x.index) s.remembered.from_cut in
      let confirmed = of_first (λ (x : Held). x.confirmed ≡ true → In x.index w.confirmed) s.marked.only c in
      let there = freed_before h.index (said.confirms h.index confirmed before) in
      omega (arith, at_cut, there)
    where
      -- what is said of each record is said of the first
      of_first : (P : Held → Type 0) → Each P a.records → P h
      of_first P each = (subst (Each P) e each).0

      -- each predecessor was received and let go, or is lost
      before : (k : ℕ) → k < h.index → In k w.confirmed ⊎ In k lost
      before k l =
          let below = of_first (λ (x : Held). x.confirmed ≡ true → x.index < a.base) s.follows.records.confirmed_before c in
          ⊎_elim gone inr (closed w.fates k (s.follows.fates.lowest.none_below k (omega (arith, below, l))))
        where
          gone : In k w.fates.received → In k w.confirmed ⊎ In k lost
          gone got =
              ⊎_elim (λ (b : k < cut). ⊎_elim (λ q. inr (in_take k told lost q)) inl (s.divides.below k b))
              (λ q. absurd (let held = rising_first h.index (indexes hs) (subst (λ (xs : List Held). Rising (indexes xs)) e s.follows.records.rising) k (subst (λ (xs : List Held). In k (indexes xs)) e q) in omega (arith, held, l)))
              (s.remembered.held_or_gone k got)

  -- ---- what is answered

  -- by the lists of the state
  answered : (gs : List Gap) (hs : List Held) → a.runs ≡ gs → a.records ≡ hs
      → (AllSaid L first w × (K.news (map (run_at L first) gs) (map (record_at L first) hs) ≡ false))
      ⊎ ((AllSaid L first w → ⊥) × (K.news (map (run_at L first) gs) (map (record_at L first) hs) ≡ true))
  answered (g ∷ gs) hs e f = inr (run_unsaid g gs e, refl)
  answered [] [] e f = inl (all_said e (ap (K.run_with (may_go_i (drop most_ranges a.runs))) f), refl)
  answered [] (h ∷ hs) e f = ⊎_elim (λ c. inr (record_unsaid h hs f c, c)) (λ c. inl (all_said e (none_goes c), c)) (tested h.confirmed)
    where
      none_goes : h.confirmed ≡ false → let_go_i a ≡ 0
      none_goes c =
          ap (λ (gs : List Gap). K.run_with (may_go_i (drop most_ranges gs)) a.records) e
          ∙ ap (K.run_with (may_go_i [])) f
          ∙ rw c refl

pub joint_anything : {L first : ℕ} {w : World} → Joint L first w → AnythingAnswered L first w
joint_anything {L} {first} {w} j =
    ⊎_elim (λ t. inl (t, asked ∙ chosen (refused 9) (done told_by) (end ∙ t)))
    (λ t. inr (by_lists t (asked ∙ otherwise (refused 9) (done told_by) (end ∙ t)) (answered j j.second.a.runs j.second.a.records refl refl)))
    (tested (had_final w.built))
  where
    -- what the first run or record tells
    told_by : Bool
    told_by = K.news (map (run_at L first) j.second.a.runs) (map (record_at L first) j.second.a.records)

    asked : K.anything w.keeper ≡ K.anything (image L first j.second.a)
    asked = ap K.anything j.second.keeper_is

    end : j.second.a.closed ≡ had_final w.built
    end = ap (λ (k : K.Keeper). k.closed) (sym j.second.keeper_is) ∙ j.closes.secondary

    by_lists : had_final w.built ≡ false → K.anything w.keeper ≡ done told_by → (AllSaid L first w × (told_by ≡ false)) ⊎ ((AllSaid L first w → ⊥) × (told_by ≡ true))
        → ((had_final w.built ≡ false) × AllSaid L first w × (K.anything w.keeper ≡ done false))
        ⊎ ((had_final w.built ≡ false) × (AllSaid L first w → ⊥) × (K.anything w.keeper ≡ done true))
    by_lists t e (inl q) = inl (t, q.0, e ∙ ap done q.1)
    by_lists t e (inr q) = inr (t, q.0, e ∙ ap done q.1)
