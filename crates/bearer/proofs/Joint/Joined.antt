-- Both ends joined: what holds of every world that allowed events reach, and that demand 3 follows from it. The secondary is its index
-- machine, the master's ledger is sound by packets, and the frames in flight take the master's mark to the secondary's. Each end's part is made
-- of smaller ones that speak of little, so that a step hands on whole what it doesn't change.
-- Assumes nothing.
use mathlib.Core.Path.{◌≡◌, sym, ◌∙◌, ap}
use mathlib.Core.Bool.{Bool, true, false}
use mathlib.Core.List.{List, ◌++◌, map, map-append}
use mathlib.Core.Logic.{◌⊎◌, inl, inr, ⊎_elim}
use Prim.Native.Nat.{ℕ, ◌≤◌, ◌<◌}
use native.Mathlib.Omega.{arith}
use lib.ListN.{length, take, drop, take-append-drop}
use Rattle.basics.proofs.Choices.{contrary}
use Rattle.circle.specs.Lengths.{half, pdcps}
use Rattle.bearer.specs.Keeper.{Keeper}
use Rattle.bearer.specs.Ledger.{Ledger}
use Rattle.bearer.specs.Rule.{Fates, is_in}
use Rattle.bearer.specs.Packets.{number_of, In, in_ranges, Each}
use Rattle.bearer.specs.World.{World, Built, in_flight}
use Rattle.bearer.specs.Demand3.{in_frames, confirmed_then, reported_lost, FreedExactly, AllReported, FinalCloses}
use Rattle.bearer.specs.Account.{Held, indexes}
use Rattle.bearer.proofs.Lists.Elements.{in_take, not_in}
use Rattle.bearer.proofs.Secondary.Index.{Indexed, image}
use Rattle.bearer.proofs.Secondary.ImageStatus.{image_listed}
use Rattle.bearer.proofs.Secondary.Follows.{Follows}
use Rattle.bearer.proofs.Secondary.FollowsMeans.{follows_reach}
use Rattle.bearer.proofs.Master.Marks.{waiting_of}
use Rattle.bearer.proofs.Master.Pdcps.{pdcp_of}
use Rattle.bearer.proofs.Master.Sound.{Master}
use Rattle.bearer.proofs.Joint.Flight.{Mark, Divides, Earned, Flight}

-- ---- the secondary's part

-- what was received or lost was sent
pub record WereSent (sent : List ℕ) (r : Fates) : Type 0 where
  pub received : (i : ℕ) → In i r.received → i < length sent
  pub lost : (i : ℕ) → In i r.lost → i < length sent

-- what has a record bears its packet's PDCP number, and the reported highest is a PDCP number
pub record Numbered (L : ℕ) (sent : List ℕ) (reported : ℕ) (hs : List Held) : Type 0 where
  pub records_are : Each (λ (h : Held). h.pdcp ≡ pdcp_of sent h.index) hs
  pub reported_fits : reported < pdcps L

-- what was received has a record still, or was let go before the cut
pub record Remembered (cut : ℕ) (got : List ℕ) (hs : List Held) : Type 0 where
  pub from_cut : Each (λ (h : Held). cut ≤ h.index) hs
  pub held_or_gone : (i : ℕ) → In i got → (i < cut) ⊎ In i (indexes hs)

-- a record's mark says whether its packet was confirmed, and what was confirmed was received
pub record Marked (confirmed got : List ℕ) (hs : List Held) : Type 0 where
  pub only : Each (λ (h : Held). h.confirmed ≡ true → In h.index confirmed) hs
  pub all : Each (λ (h : Held). In h.index confirmed → h.confirmed ≡ true) hs
  pub received : (i : ℕ) → In i confirmed → In i got

-- the secondary: its state by packets, how many of the lost it told, and its cut
pub record Second (L first : ℕ) (k : Keeper) (r : Fates) (sent confirmed : List ℕ) : Type 0 where
  pub a : Indexed
  pub told : ℕ
  pub cut : ℕ
  pub keeper_is : k ≡ image L first a
  pub follows : Follows (half L) a r told
  pub were_sent : WereSent sent r
  pub numbered : Numbered L sent a.reported a.records
  pub remembered : Remembered cut r.received a.records
  pub marked : Marked confirmed r.received a.records
  pub divides : Divides told cut r.lost confirmed
  pub cut_base : cut ≤ a.base

-- its mark
abbrev pub second_mark : {L first : ℕ} {k : Keeper} {r : Fates} {sent confirmed : List ℕ} → Second L first k r sent confirmed → Mark
second_mark s = record { told = s.told; cut = s.cut; highest = s.a.reported; closed = s.a.closed }

-- ---- the master's part

-- while the master is open, exactly the packets from the cut on wait that were not told
pub record Waiting (cut : ℕ) (told sent : List ℕ) (closed : Bool) (ws : List ℕ) : Type 0 where
  pub only : closed ≡ false → (x : ℕ) → In x ws → is_in x told ≡ false
  pub all : closed ≡ false → (x : ℕ) → cut ≤ x → x < length sent → is_in x told ≡ false → In x ws

-- exactly those before the cut were freed that were not told
pub record Freed (cut : ℕ) (told freed : List ℕ) : Type 0 where
  pub only : (x : ℕ) → In x freed → (x < cut) × (is_in x told ≡ false)
  pub all : (x : ℕ) → x < cut → is_in x told ≡ false → In x freed

-- the master: how many of the lost it was told, its cut, and its ledger; C is what was confirmed when the last frame was built that it accepted
pub record First (L first : ℕ) (l : Ledger ℕ) (r : Fates) (sent freed C : List ℕ) : Type 0 where
  pub told : ℕ
  pub cut : ℕ
  pub master : Master L first cut sent l
  pub waiting : Waiting cut (take told r.lost) sent l.closed (waiting_of l.entries)
  pub were_freed : Freed cut (take told r.lost) freed
  pub earned : Earned told cut r C

-- its mark
abbrev pub master_mark : {L first : ℕ} {l : Ledger ℕ} {r : Fates} {sent freed C : List ℕ} → First L first l r sent freed C → Mark
master_mark {l = l} t = record { told = t.told; cut = t.cut; highest = l.highest; closed = l.closed }

-- ---- both

-- the frames built tell what the secondary told, and those delivered as many as the master was told
pub record Frames (L first told there : ℕ) (lost : List ℕ) (built : List Built) (delivered : ℕ) : Type 0 where
  pub all_told : in_frames L built ≡ map (number_of L first) (take told lost)
  pub count_there : length (in_frames L (take delivered built)) ≡ there
  pub delivered_most : delivered ≤ length built

-- both ends, and what is between them
pub record Joint (L first : ℕ) (w : World) : Type 0 where
  pub second : Second L first w.keeper w.fates w.sent w.confirmed
  pub there : First L first w.ledger w.fates w.sent w.freed (confirmed_then w)
  pub flight : Flight L first w.sent w.fates (in_flight w) (master_mark there) (second_mark second)
  pub frames : Frames L first second.told there.told w.fates.lost w.built w.delivered
  pub closes : FinalCloses w.keeper.closed w.ledger.closed w.built w.delivered

-- ---- demand 3 of a joined world

pub joint_reported : {L first : ℕ} {w : World} → Joint L first w → AllReported L first w
joint_reported {L} {first} {w} j = record {
  exactly =
      let s = j.second in
      let lost = w.fates.lost in
      let listed : in_ranges L w.keeper.runs ≡ map (number_of L first) (drop s.told lost) =
      ap (λ (k : Keeper). in_ranges L k.runs) s.keeper_is
      ∙ image_listed L first s.a (follows_reach s.follows)
      ∙ ap (map (number_of L first)) s.follows.runs.hold
      in
      ap (λ (l : List ℕ). l ++ in_ranges L w.keeper.runs) j.frames.all_told
      ∙ ap (λ (l : List ℕ). map (number_of L first) (take s.told lost) ++ l) listed
      ∙ sym (map-append (number_of L first) (take s.told lost) (drop s.told lost))
      ∙ ap (map (number_of L first)) (take-append-drop s.told lost);
  in_order = j.second.follows.fates.lost_rising;
}

pub joint_freed : {L first : ℕ} {w : World} → Joint L first w → FreedExactly L w
joint_freed {L} {first} {w} j i =
    let t = j.there in
    let lost = w.fates.lost in
    let told : reported_lost L w ≡ take t.told lost = ap (λ (n : ℕ). take n lost) j.frames.count_there in (
      (λ p.
          let f = t.were_freed.only i p in
          let way : (k : ℕ) → k < t.cut → In k (confirmed_then w) ⊎ In k (reported_lost L w) = λ k h. ⊎_elim (λ q. inr (rw told q)) inl (t.earned.divides.below k h) in (
            ⊎_elim (λ q. absurd (contrary q f.1)) (λ q. q) (t.earned.divides.below i f.0),
            λ k h. way k (let b = f.0 in omega arith),
          )),
      (λ p.
          let here = t.earned.deserving i p.0 (λ k h. ⊎_elim inl (λ q. inr (rw told at q)) (p.1 k h)) in
          let kept = j.second.follows.fates.not_both i (t.earned.confirmed_received i p.0) in
          t.were_freed.all i here (not_in i (take t.told lost) (λ q. contrary (in_take i t.told lost q) kept))),
    )
