-- Every state of the secondary that calls reach from open means what document 01 says (specs/KeeperMeaning.antt): the machine does what the
-- index machine does (Image.antt), that follows the rule (Follows.antt), and its state is the account's (Accounts.antt).
-- Assumes nothing.
use Rattle.std.specs.Prelude.{if◌then◌else◌}
use mathlib.Core.Path.{◌≡◌, refl, sym, ◌∙◌, ap, subst}
use mathlib.Core.Bool.{Bool, false, not}
use mathlib.Core.List.{List, [], ◌∷◌, ◌++◌, map}
use mathlib.Core.Logic.{⊎_elim}
use Prim.Native.Nat.{ℕ, ◌+◌, ◌≤◌, ◌<◌}
use borrow.Author.Tests.{ltb-true, not-false}
use lib.Dec.{ltb}
use lib.ListN.{length, get_or, take, drop}
use Rattle.basics.specs.Basics.{◌and◌, ◌or◌, some_in, done, refused}
use Rattle.basics.proofs.Choices.{tested, and_true, never_done}
use Rattle.circle.specs.Circle.{forward}
use Rattle.circle.specs.Sides.{lies}
use Rattle.circle.specs.Lengths.{is_long, modulus_of, half, pdcps, pdcp_before}
use Rattle.frame_layout.specs.Frames.{Status, status_octets}
use Rattle.bearer.specs.Keeper as K
use Rattle.bearer.specs.Losses.{Gap}
use Rattle.bearer.specs.Rule.{arrival, expiry, highest, Lowest}
use Rattle.bearer.specs.Packets.{number_of, forward_from, mark_of, In}
use Rattle.bearer.specs.Account.{Held, Account, begun, indexes, listed, arriving, expiring, confirming, most_carried, going_of, reporting, left_out, run_at, account_status}
use Rattle.bearer.specs.KeeperMeaning.{record_at, packet_at, Reached, opened as opens, arrived, expired, confirmed, reported, Means, KeeperMeans, ArrivalsCount, ExpiriesCount, MarksLie, StatusesSay, AnythingSays}
use Rattle.bearer.proofs.Lists.Mapped.{each_at}
use Rattle.bearer.proofs.Lists.Elements.{each_in}
use Rattle.bearer.proofs.Lists.Numbers.{positive, not_before, lands}
use Rattle.bearer.proofs.Answers.Accepted.{same_answer, same_state, not_refused, opened}
use Rattle.bearer.proofs.Answers.Reported.{reports, reported_state_lem, reported_frame}
use Rattle.bearer.proofs.Secondary.Open.{one_lowest}
use Rattle.bearer.proofs.Secondary.Index.{Indexed, image, place_i, new_held, arrived_i, expired_i, no_held, confirmed_i, reported_i}
use Rattle.bearer.proofs.Secondary.ImageState.{Near, one_packet, near_held}
use Rattle.bearer.proofs.Secondary.Image.{image_fresh, went_on, image_arrive}
use Rattle.bearer.proofs.Secondary.ImageStatus.{image_confirm, image_status}
use Rattle.bearer.proofs.Secondary.Follows.{Follows, follows_start}
use Rattle.bearer.proofs.Secondary.FollowsArrival.{follows_arrived}
use Rattle.bearer.proofs.Secondary.FollowsExpiry.{follows_expired}
use Rattle.bearer.proofs.Secondary.FollowsStatus.{follows_confirm, follows_status}
use Rattle.bearer.proofs.Secondary.Accounts.{indexed_of, indexed_is, recorded_is, delivered_is, going_is, highest_is}
use Rattle.bearer.proofs.Secondary.FollowsMeans.{follows_means, follows_reach}
use Rattle.bearer.proofs.Secondary.MarkOf.{mark_at, mark_before, Expires, refuses, goes, expire_cases}

-- a state as the index machine has it: that of an account whose lowest open packet is base, and which the index machine's follows
pub record Indexes (L first : ℕ) (k : K.Keeper) (a : Account) : Type 0 where
  pub base : ℕ
  pub state_is : k ≡ image L first (indexed_of base a)
  pub follows : Follows (half L) (indexed_of base a) a.fates a.told

-- a state of the index machine that follows the account's fates and has its records, reported highest and end
indexes_by : {L first : ℕ} {k : K.Keeper} {a : Account} (x : Indexed) → k ≡ image L first x → Follows (half L) x a.fates a.told
    → x.records ≡ a.records → x.reported ≡ a.reported → x.closed ≡ a.final → Indexes L first k a
indexes_by {L} {first} {a = a} x e F records highest end =
    let same : x ≡ indexed_of x.base a = indexed_is a F records highest end in
    record {
      base = x.base;
      state_is = e ∙ ap (image L first) same;
      follows = subst (λ (y : Indexed). Follows (half L) y a.fates a.told) same F;
    }

-- ---- what an accepted call has passed

-- an arrival at a packet's number is at a distance below half the circle
pub record Arrives (L first : ℕ) (a : Indexed) (n p : ℕ) : Type 0 where
  pub open_end : a.closed ≡ false
  pub number_is : n ≡ number_of L first (packet_at L first a.base n)
  pub near : forward (modulus_of L) (number_of L first a.base) n < half L
  pub fits : p < pdcps L

pub arrives : (L first : ℕ) (a : Indexed) (n p c : ℕ) → (K.arrive (image L first a) n p).answer ≡ done c → Arrives L first a n p
arrives L first a n p c e =
    let k = image L first a in
    let shut = not_refused a.closed _ k _ c e in
    let bad = not_refused (not (ltb n (modulus_of L) and ltb p (pdcps L))) _ k _ c shut.1 in
    let on = went_on k n p c (lies (modulus_of L) (number_of L first a.base) n) bad.1 in
    let good = and_true (ltb n (modulus_of L)) (ltb p (pdcps L)) (not-false (ltb n (modulus_of L) and ltb p (pdcps L)) bad.0) in
    let small : n < modulus_of L = ltb-true n (modulus_of L) good.0 in
    record {
      open_end = shut.0;
      number_is = sym (lands (modulus_of L) first (positive L) a.base n small);
      near = not_before L (number_of L first a.base) n on;
      fits = ltb-true p (pdcps L) good.1;
    }

-- ---- every call

module _ (L first : ℕ) where
  -- an accepted arrival is of the packet so far past base, and answers how many become lost
  arrival_step : {k : K.Keeper} {a : Account} (n p c : ℕ) (x : Indexes L first k a) → (K.arrive k n p).answer ≡ done c
      → Indexes L first (K.arrive k n p).state (arriving a (packet_at L first x.base n) p)
      × (length (arrival a.fates (packet_at L first x.base n)).lost ≡ length a.fates.lost + c)
  arrival_step {a = a} n p c x e =
      let s : Indexed = indexed_of x.base a in
      let d : ℕ = forward (modulus_of L) (number_of L first x.base) n in
      let said : (K.arrive (image L first s) n p).answer ≡ done c = ap (λ (y : K.Keeper). (K.arrive y n p).answer) (sym x.state_is) ∙ e in
      let h = arrives L first s n p c said in
      let does = ap (λ (m : ℕ). K.arrive (image L first s) m p) h.number_is
      ∙ image_arrive L first s (follows_reach x.follows) d p h.near h.fits h.open_end in
      let goes = follows_arrived x.follows p d c (sym (same_answer does) ∙ said) in
      let state = ap (λ (y : K.Keeper). (K.arrive y n p).state) x.state_is ∙ same_state does ∙ ap (image L first) goes.0 in
      let records = recorded_is (new_held (x.base + d) p) a.records x.follows.records.rising in
      (indexes_by (arrived_i s p (place_i s (x.base + d)) d) state goes.1 records refl refl, goes.2)

  -- what an accepted expiry leaves, and how many it declares lost
  abbrev Expired : K.Keeper → Account → ℕ → ℕ → Type 0
  Expired k a n c =
      let mark : ℕ = mark_of L first n a.fates in
      Indexes L first (K.expire k n).state (expiring a mark) × (length (expiry a.fates mark).lost ≡ length a.fates.lost + c)

  expiry_step : {k : K.Keeper} {a : Account} (n c : ℕ) → Indexes L first k a → (K.expire k n).answer ≡ done c → Expired k a n c
  expiry_step {k} {a} n c x e = by (expire_cases L first x.follows open_end n)
    where
      s : Indexed
      s = indexed_of x.base a

      said : (K.expire (image L first s) n).answer ≡ done c
      said = ap (λ (y : K.Keeper). (K.expire y n).answer) (sym x.state_is) ∙ e

      open_end : a.final ≡ false
      open_end = (not_refused a.final 9 (image L first s) _ c said).0

      by : Expires L first x.follows n → Expired k a n c
      by (refuses m is low) = never_done m c (sym (same_answer is) ∙ said)
      by (goes d some w named is) =
          let went = follows_expired x.follows d w c (sym (same_answer is) ∙ said) in
          let state = ap (λ (y : K.Keeper). (K.expire y n).state) x.state_is ∙ same_state is ∙ ap (image L first) went.0 in
          rw named (indexes_by (expired_i s d) state went.1 refl refl refl, went.2)

  -- an accepted confirm marks the one record that bears the number
  confirm_step : {k : K.Keeper} {a : Account} (n i : ℕ) → Indexes L first k a → In i (indexes a.records) → number_of L first i ≡ n → (K.confirm k n).answer ≡ done tt
      → Indexes L first (K.confirm k n).state (confirming a i)
  confirm_step {a = a} n i x has bears e =
      let s : Indexed = indexed_of x.base a in
      let reach = follows_reach x.follows in
      let c = image_confirm L first s reach n (ap (λ (y : K.Keeper). (K.confirm y n).answer) (sym x.state_is) ∙ e) in
      let near = near_held L first s reach in
      let near-place = each_at (λ (h : Held). Near (half L) x.base h.index) a.records c.place no_held c.within near in
      let near-i = each_in (λ (h : Held). h.index) (Near (half L) x.base) a.records near i has in
      let same : (get_or a.records c.place no_held).index ≡ i = one_packet L first x.base _ i near-place near-i (c.bears ∙ sym bears) in
      indexes_by (confirmed_i s c.place) (ap (λ (y : K.Keeper). (K.confirm y n).state) x.state_is ∙ c.state_is)
      (follows_confirm x.follows c.place c.within c.before)
      (delivered_is a.records c.place x.follows.records.rising c.within ∙ rw same) refl refl

  -- an accepted status leaves what was not carried and did not go
  status_step : {k : K.Keeper} {a : Account} (d m : ℕ) (final : Bool) (buffer : List ℕ) (c : ℕ) → Indexes L first k a → (K.status k d m final buffer).answer ≡ done c
      → Indexes L first (K.status k d m final buffer).state (reporting a final)
  status_step {k} {a} d m final buffer c x e =
      let s : Indexed = indexed_of x.base a in
      let state = reported_state_lem (reports k d m final buffer) e
      ∙ ap (λ (y : K.Keeper). K.reported_state y final) x.state_is
      ∙ (image_status L first s (follows_reach x.follows)).state_is final in
      let records = ap (λ (n : ℕ). drop n a.records) (going_is (left_out a) a.records) in
      indexes_by (reported_i s final) state (follows_status x.follows final) records (highest_is x.base a) refl

-- ---- every state

open_step : (L first f : ℕ) {k : K.Keeper} → K.open_keeper L first f ≡ done k → Indexes L first k (begun L f)
open_step L first f {k} e =
    let o = opened L first f (K.fresh_keeper L first f) k e in
    record { base = 0; state_is = sym o.is ∙ image_fresh L first f o.small; follows = follows_start (half L) (pdcp_before L f) }

-- the lowest open packet of an account that calls reach is the machine's base
pub base_is : {L first : ℕ} {k : K.Keeper} {a : Account} (x : Indexes L first k a) (base : ℕ) → Lowest a.fates base → x.base ≡ base
base_is {a = a} x base low = one_lowest a.fates x.base base x.follows.fates.lowest low

pub indexed : (L first f : ℕ) {k : K.Keeper} {a : Account} → Reached L first f k a → Indexes L first k a
indexed L first f (opens e) = open_step L first f e
indexed L first f (arrived {k = k} {a = a} n p c base x low e) =
    let i = indexed L first f x in
    subst (λ (b : ℕ). Indexes L first (K.arrive k n p).state (arriving a (packet_at L first b n) p)) (base_is i base low) (arrival_step L first n p c i e).0
indexed L first f (expired n c x e) = (expiry_step L first n c (indexed L first f x) e).0
indexed L first f (confirmed n i x has bears e) = confirm_step L first n i (indexed L first f x) has bears e
indexed L first f (reported d m final buffer c x e) = status_step L first d m final buffer c (indexed L first f x) e

-- what a status says is what the account says
pub status_is : {L first : ℕ} {k : K.Keeper} {a : Account} → Indexes L first k a → (d m : ℕ) (final : Bool) → K.status_now k d m final ≡ account_status L first a d m final
status_is {L} {first} {a = a} x d m final =
    let same = image_status L first (indexed_of x.base a) (follows_reach x.follows) in
    ap (λ (y : K.Keeper). K.status_now y d m final) x.state_is ∙ (λ i. record {
      long = is_long L;
      final = final;
      highest = (same.highest ∙ highest_is x.base a) i;
      desired = d;
      minimum = m;
      ranges = same.ranges d m final i;
    })

-- ---- the statements

pub keeper_means : KeeperMeans
keeper_means L first f k a x =
    let i = indexed L first f x in
    subst (λ (y : K.Keeper). Means L first y a) (sym i.state_is) (follows_means first i.follows)

pub arrivals_count : ArrivalsCount
arrivals_count L first f k a x n p c base low e =
    let i = indexed L first f x in
    subst (λ (b : ℕ). length (arrival a.fates (packet_at L first b n)).lost ≡ length a.fates.lost + c) (base_is i base low) (arrival_step L first n p c i e).1

pub expiries_count : ExpiriesCount
expiries_count L first f k a x n c e = (expiry_step L first n c (indexed L first f x) e).1

pub marks_lie : MarksLie
marks_lie L first f k a x base n low small =
    let i = indexed L first f x in
    subst (λ (b : ℕ). (half L ≤ forward_from L first b n → mark_of L first n a.fates ≤ b)
    × (forward_from L first b n < half L → packet_at L first b n ≤ highest a.fates.received → mark_of L first n a.fates ≡ packet_at L first b n))
    (base_is i base low) (
      mark_before L first i.follows n,
      (λ near. mark_at L first i.follows n (forward_from L first i.base n) (lands (modulus_of L) first (positive L) i.base n small)),
    )

pub statuses_say : StatusesSay
statuses_say L first f k a x d m final buffer c e =
    let said = reported_frame (reports k d m final buffer) e in
    let same = status_is (indexed L first f x) d m final in
    subst (λ (s : Status). (c ≡ length (status_octets s)) × ((K.status k d m final buffer).buffer ≡ status_octets s ++ drop c buffer)) same said

-- the first run or record of an account tells what a status would carry and let go
account_tells : (L first : ℕ) (gs : List Gap) (hs : List Held)
    → K.news (map (run_at L first) gs) (map (record_at L first) hs) ≡ (some_in (take most_carried gs) or some_in (take (going_of (drop most_carried gs) hs) hs))
account_tells L first [] [] = refl
account_tells L first [] (h ∷ hs) = ⊎_elim (λ e. rw e refl) (λ e. rw e refl) (tested h.confirmed)
account_tells L first (g ∷ gs) hs = refl

pub anything_says : AnythingSays
anything_says L first f k a x =
    ap K.anything (keeper_means L first f k a x).state_is
    ∙ ap (λ (b : Bool). if a.final then refused 9 else done b) (account_tells L first (listed a) a.records)
