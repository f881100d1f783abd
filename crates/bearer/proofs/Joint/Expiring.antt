-- Gaps expire at the secondary: both ends stay joined, and what is answered is what our rule declares lost.
-- Assumes nothing.
use mathlib.Core.Path.{◌≡◌, refl, sym, ◌∙◌, ap, subst}
use mathlib.Core.Bool.{true, false}
use mathlib.Core.List.{List}
use mathlib.Core.Logic.{⊎_elim}
use Prim.Native.Nat.{ℕ, zero, suc, ◌+◌, ◌-◌, ◌≤◌, ◌<◌}
use native.Mathlib.Omega.{arith}
use lib.ListN.{length}
use Rattle.basics.specs.Basics.{Outcome, done}
use Rattle.basics.proofs.Choices.{tested, contrary, otherwise, chosen}
use Rattle.circle.specs.Lengths.{is_length}
use Rattle.bearer.specs.Bearer.{most_runs, After}
use Rattle.bearer.specs.Losses.{size_of}
use Rattle.bearer.specs.Keeper as K
use Rattle.bearer.specs.Rule.{Fates, is_open, open_below, expiry}
use Rattle.bearer.specs.Packets.{mark_of, In}
use Rattle.bearer.specs.World.{World, ◌with_keeper◌, ◌with_fates◌, at_secondary}
use Rattle.bearer.specs.Demand3.{Expired, ExpiriesAnswered}
use Rattle.bearer.specs.Account.{indexes}
use Rattle.bearer.proofs.Lists.Elements.{in_append}
use Rattle.bearer.proofs.Answers.Accepted.{same_answer, same_state}
use Rattle.bearer.proofs.Secondary.Index.{Indexed, image, image_after, given_up_i, runs_after_i, expired_i}
use Rattle.bearer.proofs.Secondary.Follows.{record_received}
use Rattle.bearer.proofs.Secondary.FollowsExpiry.{Within, follows_nothing, expiry_count, expiry_some, follows_expire, expires}
use Rattle.bearer.proofs.Secondary.MarkOf.{Expires, refuses, goes, expire_cases}
use Rattle.bearer.proofs.Joint.Flight.{Onward, divides_onward}
use Rattle.bearer.proofs.Joint.Joined.{Second, Joint}
use Rattle.bearer.proofs.Joint.Growth.{base_onward, open_ahead, joint_onward}
use Rattle.bearer.proofs.Joint.Calls.{joint_kept}
use Rattle.bearer.proofs.Joint.Room.{few_runs}
use Rattle.bearer.proofs.Joint.Arriving.{declared_open}

module _ {L first : ℕ} (ok : is_length L ≡ true) {w : World} (j : Joint L first w) (o : w.keeper.closed ≡ false) (d : ℕ)
    (in_reach : Within j.second.a.base (indexes j.second.a.records) (j.second.a.base + d)) where
  -- the secondary's state, before and after
  abbrev a : Indexed
  a = j.second.a

  abbrev e : Indexed
  e = expired_i a d

  -- the packet that the mark names
  abbrev mark : ℕ
  mark = a.base + d

  -- what is declared lost
  abbrev gone : List ℕ
  gone = open_below w.fates mark

  -- a packet at or past the mark was sent
  mark_sent : mark < length w.sent
  mark_sent =
      let t = j.second.were_sent.received in_reach.last (record_received j.second.follows in_reach.last in_reach.recorded) in
      omega (arith, in_reach.from_it)

  -- so there is room for the runs
  pub few : length (runs_after_i a d) ≤ most_runs
  few = few_runs ok j o d (omega (arith, mark_sent))

  gone_open : (x : ℕ) → In x gone → (is_open w.fates x ≡ true) × (x < length w.sent)
  gone_open x p = let q = declared_open w.fates mark x p in (q.1, omega (arith, q.0, mark_sent))

  onward : Onward w.sent w.sent w.fates (expiry w.fates mark) gone
  onward = record { sent_on = λ x h. (h, refl); received_on = λ x p. p; lost_is = refl }

  second_expired : Second L first (image L first e) (expiry w.fates mark) w.sent w.confirmed
  second_expired =
      let s = j.second in
      let follows_on = follows_expire s.follows d in_reach few in
      record {
        a = e;
        told = s.told;
        cut = s.cut;
        keeper_is = refl;
        follows = follows_on;
        were_sent = record {
          received = s.were_sent.received;
          lost = λ x q. ⊎_elim (s.were_sent.lost x) (λ h. (gone_open x h).1) (in_append x w.fates.lost gone q);
        };
        numbered = s.numbered;
        remembered = s.remembered;
        marked = s.marked;
        divides = divides_onward onward s.follows.runs.told_most (λ x q. open_ahead s x (gone_open x q).0) s.divides;
        cut_base = let c = s.cut_base in let n = base_onward onward s.follows.fates.lowest follows_on.fates.lowest in omega arith;
      }

  pub joint_expired : Joint L first (w with_keeper image L first e with_fates expiry w.fates mark)
  unfolding second_expired
  joint_expired = joint_onward j onward (λ x q. (gone_open x q).0) second_expired refl

pub joint_expire : {L first : ℕ} {w : World} → is_length L ≡ true → Joint L first w → (n : ℕ)
    → Joint L first (at_secondary w (K.expire w.keeper n).state (expiry w.fates (mark_of L first n w.fates)))
joint_expire {L} {first} {w} ok j n = ⊎_elim shut unshut (tested w.keeper.closed)
  where
    mark : ℕ
    mark = mark_of L first n w.fates

    -- both ends are joined after the expiry
    Then : Type 0
    Then = Joint L first (at_secondary w (K.expire w.keeper n).state (expiry w.fates mark))

    kept : (K.expire w.keeper n).state ≡ w.keeper → (w.keeper.closed ≡ false → expiry w.fates mark ≡ w.fates) → Then
    kept = joint_kept j (K.expire w.keeper n).state (expiry w.fates mark)

    shut : w.keeper.closed ≡ true → Then
    shut c = kept (same_state (chosen _ _ c)) (λ f. absurd (contrary c f))

    -- the keeper leaves what its machine on indexes does
    leaves : {x : After K.Keeper ℕ} → K.expire (image L first j.second.a) n ≡ x → (K.expire w.keeper n).state ≡ x.state
    leaves q = ap (λ (k : K.Keeper). (K.expire k n).state) j.second.keeper_is ∙ same_state q

    by : w.keeper.closed ≡ false → Expires L first j.second.follows n → Then
    by o (refuses m is low) = kept (leaves is ∙ sym j.second.keeper_is) (λ c. follows_nothing j.second.follows mark low)
    by o (goes d some in_reach named is) =
        let s = j.second in
        let left = leaves (is ∙ ap (image_after L first) (expires s.a d (few ok j o d in_reach))) in
        let still = otherwise w.fates (expiry w.fates mark) (sym j.closes.secondary ∙ o) in
        subst (Joint L first)
        (sym (ap (λ (x : K.Keeper). at_secondary w x (expiry w.fates mark)) left
        ∙ ap (λ (r : Fates). w with_keeper image L first (expired_i s.a d) with_fates r) (still ∙ ap (expiry w.fates) named)))
        (joint_expired ok j o d in_reach)

    unshut : w.keeper.closed ≡ false → Then
    unshut o =
        let s = j.second in
        by o (expire_cases L first s.follows (ap (λ (x : K.Keeper). x.closed) (sym s.keeper_is) ∙ o) n)

-- what an expiry is answered
pub joint_expiries : {L first : ℕ} {w : World} → is_length L ≡ true → Joint L first w → ExpiriesAnswered L first w
joint_expiries {L} {first} {w} ok j not-final n = by (expire_cases L first j.second.follows (ap (λ (x : K.Keeper). x.closed) (sym j.second.keeper_is) ∙ o) n)
  where
    o : w.keeper.closed ≡ false
    o = j.closes.secondary ∙ not-final

    count : ℕ → ℕ
    count mark = length (expiry w.fates mark).lost - length w.fates.lost

    -- the keeper answers what its machine on indexes does
    answers : {x : After K.Keeper ℕ} → K.expire (image L first j.second.a) n ≡ x → (K.expire w.keeper n).answer ≡ x.answer
    answers q = ap (λ (k : K.Keeper). (K.expire k n).answer) j.second.keeper_is ∙ same_answer q

    so_many : (c : ℕ) (x : Outcome ℕ) → 0 < c → x ≡ done c → Expired c x
    so_many zero x l e = absurd (omega arith)
    so_many (suc c) x l e = e

    by : Expires L first j.second.follows n → Expired (count (mark_of L first n w.fates)) (K.expire w.keeper n).answer
    by (refuses m is low) =
        let none : count (mark_of L first n w.fates) ≡ 0 = ap (λ (r : Fates). length r.lost - length w.fates.lost) (follows_nothing j.second.follows _ low) ∙ omega arith in
        rw (none, answers is)
    by (goes d some in_reach named is) =
        let F = j.second.follows in
        let a = j.second.a in
        let is-many : count (mark_of L first n w.fates) ≡ size_of (given_up_i a d) = ap count named ∙ omega (arith, expiry_count F d in_reach) in
        rw is-many
        (so_many (size_of (given_up_i a d)) (K.expire w.keeper n).answer (expiry_some F d in_reach some) (answers (is ∙ ap (image_after L first) (expires a d (few ok j o d in_reach)))))
