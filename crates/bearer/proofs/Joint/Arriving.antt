-- Copies of packets arrive at the secondary: both ends stay joined.
-- Assumes nothing.
use mathlib.Core.Path.{◌≡◌, refl, sym, ◌∙◌, ap, subst}
use mathlib.Core.Bool.{true, false}
use mathlib.Core.List.{List}
use mathlib.Core.Logic.{◌⊎◌, inl, inr, ⊎_elim}
use Prim.Native.Nat.{ℕ, zero, suc, ◌+◌, ◌-◌, ◌≤◌, ◌<◌}
use native.Mathlib.Omega.{arith}
use lib.ListN.{length, get_or}
use Rattle.basics.proofs.Choices.{tested, contrary, otherwise, chosen, order}
use Rattle.basics.proofs.Lists.{inserted, map_inserted}
use Rattle.circle.specs.Lengths.{is_length, half}
use Rattle.bearer.specs.Bearer.{window}
use Rattle.bearer.specs.Keeper as K
use Rattle.bearer.specs.Rule.{Fates, is_in, is_open, below, open_below, declare, receive, arrival}
use Rattle.bearer.specs.Packets.{In}
use Rattle.bearer.specs.World.{World, ◌with_keeper◌, ◌with_fates◌, at_secondary}
use Rattle.bearer.specs.Account.{Held, indexes}
use Rattle.bearer.proofs.Lists.Elements.{in_tail, in_cons, in_append, in_last, each_inserted, inserted_in, in_none}
use Rattle.bearer.proofs.Answers.Accepted.{same_state}
use Rattle.bearer.proofs.Secondary.Index.{Indexed, image, new_held, place_i, arrived_i}
use Rattle.bearer.proofs.Secondary.Open.{received_closed, lost_closed, closed, in_only}
use Rattle.bearer.proofs.Secondary.FollowsArrival.{arrival_closed, follows_arrive}
use Rattle.bearer.proofs.Master.Pdcps.{pdcp_of}
use Rattle.bearer.proofs.Joint.Flight.{Onward, divides_onward}
use Rattle.bearer.proofs.Joint.Joined.{Second, Joint}
use Rattle.bearer.proofs.Joint.Growth.{base_onward, open_ahead, joint_onward}
use Rattle.bearer.proofs.Joint.Calls.{joint_kept}
use Rattle.bearer.proofs.Joint.Room.{floor_near, runs_near, records_near, was_open}
use Rattle.bearer.proofs.Joint.Copies.{copied, copy_refused, copy_recorded, copy_taken}

-- ---- what is declared lost

in_below : (x n : ℕ) → In x (below n) → x < n
in_below x zero p = absurd (in_none p)
in_below x (suc n) p = ⊎_elim (λ q. let k = in_below x n q in omega arith) (λ e. omega arith) (in_last x (below n) n p)

-- what is declared lost below n is below n, and was open
pub declared_open : (r : Fates) (n x : ℕ) → In x (open_below r n) → (x < n) × (is_open r x ≡ true)
declared_open r n x p = let q = in_only (is_open r) (below n) x p in (in_below x n q.0, q.1)

-- what is open when one more is received was open
still_open : (r : Fates) (i x : ℕ) → is_open (receive r i) x ≡ true → is_open r x ≡ true
still_open r i x e =
    ⊎_elim (λ t. t)
    (λ f. absurd (contrary e (⊎_elim (λ p. received_closed (receive r i) x (in_tail x i r.received p)) (λ p. lost_closed (receive r i) x p) (closed r x f))))
    (tested (is_open r x))

-- ---- a packet that is open arrives

module _ {L first : ℕ} (ok : is_length L ≡ true) {w : World} (j : Joint L first w) (o : w.keeper.closed ≡ false) (d : ℕ)
    (sent-it : j.second.a.base + d < length w.sent) (fresh : is_in (j.second.a.base + d) w.fates.received ≡ false) where
  -- the packet, its PDCP number and its place among the records
  abbrev i : ℕ
  i = j.second.a.base + d

  abbrev pdcp : ℕ
  pdcp = get_or w.sent i 0

  abbrev p : ℕ
  p = place_i j.second.a i

  -- the state after it
  abbrev b : Indexed
  b = arrived_i j.second.a pdcp p d

  -- what is declared lost by it
  abbrev new : List ℕ
  new = open_below (receive w.fates i) (suc i - window)

  arrival_is : arrival w.fates i ≡ declare (receive w.fates i) (suc i - window)
  arrival_is = chosen _ w.fates (was_open ok j o d sent-it fresh)

  onward : Onward w.sent w.sent w.fates (arrival w.fates i) new
  onward = rw arrival_is (record { sent_on = λ x h. (h, refl); received_on = λ x q. in_tail x i w.fates.received q; lost_is = refl })

  new_open : (x : ℕ) → In x new → (is_open w.fates x ≡ true) × (x < length w.sent)
  new_open x q =
      let n = declared_open (receive w.fates i) (suc i - window) x q in
      (still_open w.fates i x n.1, (let h = n.0 in omega arith))

  second_arrived : Second L first (image L first b) (arrival w.fates i) w.sent w.confirmed
  second_arrived =
      let s = j.second in
      let hs = s.a.records in
      let h = new_held i pdcp in
      let follows_on = follows_arrive s.follows d fresh (floor_near ok j o d sent-it fresh) pdcp (runs_near ok j o d sent-it fresh) (records_near ok j o d sent-it fresh) in
      let got : (x : ℕ) → In x (arrival w.fates i).received → (x ≡ i) ⊎ In x w.fates.received =
      λ x q. in_cons x i w.fates.received (rw (ap (λ (r : Fates). r.received) arrival_is) at q) in
      let held : (x : ℕ) → (x ≡ i) ⊎ In x (indexes hs) → In x (indexes (inserted p h hs)) = λ x q. rw (map_inserted (λ (y : Held). y.index) p h hs) (inserted_in x p i (indexes hs) q) in
      record {
        a = b;
        told = s.told;
        cut = s.cut;
        keeper_is = refl;
        follows = follows_on;
        were_sent = record {
          received = λ x q. ⊎_elim (λ e. rw e sent-it) (s.were_sent.received x) (got x q);
          lost = λ x q. ⊎_elim (s.were_sent.lost x) (λ u. (new_open x u).1) (in_append x w.fates.lost new (rw onward.lost_is at q));
        };
        numbered = record {
          records_are = each_inserted (λ (y : Held). y.pdcp ≡ pdcp_of w.sent y.index) p h hs refl s.numbered.records_are;
          reported_fits = s.numbered.reported_fits;
        };
        remembered = record {
          from_cut = each_inserted (λ (y : Held). s.cut ≤ y.index) p h hs (let c = s.cut_base in omega arith) s.remembered.from_cut;
          held_or_gone = λ x q. ⊎_elim (λ e. inr (held x (inl e))) (λ u. ⊎_elim inl (λ v. inr (held x (inr v))) (s.remembered.held_or_gone x u)) (got x q);
        };
        marked = record {
          only = each_inserted (λ (y : Held). y.confirmed ≡ true → In y.index w.confirmed) p h hs (λ e. absurd (contrary e refl)) s.marked.only;
          all = each_inserted (λ (y : Held). In y.index w.confirmed → y.confirmed ≡ true) p h hs (λ q. absurd (contrary (s.marked.received i q) fresh)) s.marked.all;
          received = λ x q. onward.received_on x (s.marked.received x q);
        };
        divides = divides_onward onward s.follows.runs.told_most (λ x q. open_ahead s x (new_open x q).0) s.divides;
        cut_base = let c = s.cut_base in let n = base_onward onward s.follows.fates.lowest follows_on.fates.lowest in omega arith;
      }

  pub joint_arrived : Joint L first (w with_keeper image L first b with_fates arrival w.fates i)
  unfolding second_arrived
  joint_arrived = joint_onward j onward (λ x q. (new_open x q).0) second_arrived refl

-- ---- a copy arrives

module _ {L first : ℕ} (ok : is_length L ≡ true) {w : World} (j : Joint L first w) where
  -- the world when a copy of a packet has arrived
  abbrev after_copy : ℕ → World
  after_copy n = at_secondary w (copied L first w n).state (arrival w.fates n)

  -- one that is refused, while the rule too leaves the packet what it is
  kept : (n : ℕ) → (copied L first w n).state ≡ w.keeper → (w.keeper.closed ≡ false → is_open w.fates n ≡ false) → Joint L first (after_copy n)
  kept n e shut = joint_kept j (copied L first w n).state (arrival w.fates n) e (λ c. arrival_closed w.fates n (shut c))

  -- one from base on
  from_base_on : w.keeper.closed ≡ false → (d : ℕ) → j.second.a.base + d < length w.sent → Joint L first (after_copy (j.second.a.base + d))
  from_base_on o d sent-it =
      let n = j.second.a.base + d in
      ⊎_elim (λ got. kept n (same_state (copy_recorded ok j o d sent-it got)) (λ c. received_closed w.fates n got))
      (λ fresh.
      subst (Joint L first)
      (sym (ap (λ (k : K.Keeper). at_secondary w k (arrival w.fates n)) (same_state (copy_taken ok j o d sent-it fresh))
      ∙ ap (λ (r : Fates). w with_keeper image L first (arrived_i j.second.a (get_or w.sent n 0) (place_i j.second.a n) d) with_fates r) (otherwise w.fates (arrival w.fates n) (sym j.closes.secondary ∙ o))))
      (joint_arrived ok j o d sent-it fresh))
      (tested (is_in n w.fates.received))

  pub joint_copy : (n : ℕ) → n < length w.sent → length w.sent ≤ n + half L → Joint L first (after_copy n)
  joint_copy n h k = ⊎_elim shut unshut (tested w.keeper.closed)
    where
      -- a closed secondary keeps its state
      shut : w.keeper.closed ≡ true → Joint L first (after_copy n)
      shut c = kept n (same_state (chosen _ _ c)) (λ f. absurd (contrary c f))

      unshut : w.keeper.closed ≡ false → Joint L first (after_copy n)
      unshut o =
          ⊎_elim
          (λ (l : n < j.second.a.base). kept n (same_state (copy_refused ok j o n h k l)) (λ c. j.second.follows.fates.lowest.none_below n l))
          (λ (l : j.second.a.base ≤ n).
          let d = n - j.second.a.base in
          let e : j.second.a.base + d ≡ n = omega arith in
          subst (λ (x : ℕ). Joint L first (after_copy x)) e (from_base_on o d (omega arith)))
          (order n j.second.a.base)
