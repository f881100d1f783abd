-- A number is confirmed to the secondary: it is refused and nothing changes, or the packet that bears it is confirmed.
-- Assumes nothing.
use Rattle.std.specs.Prelude.{if◌then◌else◌}
use mathlib.Core.Path.{◌≡◌, refl, sym, ◌∙◌, ap, subst}
use mathlib.Core.Bool.{Bool, true, false}
use mathlib.Core.List.{List, [], ◌∷◌}
use mathlib.Core.Logic.{◌⊎◌, inl, inr, ⊎_elim}
use Prim.Native.Nat.{ℕ, zero, suc, ◌≤◌, ◌<◌}
use native.Mathlib.Omega.{arith}
use borrow.Author.Tests.{eq-eqb, eqb-true}
use lib.Dec.{eqb}
use lib.ListN.{length, get_or, set}
use lib.Seq.{map-set_same}
use Rattle.basics.specs.Basics.{Outcome, done, refused, is_done}
use Rattle.basics.proofs.Choices.{tested, order}
use Rattle.circle.specs.Lengths.{is_length, modulus_of}
use Rattle.bearer.specs.Keeper as K
use Rattle.bearer.specs.Packets.{number_of, In, Rising, Each}
use Rattle.bearer.specs.World.{World, ◌with_keeper◌, ◌with_confirmed◌, latest, after_confirm}
use Rattle.bearer.specs.Account.{Held, indexes}
use Rattle.bearer.proofs.Lists.Mapped.{each_so, each_at}
use Rattle.bearer.proofs.Lists.Elements.{in_head, in_tail, in_cons, each_set, rising_head, rising_tail, in_none}
use Rattle.bearer.proofs.Lists.Numbers.{positive, same_packet}
use Rattle.bearer.proofs.Lists.Lengths.{roomy}
use Rattle.bearer.proofs.Answers.Accepted.{not_refused}
use Rattle.bearer.proofs.Answers.Refused.{confirm_keeps}
use Rattle.bearer.proofs.Secondary.Index.{image, no_held, delivered_i, confirmed_i}
use Rattle.bearer.proofs.Secondary.ImageStatus.{Confirms, image_confirm}
use Rattle.bearer.proofs.Secondary.FollowsStatus.{follows_confirm}
use Rattle.bearer.proofs.Secondary.FollowsMeans.{follows_reach}
use Rattle.bearer.proofs.Master.Pdcps.{pdcp_of}
use Rattle.bearer.proofs.Joint.Joined.{Joint}
use Rattle.bearer.proofs.Joint.Waiting.{waits_held, sent_near}

-- ---- the packet that a number names

-- of packets that bear the number none is past i
latest_most : (L first n i : ℕ) (l : List ℕ) → ((j : ℕ) → In j l → number_of L first j ≡ n → j ≤ i) → latest L first n l ≤ i
latest_most L first n i [] f = omega arith
latest_most L first n i (x ∷ l) f = go (tested (eqb (number_of L first x) n)) (latest_most L first n i l (λ j p e. f j (in_tail j x l p) e))
  where
    go : (eqb (number_of L first x) n ≡ true) ⊎ (eqb (number_of L first x) n ≡ false) → latest L first n l ≤ i → latest L first n (x ∷ l) ≤ i
    go (inl t) h = rw t (let k = f x (in_head x l) (eqb-true (number_of L first x) n t) in omega arith)
    go (inr t) h = rw t (omega arith)

-- and i is among them
latest_least : (L first n i : ℕ) (l : List ℕ) → In i l → number_of L first i ≡ n → i ≤ latest L first n l
latest_least L first n i [] p e = absurd (in_none p)
latest_least L first n i (x ∷ l) p e =
    ⊎_elim (λ q. rw (← q) (rw (eq-eqb (number_of L first i) n e) (omega arith))) (λ q. let h = latest_least L first n i l q e in omega arith) (in_cons i x l p)

-- ---- the records with one more mark

-- the packet of a record is among theirs
held_in : (hs : List Held) (p : ℕ) → p < length hs → In (get_or hs p no_held).index (indexes hs)
held_in [] p h = absurd (omega arith)
held_in (x ∷ hs) zero h = in_head x.index (indexes hs)
held_in (x ∷ hs) (suc p) h = in_tail (get_or hs p no_held).index x.index (indexes hs) (held_in hs p (omega arith))

marks_set : (C : List ℕ) (hs : List Held) (p : ℕ) → p < length hs → Rising (indexes hs) → Each (λ (h : Held). In h.index C → h.confirmed ≡ true) hs
    → Each (λ (h : Held). In h.index ((get_or hs p no_held).index ∷ C) → h.confirmed ≡ true) (set hs p (delivered_i (get_or hs p no_held)))
marks_set C [] p h r e = tt
marks_set C (x ∷ hs) zero h r e = (
  (λ q. refl),
  rest hs (λ i q. rising_head x.index (indexes hs) r i q) e.1,
)
  where
    rest : (ys : List Held) → ((i : ℕ) → In i (indexes ys) → x.index < i) → Each (λ (h : Held). In h.index C → h.confirmed ≡ true) ys
        → Each (λ (h : Held). In h.index (x.index ∷ C) → h.confirmed ≡ true) ys
    rest [] f e = tt
    rest (y ∷ ys) f e = (
      (λ q. ⊎_elim (λ z. absurd (let k = f y.index (in_head y.index (indexes ys)) in omega arith)) (λ z. e.0 z) (in_cons y.index x.index C q)),
      rest ys (λ i q. f i (in_tail i y.index (indexes ys) q)) e.1,
    )
marks_set C (x ∷ hs) (suc p) h r e = (
  (λ q. ⊎_elim (λ z. absurd (let k = rising_head x.index (indexes hs) r (get_or hs p no_held).index (held_in hs p (omega arith)) in omega arith)) (λ z. e.0 z) (in_cons x.index (get_or hs p no_held).index C q)),
  marks_set C hs p (omega arith) (rising_tail x.index (indexes hs) r) e.1,
)

-- ---- the confirm

module _ {L first : ℕ} (ok : is_length L ≡ true) {w : World} (j : Joint L first w) {n : ℕ} (c : Confirms L first j.second.a n) where
  -- the secondary's records, and the packet that is confirmed
  abbrev held : List Held
  held = j.second.a.records

  abbrev i : ℕ
  i = (get_or held c.place no_held).index

  -- what holds of each record holds of that one
  at : (P : Held → Type 0) → Each P held → P (get_or held c.place no_held)
  at P e = each_at P held c.place no_held c.within e

  got : In i w.fates.received
  got = at (λ (h : Held). In h.index w.fates.received) j.second.follows.records.received

  from_cut : j.second.cut ≤ i
  from_cut = at (λ (h : Held). j.second.cut ≤ h.index) j.second.remembered.from_cut

  -- the number names it, and no later packet: it waits at the master, so fewer than M were sent since
  pub named : w.keeper.closed ≡ false → latest L first n w.fates.received ≡ i
  named o =
      let r = roomy L ok in
      let near = sent_near ok j o i (waits_held ok j o i (held_in held c.place c.within)) in
      let most : latest L first n w.fates.received ≤ i =
      latest_most L first n i w.fates.received (λ k p e.
      ⊎_elim
      (λ (h : i < k).
      absurd
      (let s = j.second.were_sent.received k p in
      let z : i ≡ k = same_packet (modulus_of L) first (positive L) i k (omega arith) (omega (arith, near, s, r.halves, r.more_entries)) (c.bears ∙ sym e) in
      omega arith))
      (λ (h : k ≤ i). h)
      (order i k))
      in
      let least = latest_least L first n i w.fates.received got c.bears in
      omega arith

  -- the records with the mark
  abbrev held' : List Held
  held' = set held c.place (delivered_i (get_or held c.place no_held))

  same_indexes : indexes held' ≡ indexes held
  same_indexes = map-set_same (λ (h : Held). h.index) held c.place (delivered_i (get_or held c.place no_held)) no_held refl

  -- what is said of other things than the mark holds of them too
  each_marked : (P : Held → Type 0) → P (delivered_i (get_or held c.place no_held)) → Each P held → Each P held'
  each_marked P = each_set P held c.place (delivered_i (get_or held c.place no_held))

  pub joint_confirmed : Joint L first (w with_keeper image L first (confirmed_i j.second.a c.place) with_confirmed (i ∷ w.confirmed))
  joint_confirmed =
      let s = j.second in
      record {
        second = record {
          a = confirmed_i s.a c.place;
          told = s.told;
          cut = s.cut;
          keeper_is = refl;
          follows = follows_confirm s.follows c.place c.within c.before;
          were_sent = s.were_sent;
          numbered = record {
            records_are = each_marked (λ (h : Held). h.pdcp ≡ pdcp_of w.sent h.index) (at (λ (h : Held). h.pdcp ≡ pdcp_of w.sent h.index) s.numbered.records_are) s.numbered.records_are;
            reported_fits = s.numbered.reported_fits;
          };
          remembered = record {
            from_cut = each_marked (λ (h : Held). s.cut ≤ h.index) from_cut s.remembered.from_cut;
            held_or_gone = rw same_indexes s.remembered.held_or_gone;
          };
          marked = record {
            only =
                each_marked (λ (h : Held). h.confirmed ≡ true → In h.index (i ∷ w.confirmed)) (λ e. in_head i w.confirmed)
                (each_so {P = λ (h : Held). h.confirmed ≡ true → In h.index w.confirmed} {Q = λ (h : Held). h.confirmed ≡ true → In h.index (i ∷ w.confirmed)} held
                (λ h f e. in_tail h.index i w.confirmed (f e)) s.marked.only);
            all = marks_set w.confirmed held c.place c.within s.follows.records.rising s.marked.all;
            received = λ k p. ⊎_elim (λ e. rw e got) (s.marked.received k) (in_cons k i w.confirmed p);
          };
          divides = record { below = λ k h. ⊎_elim inl (λ q. inr (in_tail k i w.confirmed q)) (s.divides.below k h); above = s.divides.above };
          cut_base = s.cut_base;
        };
        there = j.there;
        flight = j.flight;
        frames = j.frames;
        closes = record { secondary = ap (λ (k : K.Keeper). k.closed) (sym s.keeper_is) ∙ j.closes.secondary; master = j.closes.master };
      }

pub joint_confirm : {L first : ℕ} {w : World} → is_length L ≡ true → Joint L first w → (n : ℕ)
    → Joint L first (after_confirm w (latest L first n w.fates.received) (K.confirm w.keeper n))
joint_confirm {L} {first} {w} ok j n = go (K.confirm w.keeper n).answer refl
  where
    world_of : K.Keeper → Bool → ℕ → World
    world_of k b i = w with_keeper k with_confirmed (if b then i ∷ w.confirmed else w.confirmed)

    i : ℕ
    i = latest L first n w.fates.received

    go : (r : Outcome Unit) → (K.confirm w.keeper n).answer ≡ r → Joint L first (after_confirm w (latest L first n w.fates.received) (K.confirm w.keeper n))
    go (refused m) e =
        let none : is_done (K.confirm w.keeper n).answer ≡ false = ap is_done e in
        subst (Joint L first)
        (sym (ap (λ (b : Bool). world_of (K.confirm w.keeper n).state b i) none ∙ ap (λ (k : K.Keeper). world_of k false i) ((confirm_keeps w.keeper n).same none)))
        j
    go (done u) e =
        let s = j.second in
        let open_end = (not_refused w.keeper.closed _ w.keeper _ u e).0 in
        let c = image_confirm L first s.a (follows_reach s.follows) n (ap (λ (k : K.Keeper). (K.confirm k n).answer) (sym s.keeper_is) ∙ e) in
        let state = ap (λ (k : K.Keeper). (K.confirm k n).state) s.keeper_is ∙ c.state_is in
        subst (Joint L first)
        (sym (ap (λ (b : Bool). world_of (K.confirm w.keeper n).state b i) (ap is_done e) ∙ ap (λ (k : K.Keeper). world_of k true i) state ∙ ap (world_of (image L first (confirmed_i s.a c.place)) true) (named ok j c open_end)))
        (joint_confirmed ok j c)
