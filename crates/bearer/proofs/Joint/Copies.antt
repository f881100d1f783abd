-- What copies are answered while both ends are joined and the secondary is open: an open packet is taken, with the count that the rule declares
-- lost; any other is opposite or late if it lies before base, and has a record if not.
-- Assumes nothing.
use Rattle.std.specs.Prelude.{if◌then◌else◌}
use mathlib.Core.Path.{◌≡◌, sym, ◌∙◌, ap, subst}
use mathlib.Core.Bool.{Bool, true, false}
use mathlib.Core.Logic.{⊎_elim}
use Prim.Native.Nat.{ℕ, ◌+◌, ◌-◌, ◌≤◌, ◌<◌}
use native.Mathlib.Omega.{arith}
use borrow.Author.Tests.{lt-leb, lt-ltb, le-ltb}
use lib.Dec.{ltb, eqb}
use lib.ListN.{length, get_or}
use Rattle.basics.specs.Basics.{done, refused}
use Rattle.basics.proofs.Choices.{tested, otherwise, chosen, order}
use Rattle.circle.specs.Lengths.{is_length, half}
use Rattle.bearer.specs.Bearer.{most_runs, most_records, After, refusing, answering}
use Rattle.bearer.specs.Losses.{size_of}
use Rattle.bearer.specs.Keeper as K
use Rattle.bearer.specs.Rule.{is_in, is_open, arrival}
use Rattle.bearer.specs.Packets.{number_of, In}
use Rattle.bearer.specs.World.{World}
use Rattle.bearer.specs.Demand3.{Answered, CopiesAnswered}
use Rattle.bearer.proofs.Lists.Lengths.{roomy}
use Rattle.bearer.proofs.Answers.Accepted.{same_answer}
use Rattle.bearer.proofs.Secondary.Index.{Indexed, image, image_after, floor_i, place_i, given_up_i, runs_after_i, arrived_i, arrive_i}
use Rattle.bearer.proofs.Secondary.Image.{refused_before, before_refused, image_arrive}
use Rattle.bearer.proofs.Secondary.Open.{received_closed, one_lowest}
use Rattle.bearer.proofs.Secondary.Follows.{follows_has}
use Rattle.bearer.proofs.Secondary.FollowsArrival.{arrival_count}
use Rattle.bearer.proofs.Secondary.FollowsMeans.{follows_reach}
use Rattle.bearer.proofs.Joint.Joined.{Joint}
use Rattle.bearer.proofs.Joint.Delivery.{base_sent}
use Rattle.bearer.proofs.Joint.Room.{base_near, floor_near, runs_near, records_near, was_open}

-- what a copy of a packet is answered, and leaves
abbrev pub copied : (L first : ℕ) → World → ℕ → After K.Keeper ℕ
copied L first w i = K.arrive w.keeper (number_of L first i) (get_or w.sent i 0)

module _ {L first : ℕ} (ok : is_length L ≡ true) {w : World} (j : Joint L first w) (o : w.keeper.closed ≡ false) where
  -- the secondary's state
  abbrev a : Indexed
  a = j.second.a

  open_a : a.closed ≡ false
  open_a = ap (λ (x : K.Keeper). x.closed) (sym j.second.keeper_is) ∙ o

  copied_is : (i : ℕ) → copied L first w i ≡ K.arrive (image L first a) (number_of L first i) (get_or w.sent i 0)
  copied_is i = ap (λ (x : K.Keeper). K.arrive x (number_of L first i) (get_or w.sent i 0)) j.second.keeper_is

  -- the state again, where the machine on indexes keeps it
  refused_is : (n : ℕ) → refusing {A = ℕ} n (image L first a) ≡ refusing n w.keeper
  refused_is n = ap (refusing n) (sym j.second.keeper_is)

  -- a packet before base is refused: late, or opposite
  pub copy_refused : (i : ℕ) → i < length w.sent → length w.sent ≤ i + half L → i < a.base → copied L first w i ≡ refusing (refused_before (half L) a.base i) w.keeper
  copy_refused i h k l =
      let b = base_sent j.second in
      copied_is i ∙ before_refused L first a i (get_or w.sent i 0) l (omega arith) (j.there.master.ordered.below i h) open_a ∙ refused_is (refused_before (half L) a.base i)

  module _ (d : ℕ) (sent-it : a.base + d < length w.sent) where
    -- the packet d past base, its PDCP number and its place among the records
    abbrev i : ℕ
    i = a.base + d

    abbrev pdcp : ℕ
    pdcp = get_or w.sent i 0

    copied_as : copied L first w i ≡ image_after L first (arrive_i (half L) a pdcp (place_i a i) d)
    copied_as =
        let near = base_near ok j o in
        let room = (roomy L ok).more_entries in
        copied_is i ∙ image_arrive L first a (follows_reach j.second.follows) d pdcp (omega arith) (j.there.master.ordered.below i sent-it) open_a

    -- it has a record
    pub copy_recorded : In i w.fates.received → copied L first w i ≡ refusing 12 w.keeper
    copy_recorded got = copied_as ∙ ap (image_after L first) (chosen _ _ (follows_has j.second.follows d ∙ got)) ∙ refused_is 12

    -- or it is taken
    pub copy_taken : is_in i w.fates.received ≡ false
        → copied L first w i ≡ answering (size_of (given_up_i a (K.limit_of d))) (image L first (arrived_i a pdcp (place_i a i) d))
    copy_taken fresh =
        copied_as
        ∙ ap (image_after L first)
        (otherwise _ _ (follows_has j.second.follows d ∙ fresh)
        ∙ otherwise _ _ (lt-leb (half L) (floor_i a + d) (floor_near ok j o d sent-it fresh))
        ∙ otherwise _ _ (le-ltb most_runs (length (runs_after_i a (K.limit_of d))) (runs_near ok j o d sent-it fresh))
        ∙ otherwise _ _ (lt-leb most_records (length a.records) (records_near ok j o d sent-it fresh)))

  -- ---- what demand 3 says of the answers

  -- how many the rule declares lost by a copy
  abbrev declared : ℕ → ℕ
  declared i = length (arrival w.fates i).lost - length w.fates.lost

  -- a copy of a packet is answered so, by the lowest open packet
  abbrev Right : ℕ → Type 0
  Right i = Answered (is_open w.fates i) (ltb i a.base) (eqb (i + half L) a.base) (declared i) (copied L first w i).answer

  answers : (i : ℕ) → i < length w.sent → length w.sent ≤ i + half L → Right i
  answers i h k = ⊎_elim before (λ l. let e : a.base + (i - a.base) ≡ i = omega arith in subst Right e (from (i - a.base) (omega arith))) (order i a.base)
    where
      refused_by : (t : Bool) → (copied L first w i).answer ≡ refused (if t then 18 else 11) → Answered false true t (declared i) (copied L first w i).answer
      refused_by true e = e
      refused_by false e = e

      before : i < a.base → Right i
      before l =
          subst (λ (b : Bool). Answered b (ltb i a.base) (eqb (i + half L) a.base) (declared i) (copied L first w i).answer) (sym (j.second.follows.fates.lowest.none_below i l))
          (rw (lt-ltb i a.base l) (refused_by (eqb (i + half L) a.base) (same_answer (copy_refused i h k l))))

      from : (d : ℕ) → a.base + d < length w.sent → Right (a.base + d)
      from d s =
          let x = a.base + d in
          ⊎_elim (λ got. rw (received_closed w.fates x got, le-ltb x a.base (omega arith)) (same_answer (copy_recorded d s got)))
          (λ fresh.
          let count = arrival_count j.second.follows d fresh (floor_near ok j o d s fresh) in
          let n : size_of (given_up_i a (K.limit_of d)) ≡ declared x = omega (arith, count) in
          subst (λ (b : Bool). Answered b (ltb x a.base) (eqb (x + half L) a.base) (declared x) (copied L first w x).answer) (sym (was_open ok j o d s fresh)) (same_answer (copy_taken d s fresh) ∙ ap done n))
          (tested (is_in x w.fates.received))

pub joint_answers : {L first : ℕ} {w : World} → is_length L ≡ true → Joint L first w → CopiesAnswered L first w
joint_answers {w = w} ok j o i base h low =
    rw (one_lowest w.fates base j.second.a.base low j.second.follows.fates.lowest) (answers ok j (j.closes.secondary ∙ o) i h.0 h.1)
