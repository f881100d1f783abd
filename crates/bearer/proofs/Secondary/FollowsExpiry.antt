-- Expiry does what the written rule says: each open packet before the mark is lost, the mark itself is spared, and the state follows these
-- fates. A mark at or before base has nothing open before it.
-- Assumes nothing.
use mathlib.Core.Path.{◌≡◌, refl, ◌∙◌, ap}
use mathlib.Core.Bool.{true, false}
use mathlib.Core.List.{List, [], ◌∷◌, ◌++◌, map, append-nil}
use mathlib.Core.Logic.{inl, ⊎_elim}
use Prim.Native.Nat.{ℕ, suc, ◌+◌, ◌-◌, ◌≤◌, ◌<◌}
use native.Mathlib.Omega.{arith}
use borrow.Author.Tests.{ltb-true, ltb-false, le-ltb}
use lib.Dec.{ltb}
use lib.ListN.{length, drop, length-append}
use Rattle.basics.specs.Basics.{done}
use Rattle.basics.proofs.Choices.{otherwise, contrary, done_one, or_true, or_false}
use Rattle.bearer.specs.Bearer.{answering, most_runs}
use Rattle.bearer.specs.Losses.{size_of}
use Rattle.bearer.specs.Rule.{Fates, is_open, only, open_below, expiry}
use Rattle.bearer.specs.Packets.{In, Rising}
use Rattle.bearer.specs.Account.{packets_from, packets_of, runs_in, indexes}
use Rattle.bearer.proofs.Lists.Mapped.{each_so}
use Rattle.bearer.proofs.Lists.Elements.{in_head, in_tail, in_cons, in_one}
use Rattle.bearer.proofs.Answers.Accepted.{same_state, not_refused}
use Rattle.bearer.proofs.Secondary.Index.{Indexed, given_up_i, gap_at, runs_after_i, base_after_i, beyond_i, expired_i, expire_i}
use Rattle.bearer.proofs.Secondary.Open.{open_from}
use Rattle.bearer.proofs.Secondary.Follows.{mark_record, Follows, record_received}
use Rattle.bearer.proofs.Secondary.GivenUp.{lost_count, above, Receives, Advances, Records, advances, above_rising, in_above, above_in, base_after_lowest, declared, step_listed, follows_step}

-- ---- the last record

-- a packet is not beyond the last record, which is at or past base
pub record Within (base : ℕ) (js : List ℕ) (i : ℕ) : Type 0 where
  pub last : ℕ
  pub recorded : In last js
  pub from_base_on : base ≤ last
  pub from_it : i ≤ last

pub not_beyond : (base : ℕ) (js : List ℕ) (i : ℕ) → beyond_i base js i ≡ false → Within base js i
not_beyond base [] i e = absurd (contrary refl e)
not_beyond base (j ∷ []) i e =
    let neither = or_false (ltb j base) (ltb j i) e in
    record { last = j; recorded = in_head j []; from_base_on = ltb-false j base neither.0; from_it = ltb-false j i neither.1 }
not_beyond base (j ∷ l ∷ ls) i e =
    let w = not_beyond base (l ∷ ls) i e in
    record { last = w.last; recorded = in_tail w.last j (l ∷ ls) w.recorded; from_base_on = w.from_base_on; from_it = w.from_it }

-- a packet beyond it is past every record from base on
pub is_beyond_lem : (base : ℕ) (js : List ℕ) (i : ℕ) → Rising js → beyond_i base js i ≡ true → (j : ℕ) → In j js → base ≤ j → j < i
is_beyond_lem base [] i r e j t l = absurd (contrary t refl)
is_beyond_lem base (x ∷ []) i r e j t l =
    let one = in_one j x t in
    ⊎_elim (λ p. absurd (omega (arith, ltb-true x base p))) (λ p. omega (arith, ltb-true x i p)) (or_true (ltb x base) (ltb x i) e)
is_beyond_lem base (x ∷ y ∷ ys) i r e j t l =
    ⊎_elim (λ q. omega (arith, is_beyond_lem base (y ∷ ys) i r.1 e y (in_head y ys) (omega arith), r.0)) (λ u. is_beyond_lem base (y ∷ ys) i r.1 e j u l)
    (in_cons j x (y ∷ ys) t)

-- where there is room for the runs, the machine accepts
pub expires : (a : Indexed) (d : ℕ) → length (runs_after_i a d) ≤ most_runs → expire_i a d ≡ answering (size_of (given_up_i a d)) (expired_i a d)
expires a d few = otherwise _ _ (le-ltb most_runs (length (runs_after_i a d)) few)

module _ {h : ℕ} {a : Indexed} {r : Fates} {told : ℕ} (F : Follows h a r told) where
  -- a mark at or before base: there is nothing to declare
  pub follows_nothing : (mark : ℕ) → mark ≤ a.base → expiry r mark ≡ r
  follows_nothing mark l =
      let low : mark - a.base ≡ 0 = omega arith in
      let none : open_below r mark ≡ [] = open_from r a.base mark F.fates.lowest.none_below ∙ rw low in
      ap (λ (ls : List ℕ). record { received = r.received; lost = ls }) (ap (λ (ls : List ℕ). r.lost ++ ls) none ∙ append-nil r.lost)

  module _ (d : ℕ) (in_reach : Within a.base (indexes a.records) (a.base + d)) where
    expiry_receives : Receives a r r.received d (a.base + d)
    expiry_receives = record {
      still = λ j t. t;
      kept = F.fates.not_both;
      here = λ j g k t. F.records.from_base_on j g t;
      bound = omega arith;
    }

    expiry_advances : Advances h a r.received d (base_after_i a d)
    expiry_advances =
        rw (base_after_lowest F d)
        (advances (a.base + d) (above a) (above_rising F) (omega arith)
        (λ j g k. absurd (omega arith))
        (λ j t. record_received F j (above_in F j t))
        (λ j g t. in_above F j (omega arith) (F.records.from_base_on j (omega arith) t))
        (λ f t. omega (arith, F.span in_reach.last f in_reach.recorded t, in_reach.from_it))
        (λ j f t u. F.span j f (above_in F j t) u))

    -- what becomes lost, and how many
    expiry_lost : (expiry r (a.base + d)).lost ≡ r.lost ++ packets_of (map (gap_at a.base) (given_up_i a d))
    expiry_lost = ap (λ (ls : List ℕ). r.lost ++ ls) (declared F expiry_receives expiry_advances)

    pub expiry_count : length (expiry r (a.base + d)).lost ≡ length r.lost + size_of (given_up_i a d)
    expiry_count = rw expiry_lost (lost_count a.base r.lost (given_up_i a d))

    -- base itself, where the mark is past it
    pub expiry_some : (d ≡ 0 → ⊥) → 0 < size_of (given_up_i a d)
    expiry_some some =
        let away : a.base + d - a.base ≡ suc (d - 1) = omega arith in
        let gone : open_below r (a.base + d) ≡ a.base ∷ only (is_open r) (packets_from (suc a.base) (d - 1)) =
        open_from r a.base (a.base + d) F.fates.lowest.none_below ∙ rw (away, F.fates.lowest.open_itself) in
        omega (arith, expiry_count, length-append r.lost (open_below r (a.base + d)), ap length gone)

    -- the runs that would be listed
    pub expiry_listed : runs_in (drop told (expiry r (a.base + d)).lost) ≡ runs_after_i a d
    expiry_listed = step_listed F expiry_receives expiry_advances

    expiry_records : Records h a r.received d a.records
    expiry_records = record {
      rising = F.records.rising;
      received = F.records.received;
      every = F.records.from_base_on;
      confirmed = F.records.confirmed_before;
      near = each_so a.records (λ x k. omega arith) F.records.within_window;
      most = F.records.most;
      marked = λ j t. inl (mark_record a j t);
      span = F.span;
    }

    pub follows_expire : length (runs_after_i a d) ≤ most_runs → Follows h (expired_i a d) (expiry r (a.base + d)) told
    follows_expire few = follows_step F expiry_receives expiry_advances expiry_records few

    -- an accepted expiry does what the rule says, and answers how many became lost
    pub follows_expired : (c : ℕ) → (expire_i a d).answer ≡ done c
        → ((expire_i a d).state ≡ expired_i a d) × Follows h (expired_i a d) (expiry r (a.base + d)) told × (length (expiry r (a.base + d)).lost ≡ length r.lost + c)
    follows_expired c e =
        let x = not_refused (ltb most_runs (length (runs_after_i a d))) 14 a _ c e in
        let few = ltb-false most_runs (length (runs_after_i a d)) x.0 in
        let count : size_of (given_up_i a d) ≡ c = done_one _ c x.1 in
        (same_state (expires a d few), follows_expire few, rw (← count) expiry_count)
