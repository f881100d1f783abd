-- Demand 3 holds (specs/Demand3.antt): both ends are joined from open on (`joint_start`), every allowed event keeps them joined
-- (`joint_step`), and joined ends keep what the customer asks.
-- Assumes nothing.
use mathlib.Core.Path.{◌≡◌, refl, sym, ◌∙◌, ap₂, subst}
use mathlib.Core.Bool.{true}
use mathlib.Core.List.{List, [], ◌∷◌}
use Prim.Native.Nat.{ℕ, ◌+◌, ◌-◌, ◌<◌}
use native.Mathlib.Omega.{arith}
use native.Mathlib.Nat.{mod-lt}
use Rattle.circle.specs.Lengths.{is_length, modulus_of, half, pdcps, pdcp_before}
use Rattle.bearer.specs.Keeper as K
use Rattle.bearer.specs.Ledger as G
use Rattle.bearer.specs.World.{World, fresh_world, Event, send, copy, stray, expire, confirm, status, deliver, other, take_one, open_secondary, open_master, step}
use Rattle.bearer.specs.Demand3.{OpenedAlike, Allowed, AllAllowed, after, Kept, Demand3, AnythingKept}
use Rattle.bearer.proofs.Lists.Elements.{in_none}
use Rattle.bearer.proofs.Lists.Lengths.{roomy}
use Rattle.bearer.proofs.Answers.Accepted.{opened}
use Rattle.bearer.proofs.Secondary.Index.{fresh_indexed}
use Rattle.bearer.proofs.Secondary.Image.{image_fresh}
use Rattle.bearer.proofs.Secondary.Follows.{follows_start}
use Rattle.bearer.proofs.Master.Applied.{master_opened}
use Rattle.bearer.proofs.Joint.Flight.{all_there}
use Rattle.bearer.proofs.Joint.Joined.{Joint, joint_reported, joint_freed}
use Rattle.bearer.proofs.Joint.Calls.{joint_send, joint_other, joint_take, joint_stray, joint_open_secondary, joint_open_master}
use Rattle.bearer.proofs.Joint.Delivery.{joint_accepts, joint_deliver}
use Rattle.bearer.proofs.Joint.Reporting.{joint_status}
use Rattle.bearer.proofs.Joint.Confirming.{joint_confirm}
use Rattle.bearer.proofs.Joint.Copies.{joint_answers}
use Rattle.bearer.proofs.Joint.Arriving.{joint_copy}
use Rattle.bearer.proofs.Joint.Expiring.{joint_expire, joint_expiries}
use Rattle.bearer.proofs.Joint.Asking.{joint_anything}

-- ---- open

module _ (L first f : ℕ) where
  joint_first : is_length L ≡ true → first < modulus_of L → Joint L first (fresh_world (K.fresh_keeper L first f) (G.fresh_ledger L first f))
  joint_first ok h =
      record {
        second = record {
          a = fresh_indexed (pdcp_before L f);
          told = 0;
          cut = 0;
          keeper_is = image_fresh L first f h;
          follows = follows_start (half L) (pdcp_before L f);
          were_sent = record { received = λ i p. absurd (in_none p); lost = λ i p. absurd (in_none p) };
          numbered = record { records_are = tt; reported_fits = mod-lt (f + (pdcps L - 1)) (roomy L ok).some_pdcps };
          remembered = record { from_cut = tt; held_or_gone = λ i p. absurd (in_none p) };
          marked = record { only = tt; all = tt; received = λ i p. p };
          divides = record { below = λ i l. absurd (omega arith); above = λ x p. absurd (in_none p) };
          cut_base = omega arith;
        };
        there = record {
          told = 0;
          cut = 0;
          master = master_opened L first f ok h;
          waiting = record { only = λ c x p. refl; all = λ c x a l n. absurd (omega arith) };
          were_freed = record { only = λ x p. absurd (in_none p); all = λ x l n. absurd (omega arith) };
          earned = record {
            divides = record { below = λ i l. absurd (omega arith); above = λ x p. absurd (in_none p) };
            deserving = λ i p g. absurd (in_none p);
            confirmed_received = λ i p. p;
          };
        };
        flight = all_there;
        frames = record { all_told = refl; count_there = refl; delivered_most = omega arith };
        closes = record { secondary = refl; master = refl };
      }

  joint_start : (w : World) → OpenedAlike L first f w → (is_length L ≡ true) × Joint L first w
  joint_start w o =
      let k = opened L first f (K.fresh_keeper L first f) w.keeper o.secondary in
      let l = opened L first f (G.fresh_ledger L first f) w.ledger o.master in
      (k.ok, subst (Joint L first) (ap₂ fresh_world k.is l.is ∙ sym o.nothing_yet) (joint_first k.ok k.small))

-- ---- every allowed event keeps both ends joined

joint_step : {L first : ℕ} {w : World} → is_length L ≡ true → Joint L first w → (e : Event) → Allowed L w e → Joint L first (step L first w e)
joint_step ok j (send p z) h = joint_send ok j p z
joint_step ok j (copy i) h = joint_copy ok j i h.0 h.1
joint_step ok j (stray n p) h = joint_stray j n p h
joint_step ok j (expire n) h = joint_expire ok j n
joint_step ok j (confirm n) h = joint_confirm ok j n
joint_step ok j (status d m final buffer) h = joint_status ok j d m final buffer h
joint_step ok j deliver h = joint_deliver ok j
joint_step ok j (other o) h = joint_other j o h
joint_step ok j take_one h = joint_take j
joint_step ok j (open_secondary bits n f) h = joint_open_secondary j (K.open_keeper bits n f) h
joint_step ok j (open_master bits n f) h = joint_open_master j (G.open_ledger bits n f) h

joint_run : {L first : ℕ} (w : World) → is_length L ≡ true → Joint L first w → (es : List Event) → AllAllowed L first w es → Joint L first (after L first w es)
joint_run w ok j [] a = j
joint_run {L} {first} w ok j (e ∷ es) a = joint_run (step L first w e) ok (joint_step ok j e a.0) es a.1

joint_keeps : {L first : ℕ} {w : World} → is_length L ≡ true → Joint L first w → Kept L first w
joint_keeps ok j = record {
  all_reported = joint_reported j;
  accepted = joint_accepts ok j;
  freed_exactly = joint_freed j;
  copies_answered = joint_answers ok j;
  expiries_answered = joint_expiries ok j;
  final_closes = j.closes;
}

-- demand 3
pub demand_3 : Demand3
demand_3 L first f w o es a = let s = joint_start L first f w o in joint_keeps s.0 (joint_run w s.0 s.1 es a)

-- and whether there is anything to say
pub anything_kept : AnythingKept
anything_kept L first f w o es a = let s = joint_start L first f w o in joint_anything (joint_run w s.0 s.1 es a)
