-- Calls that leave the secondary alone, and refused ones: both ends stay joined.
-- Assumes nothing.
use Rattle.std.specs.Prelude.{if◌then◌else◌}
use mathlib.Core.Path.{◌≡◌, refl, sym, ◌∙◌, ap, subst}
use mathlib.Core.Bool.{Bool, true, false}
use mathlib.Core.List.{List, [], ◌∷◌, ◌++◌, append-nil}
use mathlib.Core.Logic.{⊎_elim}
use Prim.Native.Nat.{ℕ, ◌≤◌, ◌<◌}
use native.Mathlib.Omega.{arith}
use lib.ListN.{length, take, length-append, get_or-append}
use Rattle.basics.specs.Basics.{Outcome, done, refused, is_done}
use Rattle.basics.proofs.Choices.{contrary, order}
use Rattle.circle.specs.Lengths.{is_length}
use Rattle.bearer.specs.Keeper as K
use Rattle.bearer.specs.Ledger as G
use Rattle.bearer.specs.Rule.{Fates, is_in}
use Rattle.bearer.specs.Packets.{packets, In}
use Rattle.bearer.specs.World.{World, ◌with_keeper◌, ◌with_ledger◌, ◌with_sent◌, ◌with_fates◌, ◌with_freed◌, without, had_final, opened_or, world_after_send, at_secondary, at_master, world_after_take}
use Rattle.bearer.specs.Account.{Held}
use Rattle.bearer.proofs.Lists.Mapped.{each_so, each_both}
use Rattle.bearer.proofs.Lists.Elements.{in_head, in_tail, in_left, in_right, in_last, in_take, in_none, not_in}
use Rattle.bearer.proofs.Answers.Refused.{accept_keeps, arrive_keeps}
use Rattle.bearer.proofs.Master.Marks.{waiting_of}
use Rattle.bearer.proofs.Master.Pdcps.{pdcp_of}
use Rattle.bearer.proofs.Master.Sound.{Sends, send_cases, master_sends, waiting_append}
use Rattle.bearer.proofs.Master.Takes.{Left, take_cases, master_left, waiting_left}
use Rattle.bearer.proofs.Joint.Flight.{Onward, flight_onward}
use Rattle.bearer.proofs.Joint.Joined.{Joint}

-- ---- a packet is sent

-- one packet more
sent_on : (sent : List ℕ) (p : ℕ) (r : Fates) → Onward sent (sent ++ (p ∷ [])) r r []
sent_on sent p r = record {
  sent_on = λ i h. (let e = length-append sent (p ∷ []) in omega (arith, e), get_or-append sent (p ∷ []) 0 i h);
  received_on = λ i h. h;
  lost_is = sym (append-nil r.lost);
}

joint_sends : {L first : ℕ} {w : World} {p z : ℕ} → is_length L ≡ true → Joint L first w → Sends L w.ledger p z
    → Joint L first (w with_ledger G.sent_state w.ledger p z (length w.sent) with_sent (w.sent ++ (p ∷ [])))
joint_sends {L} {first} {w} {p} {z} ok j s =
    let n = length w.sent in
    let x = j.second in
    let t = j.there in
    let on = sent_on w.sent p w.fates in
    let new : G.Entry ℕ = G.new_entry w.ledger.next p z n in
    let ws = waiting_of w.ledger.entries in
    let more = length-append w.sent (p ∷ []) in
    let fresh : is_in n (take t.told w.fates.lost) ≡ false =
    not_in n (take t.told w.fates.lost) (λ q. let k = x.were_sent.lost n (in_take n t.told w.fates.lost q) in omega arith)
    in
    record {
      second = record {
        a = x.a;
        told = x.told;
        cut = x.cut;
        keeper_is = x.keeper_is;
        follows = x.follows;
        were_sent = record { received = λ i h. (on.sent_on i (x.were_sent.received i h)).0; lost = λ i h. (on.sent_on i (x.were_sent.lost i h)).0 };
        numbered = record {
          records_are =
              each_so x.a.records (λ h b. b.0 ∙ sym (on.sent_on h.index (x.were_sent.received h.index b.1)).1)
              (each_both (λ (h : Held). h.pdcp ≡ pdcp_of w.sent h.index) (λ (h : Held). In h.index w.fates.received) x.a.records x.numbered.records_are x.follows.records.received);
          reported_fits = x.numbered.reported_fits;
        };
        remembered = x.remembered;
        marked = x.marked;
        divides = x.divides;
        cut_base = x.cut_base;
      };
      there = record {
        told = t.told;
        cut = t.cut;
        master = master_sends ok t.master s;
        waiting = record {
          only = λ c i h. ⊎_elim (t.waiting.only s.open_end i) (λ e. rw e fresh) (in_last i ws n (rw (waiting_append w.ledger.entries (new ∷ [])) at h));
          all = λ c i h k f.
              rw (waiting_append w.ledger.entries (new ∷ []))
              (⊎_elim (λ (q : i < n). in_left i ws (n ∷ []) (t.waiting.all s.open_end i h q f))
              (λ (q : n ≤ i). let e : i ≡ n = omega (arith, more) in rw e (in_right n ws (n ∷ []) (in_head n [])))
              (order i n));
        };
        were_freed = t.were_freed;
        earned = t.earned;
      };
      flight = flight_onward on (λ i h. absurd (in_none h)) j.flight;
      frames = j.frames;
      closes = j.closes;
    }

-- the world that a send leaves, by whether it was accepted and the ledger
abbrev sent_as : World → ℕ → Bool → G.Ledger ℕ → World
sent_as w p b l = w with_ledger l with_sent (if b then w.sent ++ (p ∷ []) else w.sent)

pub joint_send : {L first : ℕ} {w : World} → is_length L ≡ true → Joint L first w → (p z : ℕ) → Joint L first (world_after_send w p (G.send w.ledger p z (length w.sent)))
joint_send {L} {first} {w} ok j p z =
    let a = G.send w.ledger p z (length w.sent) in
    let by : (b : Bool) (l : G.Ledger ℕ) → is_done a.answer ≡ b → a.state ≡ l → Joint L first (sent_as w p b l) → Joint L first (world_after_send w p a) =
    λ b l d e x. subst (Joint L first) (sym (ap (λ (c : Bool). sent_as w p c a.state) d ∙ ap (sent_as w p b) e)) x in
    ⊎_elim (λ r. by false _ r.0 r.1 j) (λ r. by true _ r.0 r.1 (joint_sends ok j r.2))
    (send_cases L p z (length w.sent) w.ledger j.there.master.bits_are)

-- ---- octets that the master refuses

-- nothing of a list is missing in one that holds it
without_none : (xs ys : List ℕ) → ((x : ℕ) → In x xs → In x ys) → without xs ys ≡ []
without_none [] ys h = refl
without_none (x ∷ xs) ys h = rw (h x (in_head x xs)) (without_none xs ys (λ y p. h y (in_tail y x xs p)))

pub joint_other : {L first : ℕ} {w : World} → Joint L first w → (o : List ℕ) → is_done (G.accept w.ledger o).answer ≡ false
    → Joint L first (at_master w w.delivered (G.accept w.ledger o).state)
joint_other {L} {first} {w} j o n =
    let ps = packets w.ledger.entries in
    let none : w.freed ++ without ps ps ≡ w.freed = ap (λ (l : List ℕ). w.freed ++ l) (without_none ps ps (λ x p. p)) ∙ append-nil w.freed in
    subst (Joint L first) (sym (ap (at_master w w.delivered) ((accept_keeps w.ledger o).same n) ∙ ap (λ (f : List ℕ). w with_freed f) none)) j

-- ---- take

pub joint_take : {L first : ℕ} {w : World} → Joint L first w → Joint L first (world_after_take w (G.take_oldest w.ledger).state)
joint_take {L} {first} {w} j = ⊎_elim (λ e. subst (Joint L first) (sym (ap (world_after_take w) e)) j) left (take_cases w.ledger)
  where
    left : Left w.ledger (G.take_oldest w.ledger).state → Joint L first (world_after_take w (G.take_oldest w.ledger).state)
    left s =
        let l = w.ledger in
        let t = j.there in
        let closed : (G.take_oldest l).state.closed ≡ l.closed = ap (λ (x : G.Ledger ℕ). x.closed) s.are in
        let highest : (G.take_oldest l).state.highest ≡ l.highest = ap (λ (x : G.Ledger ℕ). x.highest) s.are in
        record {
          second = j.second;
          there = record {
            told = t.told;
            cut = t.cut;
            master = master_left t.master s;
            waiting = record {
              only = λ c x p. t.waiting.only (sym closed ∙ c) x (rw (waiting_left s (sym closed ∙ c)) at p);
              all = λ c x h k f. rw (waiting_left s (sym closed ∙ c)) (t.waiting.all (sym closed ∙ c) x h k f);
            };
            were_freed = t.were_freed;
            earned = t.earned;
          };
          flight = rw (closed, highest) j.flight;
          frames = j.frames;
          closes = rw closed j.closes;
        }

-- ---- numbers that the secondary refuses

-- a world whose secondary and whose fates are as they were
pub joint_kept : {L first : ℕ} {w : World} → Joint L first w → (k : K.Keeper) (r : Fates) → k ≡ w.keeper → (w.keeper.closed ≡ false → r ≡ w.fates) → Joint L first (at_secondary w k r)
joint_kept {L} {first} {w} j k r e f = subst (Joint L first) (sym (ap (λ (x : K.Keeper). at_secondary w x r) e ∙ ap (λ (x : Fates). w with_fates x) (fates (had_final w.built) j.closes.secondary))) j
  where
    fates : (b : Bool) → w.keeper.closed ≡ b → (if b then w.fates else r) ≡ w.fates
    fates true c = refl
    fates false c = f c

pub joint_stray : {L first : ℕ} {w : World} → Joint L first w → (n p : ℕ) → is_done (K.arrive w.keeper n p).answer ≡ false
    → Joint L first (at_secondary w (K.arrive w.keeper n p).state w.fates)
joint_stray {w = w} j n p h = joint_kept j (K.arrive w.keeper n p).state w.fates ((arrive_keeps w.keeper n p).same h) (λ c. refl)

-- ---- an open that is refused

-- it leaves the end that was there
kept_open : {S : Type 0} (s : S) (x : Outcome S) → is_done x ≡ false → opened_or s x ≡ s
kept_open s (done fresh) e = absurd (contrary refl e)
kept_open s (refused n) e = refl

pub joint_open_secondary : {L first : ℕ} {w : World} → Joint L first w → (x : Outcome K.Keeper) → is_done x ≡ false → Joint L first (w with_keeper opened_or w.keeper x)
joint_open_secondary {L} {first} {w} j x e = subst (λ (k : K.Keeper). Joint L first (w with_keeper k)) (sym (kept_open w.keeper x e)) j

pub joint_open_master : {L first : ℕ} {w : World} → Joint L first w → (x : Outcome (G.Ledger ℕ)) → is_done x ≡ false → Joint L first (w with_ledger opened_or w.ledger x)
joint_open_master {L} {first} {w} j x e = subst (λ (l : G.Ledger ℕ). Joint L first (w with_ledger l)) (sym (kept_open w.ledger x e)) j
