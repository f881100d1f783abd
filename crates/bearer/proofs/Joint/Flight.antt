-- Status frames on their way from the secondary to the master: what each says by packets, and that it goes on saying it while packets are
-- sent, received and lost behind it.
-- Assumes nothing.
use mathlib.Core.Path.{◌≡◌, refl, sym, ◌∙◌, ap}
use mathlib.Core.Bool.{Bool, true, false}
use mathlib.Core.List.{List, [], ◌∷◌, ◌++◌, map}
use mathlib.Core.Logic.{◌⊎◌, ⊎_elim}
use Prim.Native.Nat.{ℕ, ◌-◌, ◌≤◌, ◌<◌}
use native.Mathlib.Omega.{arith}
use lib.ListN.{length, take, drop, length-append, length-drop}
use lib.Seq.{take-append-le, drop-append-le}
use Rattle.basics.proofs.Choices.{contrary}
use Rattle.circle.specs.Lengths.{is_long, pdcps}
use Rattle.frame_layout.specs.Frames.{Status, status_of, read_frame}
use Rattle.bearer.specs.Losses.{Gap}
use Rattle.bearer.specs.Rule.{Fates, is_in}
use Rattle.bearer.specs.Packets.{In, in_ranges, number_of, Each}
use Rattle.bearer.specs.World.{Built}
use Rattle.bearer.specs.Account.{run_at, packets_of}
use Rattle.bearer.proofs.Lists.Elements.{in_append, not_in}
use Rattle.bearer.proofs.Master.Pdcps.{pdcp_of}

-- ---- marks and cuts

-- how far reporting has come: so many of the lost were told, all packets before cut are told or confirmed, the highest, and whether closed
pub record Mark : Type 0 where
  pub told : ℕ
  pub cut : ℕ
  pub highest : ℕ
  pub closed : Bool

-- the highest of a frame: the former one again, or the PDCP number of the packet before the new cut, which isn't lost
pub data Lifted (sent lost : List ℕ) (m n : Mark) : Type 0 where
  same : n.cut ≡ m.cut → n.highest ≡ m.highest → Lifted sent lost m n
  up : m.cut < n.cut → n.cut ≤ length sent → n.highest ≡ pdcp_of sent (n.cut - 1) → is_in (n.cut - 1) lost ≡ false → Lifted sent lost m n

-- what lies before a cut was told or confirmed, and what is still to be told lies from it on
pub record Divides (told cut : ℕ) (lost confirmed : List ℕ) : Type 0 where
  pub below : (i : ℕ) → i < cut → In i (take told lost) ⊎ In i confirmed
  pub above : (x : ℕ) → In x (drop told lost) → cut ≤ x

-- a frame's cut: what was confirmed by then was received, and whoever was, with every predecessor confirmed or told, lies before the cut
pub record Earned (told cut : ℕ) (r : Fates) (confirmed : List ℕ) : Type 0 where
  pub divides : Divides told cut r.lost confirmed
  pub deserving : (i : ℕ) → In i confirmed → ((j : ℕ) → j < i → In j confirmed ⊎ In j (take told r.lost)) → i < cut
  pub confirmed_received : (i : ℕ) → In i confirmed → In i r.received

-- ---- frames

-- what a frame carries that takes reporting from one mark to the next, whatever happens behind it
pub record Carries (L first : ℕ) (b : Built) (m n : Mark) : Type 0 where
  pub gaps : List Gap
  pub status : Status
  pub read : read_frame b.frame ≡ status_of status
  pub form : status.long ≡ is_long L
  pub ranges : status.ranges ≡ map (run_at L first) gaps
  pub listed : in_ranges L status.ranges ≡ map (number_of L first) (packets_of gaps)
  pub highest_is : status.highest ≡ n.highest
  pub final_is : status.final ≡ n.closed
  pub fits : n.highest < pdcps L
  pub open_before : m.closed ≡ false
  pub proper : Each (λ (g : Gap). g.from < g.to) gaps
  pub told_up : m.told ≤ n.told

-- what it says of the packets: it names the lost that were to be told next
pub record Says (L first : ℕ) (sent : List ℕ) (r : Fates) (b : Built) (m n : Mark) : Type 0 where
  pub carries : Carries L first b m n
  pub told_most : n.told ≤ length r.lost
  pub names : packets_of carries.gaps ≡ take (n.told - m.told) (drop m.told r.lost)
  pub lifted : Lifted sent r.lost m n
  pub earned : Earned n.told n.cut r b.confirmed

-- frames in flight, from the master's mark to the secondary's
pub data Flight (L first : ℕ) (sent : List ℕ) (r : Fates) : List Built → Mark → Mark → Type 0 where
  all_there : {m : Mark} → Flight L first sent r [] m m
  then : {b : Built} {bs : List Built} {m n k : Mark} → Says L first sent r b m n → Flight L first sent r bs n k → Flight L first sent r (b ∷ bs) m k

pub lifted_up : {sent lost : List ℕ} {m n : Mark} → Lifted sent lost m n → m.cut ≤ n.cut
lifted_up (same e h) = omega arith
lifted_up (up h a b c) = omega arith

module _ {L first : ℕ} {sent : List ℕ} {r : Fates} where
  pub flight_cut : {bs : List Built} {m k : Mark} → Flight L first sent r bs m k → m.cut ≤ k.cut
  flight_cut all_there = omega arith
  flight_cut (then s f) = let a = lifted_up s.lifted in let b = flight_cut f in omega arith

  pub flight_told : {bs : List Built} {m k : Mark} → Flight L first sent r bs m k → m.told ≤ k.told
  flight_told all_there = omega arith
  flight_told (then s f) = let a = s.carries.told_up in let b = flight_told f in omega arith

  -- once closed, nothing is on its way
  pub flight_closed : {bs : List Built} {m k : Mark} → Flight L first sent r bs m k → m.closed ≡ true → (bs ≡ []) × (m ≡ k)
  flight_closed all_there c = (refl, refl)
  flight_closed (then s f) c = absurd (contrary c s.carries.open_before)

  -- one more frame
  pub flight_more : {bs : List Built} {m k n : Mark} (b : Built) → Flight L first sent r bs m k → Says L first sent r b k n → Flight L first sent r (bs ++ (b ∷ [])) m n
  flight_more b all_there s = then s all_there
  flight_more b (then t f) s = then t (flight_more b f s)

-- ---- more happens behind them

-- more was sent and received, and the new losses stand behind those before
pub record Onward (sent sent' : List ℕ) (r t : Fates) (new : List ℕ) : Type 0 where
  pub sent_on : (i : ℕ) → i < length sent → (i < length sent') × (pdcp_of sent' i ≡ pdcp_of sent i)
  pub received_on : (i : ℕ) → In i r.received → In i t.received
  pub lost_is : t.lost ≡ r.lost ++ new

module _ {sent sent' : List ℕ} {r t : Fates} {new : List ℕ} (o : Onward sent sent' r t new) where
  -- what was told is told
  pub told_same : (n : ℕ) → n ≤ length r.lost → take n t.lost ≡ take n r.lost
  told_same n h = ap (take n) o.lost_is ∙ take-append-le n r.lost new h

  -- what is to be told was to be told, or is new
  to_tell : (n : ℕ) → n ≤ length r.lost → drop n t.lost ≡ drop n r.lost ++ new
  to_tell n h = ap (drop n) o.lost_is ∙ drop-append-le n r.lost new h

  lost_on : (n : ℕ) → n ≤ length r.lost → n ≤ length t.lost
  lost_on n h = let e = ap length o.lost_is in let f = length-append r.lost new in omega (arith, e, f)

  -- a cut goes on dividing them where the new losses lie from it on
  pub divides_onward : {told cut : ℕ} {confirmed : List ℕ} → told ≤ length r.lost → ((x : ℕ) → In x new → cut ≤ x) → Divides told cut r.lost confirmed
      → Divides told cut t.lost confirmed
  divides_onward {told} h ahead d = record {
    below = λ i l. rw (told_same told h) (d.below i l);
    above = λ x p. ⊎_elim (d.above x) (ahead x) (in_append x (drop told r.lost) new (rw (to_tell told h) at p));
  }

  pub earned_onward : {told cut : ℕ} {confirmed : List ℕ} → told ≤ length r.lost → ((x : ℕ) → In x new → cut ≤ x) → Earned told cut r confirmed → Earned told cut t confirmed
  earned_onward {told} h ahead e = record {
    divides = divides_onward h ahead e.divides;
    deserving = λ i p f. e.deserving i p (λ j q. rw (told_same told h) at (f j q));
    confirmed_received = λ i p. o.received_on i (e.confirmed_received i p);
  }

  lifted_onward : {m n : Mark} → ((x : ℕ) → In x new → n.cut ≤ x) → Lifted sent r.lost m n → Lifted sent' t.lost m n
  lifted_onward ahead (same e f) = same e f
  lifted_onward {m} {n} ahead (up a b c d) =
      let there = o.sent_on (n.cut - 1) (omega arith) in
      up a (let z = there.0 in omega arith) (c ∙ sym there.1)
      (not_in (n.cut - 1) t.lost (λ p.
      ⊎_elim (λ q. contrary q d) (λ q. let k = ahead (n.cut - 1) q in omega arith) (in_append (n.cut - 1) r.lost new (rw o.lost_is at p))))

  says_onward : {L first : ℕ} {b : Built} {m n : Mark} → ((x : ℕ) → In x new → n.cut ≤ x) → Says L first sent r b m n → Says L first sent' t b m n
  says_onward {m = m} {n = n} ahead s = record {
    carries = s.carries;
    told_most = lost_on n.told s.told_most;
    names =
        s.names
        ∙ sym (take-append-le (n.told - m.told) (drop m.told r.lost) new (let e = length-drop m.told r.lost in let h = s.told_most in omega (arith, e, h)))
        ∙ ap (take (n.told - m.told)) (sym (to_tell m.told (let u = s.carries.told_up in let h = s.told_most in omega arith)));
    lifted = lifted_onward ahead s.lifted;
    earned = earned_onward s.told_most ahead s.earned;
  }

  pub flight_onward : {L first : ℕ} {bs : List Built} {m k : Mark} → ((x : ℕ) → In x new → k.cut ≤ x) → Flight L first sent r bs m k → Flight L first sent' t bs m k
  flight_onward ahead all_there = all_there
  flight_onward ahead (then s f) = then (says_onward (λ x p. let a = ahead x p in let c = flight_cut f in omega arith) s) (flight_onward ahead f)
