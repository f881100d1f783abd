-- Why the secondary never runs out of room or of numbers while both ends are joined: every packet from base on, every one from the
-- first unreported loss on, and every one with a record waits at the master, which holds at most 512, and from any that waits on at most half
-- the PDCP numbers were sent.
-- Assumes nothing.
use Rattle.std.specs.Prelude.{if◌then◌else◌}
use mathlib.Core.Path.{◌≡◌, sym, ◌∙◌, ap}
use mathlib.Core.Bool.{Bool, true, false}
use mathlib.Core.List.{List, [], ◌∷◌}
use mathlib.Core.Logic.{⊎_elim}
use Prim.Native.Nat.{ℕ, suc, ◌+◌, ◌-◌, ◌≤◌, ◌<◌}
use native.Mathlib.Omega.{arith}
use lib.ListN.{length, take, drop}
use lib.Seq.{take-take}
use Rattle.basics.proofs.Choices.{tested, contrary}
use Rattle.circle.specs.Lengths.{is_length, half}
use Rattle.bearer.specs.Bearer.{most_entries}
use Rattle.bearer.specs.Losses.{Gap}
use Rattle.bearer.specs.Keeper.{Keeper}
use Rattle.bearer.specs.Ledger.{Entry, waits}
use Rattle.bearer.specs.Rule.{is_in}
use Rattle.bearer.specs.Packets.{In, Rising, Each, packets}
use Rattle.bearer.specs.World.{World}
use Rattle.bearer.specs.Account.{Held, indexes, packets_from, Maximal}
use Rattle.bearer.specs.LedgerMeaning.{waiting_in}
use Rattle.bearer.proofs.Lists.Elements.{each_in, in_head, in_tail, in_cons, in_take, rising_head, rising_tail, in_none, not_in, front_below}
use Rattle.bearer.proofs.Lists.Rows.{in_packets, rising_packets, length_packets}
use Rattle.bearer.proofs.Lists.Lengths.{roomy}
use Rattle.bearer.proofs.Secondary.Index.{froms}
use Rattle.bearer.proofs.Secondary.Runs.{maximal_first}
use Rattle.bearer.proofs.Secondary.Follows.{record_received}
use Rattle.bearer.proofs.Master.Marks.{waiting_of}
use Rattle.bearer.proofs.Master.Pdcps.{few}
use Rattle.bearer.proofs.Master.Frees.{waiting_rising}
use Rattle.bearer.proofs.Joint.Flight.{flight_cut, flight_told, flight_closed}
use Rattle.bearer.proofs.Joint.Joined.{Joint}

-- ---- counting

-- a rising list all of which is in another is no longer
pub rising_count : (ys xs : List ℕ) → Rising xs → Rising ys → ((x : ℕ) → In x xs → In x ys) → length xs ≤ length ys
rising_count ys [] r s f = omega arith
rising_count [] (x ∷ xs) r s f = absurd (in_none (f x (in_head x xs)))
rising_count (y ∷ ys) (x ∷ xs) r s f =
    ⊎_elim
    (λ (e : x ≡ y).
    let h = rising_count ys xs (rising_tail x xs r) (rising_tail y ys s) (λ z p.
    ⊎_elim (λ q. absurd (let k = rising_head x xs r z p in omega arith)) (λ q. q) (in_cons z y ys (f z (in_tail z x xs p)))) in
    omega arith)
    (λ p.
    let first = rising_head y ys s x p in
    let h = rising_count ys (x ∷ xs) r (rising_tail y ys s) (λ z q.
    ⊎_elim (λ e. absurd (⊎_elim (λ t. omega arith) (λ t. let k = rising_head x xs r z t in omega arith) (in_cons z x xs q))) (λ t. t) (in_cons z y ys (f z q))) in
    omega arith)
    (in_cons x y ys (f x (in_head x xs)))

waiting_most : (es : List (Entry ℕ)) → length (waiting_of es) ≤ length es
waiting_most [] = omega arith
waiting_most (e ∷ es) = go (waits e) (waiting_most es)
  where
    go : (b : Bool) → length (waiting_of es) ≤ length es → length (packets (if b then e ∷ waiting_in es else waiting_in es)) ≤ suc (length es)
    go true h = omega arith
    go false h = omega arith

-- runs between two packets: each and the one before it take two
pub runs_count : (lo hi : ℕ) (gs : List Gap) → Maximal gs → ((f : ℕ) → In f (froms gs) → lo ≤ f) → Each (λ (g : Gap). g.to ≤ hi) gs → length gs + length gs ≤ suc (hi - lo)
runs_count lo hi [] m f e = omega arith
runs_count lo hi (g ∷ []) m f e = let a = f g.from (in_head g.from []) in let b = e.0 in omega arith
runs_count lo hi (g ∷ h ∷ gs) m f e =
    let a = f g.from (in_head g.from (froms (h ∷ gs))) in
    let rest = runs_count (suc g.to) hi (h ∷ gs) m.2 (λ x p. later h gs m.2 x p m.1) e.1 in
    let c = maximal_first h gs m.2 in
    let d = e.1.0 in
    let b = m.0 in
    let k = m.1 in
    omega arith
  where
    later : (h : Gap) (gs : List Gap) → Maximal (h ∷ gs) → (x : ℕ) → In x (froms (h ∷ gs)) → g.to < h.from → suc g.to ≤ x
    later h [] m x p l = ⊎_elim (λ q. omega arith) (λ q. absurd (in_none q)) (in_cons x h.from [] p)
    later h (i ∷ gs) m x p l =
        ⊎_elim (λ q. omega arith) (λ q. later i gs m.2 x q (let a = m.0 in let b = m.1 in omega arith)) (in_cons x h.from (froms (i ∷ gs)) p)

-- ---- who waits at the master

module _ {L first : ℕ} (ok : is_length L ≡ true) {w : World} (j : Joint L first w) (o : w.keeper.closed ≡ false) where
  abbrev lost : List ℕ
  lost = w.fates.lost

  -- the master is open while the secondary is
  pub master_open : w.ledger.closed ≡ false
  master_open =
      ⊎_elim
      (λ c.
      let e = (flight_closed j.flight c).1 in
      let shut : j.second.a.closed ≡ true = ap (λ (m : Rattle.bearer.proofs.Joint.Flight.Mark). m.closed) (sym e) ∙ c in
      absurd (contrary shut (ap (λ (k : Keeper). k.closed) (sym j.second.keeper_is) ∙ o)))
      (λ c. c)
      (tested w.ledger.closed)

  pub cut_there_first : j.there.cut ≤ j.second.cut
  cut_there_first = flight_cut j.flight

  -- a packet that the cut isn't past and that isn't lost waits
  pub waits_unlost : (y : ℕ) → j.second.cut ≤ y → y < length w.sent → is_in y w.fates.lost ≡ false → In y (waiting_of w.ledger.entries)
  waits_unlost y h k n =
      j.there.waiting.all master_open y (let c = cut_there_first in omega arith) k (not_in y (take j.there.told lost) (λ p. contrary (in_take y j.there.told lost p) n))

  -- and so does every packet from a loss still to be told on
  pub waits_untold : (x y : ℕ) → In x (drop j.second.told w.fates.lost) → x ≤ y → y < length w.sent → In y (waiting_of w.ledger.entries)
  waits_untold x y d h k =
      j.there.waiting.all master_open y (let c = cut_there_first in let a = j.second.divides.above x d in omega arith) k
      (not_in y (take j.there.told lost) (λ p.
      let more : In y (take j.second.told lost) = in_take y j.there.told (take j.second.told lost) (rw (take-take j.there.told j.second.told lost (flight_told j.flight)) p) in
      let z = front_below j.second.told lost y x j.second.follows.fates.lost_rising more d in
      omega arith))

  -- packets in sending order that all wait are at most 512
  pub at_most : (xs : List ℕ) → Rising xs → ((x : ℕ) → In x xs → In x (waiting_of w.ledger.entries)) → length xs ≤ most_entries
  at_most xs r f =
      let es = w.ledger.entries in
      let a = rising_count (waiting_of es) xs r (waiting_rising es j.there.master.entries_are.rising) f in
      let b = waiting_most es in
      let c = j.there.master.entries_are.most in
      omega arith

  -- so from where on all packets wait, at most 512 were sent
  pub sent_most : (x : ℕ) → ((y : ℕ) → x ≤ y → y < length w.sent → In y (waiting_of w.ledger.entries)) → length w.sent ≤ x + most_entries
  sent_most x f =
      let n = length w.sent - x in
      let a = at_most (packets_from x n) (rising_packets x n) (λ y p. let q = in_packets x n y p in f y q.0 (let z = q.1 in omega arith)) in
      let b = length_packets x n in
      omega (arith, a, b)

  -- a packet with a record waits
  pub waits_held : (x : ℕ) → In x (indexes j.second.a.records) → In x (waiting_of w.ledger.entries)
  waits_held x h =
      let s = j.second in
      let got = record_received s.follows x h in
      waits_unlost x (each_in (λ (h : Held). h.index) (λ (i : ℕ). s.cut ≤ i) s.a.records s.remembered.from_cut x h) (s.were_sent.received x got) (s.follows.fates.not_both x got)

  -- from one that waits on at most half the numbers were sent
  pub sent_near : (x : ℕ) → In x (waiting_of w.ledger.entries) → length w.sent ≤ x + half L
  sent_near x h =
      let f = few j.there.master.ordered x h in
      let g = (roomy L ok).more_pdcps in
      omega arith
