-- What holds of every ledger that calls reach from open, by packets: entries stand in sending order under their own numbers, the ledger knows
-- where the oldest waiting one stands, and the PDCP numbers of those that wait are in order.
-- Assumes nothing.
use Rattle.std.specs.Prelude.{if◌then◌else◌}
use mathlib.Core.Path.{◌≡◌, refl, sym, ◌∙◌, ap}
use mathlib.Core.Bool.{Bool, true, false, not}
use mathlib.Core.List.{List, [], ◌∷◌, ◌++◌, map-append}
use mathlib.Core.Logic.{◌⊎◌, inl, inr, ⊎_elim}
use Prim.Native.Nat.{ℕ, suc, ◌+◌, ◌/◌, ◌%◌, ◌≤◌, ◌<◌}
use native.Mathlib.Omega.{arith}
use native.Mathlib.Nat.{mod-add-mod}
use borrow.Author.Tests.{ltb-true, leb-true, leb-false, eq-eqb}
use lib.Dec.{eqb, leb, ltb}
use lib.ListN.{length, drop, length-append, get_or-append}
use lib.Seq.{get_or-append_seam}
use Rattle.basics.specs.Basics.{is_done}
use Rattle.basics.proofs.Choices.{tested, contrary, and_true}
use Rattle.circle.specs.Lengths.{is_length, modulus_of, pdcps}
use Rattle.bearer.specs.Bearer.{most_entries, most_size}
use Rattle.bearer.specs.Ledger.{Entry, Ledger, new_entry, waits, waiting_at, pdcps_to, past_last, is_within_half, follows, is_in_order, is_size, send, sent_state}
use Rattle.bearer.specs.Packets.{number_of, packets, Rising, In, Each}
use Rattle.bearer.specs.LedgerMeaning.{waiting_in}
use Rattle.bearer.proofs.Lists.Mapped.{each_so, each_append, each_drop}
use Rattle.bearer.proofs.Lists.Elements.{each_in, in_none, in_head, in_tail, in_left, in_right, in_append, rising_tail, rising_head, rising_first, rising_cons, rising_append, in_one}
use Rattle.bearer.proofs.Lists.Lengths.{roomy}
use Rattle.bearer.proofs.Master.Marks.{InStep, waiting_of, waiting_cases}
use Rattle.bearer.proofs.Master.Pdcps.{pdcp_of, Ordered, Follows, few, follows_each, sends}
use Rattle.bearer.proofs.Master.Frees.{each_waiting, waiting_rising}
use Rattle.bearer.proofs.Master.Oldest.{oldest_there, waits_there, oldest_appended}

-- an entry bears the numbers of its packet, which was sent
pub record SentAs (L first : ℕ) (sent : List ℕ) (e : Entry ℕ) : Type 0 where
  pub numbered : e.number ≡ number_of L first e.label
  pub pdcp_is : e.pdcp ≡ pdcp_of sent e.label
  pub was_sent : e.label < length sent

-- the entries of a ledger, by packets
pub record Entries (L first cut : ℕ) (sent : List ℕ) (es : List (Entry ℕ)) : Type 0 where
  pub rising : Rising (packets es)
  pub sent_as_lem : Each (SentAs L first sent) es
  pub from_cut : Each (λ (e : Entry ℕ). waits e ≡ true → cut ≤ e.label) es
  pub most : length es ≤ most_entries

-- a ledger, by packets: none before cut waits
pub record Master (L first cut : ℕ) (sent : List ℕ) (l : Ledger ℕ) : Type 0 where
  pub bits_are : l.bits ≡ L
  pub next_is : l.next ≡ number_of L first (length sent)
  pub cut_sent : cut ≤ length sent
  pub oldest_is : l.oldest ≡ waiting_at l.entries
  pub entries_are : Entries L first cut sent l.entries
  pub ordered : Ordered (pdcps L) l.highest l.sent (waiting_of l.entries) sent

-- the rest of entries, without the first
pub entries_rest : {L first cut : ℕ} {sent : List ℕ} {e : Entry ℕ} {es : List (Entry ℕ)} → Entries L first cut sent (e ∷ es) → Entries L first cut sent es
entries_rest {e = e} {es = es} s = record {
  rising = rising_tail e.label (packets es) s.rising;
  sent_as_lem = s.sent_as_lem.1;
  from_cut = s.from_cut.1;
  most = let m = s.most in omega arith;
}

-- what waits was sent, and not before the cut
pub waiting_sent : {L first cut : ℕ} {sent : List ℕ} (x : ℕ) (es : List (Entry ℕ)) → Entries L first cut sent es → In x (waiting_of es) → (cut ≤ x) × (x < length sent)
waiting_sent x [] s h = absurd (in_none h)
waiting_sent x (e ∷ es) s h =
    ⊎_elim (λ w. (rw w.1 (s.from_cut.0 w.0), rw w.1 s.sent_as_lem.0.was_sent)) (waiting_sent x es (entries_rest s)) (waiting_cases x e es h)

-- ---- the oldest that waits

-- the oldest of packets in sending order
abbrev pub oldest_of : List ℕ → ℕ
oldest_of [] = 0
oldest_of (x ∷ xs) = x

-- it is one of them
oldest_in : (xs : List ℕ) (i : ℕ) → In i xs → In (oldest_of xs) xs
oldest_in [] i h = absurd (in_none h)
oldest_in (x ∷ xs) i h = in_head x xs

-- and none is older
oldest_least : (xs : List ℕ) → Rising xs → (i : ℕ) → In i xs → oldest_of xs ≤ i
oldest_least [] r i h = absurd (in_none h)
oldest_least (x ∷ xs) r i h = rising_first x xs r i h

-- waiting entries lie within a turn from the oldest of them
pub in_step : {L first cut : ℕ} {sent : List ℕ} {l : Ledger ℕ} → is_length L ≡ true → Master L first cut sent l → InStep L first (oldest_of (waiting_of l.entries)) l.entries
in_step {L} {first} {cut} {sent} {l} ok m = record {
  rising = m.entries_are.rising;
  numbered = each_so l.entries (λ e s. s.numbered) m.entries_are.sent_as_lem;
  near = each_waiting (λ (e : Entry ℕ). (oldest_of ws ≤ e.label) × (e.label < oldest_of ws + modulus_of L)) l.entries (λ e w h. (oldest_least ws rises e.label h, within e.label h));
}
  where
    ws : List ℕ
    ws = waiting_of l.entries

    rises : Rising ws
    rises = waiting_rising l.entries m.entries_are.rising

    -- at most half the PDCP numbers were sent from the oldest on
    within : (x : ℕ) → In x ws → x < oldest_of ws + modulus_of L
    within x h =
        let r = roomy L ok in
        let f = few m.ordered (oldest_of ws) (oldest_in ws x h) in
        let s = (waiting_sent x l.entries m.entries_are h).1 in
        omega (arith, r.halves, r.more_pdcps, r.some_pdcps)

-- the entries from the place of the oldest waiting one on, and the packets that wait: that entry's is the first
pub data Oldest (sent : List ℕ) : List (Entry ℕ) → List ℕ → Type 0 where
  none_waits : Oldest sent [] []
  oldest_waits : (e : Entry ℕ) (es : List (Entry ℕ)) (is : List ℕ) → e.pdcp ≡ pdcp_of sent e.label → Oldest sent (e ∷ es) (e.label ∷ is)

-- so it is in a sound ledger
pub the_oldest : {L first cut : ℕ} {sent : List ℕ} {l : Ledger ℕ} → Master L first cut sent l → Oldest sent (drop l.oldest l.entries) (waiting_of l.entries)
the_oldest {sent = sent} {l} m =
    rw (m.oldest_is, ← oldest_there l.entries)
    (go (drop (waiting_at l.entries) l.entries) (waits_there l.entries) (each_drop PdcpIs (waiting_at l.entries) l.entries (each_so l.entries (λ e k. k.pdcp_is) m.entries_are.sent_as_lem)))
  where
    -- an entry's PDCP number is its packet's
    PdcpIs : Entry ℕ → Type 0
    PdcpIs e = e.pdcp ≡ pdcp_of sent e.label

    go : (ds : List (Entry ℕ)) → ((e : Entry ℕ) (rest : List (Entry ℕ)) → ds ≡ e ∷ rest → waits e ≡ true) → Each PdcpIs ds → Oldest sent ds (waiting_of ds)
    go [] w a = none_waits
    go (e ∷ ds) w a = rw (w e ds refl) (oldest_waits e ds (waiting_of ds) a.0)

-- ---- send

-- the packets of entries behind others
packets_append : (a b : List (Entry ℕ)) → packets (a ++ b) ≡ packets a ++ packets b
packets_append a b = map-append (λ (e : Entry ℕ). e.label) a b

-- of entries behind others wait those who wait among them
pub waiting_append : (a b : List (Entry ℕ)) → waiting_of (a ++ b) ≡ waiting_of a ++ waiting_of b
waiting_append [] b = refl
waiting_append (e ∷ a) b = go (waits e) (waiting_append a b)
  where
    go : (t : Bool) → waiting_of (a ++ b) ≡ waiting_of a ++ waiting_of b
        → packets (if t then e ∷ waiting_in (a ++ b) else waiting_in (a ++ b)) ≡ packets (if t then e ∷ waiting_in a else waiting_in a) ++ waiting_of b
    go true r = ap (λ (l : List ℕ). e.label ∷ l) r
    go false r = r

-- what a send does: a refusal that changes nothing, or the next packet by rule 35
pub record Sends (L : ℕ) (l : Ledger ℕ) (p z : ℕ) : Type 0 where
  pub open_end : l.closed ≡ false
  pub fits : p < pdcps L
  pub sized : (1 ≤ z) × (z ≤ most_size)
  pub not_highest : p ≡ l.highest → ⊥
  pub follows_oldest : follows l p (drop l.oldest l.entries) ≡ true
  pub not_full : length l.entries < most_entries

pub send_cases : (L p z a : ℕ) (l : Ledger ℕ) → l.bits ≡ L
    → ((is_done (send l p z a).answer ≡ false) × ((send l p z a).state ≡ l))
    ⊎ ((is_done (send l p z a).answer ≡ true) × ((send l p z a).state ≡ sent_state l p z a) × Sends L l p z)
send_cases L p z a l e =
    go (tested l.closed) (tested (ltb p (pdcps l.bits))) (tested (is_size z)) (tested (is_in_order l p)) (tested (leb most_entries (length l.entries)))
  where
    go : (l.closed ≡ true) ⊎ (l.closed ≡ false) → (ltb p (pdcps l.bits) ≡ true) ⊎ (ltb p (pdcps l.bits) ≡ false) → (is_size z ≡ true) ⊎ (is_size z ≡ false)
        → (is_in_order l p ≡ true) ⊎ (is_in_order l p ≡ false) → (leb most_entries (length l.entries) ≡ true) ⊎ (leb most_entries (length l.entries) ≡ false)
        → ((is_done (send l p z a).answer ≡ false) × ((send l p z a).state ≡ l))
        ⊎ ((is_done (send l p z a).answer ≡ true) × ((send l p z a).state ≡ sent_state l p z a) × Sends L l p z)
    go (inl c) t i u s = inl (rw c, rw c)
    go (inr c) (inr t) i u s = inl (rw (c, t), rw (c, t))
    go (inr c) (inl t) (inr i) u s = inl (rw (i, c, t), rw (i, c, t))
    go (inr c) (inl t) (inl i) (inr u) s = inl (rw (u, i, c, t), rw (u, i, c, t))
    go (inr c) (inl t) (inl i) (inl u) (inl s) = inl (rw (u, i, c, t, s), rw (u, i, c, t, s))
    go (inr c) (inl t) (inl i) (inl u) (inr s) =
        let o = and_true (not (eqb p l.highest)) (follows l p (drop l.oldest l.entries)) u in
        let limits = and_true (leb 1 z) (leb z most_size) i in
        inr (
          rw (u, i, c, t, s),
          rw (u, i, c, t, s),
          record {
            open_end = c;
            fits = rw e at (ltb-true p (pdcps l.bits) t);
            sized = (leb-true 1 z limits.0, leb-true z most_size limits.1);
            not_highest = λ q. contrary o.0 (ap not (eq-eqb p l.highest q));
            follows_oldest = o.1;
            not_full = leb-false most_entries (length l.entries) s;
          },
        )

-- seen from each packet that waits its PDCP number follows
follows_all : {L first cut : ℕ} {sent : List ℕ} {l : Ledger ℕ} {p z : ℕ} → is_length L ≡ true → (m : Master L first cut sent l) → Sends L l p z
    → (x : ℕ) → In x (waiting_of l.entries) → Follows (pdcps L) l.sent sent p x
follows_all {L} {first} {cut} {sent} {l} {p} ok m s x h = go (drop l.oldest l.entries) (waiting_of l.entries) (the_oldest m) refl s.follows_oldest
  where
    go : (ds : List (Entry ℕ)) (ws : List ℕ) → Oldest sent ds ws → waiting_of l.entries ≡ ws → follows l p ds ≡ true → Follows (pdcps L) l.sent sent p x
    go ds ws none_waits q t = absurd (in_none (rw q at h))
    go ds ws (oldest_waits e es is pdcp_is) q t =
        let b = and_true (past_last l e.pdcp p) (is_within_half l e.pdcp p) t in
        let past : pdcps_to l e.pdcp l.sent < pdcps_to l e.pdcp p = ltb-true _ _ b.0 in
        let within : pdcps_to l e.pdcp p < pdcps l.bits / 2 = ltb-true _ _ b.1 in
        let seen : Follows (pdcps L) l.sent sent p e.label = rw (← m.bits_are, ← pdcp_is) (past, within) in
        let rises = rw q at (waiting_rising l.entries m.entries_are.rising) in
        follows_each m.ordered (roomy L ok).some_pdcps p e.label x s.fits (rw q (in_head e.label is)) (rising_first e.label is rises x (rw q at h))
        (waiting_sent x l.entries m.entries_are h).1 seen

-- an accepted send keeps all of it, over one packet more
pub master_sends : {L first cut : ℕ} {sent : List ℕ} {l : Ledger ℕ} {p z : ℕ} → is_length L ≡ true → Master L first cut sent l → Sends L l p z
    → Master L first cut (sent ++ (p ∷ [])) (sent_state l p z (length sent))
master_sends {L} {first} {cut} {sent} {l} {p} {z} ok m s =
    let n = length sent in
    let es = l.entries in
    let new : Entry ℕ = new_entry l.next p z n in
    let more : length (sent ++ (p ∷ [])) ≡ suc n = length-append sent (p ∷ []) ∙ (let e : n + 1 ≡ suc n = omega arith in e) in
    let a = m.entries_are in
    record {
      bits_are = m.bits_are;
      next_is =
          ap (λ (b : ℕ). (l.next + 1) % modulus_of b) m.bits_are
          ∙ ap (λ (x : ℕ). (x + 1) % modulus_of L) m.next_is
          ∙ mod-add-mod (first + n) (modulus_of L) 1
          ∙ ap (λ (x : ℕ). x % modulus_of L) (let e : first + n + 1 ≡ first + length (sent ++ (p ∷ [])) = omega (arith, more) in e);
      cut_sent = let c = m.cut_sent in omega (arith, more);
      oldest_is = m.oldest_is ∙ sym (oldest_appended es new refl);
      entries_are = record {
        rising =
            rw (packets_append es (new ∷ []))
            (rising_append n (packets es) (n ∷ []) a.rising tt (each_in (λ (e : Entry ℕ). e.label) (λ (x : ℕ). x < n) es (each_so es (λ e k. k.was_sent) a.sent_as_lem))
            (λ x p. omega (arith, in_one x n p)));
        sent_as_lem =
            each_append (SentAs L first (sent ++ (p ∷ []))) es (new ∷ [])
            (each_so es (λ e k.
            record { numbered = k.numbered; pdcp_is = k.pdcp_is ∙ sym (get_or-append sent (p ∷ []) 0 e.label k.was_sent); was_sent = omega (arith, more, k.was_sent) })
            a.sent_as_lem)
            (record { numbered = m.next_is; pdcp_is = sym (get_or-append_seam sent p [] 0); was_sent = omega (arith, more) }, tt);
        from_cut = each_append _ es (new ∷ []) a.from_cut ((λ w. m.cut_sent), tt);
        most = let h = s.not_full in let e = length-append es (new ∷ []) in omega (arith, e, h);
      };
      ordered =
          rw (waiting_append es (new ∷ []))
          (sends m.ordered (roomy L ok).half_pdcps (λ x h. (waiting_sent x es a h).1) p s.fits s.not_highest (follows_all ok m s));
    }

-- ---- entries that leave

-- what is left of entries, with another cut maybe: all of it is kept
pub entries_fewer : {L first cut cut' : ℕ} {sent : List ℕ} {es ds : List (Entry ℕ)} → Entries L first cut sent es → Rising (packets ds)
    → ((P : Entry ℕ → Type 0) → Each P es → Each P ds) → length ds ≤ length es → Each (λ (e : Entry ℕ). waits e ≡ true → cut' ≤ e.label) ds → Entries L first cut' sent ds
entries_fewer s rising kept fewer from = record { rising = rising; sent_as_lem = kept _ s.sent_as_lem; from_cut = from; most = let m = s.most in omega arith }

-- entries without one in their middle
pub each_without : {A : Type 0} (a : List A) (x : A) (b : List A) (P : A → Type 0) → Each P (a ++ (x ∷ b)) → Each P (a ++ b)
each_without [] x b P e = e.1
each_without (y ∷ a) x b P e = (e.0, each_without a x b P e.1)

in_without_one : (y : ℕ) (a : List ℕ) (x : ℕ) (b : List ℕ) → In y (a ++ b) → In y (a ++ (x ∷ b))
in_without_one y a x b p = ⊎_elim (λ q. in_left y a (x ∷ b) q) (λ q. in_right y a (x ∷ b) (in_tail y x b q)) (in_append y a b p)

pub rising_without : (a : List ℕ) (x : ℕ) (b : List ℕ) → Rising (a ++ (x ∷ b)) → Rising (a ++ b)
rising_without [] x b r = rising_tail x b r
rising_without (y ∷ a) x b r =
    rising_cons y (a ++ b) (λ z p. rising_head y (a ++ (x ∷ b)) r z (in_without_one z a x b p)) (rising_without a x b (rising_tail y (a ++ (x ∷ b)) r))

-- all of it is kept where one entry leaves
pub entries_without : {L first cut : ℕ} {sent : List ℕ} (a : List (Entry ℕ)) (e : Entry ℕ) (b : List (Entry ℕ)) → Entries L first cut sent (a ++ (e ∷ b))
    → Entries L first cut sent (a ++ b)
entries_without a e b s =
    entries_fewer s
    (rw (packets_append a b) (rising_without (packets a) e.label (packets b) (rw (packets_append a (e ∷ b)) at s.rising)))
    (each_without a e b) (let n = length-append a (e ∷ b) in let k = length-append a b in omega (arith, n, k)) (each_without a e b _ s.from_cut)
