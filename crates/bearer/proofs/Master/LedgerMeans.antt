-- Every ledger that calls reach from open means what document 01 says, and so does every status that such a ledger accepts
-- (specs/LedgerMeaning.antt): each accepted call keeps a sound ledger (Sound.antt), and a sound ledger means that.
-- Assumes nothing.
use Rattle.std.specs.Prelude.{if◌then◌else◌}
use mathlib.Core.Path.{◌≡◌, refl, sym, ◌∙◌, ap}
use mathlib.Core.Bool.{Bool, true, false, not}
use mathlib.Core.List.{List, [], ◌∷◌, ◌++◌, map}
use mathlib.Core.Logic.{◌⊎◌, inl, inr, ⊎_elim}
use Prim.Native.Nat.{ℕ, suc, ◌+◌, ◌-◌, ◌^◌, ◌≤◌, ◌<◌}
use native.Mathlib.Omega.{arith}
use borrow.Author.Tests.{not-false}
use lib.Dec.{leb, ltb}
use lib.ListN.{length, take, drop, length-append, take-append-drop}
use Rattle.basics.specs.Basics.{◌or◌, done, is_done}
use Rattle.basics.proofs.Choices.{tested, contrary, done_one, never_done, or_false}
use Rattle.circle.specs.Circle.{forward}
use Rattle.circle.specs.Lengths.{is_length, modulus_of, pdcps, pdcp_before}
use Rattle.frame_layout.specs.Frames.{Status, status_of, read_frame}
use Rattle.bearer.specs.Bearer.{most_entries}
use Rattle.bearer.specs.Ledger.{new_entry, Entry, Ledger, holding, Accepted, Taken, taken_of, waits, waiting_sizes, freed, fresh_ledger, open_ledger, is_size, is_in_order, send, sent_state, accept, take_from, take_oldest, take_at}
use Rattle.bearer.specs.Packets.{last_of, packets, Rising, In, Each}
use Rattle.bearer.specs.LedgerMeaning.{Books, begun, sending, accepting, taking, last_sent, LedgerReached, opened as opens, sends, accepts, takes, waiting_in, lost_in, oldest_pdcp, StatusMeans, TakenFrom, this_one, passes_over, LedgersMean, SendsMean, TakesMean, StatusesMean}
use Rattle.bearer.proofs.Lists.Mapped.{each_so, each_both}
use Rattle.bearer.proofs.Lists.Elements.{in_each, rising_first}
use Rattle.bearer.proofs.Lists.Numbers.{positive, same_packet}
use Rattle.bearer.proofs.Lists.Lengths.{roomy, half_is}
use Rattle.bearer.proofs.Answers.Accepted.{same_state, not_refused, opened}
use Rattle.bearer.proofs.Master.Marks.{waiting_of}
use Rattle.bearer.proofs.Master.Pdcps.{pdcp_of, few, one_pdcp}
use Rattle.bearer.proofs.Master.Frees.{each_waiting, waiting_rising}
use Rattle.bearer.proofs.Master.Oldest.{behind_lost}
use Rattle.bearer.proofs.Master.Sound.{waiting_sent, Master, Sends, send_cases, master_sends, each_without}
use Rattle.bearer.proofs.Master.Takes.{Left, take_cases, master_left}
use Rattle.bearer.proofs.Master.Turned.{Turns}
use Rattle.bearer.proofs.Master.Applied.{master_opened, master_turns, length_turned}
use Rattle.bearer.proofs.Master.Sizes.{SizedAs, sized_sends, sized_turned, sized_freed, sizes_of_waiting, sizes_few, sizes_of_entries, room_by_lem, sum_raised, sum_lowered, status_less, take_less}
use Rattle.bearer.proofs.Master.AcceptsAny.{Passes, passes, freed_count, Frees, frees_by}

-- ---- every reached ledger is sound

-- the figures of a ledger that are its books'
pub record Figures (L f : ℕ) (l : Ledger ℕ) (b : Books) : Type 0 where
  pub highest_is : l.highest ≡ b.highest
  pub last_is : l.sent ≡ last_sent L f b
  pub desired_is : l.desired ≡ b.desired
  pub minimum_is : l.minimum ≡ b.minimum
  pub closed_is : l.closed ≡ b.final

-- a sound ledger with these figures, the sizes of its packets and their sum, and the sum of the counts; before any status nothing is desired
pub record Sound (L first f : ℕ) (l : Ledger ℕ) (b : Books) : Type 0 where
  pub ok : is_length L ≡ true
  pub cut : ℕ
  pub master : Master L first cut b.sent l
  pub figures : Figures L f l b
  pub unheard : b.heard ≡ false → b.desired ≡ 0
  pub as_many : length b.sizes ≡ length b.sent
  pub sized : Each (SizedAs b.sizes) l.entries
  pub summed : l.octets ≡ waiting_sizes l.entries
  pub sum : length l.entries + b.freed + b.taken ≡ length b.sent

module _ {L first f : ℕ} {l : Ledger ℕ} {b : Books} (x : Sound L first f l b) (o : List ℕ) (a : Accepted) (p : Passes l o a) where
  -- an accepted status turns waiting entries lost, and then frees some
  turned_by : Turns L p.frame.ranges l.entries p.pass
  turned_by = master_turns x.master p.frame.ranges p.pass p.found

  freed_so : Frees L first b.sent l p.frame p.pass.entries
  freed_so = frees_by x.master p.frame turned_by.turned p.named

  -- how many it freed is how many entries left
  left_count : a.freed + length (accept l o).state.entries ≡ length l.entries
  left_count =
      let c = freed_count l p.frame.highest p.pass.entries in
      let d = ap (λ (y : Ledger ℕ). length y.entries) p.state_is in
      let n = length_turned turned_by.turned in
      let g = p.freed_is in
      omega (arith, c, d, n, g)

  -- it does as it says
  status_means : StatusMeans L b.sent l o a
  status_means = record {
    frame = p.frame;
    read = p.read;
    applied = p.pass.entries;
    become_lost = turned_by.turned;
    lost_count = p.lost_is ∙ turned_by.count_is;
    are_freed = rw p.state_is freed_so.freed_by;
    freed_count = left_count;
    final_is = p.final_is;
  }

  -- and leaves a sound ledger, whose figures are now the frame's
  accept_step : (s : Status) → read_frame o ≡ status_of s → Sound L first f (accept l o).state (accepting b s a.freed)
  accept_step s q = rw (same_status (sym q ∙ p.read)) (record {
    ok = x.ok;
    cut = freed_so.cut;
    master = rw p.state_is freed_so.master;
    figures = rw p.state_is (record { highest_is = refl; last_is = x.figures.last_is; desired_is = refl; minimum_is = refl; closed_is = refl });
    unheard = λ e. absurd (contrary refl e);
    as_many = x.as_many;
    sized = sized_freed b.sizes status_means.are_freed (sized_turned b.sizes status_means.become_lost x.sized);
    summed = rw p.state_is (sum_lowered l.entries (freed l p.frame.highest p.pass.entries).entries l.octets (status_less turned_by.turned freed_so.freed_by) x.summed);
    sum = let h = x.sum in omega (arith, left_count, h);
  })
    where
      same_status : {s t : Status} → status_of s ≡ status_of t → s ≡ t
      same_status e = cc

-- the last of PDCP numbers is the one put behind them
last_behind : (q : ℕ) (qs : List ℕ) (p : ℕ) → last_of q (qs ++ (p ∷ [])) ≡ p
last_behind q [] p = refl
last_behind q (r ∷ qs) p = last_behind r qs p

module _ {L first f : ℕ} {l : Ledger ℕ} {b : Books} (x : Sound L first f l b) where
  -- an accepted send is one packet more, and one entry
  send_step : (p z n : ℕ) → (send l p z (length b.sent)).answer ≡ done n → Sound L first f (send l p z (length b.sent)).state (sending b p z)
  send_step p z n e =
      ⊎_elim (λ r. absurd (contrary (ap is_done e) r.0)) (λ r. rw r.1 (goes_out r.2))
      (send_cases L p z (length b.sent) l x.master.bits_are)
    where
      goes_out : Sends L l p z → Sound L first f (sent_state l p z (length b.sent)) (sending b p z)
      goes_out s =
          let g = x.figures in record {
            ok = x.ok;
            cut = x.cut;
            master = master_sends x.ok x.master s;
            figures = record {
              highest_is = g.highest_is;
              last_is = sym (last_behind (pdcp_before L f) b.sent p);
              desired_is = g.desired_is;
              minimum_is = g.minimum_is;
              closed_is = g.closed_is;
            };
            unheard = x.unheard;
            as_many = let h = x.as_many in omega (arith, h, length-append b.sent (p ∷ []), length-append b.sizes (z ∷ []));
            sized = rw (← x.as_many) (sized_sends b.sizes l.entries l.next p z s.sized x.sized);
            summed = sum_raised b.sizes l.entries l.next p z (length b.sent) l.octets s.not_full s.sized.1 x.sized x.summed;
            sum = let h = x.sum in omega (arith, h, length-append l.entries (new_entry l.next p z (length b.sent) ∷ []), length-append b.sent (p ∷ []));
          }

  -- an accepted take is one entry less
  take_step : (t : Taken) → (take_oldest l).answer ≡ done t → Sound L first f (take_oldest l).state (taking b)
  take_step t e =
      let less = shorter (take i l.entries) (drop i l.entries) e in
      let whole : length (take i l.entries) + length (drop i l.entries) ≡ length l.entries = sym (length-append (take i l.entries) (drop i l.entries)) ∙ ap length (take-append-drop i l.entries) in
      let left : Left l (take_oldest l).state = ⊎_elim (λ s. absurd (let q = ap (λ (y : Ledger ℕ). length y.entries) s in omega (arith, q, less, whole))) (λ s. s) (take_cases l) in
      record {
        ok = x.ok;
        cut = x.cut;
        master = master_left x.master left;
        figures = rw left.are (same_figures _ (left.front ++ left.back));
        unheard = x.unheard;
        as_many = x.as_many;
        sized = rw left.are (each_without left.front left.gone left.back _ (rw left.were at x.sized));
        summed = rw left.are (sum_lowered l.entries (left.front ++ left.back) l.octets (less_waits left) x.summed);
        sum = let h = x.sum in omega (arith, h, less, whole);
      }
    where
      i : ℕ
      i = take_at l.closed l.entries

      shorter : (front es : List (Entry ℕ)) → (take_from l front es).answer ≡ done t → suc (length (take_from l front es).state.entries) ≡ length front + length es
      shorter front [] e = never_done _ t e
      shorter front (d ∷ es) e = omega (arith, length-append front es)

      less_waits : {t : Ledger ℕ} (a : Left l t) → waiting_sizes (a.front ++ a.back) ≤ waiting_sizes l.entries
      less_waits a = let were = ap waiting_sizes a.were in omega (arith, were, take_less a.front a.gone a.back)

      same_figures : (n : ℕ) (es : List (Entry ℕ)) → Figures L f (holding l n es) (taking b)
      same_figures n es =
          let g = x.figures in
          record { highest_is = g.highest_is; last_is = g.last_is; desired_is = g.desired_is; minimum_is = g.minimum_is; closed_is = g.closed_is }

-- a ledger is sound when it is opened
open_step : (L first f : ℕ) (l : Ledger ℕ) → open_ledger L first f ≡ done l → Sound L first f l (begun L f)
open_step L first f l e =
    let o = opened L first f (fresh_ledger L first f) l e in
    rw (← o.is) (record {
      ok = o.ok;
      cut = 0;
      master = master_opened L first f o.ok o.small;
      figures = record { highest_is = refl; last_is = refl; desired_is = refl; minimum_is = refl; closed_is = refl };
      unheard = λ e. refl;
      as_many = refl;
      sized = tt;
      summed = refl;
      sum = refl;
    })

pub sound : {L first f : ℕ} {l : Ledger ℕ} {b : Books} → LedgerReached L first f l b → Sound L first f l b
sound {L} {first} {f} (opens {l = l} e) = open_step L first f l e
sound (sends p z n x e) = send_step (sound x) p z n e
sound (accepts {l = l} o s a x q e) = accept_step (sound x) o a (passes l o a e) s q
sound (takes t x e) = take_step (sound x) t e

-- every status that a reached ledger accepts does as it says
pub statuses_mean : StatusesMean
statuses_mean L first f l b x o a e = status_means (sound x) o a (passes l o a e)

-- ---- what a sound ledger means

-- every entry waits or is lost
pub counts_sum : (es : List (Entry ℕ)) → length (waiting_in es) + length (lost_in es) ≡ length es
counts_sum [] = refl
counts_sum (e ∷ es) = go (waits e) (counts_sum es)
  where
    go : (b : Bool) → length (waiting_in es) + length (lost_in es) ≡ length es
        → length (if b then e ∷ waiting_in es else waiting_in es) + length (if b then lost_in es else e ∷ lost_in es) ≡ suc (length es)
    go true h = omega arith
    go false h = omega arith

-- what holds of each entry that waits
each_in_waiting : (P : Entry ℕ → Type 0) (es : List (Entry ℕ)) → Each (λ (e : Entry ℕ). waits e ≡ true → P e) es → Each P (waiting_in es)
each_in_waiting P [] a = tt
each_in_waiting P (e ∷ es) a = go (waits e) refl (each_in_waiting P es a.1)
  where
    go : (b : Bool) → waits e ≡ b → Each P (waiting_in es) → Each P (if b then e ∷ waiting_in es else waiting_in es)
    go true w r = (a.0 w, r)
    go false w r = r

module _ {L first cut : ℕ} {sent : List ℕ} {l : Ledger ℕ} (ok : is_length L ≡ true) (m : Master L first cut sent l) where
  -- a waiting packet was sent
  was_sent : (x : ℕ) → In x (waiting_of l.entries) → x < length sent
  was_sent x h = (waiting_sent x l.entries m.entries_are h).1

  -- an entry's packet waits, and its PDCP number is the entry's
  abbrev WaitsAs : Entry ℕ → Type 0
  WaitsAs e = In e.label (waiting_of l.entries) × (e.pdcp ≡ pdcp_of sent e.label)

  -- such is every waiting entry
  waiting_as : Each WaitsAs (waiting_in l.entries)
  waiting_as =
      each_in_waiting WaitsAs l.entries
      (each_so l.entries (λ e b w. (b.1 w, b.0.pdcp_is))
      (each_both _ _ l.entries m.entries_are.sent_as_lem (each_waiting (λ (e : Entry ℕ). In e.label (waiting_of l.entries)) l.entries (λ e w h. h))))

  -- seen from a waiting packet, later ones that wait lie ever farther forward
  seen_rising : (q o : ℕ) → q ≡ pdcp_of sent o → In o (waiting_of l.entries) → (ws : List (Entry ℕ)) → Each (λ (e : Entry ℕ). o ≤ e.label) ws → Rising (packets ws) → Each WaitsAs ws
      → Rising (map (λ (e : Entry ℕ). forward (2 ^ L) q e.pdcp) ws)
  seen_rising q o is w [] h r a = tt
  seen_rising q o is w (e ∷ []) h r a = tt
  seen_rising q o is w (e ∷ d ∷ ws) h r a = (
    rw (is, a.0.1, a.1.0.1) (m.ordered.up o e.label d.label w h.0 r.0 (was_sent d.label a.1.0.0)),
    seen_rising q o is w (d ∷ ws) h.1 r.1 a.1,
  )

  -- and all within half the PDCP numbers
  seen_within : (q o : ℕ) → q ≡ pdcp_of sent o → In o (waiting_of l.entries) → (e : Entry ℕ) → o ≤ e.label → WaitsAs e → forward (2 ^ L) q e.pdcp < 2 ^ (L - 1)
  seen_within q o is w e h a = rw (is, a.1, ← half_is L ok) (m.ordered.near o e.label w h (was_sent e.label a.0))

  -- so it is, seen from the oldest
  abbrev Seen : List (Entry ℕ) → Type 0
  Seen ws =
      Rising (map (λ (e : Entry ℕ). forward (2 ^ L) (oldest_pdcp ws) e.pdcp) ws)
      × Each (λ (e : Entry ℕ). forward (2 ^ L) (oldest_pdcp ws) e.pdcp < 2 ^ (L - 1)) ws

  seen_oldest : (ws : List (Entry ℕ)) → Rising (packets ws) → Each WaitsAs ws → Seen ws
  seen_oldest [] r a = (tt, tt)
  seen_oldest (e ∷ ws) r a =
      let later : Each (λ (d : Entry ℕ). e.label ≤ d.label) (e ∷ ws) = in_each (λ (d : Entry ℕ). d.label) (λ (i : ℕ). e.label ≤ i) (e ∷ ws) (rising_first e.label (packets ws) r) in (
        seen_rising e.pdcp e.label a.0.1 a.0.0 (e ∷ ws) later r a,
        each_so (e ∷ ws) (λ d b. seen_within e.pdcp e.label a.0.1 a.0.0 d b.0 b.1) (each_both _ _ (e ∷ ws) later a),
      )

  -- at most half the PDCP numbers were sent from a waiting packet on
  sent_since : (i : ℕ) → In i (waiting_of l.entries) → length sent ≤ i + 2 ^ (L - 1)
  sent_since i h = rw (← half_is L ok) (few m.ordered i h)

-- every ledger that calls reach means what document 01 says
pub ledgers_mean : LedgersMean
ledgers_mean L first f l b x =
    let s = sound x in
    let m = s.master in
    let e = m.entries_are in
    let a = waiting_as s.ok m in
    let seen = seen_oldest s.ok m (waiting_in l.entries) (waiting_rising l.entries e.rising) a in
    let g = s.figures in
    record {
      same_length = m.bits_are;
      highest_is = g.highest_is;
      last_is = g.last_is;
      desired_is = g.desired_is;
      minimum_is = g.minimum_is;
      closed_is = g.closed_is;
      room_is = room_by_lem l b g.desired_is s.unheard s.sized;
      octets_are = s.summed ∙ sizes_of_entries l.entries;
      kept_room_is = ap (λ (n : ℕ). l.desired - n) s.summed;
      sum = let h = s.sum in omega (arith, h, counts_sum l.entries);
      in_order = e.rising;
      were_sent = each_so l.entries (λ d k. k.was_sent) e.sent_as_lem;
      numbered = each_so l.entries (λ d k. k.numbered) e.sent_as_lem;
      pdcps_are = each_so l.entries (λ d k. k.pdcp_is) e.sent_as_lem;
      sizes_are = each_so l.entries (λ d k. k.size_is) s.sized;
      sizes_within = each_so l.entries (λ d k. k.within) s.sized;
      octets_within = let n = sizes_few b.sizes l.entries s.sized in let k = e.most in let q = sizes_of_waiting b l.entries s.sized in omega (arith, n, k, q);
      next_is = m.next_is;
      oldest_is = m.oldest_is ∙ behind_lost l.entries;
      pdcps_rise = seen.0;
      within_half = seen.1;
      one_pdcp = λ i j hi hj. one_pdcp m.ordered i j hi hj (was_sent s.ok m i hi) (was_sent s.ok m j hj);
      not_highest = each_so (waiting_in l.entries) (λ d k q. m.ordered.not_highest d.label k.0 (sym k.1 ∙ q)) a;
      span = sent_since s.ok m;
      one_number = λ i j hi hj q.
          let n = roomy L s.ok in
          let p = few m.ordered i hi in
          let r = few m.ordered j hj in
          let si = was_sent s.ok m i hi in
          let sj = was_sent s.ok m j hj in
          same_packet (modulus_of L) first (positive L) i j (omega (arith, n.halves, n.more_pdcps, n.some_pdcps)) (omega (arith, n.halves, n.more_pdcps, n.some_pdcps)) q;
      most = e.most;
    }

-- ---- what sends and takes answer

-- a send that is accepted gives out the ledger's next number, and leaves what a send leaves
given_out : (l : Ledger ℕ) (p z a n : ℕ) → (send l p z a).answer ≡ done n → (n ≡ l.next) × ((send l p z a).state ≡ sent_state l p z a)
given_out l p z a n e =
    let shut = not_refused l.closed _ l _ n e in
    let bad = not_refused (not (ltb p (pdcps l.bits))) _ l _ n shut.1 in
    let odd = not_refused (not (is_size z)) _ l _ n bad.1 in
    let late = not_refused (not (is_in_order l p)) _ l _ n odd.1 in
    let full = not_refused (leb most_entries (length l.entries)) _ l _ n late.1 in
    (sym (done_one l.next n full.1), same_state (shut.2 ∙ bad.2 ∙ odd.2 ∙ late.2 ∙ full.2))

pub sends_mean : SendsMean
sends_mean L first f l b x p z n e =
    let g = given_out l p z (length b.sent) n e in
    (g.0 ∙ (sound x).master.next_is, rw (g.1, g.0))

-- the entries from the place of a take on: the first of them goes, and those in front of it are passed over
taken_from : (c : Bool) (t : Taken) (es : List (Entry ℕ)) (e : Entry ℕ) (b : List (Entry ℕ)) → drop (take_at c es) es ≡ e ∷ b → t ≡ taken_of e
    → TakenFrom c t es (take (take_at c es) es ++ b)
taken_from c t [] e b q h = absurd (let z : ◌≡◌ {A = ℕ} 0 1 = cc in omega arith)
taken_from c t (x ∷ es) e b q h = go (tested (c or not (waits x))) (taken_from c t es e b)
  where
    go : (c or not (waits x) ≡ true) ⊎ (c or not (waits x) ≡ false) → (drop (take_at c es) es ≡ e ∷ b → t ≡ taken_of e → TakenFrom c t es (take (take_at c es) es ++ b))
        → TakenFrom c t (x ∷ es) (take (take_at c (x ∷ es)) (x ∷ es) ++ b)
    go (inl y) rest =
        let same : x ∷ es ≡ e ∷ b = rw y at q in
        let here : x ≡ e = cc in
        let tail : es ≡ b = cc in
        rw y (rw (← tail) (this_one x es y (h ∙ ap taken_of (sym here))))
    go (inr y) rest = let n = or_false c (not (waits x)) y in rw y (passes_over x n.0 (not-false (waits x) n.1) (rest (rw y at q) h))

pub takes_mean : TakesMean
takes_mean l t e = go (drop (take_at l.closed l.entries) l.entries) refl
  where
    go : (rest : List (Entry ℕ)) → drop (take_at l.closed l.entries) l.entries ≡ rest → TakenFrom l.closed t l.entries (take_oldest l).state.entries
    go [] q = never_done _ t (sym (ap (λ (r : List (Entry ℕ)). (take_from l (take (take_at l.closed l.entries) l.entries) r).answer) q) ∙ e)
    go (x ∷ b) q =
        let says : (take_oldest l).answer ≡ done (taken_of x) = ap (λ (r : List (Entry ℕ)). (take_from l (take (take_at l.closed l.entries) l.entries) r).answer) q in
        let state : (take_oldest l).state.entries ≡ take (take_at l.closed l.entries) l.entries ++ b = ap (λ (r : List (Entry ℕ)). (take_from l (take (take_at l.closed l.entries) l.entries) r).state.entries) q in
        rw state (taken_from l.closed t l.entries x b q (done_one t (taken_of x) (sym e ∙ says)))
