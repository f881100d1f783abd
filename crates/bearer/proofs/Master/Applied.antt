-- A ledger is sound when it is opened, and what an accepted status leaves is sound again, whoever made the frame: waiting entries
-- turned lost, and then those freed that wait through the packet of the frame's highest.
-- Assumes nothing.
use Rattle.std.specs.Prelude.{if◌then◌else◌}
use mathlib.Core.Path.{◌≡◌, refl, sym, ◌∙◌, ap}
use mathlib.Core.Bool.{Bool, true, false}
use mathlib.Core.List.{List, [], ◌∷◌}
use mathlib.Core.Option.{some}
use mathlib.Core.Logic.{⊎_elim}
use Prim.Native.Nat.{ℕ, suc, ◌+◌, ◌≤◌, ◌<◌}
use native.Mathlib.Omega.{arith}
use native.Mathlib.Nat.{mod-lt}
use lib.Dec.{leb}
use lib.ListN.{length}
use Rattle.basics.specs.Basics.{◌and◌}
use Rattle.basics.proofs.Choices.{contrary}
use Rattle.circle.specs.Lengths.{is_length, modulus_of}
use Rattle.frame_layout.specs.Frames.{Range, Status}
use Rattle.bearer.specs.Ledger.{Entry, Ledger, Passed, fresh_ledger, waits, waiting_at, as_lost, mark_lost, accepted_state}
use Rattle.bearer.specs.Packets.{packets, In, Each}
use Rattle.bearer.specs.LedgerMeaning.{TurnedLost, turned_end, turns, as_it_was}
use Rattle.bearer.proofs.Lists.Elements.{in_none}
use Rattle.bearer.proofs.Lists.Mapped.{each_so, each_both}
use Rattle.bearer.proofs.Lists.Numbers.{first_number, positive}
use Rattle.bearer.proofs.Master.Marks.{waiting_of, waiting_cases}
use Rattle.bearer.proofs.Master.Pdcps.{pdcp_of, one_pdcp, fewer, moves}
use Rattle.bearer.proofs.Master.Frees.{left_over, Bears, each_left, left_rising, left_waits, waiting_first, waiting_rest, each_waiting}
use Rattle.bearer.proofs.Master.Oldest.{found_from, oldest_turned, oldest_left}
use Rattle.bearer.proofs.Master.Turned.{Turns, turns_lost}
use Rattle.bearer.proofs.Master.Sound.{Entries, entries_fewer, waiting_sent, Master}

-- a fresh ledger is sound
pub master_opened : (L first f : ℕ) → is_length L ≡ true → first < modulus_of L
    → Master L first 0 [] (fresh_ledger L first f)
master_opened L first f ok small = record {
  bits_are = refl;
  next_is = first_number L first small;
  cut_sent = omega arith;
  oldest_is = refl;
  entries_are = record { rising = tt; sent_as_lem = tt; from_cut = tt; most = omega arith };
  ordered = record {
    below = λ i l. absurd (omega arith);
    up = λ o i j w a b l. absurd (omega arith);
    near = λ o i w a l. absurd (omega arith);
    not_highest = λ o w. absurd (in_none w);
    last_is = λ l. absurd (omega arith);
  };
}

-- ---- what waits

-- of entries that waited only that of packet g bears its PDCP number
pub bears_one : {L first cut : ℕ} {sent : List ℕ} {l : Ledger ℕ} → Master L first cut sent l → (g : ℕ) → In g (waiting_of l.entries)
    → (es : List (Entry ℕ)) → Entries L first cut sent es → ((x : ℕ) → In x (waiting_of es) → In x (waiting_of l.entries)) → Each (Bears (pdcp_of sent g) g) es
bears_one {sent = sent} {l} m g h es s f =
    each_so es (λ e b w. ((λ q. b.1 w (sym b.0.pdcp_is ∙ q)), (λ q. b.0.pdcp_is ∙ ap (pdcp_of sent) q)))
    (each_both _ _ es s.sent_as_lem (each_waiting (λ (e : Entry ℕ). pdcp_of sent e.label ≡ pdcp_of sent g → e.label ≡ g) es (λ e w p. one e.label (f e.label p))))
  where
    one : (x : ℕ) → In x (waiting_of l.entries) → pdcp_of sent x ≡ pdcp_of sent g → x ≡ g
    one x p = one_pdcp m.ordered x g p h (waiting_sent x l.entries m.entries_are p).1 (waiting_sent g l.entries m.entries_are h).1

-- ---- entries turned lost

-- what holds of every entry, lost or not, holds of every one after it
pub each_turned : (P : Entry ℕ → Type 0) {ns : List ℕ} {es ds : List (Entry ℕ)} → ((e : Entry ℕ) → P e → P (as_lost e)) → TurnedLost ns es ds → Each P es → Each P ds
each_turned P f turned_end a = tt
each_turned P f (turns e w t) a = (f e a.0, each_turned P f t a.1)
each_turned P f (as_it_was e t) a = (a.0, each_turned P f t a.1)

pub packets_turned : {ns : List ℕ} {es ds : List (Entry ℕ)} → TurnedLost ns es ds → packets ds ≡ packets es
packets_turned turned_end = refl
packets_turned (turns e w t) = ap (λ (l : List ℕ). e.label ∷ l) (packets_turned t)
packets_turned (as_it_was e t) = ap (λ (l : List ℕ). e.label ∷ l) (packets_turned t)

pub length_turned : {ns : List ℕ} {es ds : List (Entry ℕ)} → TurnedLost ns es ds → length ds ≡ length es
length_turned turned_end = refl
length_turned (turns e w t) = ap suc (length_turned t)
length_turned (as_it_was e t) = ap suc (length_turned t)

-- who waits then had waited
pub waited : {ns : List ℕ} {es ds : List (Entry ℕ)} → TurnedLost ns es ds → (x : ℕ) → In x (waiting_of ds) → In x (waiting_of es)
waited turned_end x h = h
waited (turns {es = es} e w t) x h = waiting_rest x e es (waited t x h)
waited (as_it_was {es = es} {ds = ds} e t) x h = ⊎_elim (λ w. rw w.1 (waiting_first e es w.0)) (λ p. waiting_rest x e es (waited t x p)) (waiting_cases x e ds h)

-- the pass over any ranges does so to a sound ledger's entries
pub master_turns : {L first cut : ℕ} {sent : List ℕ} {l : Ledger ℕ} → Master L first cut sent l → (rs : List Range) (p : Passed ℕ)
    → mark_lost l.bits l.entries rs ≡ some p → Turns L rs l.entries p
master_turns {L} {first} {cut} {sent} {l} m rs p found =
    turns_lost L l.entries rs p fits (rw m.bits_are at found)
  where
    fits : Each (λ (e : Entry ℕ). e.number < modulus_of L) l.entries
    fits = each_so l.entries (λ e k. rw k.numbered (mod-lt (first + e.label) (positive L))) m.entries_are.sent_as_lem

-- lost entries are as good as waiting ones
pub entries_turned : {L first cut : ℕ} {sent ns : List ℕ} {es ds : List (Entry ℕ)} → TurnedLost ns es ds → Entries L first cut sent es → Entries L first cut sent ds
entries_turned t s = record {
  rising = rw (packets_turned t) s.rising;
  sent_as_lem = each_turned _ (λ e k. record { numbered = k.numbered; pdcp_is = k.pdcp_is; was_sent = k.was_sent }) t s.sent_as_lem;
  from_cut = each_turned _ (λ e h w. absurd (contrary w refl)) t s.from_cut;
  most = rw (length_turned t) s.most;
}

-- ---- entries freed

length_left : (g : ℕ) (es : List (Entry ℕ)) → length (left_over g es) ≤ length es
length_left g [] = omega arith
length_left g (e ∷ es) = go (waits e and leb e.label g) (length_left g es)
  where
    go : (b : Bool) → length (left_over g es) ≤ length es → length (if b then left_over g es else (e ∷ left_over g es)) ≤ suc (length es)
    go true h = omega arith
    go false h = omega arith

entries_left : {L first cut : ℕ} {sent : List ℕ} (g : ℕ) (es : List (Entry ℕ)) → Entries L first cut sent es → Entries L first (suc g) sent (left_over g es)
entries_left g es s =
    entries_fewer s (left_rising g es s.rising) (λ P. each_left P g es) (length_left g es)
    (each_waiting (λ (e : Entry ℕ). suc g ≤ e.label) (left_over g es) (λ e w p. (left_waits e.label g es p).1))

-- ---- the ledger after both

module _ {L first cut : ℕ} {sent : List ℕ} {l : Ledger ℕ} (m : Master L first cut sent l) (s : Status) {ns : List ℕ} {ds : List (Entry ℕ)} (t : TurnedLost ns l.entries ds) where
  -- the oldest waiting entry is found from where it stood, in what is left of those turned
  oldest_after : (es : List (Entry ℕ)) → waiting_at ds ≤ waiting_at es → (accepted_state l s es).oldest ≡ waiting_at es
  oldest_after es h = let was = m.oldest_is in let on = oldest_turned t in found_from l.oldest es (omega arith)

  -- the highest stays: nothing is freed
  pub master_stays : s.highest ≡ l.highest → Master L first cut sent (accepted_state l s ds)
  master_stays e = record {
    bits_are = m.bits_are;
    next_is = m.next_is;
    cut_sent = m.cut_sent;
    oldest_is = oldest_after ds (omega arith);
    entries_are = entries_turned t m.entries_are;
    ordered = rw e (fewer m.ordered {ws' = waiting_of ds} (waited t));
  }

  -- the highest moves to packet g: what waits through g is freed
  pub master_moves : (g : ℕ) → In g (waiting_of ds) → s.highest ≡ pdcp_of sent g → Master L first (suc g) sent (accepted_state l s (left_over g ds))
  master_moves g w e =
      let held = entries_turned t m.entries_are in
      record {
        bits_are = m.bits_are;
        next_is = m.next_is;
        cut_sent = (waiting_sent g ds held w).1;
        oldest_is = oldest_after (left_over g ds) (oldest_left g ds);
        entries_are = entries_left g ds held;
        ordered = rw e (moves m.ordered g (waited t g w) (λ x p. let q = left_waits x g ds p in (waited t x q.0, q.1, (waiting_sent x ds held q.0).1)));
      }
