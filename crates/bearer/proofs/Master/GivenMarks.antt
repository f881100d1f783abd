-- The ranges and the highest of a status that a master judges, 33 and 34 of document 01's table: the pass over the ranges finds waiting packets of
-- their numbers exactly if these rise in sending order, and then someone waits for the highest exactly if it is that of a waiting packet which
-- the ranges leave out.
-- Assumes nothing.
use mathlib.Core.Path.{◌≡◌, refl, sym}
use mathlib.Core.Bool.{true, not}
use mathlib.Core.List.{List, [], ◌∷◌, map}
use mathlib.Core.Option.{Option, none, some}
use mathlib.Core.Logic.{◌⊎◌, inl, inr, ⊎_elim}
use Prim.Native.Nat.{ℕ, ◌<◌}
use native.Mathlib.Omega.{arith}
use lib.Dec.{eqb}
use lib.ListN.{get_or}
use Rattle.basics.specs.Basics.{◌or◌, Outcome}
use Rattle.basics.specs.Refusals.{Refusal, ◌when◌, Given}
use Rattle.basics.proofs.Choices.{tested, contrary}
use Rattle.basics.proofs.Refusals.{Says, says_same, says_or, says_not, says_as, given_of}
use Rattle.circle.specs.Lengths.{modulus_of}
use Rattle.frame_layout.specs.Frames.{Range, Status}
use Rattle.bearer.specs.Bearer.{After}
use Rattle.bearer.specs.Ledger.{Entry, Ledger, Passed, mark_lost, waits_for, accept_marked}
use Rattle.bearer.specs.Rule.{is_in}
use Rattle.bearer.specs.Packets.{number_of, packets, In, Each, in_ranges}
use Rattle.bearer.specs.LedgerMeaning.{Books, LedgerReached, TurnedLost, turned_end, turns, as_it_was}
use Rattle.bearer.specs.Refusals.{NotRising, HighestUnknown}
use Rattle.bearer.proofs.Lists.Elements.{in_cons, in_map, not_in, not_in_map, each_there, there_each, rising_cons, rising_head}
use Rattle.bearer.proofs.Lists.Mapped.{each_so}
use Rattle.bearer.proofs.Master.Marks.{waiting_of, marked, waiting_held, InStep, instep_rest, Picked, passed, pass_finds}
use Rattle.bearer.proofs.Master.Frees.{some_bears, waiting_first, waiting_rest, marked_waits, marked_keeps}
use Rattle.bearer.proofs.Master.Sound.{Entries, oldest_of, in_step}
use Rattle.bearer.proofs.Master.Applied.{master_turns, entries_turned, waited, bears_one}
use Rattle.bearer.proofs.Master.Accepts.{marked_turned}
use Rattle.bearer.proofs.Master.AcceptsAny.{waiter}
use Rattle.bearer.proofs.Master.LedgerMeans.{sound, ledgers_mean}

-- what a call answers
abbrev pub answer_of : {S A : Type 0} → After S A → Outcome A
answer_of a = a.answer

-- ---- the packets that a pass found

-- waiting packets of these numbers, in sending order
record NumberedSo (L first : ℕ) (ns : List ℕ) (es : List (Entry ℕ)) : Type 0 where
  pub packets_are : List ℕ
  pub picked : Picked packets_are es
  pub numbers_are : map (number_of L first) packets_are ≡ ns

-- such are those that turned lost
turned_so : {L first lo : ℕ} {ns : List ℕ} {es ds : List (Entry ℕ)} → InStep L first lo es → TurnedLost ns es ds → NumberedSo L first ns es
turned_so s turned_end = record { packets_are = []; picked = record { in_order = tt; all_wait = λ x h. h }; numbers_are = refl }
turned_so {L} {first} {lo} s (turns {es = es} e w t) =
    let r = turned_so (instep_rest L first lo e es s) t in
    let p = r.picked in
    record {
      packets_are = e.label ∷ r.packets_are;
      picked = record {
        in_order = rising_cons e.label r.packets_are (λ x h. rising_head e.label (packets es) s.rising x (waiting_held x es (p.all_wait x h))) p.in_order;
        all_wait = λ x h. ⊎_elim (λ q. rw q (waiting_first e es w)) (λ k. waiting_rest x e es (p.all_wait x k)) (in_cons x e.label r.packets_are h);
      };
      numbers_are = rw (r.numbers_are, s.numbered.0);
    }
turned_so {L} {first} {lo} s (as_it_was {es = es} e t) =
    let r = turned_so (instep_rest L first lo e es s) t in
    record {
      packets_are = r.packets_are;
      picked = record { in_order = r.picked.in_order; all_wait = λ x h. waiting_rest x e es (r.picked.all_wait x h) };
      numbers_are = r.numbers_are;
    }

-- a waiting packet with a PDCP number, whose own number isn't one of these
record LeftOut (L first : ℕ) (sent waiting ns : List ℕ) (h : ℕ) : Type 0 where
  pub packet : ℕ
  pub waits_yet : In packet waiting
  pub pdcp_is : get_or sent packet 0 ≡ h
  pub out : In (number_of L first packet) ns → ⊥

module _ {L first f : ℕ} {l : Ledger ℕ} {b : Books} (x : LedgerReached L first f l b) (s : Status) (ends : Each (λ (r : Range). r.end < modulus_of L) s.ranges) where
  -- packets of the ranges' numbers that wait in sending order are found
  finds_picked : (is : List ℕ) → Picked is l.entries → map (number_of L first) is ≡ in_ranges L s.ranges
      → mark_lost l.bits l.entries s.ranges ≡ some (passed is l.entries)
  finds_picked is p q =
      let y = sound x in
      rw y.master.bits_are (pass_finds L first (oldest_of (waiting_of l.entries)) l.entries s.ranges is (in_step y.ok y.master) p ends q)

  -- where the pass finds none, none rise: 33
  none_rise : mark_lost l.bits l.entries s.ranges ≡ none → NotRising L first (waiting_of l.entries) s
  none_rise q is up wait numbers =
      let found = finds_picked is (record { in_order = up; all_wait = each_there (λ (i : ℕ). In i (waiting_of l.entries)) is wait }) numbers in
      absurd (let z : ◌≡◌ {A = ℕ} 0 1 = cc in omega arith)

  -- what it finds does rise: no 33
  found_so : (m : Passed ℕ) → mark_lost l.bits l.entries s.ranges ≡ some m → NumberedSo L first (in_ranges L s.ranges) l.entries
  found_so m found = let y = sound x in turned_so (in_step y.ok y.master) (master_turns y.master s.ranges m found).turned

  module _ (r : NumberedSo L first (in_ranges L s.ranges) l.entries) where
    some_rise : NotRising L first (waiting_of l.entries) s → ⊥
    some_rise unmet =
        unmet r.packets_are r.picked.in_order (there_each (λ (i : ℕ). In i (waiting_of l.entries)) r.packets_are r.picked.all_wait) r.numbers_are

    -- the entries when the ranges are applied
    abbrev applied : List (Entry ℕ)
    applied = marked r.packets_are l.entries

    held : Entries L first (sound x).cut b.sent applied
    held = entries_turned (marked_turned r.packets_are l.entries) (sound x).master.entries_are

    -- a waiting entry that this frame leaves out of its ranges waits still
    abbrev Left : Type 0
    Left = LeftOut L first b.sent (waiting_of l.entries) (in_ranges L s.ranges) s.highest

    still_waits : Left → waits_for s.highest applied ≡ true
    still_waits n =
        let y = sound x in
        let unnamed = not_in n.packet r.packets_are (λ h. n.out (rw r.numbers_are at (in_map (number_of L first) n.packet r.packets_are h))) in
        some_bears s.highest n.packet applied (marked_keeps n.packet r.packets_are l.entries n.waits_yet unnamed)
        (rw (← n.pdcp_is) (bears_one y.master n.packet n.waits_yet applied held (waited (marked_turned r.packets_are l.entries))))

    -- and who waits still is such
    was_left : waits_for s.highest applied ≡ true → Left
    was_left t =
        let w = waiter b.sent s.highest applied (each_so applied (λ e k. k.pdcp_is) held.sent_as_lem) t in
        let still = marked_waits w.packet r.packets_are l.entries w.waiting in
        record {
          packet = w.packet;
          waits_yet = still.0;
          pdcp_is = sym w.pdcp_is;
          out = λ h.
              not_in_map (number_of L first) (number_of L first w.packet) r.packets_are
              (λ i k q.
              let one : i ≡ w.packet = (ledgers_mean L first f l b x).one_number i w.packet (r.picked.all_wait i k) still.0 q in
              contrary k (rw one still.1))
              (rw r.numbers_are h);
        }

    -- 34
    highest_says : Says (not (eqb s.highest l.highest or waits_for s.highest applied)) (HighestUnknown L first b (waiting_of l.entries) s)
    highest_says =
        let named = says_or (says_same s.highest b.highest) (record { there = was_left; back = still_waits }) in
        rw (sound x).figures.highest_is (says_as (says_not named) unknown known)
      where
        listed : (Left → ⊥) → (i : ℕ) → In i (waiting_of l.entries) → get_or b.sent i 0 ≡ s.highest → In (number_of L first i) (in_ranges L s.ranges)
        listed none_left i w q =
            ⊎_elim (λ h. h) (λ h. absurd (none_left (record { packet = i; waits_yet = w; pdcp_is = q; out = λ k. contrary k h })))
            (tested (is_in (number_of L first i) (in_ranges L s.ranges)))

        unknown : ((s.highest ≡ b.highest) ⊎ Left → ⊥) → HighestUnknown L first b (waiting_of l.entries) s
        unknown unmet = ((λ e. unmet (inl e)), listed (λ n. unmet (inr n)))

        known : HighestUnknown L first b (waiting_of l.entries) s → (s.highest ≡ b.highest) ⊎ Left → ⊥
        known u = ⊎_elim u.0 (λ n. n.out (u.1 n.packet n.waits_yet n.pdcp_is))

  -- the order, from 33 on
  abbrev pub from33 : List Refusal
  from33 = (33 when NotRising L first (waiting_of l.entries) s) ∷ (34 when HighestUnknown L first b (waiting_of l.entries) s) ∷ []

  -- 33, 34, or accepted
  pub marks_given : (m : Option (Passed ℕ)) → mark_lost l.bits l.entries s.ranges ≡ m → Given from33 (accept_marked l s m).answer
  marks_given none q = inl (none_rise q, refl)
  marks_given (some m) q =
      let r = found_so m q in
      let same : m ≡ passed r.packets_are l.entries = let p = finds_picked r.packets_are r.picked r.numbers_are in cc in
      rw same (inr (some_rise r, given_of answer_of _ 34 [] _ _ (highest_says r) refl (λ _. refl)))
