-- Each open, and each call on a secondary that calls reach, is refused with the first number of document 01's order whose sentence holds, and
-- accepted if none does (specs/Refusals.antt): test by test, each of which says its sentence (Sentences.antt).
-- Assumes nothing.
use Rattle.std.specs.Prelude.{if◌then◌else◌}
use mathlib.Core.Path.{◌≡◌, refl, sym, ◌∙◌, ap, subst}
use mathlib.Core.Bool.{Bool, true, false, not}
use mathlib.Core.List.{List, [], ◌∷◌}
use mathlib.Core.Logic.{inl, inr, ⊎_elim}
use Prim.Native.Nat.{ℕ, ◌+◌, ◌≤◌, ◌<◌}
use native.Mathlib.Omega.{arith}
use borrow.Author.Tests.{ltb-true, leb-false, not-false}
use lib.Dec.{ltb, leb}
use lib.ListN.{length, drop, length-map}
use Rattle.basics.specs.Basics.{Outcome, ◌and◌, done, refused}
use Rattle.basics.specs.Refusals.{Refusal, ◌when◌, Given}
use Rattle.basics.proofs.Choices.{tested, contrary, and_true}
use Rattle.basics.proofs.Refusals.{Says, says_below, says_at_most, says_holds, says_and, says_past, given_of, given_by}
use Rattle.circle.specs.Sides.{Side, same, ahead, behind, opposite}
use Rattle.circle.specs.Lengths.{is_length, modulus_of, half, pdcps}
use Rattle.frame_layout.specs.Frames.{Written, most_ranges, status_octets, place, write_status}
use Rattle.bearer.specs.Bearer.{After, refusing, most_runs, most_records}
use Rattle.bearer.specs.Losses.{is_before, before}
use Rattle.bearer.specs.Keeper as K
use Rattle.bearer.specs.Keeper.{limit_of}
use Rattle.bearer.specs.Rule.{arrival, expiry}
use Rattle.bearer.specs.Packets.{forward_from, number_of, mark_of, lies_from}
use Rattle.bearer.specs.Account.{Account, indexes, run_at, listed, account_status}
use Rattle.bearer.specs.KeeperMeaning.{Reached, packet_at}
use Rattle.bearer.specs.Refusals.{open_refusals, arrival_refusals, expiry_refusals, confirm_refusals, status_refusals, anything_refusals, MarkBeyond, NoneToExpire, OpensGiven, CallsGiven, SecondaryGiven, QuestionsGiven}
use Rattle.bearer.proofs.Lists.Numbers.{positive, is_before_lem, not_before, never_ahead, lands}
use Rattle.bearer.proofs.Answers.Given.{says_length, says_number, call_by, one_test}
use Rattle.bearer.proofs.Secondary.Index.{Indexed, image, image_after, floor_i, place_i, has_i, runs_after_i, arrive_i}
use Rattle.bearer.proofs.Secondary.Image.{image_arrive_on, image_expire_below}
use Rattle.bearer.proofs.Secondary.Follows.{Follows, follows_has}
use Rattle.bearer.proofs.Secondary.FollowsArrival.{arrival_listed}
use Rattle.bearer.proofs.Secondary.FollowsExpiry.{not_beyond, expiry_listed}
use Rattle.bearer.proofs.Secondary.FollowsMeans.{follows_reach}
use Rattle.bearer.proofs.Secondary.MarkOf.{mark_is, mark_before, bears, beyond_test, none_test, never_beyond}
use Rattle.bearer.proofs.Secondary.Accounts.{indexed_of}
use Rattle.bearer.proofs.Secondary.KeeperMeans.{indexed, base_is}
use Rattle.bearer.proofs.Secondary.StatusesFit.{statuses_fit}
use Rattle.bearer.proofs.Secondary.Sentences.{says_has, says_span, says_runs, says_beyond, says_nothing, not_to_confirm, says_confirm}

-- ---- open: 7, 10

open_given : {A : Type 0} (L first f : ℕ) (fresh : A)
    → Given (open_refusals L first f) (if not (is_length L) then refused 7 else (if not (ltb first (modulus_of L) and ltb f (pdcps L)) then refused 10 else done fresh))
open_given L first f fresh =
    given_by (not (is_length L)) 7 (drop 1 (open_refusals L first f)) _ (says_length L)
    (λ _. given_by (not (ltb first (modulus_of L) and ltb f (pdcps L))) 10 [] _ (says_number L first f) (λ _. refl))

pub opens_given : OpensGiven
opens_given L first f = (open_given L first f _, open_given L first f _)

-- ---- an arrival by how it lies to base: 18, 11

-- opposite is none of the others
abbrev is_opposite : Side → Bool
is_opposite same = false
is_opposite ahead = false
is_opposite behind = false
is_opposite opposite = true

side_given : (k : K.Keeper) (n p : ℕ) (rs : List Refusal) (s : Side) → (is_before s ≡ false → Given rs (K.arrive_on k n p).answer)
    → Given ((18 when (s ≡ opposite)) ∷ (11 when (s ≡ behind)) ∷ rs) (K.arrive_by k n p s).answer
side_given k n p rs same on = inr ((λ e. contrary (ap is_opposite e) refl), inr ((λ e. contrary (ap is_before e) refl), on refl))
side_given k n p rs ahead on = inr ((λ e. contrary (ap is_opposite e) refl), inr ((λ e. contrary (ap is_before e) refl), on refl))
side_given k n p rs behind on = inr ((λ e. contrary (ap is_opposite e) refl), inl (refl, refl))
side_given k n p rs opposite on = inl (refl, refl)

-- ---- the calls on a state that follows its account

module _ (L first : ℕ) {base : ℕ} {a : Account} (F : Follows (half L) (indexed_of base a) a.fates a.told) where
  abbrev s : Indexed
  s = indexed_of base a

  abbrev k : K.Keeper
  k = image L first s

  -- 12, 13, 14, 15: of the packet that the number names
  arrive_at_given : (n p : ℕ) → n < modulus_of L → forward_from L first base n < half L
      → Given (drop 4 (arrival_refusals L first a base n p)) (arrive_i (half L) s p (place_i s (packet_at L first base n)) (forward_from L first base n)).answer
  arrive_at_given n p small near =
      let rs = arrival_refusals L first a base n p in
      let d : ℕ = forward_from L first base n in
      call_by (has_i s (base + d) (place_i s (base + d))) 12 (drop 5 rs) s _ (says_has L first F n d near (lands (modulus_of L) first (positive L) base n small))
      (λ new. call_by (leb (half L) (floor_i s + d)) 13 (drop 6 rs) s _ (says_span L first F n)
      (λ fits. call_by (ltb most_runs (length (runs_after_i s (limit_of d)))) 14 (drop 7 rs) s _
      (says_runs L first F (arrival a.fates (base + d)) (limit_of d) (arrival_listed F d (sym (follows_has F d) ∙ new) (leb-false (half L) (floor_i s + d) fits)))
      (λ _. call_by (leb most_records (length a.records)) 15 [] s _ (says_at_most most_records (length a.records))
      (λ _. refl))))

  -- 9, 10, 18, 11, and then by its packet
  arrive_given : (n p : ℕ) → Given (arrival_refusals L first a base n p) (K.arrive k n p).answer
  arrive_given n p =
      let rs = arrival_refusals L first a base n p in
      call_by a.final 9 (drop 1 rs) k _ (says_holds refl)
      (λ _. call_by (not (ltb n (modulus_of L) and ltb p (pdcps L))) 10 (drop 2 rs) k _ (says_number L n p)
      (λ numbers. side_given k n p (drop 4 rs) (lies_from L first base n) (λ on. by numbers (not_before L (number_of L first base) n on))))
    where
      d : ℕ
      d = forward_from L first base n

      at : n < modulus_of L → d < half L → K.arrive_on k n p ≡ image_after L first (arrive_i (half L) s p (place_i s (base + d)) d)
      at small near =
          ap (λ (m : ℕ). K.arrive_on k m p) (sym (lands (modulus_of L) first (positive L) base n small))
          ∙ image_arrive_on L first s (follows_reach F) d p near

      by : not (ltb n (modulus_of L) and ltb p (pdcps L)) ≡ false → d < half L → Given (drop 4 (arrival_refusals L first a base n p)) (K.arrive_on k n p).answer
      by numbers near =
          let small = ltb-true n (modulus_of L) (and_true (ltb n (modulus_of L)) (ltb p (pdcps L)) (not-false (ltb n (modulus_of L) and ltb p (pdcps L)) numbers)).0 in
          subst (λ (x : After K.Keeper ℕ). Given (drop 4 (arrival_refusals L first a base n p)) x.answer) (sym (at small near)) (arrive_at_given n p small near)

  module _ (n : ℕ) (small : n < modulus_of L) where
    -- the packet that the mark names, and how far the mark is forward from base
    abbrev mark : ℕ
    mark = mark_of L first n a.fates

    abbrev d : ℕ
    d = forward_from L first base n

    -- the calls' answer from 19 on
    abbrev Rest : Type 0
    Rest = Given (drop 2 (expiry_refusals L first a base n)) (if K.mark_beyond k n then refusing 19 k else (if K.none_precedes k n then refusing 17 k else K.expire_below k d)).answer

    -- 19, 17, 14, of a mark that doesn't lie before base
    mark_on_given : before (modulus_of L) (number_of L first base) n ≡ false → Rest
    mark_on_given on =
        let rs = expiry_refusals L first a base n in
        let near = not_before L (number_of L first base) n on in
        let beyond = beyond_test L first F n small on in
        call_by (K.mark_beyond k n) 19 (drop 3 rs) k _ (subst (λ (t : Bool). Says t (MarkBeyond L first a.fates base n)) (sym beyond) (says_beyond L first F n near))
        (λ e.
        let w = not_beyond base (indexes a.records) (base + d) (sym beyond ∙ e) in
        let named = mark_is L first F n d (bears L first F n small on) w in
        call_by (K.none_precedes k n) 17 (drop 4 rs) k _
        (subst (λ (t : Bool). Says t (NoneToExpire a.fates mark)) (sym (none_test L first F n small on)) (says_nothing L first F d mark named))
        (λ _. subst (λ (x : After K.Keeper ℕ). Given (drop 4 rs) x.answer) (sym (image_expire_below L first s (follows_reach F) d (omega arith)))
        (call_by (ltb most_runs (length (runs_after_i s d))) 14 [] s _ (says_runs L first F (expiry a.fates mark) d (rw named (expiry_listed F d w)))
        (λ _. refl))))

    -- of one that does: not 19, and 17
    mark_before_given : before (modulus_of L) (number_of L first base) n ≡ true → Rest
    mark_before_given e =
        let rs = expiry_refusals L first a base n in
        let far = is_before_lem L (number_of L first base) n e in
        let low : mark ≤ base = mark_before L first F n far in
        call_by (K.mark_beyond k n) 19 (drop 3 rs) k _
        (record { there = λ t. absurd (contrary t (never_beyond L first F n e)); back = λ beyond. absurd (omega (arith, beyond.0)) })
        (λ _. call_by (K.none_precedes k n) 17 (drop 4 rs) k _
        (record { there = λ _ i l. F.fates.lowest.none_below i (omega arith); back = λ _. never_ahead (modulus_of L) (number_of L first base) n e })
        (λ some. absurd (contrary (never_ahead (modulus_of L) (number_of L first base) n e) some)))

  -- 9, 10, and then by whether the mark lies before base
  expire_given : (n : ℕ) → Given (expiry_refusals L first a base n) (K.expire k n).answer
  expire_given n =
      let rs = expiry_refusals L first a base n in
      call_by a.final 9 (drop 1 rs) k _ (says_holds refl)
      (λ _. call_by (leb (modulus_of L) n) 10 (drop 2 rs) k _ (says_at_most (modulus_of L) n)
      (λ number.
      let small = leb-false (modulus_of L) n number in
      ⊎_elim (mark_before_given n small) (mark_on_given n small) (tested (before (modulus_of L) (number_of L first base) n))))

  -- 9, 10, 16
  confirm_given : (n : ℕ) → Given (confirm_refusals L first a base n) (K.confirm k n).answer
  confirm_given n =
      let rs = confirm_refusals L first a base n in
      call_by a.final 9 (drop 1 rs) k _ (says_holds refl)
      (λ _. call_by (not (ltb n (modulus_of L))) 10 (drop 2 rs) k _ (says_past n (modulus_of L))
      (λ _. subst (λ (x : After K.Keeper Unit). Given (drop 2 rs) x.answer) (sym (one_test (leb (length (K.held k)) (K.index_of n (K.held k))) _ _ _))
      (call_by (not_to_confirm L first F n) 16 [] k _ (says_confirm L first F n)
      (λ _. refl))))

  -- 9, 22, 20, where the writer refuses for want of room alone
  status_given : (d m : ℕ) (final : Bool) (buffer : List ℕ) → write_status (K.status_now k d m final) buffer ≡ place (status_octets (account_status L first a d m final)) buffer
      → Given (status_refusals L first a d m final buffer) (K.status k d m final buffer).answer
  status_given d m final buffer fits =
      let rs = status_refusals L first a d m final buffer in
      let answer : K.Reported → Outcome ℕ = λ x. x.answer in
      given_of answer a.final 9 (drop 1 rs) (K.unreported 9 k buffer) _ (says_holds refl) refl
      (λ _. given_of answer (final and ltb most_ranges (length k.runs)) 22 (drop 2 rs) (K.unreported 22 k buffer) _ runs_over refl
      (λ _. subst (λ (x : Written). Given (drop 2 rs) x.answer) (sym fits)
      (given_of (λ (x : Written). x.answer) (ltb (length buffer) (length (status_octets (account_status L first a d m final)))) 20 [] _ _ (says_below (length buffer) _) refl
      (λ _. refl))))
    where
      runs_over : Says (final and ltb most_ranges (length k.runs)) ((final ≡ true) × (162 < length (listed a)))
      runs_over =
          rw (length-map (listed a) (run_at L first)) (says_and (says_holds refl) (says_below most_ranges (length (listed a))))

  -- 9
  anything_given : Given (anything_refusals a) (K.anything k)
  anything_given = given_by a.final 9 [] _ (says_holds refl) (λ _. refl)

-- ---- the calls on a state that calls reach

calls_given : {L first f : ℕ} {k : K.Keeper} {a : Account} (x : Reached L first f k a) → CallsGiven L first k a (indexed L first f x).base
calls_given {L} {first} {f} {k} {a} x =
    let i = indexed L first f x in
    let back = sym i.state_is in
    record {
      arrivals = λ n p. subst (λ (y : K.Keeper). Given (arrival_refusals L first a i.base n p) (K.arrive y n p).answer) back (arrive_given L first i.follows n p);
      expiries = λ n. subst (λ (y : K.Keeper). Given (expiry_refusals L first a i.base n) (K.expire y n).answer) back (expire_given L first i.follows n);
      confirms = λ n. subst (λ (y : K.Keeper). Given (confirm_refusals L first a i.base n) (K.confirm y n).answer) back (confirm_given L first i.follows n);
      statuses = λ d m final buffer.
          subst (λ (y : K.Keeper). Given (status_refusals L first a d m final buffer) (K.status y d m final buffer).answer) back
          (status_given L first i.follows d m final buffer
          (ap (λ (y : K.Keeper). write_status (K.status_now y d m final) buffer) back ∙ statuses_fit L first f x d m final buffer));
    }

pub secondary_given : SecondaryGiven
secondary_given L first f k a x base low = subst (CallsGiven L first k a) (base_is (indexed L first f x) base low) (calls_given x)

pub questions_given : QuestionsGiven
questions_given L first f k a x =
    let i = indexed L first f x in
    subst (λ (y : K.Keeper). Given (anything_refusals a) (K.anything y)) (sym i.state_is) (anything_given L first i.follows)
