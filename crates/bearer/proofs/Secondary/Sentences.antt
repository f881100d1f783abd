-- Tests of the secondary's machine, on packet indexes where it has them (Index.antt), and the sentences of document 01's table that they say
-- (specs/Refusals.antt): 12, 13, 14, 16, 17 and 19.
-- Assumes nothing.
use Rattle.std.specs.Prelude.{if◌then◌else◌}
use mathlib.Core.Path.{◌≡◌, refl, sym, ◌∙◌, ap, subst}
use mathlib.Core.Bool.{Bool, true, false, not}
use mathlib.Core.List.{List, [], ◌∷◌, map}
use mathlib.Core.Logic.{inl, inr, ⊎_elim}
use Prim.Native.Nat.{ℕ, zero, suc, ◌+◌, ◌-◌, ◌≤◌, ◌<◌}
use native.Mathlib.Omega.{arith}
use native.Mathlib.Nat.{le_of_suc-le-suc}
use borrow.Author.Tests.{ltb-false, le-ltb, le-leb, lt-leb, eqb-true, eqb-false, not-true}
use lib.Dec.{ltb, leb, eqb}
use lib.ListN.{length, get_or, length-map}
use Rattle.basics.specs.Basics.{◌or◌}
use Rattle.basics.specs.Refusals.{Some}
use Rattle.basics.proofs.Choices.{tested, refuted, contrary, order, or_true, or_left, or_right}
use Rattle.basics.proofs.Refusals.{Says, says_as, says_below, says_at_most}
use Rattle.circle.specs.Lengths.{modulus_of, half}
use Rattle.bearer.specs.Bearer.{most_runs}
use Rattle.bearer.specs.Losses.{Gap, before}
use Rattle.bearer.specs.Keeper as K
use Rattle.bearer.specs.Rule.{Fates, is_in}
use Rattle.bearer.specs.Packets.{forward_from, number_of, In, Rising, Each}
use Rattle.bearer.specs.Account.{Held, Account, indexes, runs_in, untold}
use Rattle.bearer.specs.KeeperMeaning.{record_at, packet_at}
use Rattle.bearer.specs.Refusals.{Bears, floor_of, SpanTooLong, TooManyRuns, NotToConfirm, MarkBeyond, NoneToExpire}
use Rattle.bearer.proofs.Lists.Mapped.{each_at}
use Rattle.bearer.proofs.Lists.Elements.{in_none, in_head, in_tail, in_cons, rising_tail}
use Rattle.bearer.proofs.Lists.Some.{some_so, some_both, some_at, some_never}
use Rattle.bearer.proofs.Lists.Numbers.{whole, positive, before_is}
use Rattle.bearer.proofs.Secondary.Index.{image, no_held, floor_i, place_i, has_i, runs_after_i, beyond_i}
use Rattle.bearer.proofs.Secondary.ImageState.{Near, one_packet, near_held}
use Rattle.bearer.proofs.Secondary.ImageStatus.{index_of_at, record_at_lem, held_at}
use Rattle.bearer.proofs.Secondary.Follows.{Follows, record_received, recorded, follows_has}
use Rattle.bearer.proofs.Secondary.FollowsExpiry.{not_beyond}
use Rattle.bearer.proofs.Secondary.FollowsMeans.{follows_reach}
use Rattle.bearer.proofs.Secondary.MarkOf.{in_highest, highest_most, accepted_before}
use Rattle.bearer.proofs.Secondary.Accounts.{indexed_of, past_first}
use Rattle.bearer.proofs.Secondary.Floor.{floor_is}

-- ---- records by their packets

-- a packet has a record
says_in : (i : ℕ) (hs : List Held) → Says (is_in i (indexes hs)) (Some (λ (h : Held). h.index ≡ i) hs)
says_in i hs = record { there = there hs; back = back hs }
  where
    there : (xs : List Held) → In i (indexes xs) → Some (λ (h : Held). h.index ≡ i) xs
    there [] t = in_none t
    there (x ∷ xs) t = ⊎_elim (λ q. inl (sym q)) (λ u. inr (there xs u)) (in_cons i x.index (indexes xs) t)

    back : (xs : List Held) → Some (λ (h : Held). h.index ≡ i) xs → In i (indexes xs)
    back [] s = elim s [ ]
    back (x ∷ xs) (inl q) = rw q (in_head i (indexes xs))
    back (x ∷ xs) (inr s) = in_tail i x.index (indexes xs) (back xs s)

-- what holds of some record of a place's packet holds of the one there: a packet has one record
only_one : (P : Held → Type 0) (hs : List Held) (p : ℕ) → Rising (indexes hs) → p < length hs
    → Some (λ (h : Held). (h.index ≡ (get_or hs p no_held).index) × P h) hs → P (get_or hs p no_held)
only_one P [] p r l s = elim s [ ]
only_one P (x ∷ xs) zero r l (inl w) = w.1
only_one P (x ∷ xs) zero r l (inr s) =
    absurd (some_never _ xs (λ h w. omega (arith, w.0, w.1.0))
    (some_both (λ (h : Held). x.index < h.index) (λ (h : Held). (h.index ≡ x.index) × P h) xs (past_first x xs r) s))
only_one P (x ∷ xs) (suc p) r l (inl w) =
    absurd (omega (arith, w.0, each_at (λ (h : Held). x.index < h.index) xs p no_held (le_of_suc-le-suc l) (past_first x xs r)))
only_one P (x ∷ xs) (suc p) r l (inr s) = only_one P xs p (rising_tail x.index (indexes xs) r) (le_of_suc-le-suc l) s

-- a number that a record bears is found
bears_found : (L first n : ℕ) (hs : List Held) → Some (Bears L first n) hs → K.index_of n (K.numbers_of (map (record_at L first) hs)) < length hs
bears_found L first n [] s = elim s [ ]
bears_found L first n (x ∷ xs) s = by (eqb (number_of L first x.index) n) refl s (bears_found L first n xs)
  where
    place : ℕ
    place = K.index_of n (K.numbers_of (map (record_at L first) xs))

    by : (t : Bool) → eqb (number_of L first x.index) n ≡ t → Some (Bears L first n) (x ∷ xs) → (Some (Bears L first n) xs → place < length xs)
        → (if t then 0 else suc place) < suc (length xs)
    by true e s f = omega arith
    by false e (inl b) f = absurd (eqb-false (number_of L first x.index) n e b)
    by false e (inr s) f = let l = f s in omega arith

-- ---- the sentences

module _ (L first : ℕ) {base : ℕ} {a : Account} (F : Follows (half L) (indexed_of base a) a.fates a.told) where
  near : Each (λ (h : Held). Near (half L) base h.index) a.records
  near = near_held L first (indexed_of base a) (follows_reach F)

  -- a record that bears the number of a packet near base is that packet's
  bears_one : (n i : ℕ) → Near (half L) base i → number_of L first i ≡ n → (h : Held) → Near (half L) base h.index × Bears L first n h → h.index ≡ i
  bears_one n i near-i e h w = one_packet L first base h.index i w.0 near-i (w.1 ∙ sym e)

  -- 12, of the packet d past base
  pub says_has : (n d : ℕ) → d < half L → number_of L first (base + d) ≡ n
      → Says (has_i (indexed_of base a) (base + d) (place_i (indexed_of base a) (base + d))) (Some (Bears L first n) a.records)
  says_has n d l e =
      subst (λ (t : Bool). Says t (Some (Bears L first n) a.records)) (sym (follows_has F d ∙ sym (recorded F (base + d) (omega arith))))
      (says_as (says_in (base + d) a.records)
      (some_so a.records (λ h q. ap (number_of L first) q ∙ e))
      (λ s. some_so a.records (bears_one n (base + d) (omega arith, omega arith) e)
      (some_both (λ (h : Held). Near (half L) base h.index) (Bears L first n) a.records near s)))

  -- 13
  pub says_span : (n : ℕ) → Says (leb (half L) (floor_i (indexed_of base a) + forward_from L first base n)) (SpanTooLong L first a base n)
  says_span n =
      subst (λ (f : ℕ). Says (leb (half L) (f + forward_from L first base n)) (SpanTooLong L first a base n)) (sym (floor_is F))
      (says_at_most (half L) ((base - floor_of a base) + forward_from L first base n))

  -- 14, of the fates after a call that gives up what is below l
  pub says_runs : (r : Fates) (l : ℕ) → runs_in (untold a.told r) ≡ runs_after_i (indexed_of base a) l
      → Says (ltb most_runs (length (runs_after_i (indexed_of base a) l))) (TooManyRuns a r)
  says_runs r l e =
      subst (λ (gs : List Gap). Says (ltb most_runs (length gs)) (TooManyRuns a r)) e (says_below most_runs (length (runs_in (untold a.told r))))

  -- 19, of a mark less than half the circle forward from base
  pub says_beyond : (n : ℕ) → forward_from L first base n < half L → Says (beyond_i base (indexes a.records) (packet_at L first base n)) (MarkBeyond L first a.fates base n)
  says_beyond n near-mark = record { there = there; back = back }
    where
      d : ℕ
      d = forward_from L first base n

      got : List ℕ
      got = a.fates.received

      there : beyond_i base (indexes a.records) (base + d) ≡ true → MarkBeyond L first a.fates base n
      there e =
          let below = accepted_before L first F d e in (
            near-mark,
            ⊎_elim
                (λ (l : 0 < d). inl (omega (arith, highest_most (base + d - 1) got (λ j t. ⊎_elim (λ before. omega arith) (λ from. omega (arith, below j t from)) (order j base)))))
                (λ (l : d ≤ 0). inr (λ j from. refuted (is_in j got) (λ t. omega (arith, below j t from))))
                (order 0 d),
          )

      back : MarkBeyond L first a.fates base n → beyond_i base (indexes a.records) (base + d) ≡ true
      back m =
          ⊎_elim (λ e. e)
          (λ e.
          let w = not_beyond base (indexes a.records) (base + d) e in
          let received = record_received F w.last w.recorded in
          absurd (⊎_elim (λ l. omega (arith, in_highest w.last got received, w.from_it)) (λ none. contrary received (none w.last w.from_base_on)) m.1))
          (tested (beyond_i base (indexes a.records) (base + d)))

  -- 17, of a mark that names the packet d past base
  pub says_nothing : (d mark : ℕ) → mark ≡ base + d → Says (eqb d 0) (NoneToExpire a.fates mark)
  says_nothing d mark named = record { there = there; back = back }
    where
      there : eqb d 0 ≡ true → NoneToExpire a.fates mark
      there e i l = F.fates.lowest.none_below i (omega (arith, eqb-true d 0 e))

      back : NoneToExpire a.fates mark → eqb d 0 ≡ true
      back none =
          ⊎_elim (λ e. e) (λ e. let some = eqb-false d 0 e in absurd (contrary F.fates.lowest.open_itself (none base (omega arith)))) (tested (eqb d 0))

  -- ---- 16

  module _ (n : ℕ) where
    -- the numbers with records, and where the machine finds this one among them
    abbrev numbers : List ℕ
    numbers = K.held (image L first (indexed_of base a))

    abbrev place : ℕ
    place = K.index_of n numbers

    -- the tests of a confirm
    abbrev pub not_to_confirm : Bool
    not_to_confirm =
        leb (length numbers) place
        or not (before (modulus_of L) (number_of L first base) n)
        or (get_or (map (record_at L first) a.records) place K.no_record).confirmed

    lengths : length numbers ≡ length a.records
    lengths = length-map (map (record_at L first) a.records) (λ (r : K.Record). r.number) ∙ length-map a.records (record_at L first)

    -- there is none
    missing : length a.records ≤ place → Says not_to_confirm (NotToConfirm L first a base n)
    missing l = record {
      there = λ e. inl (λ s. let found = bears_found L first n a.records s in omega arith);
      back = λ w. or_left (leb (length numbers) place) _ (le-leb (length numbers) place (rw lengths l));
    }

    -- there is one: by its packet, and by whether it is confirmed
    module _ (inside : place < length a.records) where
      abbrev x : Held
      x = get_or a.records place no_held

      bears : Bears L first n x
      bears = sym (held_at L first (indexed_of base a) (follows_reach F) place inside) ∙ index_of_at n numbers (rw lengths inside)

      near_x : Near (half L) base x.index
      near_x = each_at (λ (h : Held). Near (half L) base h.index) a.records place no_held inside near

      lies_before : before (modulus_of L) (number_of L first base) n ≡ ltb x.index base
      lies_before =
          ap (before (modulus_of L) (number_of L first base)) (sym bears)
          ∙ before_is (modulus_of L) first (positive L) (whole L) base x.index near_x.0 near_x.1

      tests_are : not_to_confirm ≡ (not (ltb x.index base) or x.confirmed)
      tests_are =
          rw (lt-leb (length numbers) place (rw lengths inside), lies_before, record_at_lem L first (indexed_of base a) (follows_reach F) place inside)

      some_here : (P : Held → Type 0) → P x → Some (λ (h : Held). Bears L first n h × P h) a.records
      some_here P p = some_at (λ (h : Held). Bears L first n h × P h) a.records place no_held inside (bears, p)

      only_here : (P : Held → Type 0) → Some (λ (h : Held). Bears L first n h × P h) a.records → P x
      only_here P s =
          only_one P a.records place F.records.rising inside
          (some_so a.records (λ h w. (bears_one n x.index near_x bears h (w.0, w.1.0), w.1.1))
          (some_both (λ (h : Held). Near (half L) base h.index) (λ (h : Held). Bears L first n h × P h) a.records near s))

      found : Says (not (ltb x.index base) or x.confirmed) (NotToConfirm L first a base n)
      found = record { there = there; back = back }
        where
          there : (not (ltb x.index base) or x.confirmed) ≡ true → NotToConfirm L first a base n
          there e =
              ⊎_elim (λ t. inr (inl (some_here (λ (h : Held). base ≤ h.index) (ltb-false x.index base (not-true (ltb x.index base) t)))))
              (λ t. inr (inr (some_here (λ (h : Held). h.confirmed ≡ true) t)))
              (or_true (not (ltb x.index base)) x.confirmed e)

          back : NotToConfirm L first a base n → (not (ltb x.index base) or x.confirmed) ≡ true
          back (inl none) = absurd (none (some_at (Bears L first n) a.records place no_held inside bears))
          back (inr (inl s)) = rw (le-ltb x.index base (only_here (λ (h : Held). base ≤ h.index) s))
          back (inr (inr s)) = or_right (not (ltb x.index base)) x.confirmed (only_here (λ (h : Held). h.confirmed ≡ true) s)

    pub says_confirm : Says not_to_confirm (NotToConfirm L first a base n)
    says_confirm =
        ⊎_elim (λ (h : place < length a.records). subst (λ (t : Bool). Says t (NotToConfirm L first a base n)) (sym (tests_are h)) (found h))
        (λ (h : length a.records ≤ place). missing h) (order place (length a.records))
