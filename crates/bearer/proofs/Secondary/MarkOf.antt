-- Which packet a mark names (`mark_of` of specs/Packets.antt), and so what an expiry on an open end does: either it is refused, and the mark's packet
-- is at or before base, or it names a packet past base that isn't beyond the last record, and the machine goes by its distance.
-- Assumes nothing.
use Rattle.std.specs.Prelude.{if◌then◌else◌}
use mathlib.Core.Path.{◌≡◌, refl, sym, ◌∙◌, ap}
use mathlib.Core.Bool.{Bool, true, false, not}
use mathlib.Core.List.{List, [], ◌∷◌}
use mathlib.Core.Logic.{◌⊎◌, inl, inr, ⊎_elim}
use Prim.Native.Nat.{ℕ, zero, suc, ◌+◌, ◌-◌, ◌≤◌, ◌<◌}
use native.Mathlib.Omega.{arith}
use native.Mathlib.Nat.{mod-lt}
use borrow.Author.Tests.{leb-true, leb-false, eqb-true, eqb-false}
use lib.Dec.{leb, eqb}
use Rattle.basics.specs.Basics.{◌and◌}
use Rattle.basics.proofs.Choices.{tested, contrary, chosen, otherwise, order}
use Rattle.circle.specs.Lengths.{modulus_of, half}
use Rattle.bearer.specs.Bearer.{After, refusing}
use Rattle.bearer.specs.Losses.{before, is_beyond}
use Rattle.bearer.specs.Keeper as K
use Rattle.bearer.specs.Rule.{Fates, highest}
use Rattle.bearer.specs.Packets.{number_of, forward_from, latest_through, mark_of, In}
use Rattle.bearer.specs.Account.{indexes}
use Rattle.bearer.specs.KeeperMeaning.{MarksKept}
use Rattle.bearer.proofs.Lists.Elements.{in_head, in_tail, in_cons}
use Rattle.bearer.proofs.Lists.Numbers.{whole, positive, is_before_lem, not_before, ahead_past, never_ahead, lands, to_later, same_packet}
use Rattle.bearer.proofs.Secondary.Index.{Indexed, image, image_after, beyond_i, expire_i}
use Rattle.bearer.proofs.Secondary.ImageState.{beyond_is}
use Rattle.bearer.proofs.Secondary.Image.{image_expire_below}
use Rattle.bearer.proofs.Secondary.Follows.{mark_base, Follows, record_received}
use Rattle.bearer.proofs.Secondary.FollowsExpiry.{Within, not_beyond, is_beyond_lem}
use Rattle.bearer.proofs.Secondary.FollowsMeans.{follows_reach}

-- ---- the latest packet that bears a number

-- a packet less than a turn before the last is the latest with its number
latest_is : (L first n i top : ℕ) → i ≤ top → top < i + modulus_of L → number_of L first i ≡ n → latest_through L first n top ≡ i
latest_is L first n i zero below near e = omega arith
latest_is L first n i (suc t) below near e = by (λ before. latest_is L first n i t before (omega arith) e) (eqb (number_of L first (suc t)) n) refl
  where
    by : (i ≤ t → latest_through L first n t ≡ i) → (b : Bool) → eqb (number_of L first (suc t)) n ≡ b → (if b then suc t else latest_through L first n t) ≡ i
    by earlier true q =
        same_packet (modulus_of L) first (positive L) (suc t) i (omega arith) (omega (arith, positive L)) (eqb-true (number_of L first (suc t)) n q ∙ sym e)
    by earlier false q =
        let other : (i ≡ suc t → ⊥) = λ p. eqb-false (number_of L first (suc t)) n q (ap (number_of L first) (sym p) ∙ e) in
        earlier (omega arith)

-- where none past a packet bears the number, the latest isn't past it
latest_most : (L first n b top : ℕ) → ((j : ℕ) → b < j → j ≤ top → number_of L first j ≡ n → ⊥) → latest_through L first n top ≤ b
latest_most L first n b zero none = omega arith
latest_most L first n b (suc t) none = by (latest_most L first n b t (λ j l m. none j l (omega arith))) (eqb (number_of L first (suc t)) n) refl
  where
    by : latest_through L first n t ≤ b → (c : Bool) → eqb (number_of L first (suc t)) n ≡ c → (if c then suc t else latest_through L first n t) ≤ b
    by earlier true q = ⊎_elim (λ (l : b < suc t). absurd (none (suc t) l (omega arith) (eqb-true (number_of L first (suc t)) n q))) (λ (l : suc t ≤ b). l) (order b (suc t))
    by earlier false q = earlier

-- ---- the highest accepted packet

pub in_highest : (j : ℕ) (xs : List ℕ) → In j xs → j ≤ highest xs
in_highest j [] t = absurd (contrary t refl)
in_highest j (x ∷ xs) t = ⊎_elim (λ q. omega arith) (λ u. omega (arith, in_highest j xs u)) (in_cons j x xs t)

pub highest_most : (c : ℕ) (xs : List ℕ) → ((j : ℕ) → In j xs → j ≤ c) → highest xs ≤ c
highest_most c [] h = omega arith
highest_most c (x ∷ xs) h = omega (arith, h x (in_head x xs), highest_most c xs (λ j t. h j (in_tail j x xs t)))

-- the number of an accepted packet names it for nearly a turn
pub marks_kept : MarksKept
marks_kept L first r i t near = latest_is L first (number_of L first i) i (highest r.received) (in_highest i r.received t) near refl

module _ (L first : ℕ) {a : Indexed} {r : Fates} {told : ℕ} (F : Follows (half L) a r told) where
  -- a received packet is before base or has a record
  received_cases : (j : ℕ) → In j r.received → (j < a.base) ⊎ ((a.base ≤ j) × In j (indexes a.records))
  received_cases j t = ⊎_elim (λ l. inl l) (λ l. inr (l, F.records.from_base_on j l t)) (order j a.base)

  -- the highest accepted is less than half the circle past base
  highest_near : highest r.received < a.base + half L
  highest_near =
      let most = highest_most (a.base + half L - 1) r.received (λ j t.
      ⊎_elim (λ l. omega (arith, whole L, positive L)) (λ p. omega (arith, F.span j a.base p.1 (mark_base a))) (received_cases j t)) in
      omega (arith, whole L, positive L)

  -- what is beyond the last record is past every accepted packet from base on
  pub accepted_before : (d : ℕ) → beyond_i a.base (indexes a.records) (a.base + d) ≡ true → (j : ℕ) → In j r.received → a.base ≤ j → j < a.base + d
  accepted_before d e j t l = is_beyond_lem a.base (indexes a.records) (a.base + d) F.records.rising e j (F.records.from_base_on j l t) l

  -- ---- which packet a mark names

  -- the packet d past base, where that isn't beyond the highest accepted
  pub mark_at : (n d : ℕ) → number_of L first (a.base + d) ≡ n → a.base + d ≤ highest r.received → mark_of L first n r ≡ a.base + d
  mark_at n d e reached = latest_is L first n (a.base + d) (highest r.received) reached (omega (arith, highest_near, whole L)) e

  -- ... nor beyond the last record
  pub mark_is : (n d : ℕ) → number_of L first (a.base + d) ≡ n → Within a.base (indexes a.records) (a.base + d) → mark_of L first n r ≡ a.base + d
  mark_is n d e w =
      mark_at n d e (omega (arith, w.from_it, in_highest w.last r.received (record_received F w.last w.recorded)))

  -- one that is no number
  mark_no_number : (n : ℕ) → modulus_of L ≤ n → mark_of L first n r ≤ a.base
  mark_no_number n big =
      latest_most L first n a.base (highest r.received) (λ j l m e. omega (arith, mod-lt (first + j) (positive L)))

  -- forward from base to the packet j past it, through the highest accepted
  to_packet : (n j : ℕ) → a.base < j → j ≤ highest r.received → number_of L first j ≡ n → forward_from L first a.base n ≡ j - a.base
  to_packet n j l m e =
      ap (forward_from L first a.base) (sym e)
      ∙ to_later (modulus_of L) first (positive L) a.base j (omega arith) (omega (arith, highest_near, whole L))

  -- one that lies before base
  pub mark_before : (n : ℕ) → half L ≤ forward_from L first a.base n → mark_of L first n r ≤ a.base
  mark_before n far = latest_most L first n a.base (highest r.received) (λ j l m e. omega (arith, to_packet n j l m e, highest_near))

  -- one beyond the last record
  mark_beyond_lem : (n : ℕ) → beyond_i a.base (indexes a.records) (a.base + forward_from L first a.base n) ≡ true → mark_of L first n r ≤ a.base
  mark_beyond_lem n e =
      let d : ℕ = forward_from L first a.base n in
      let most : highest r.received ≤ a.base + (d - 1) = highest_most (a.base + (d - 1)) r.received (λ j t.
      ⊎_elim (λ l. omega arith) (λ l. omega (arith, accepted_before d e j t l)) (order j a.base)) in
      latest_most L first n a.base (highest r.received) (λ j l m q. omega (arith, to_packet n j l m q))

  -- ---- what an expiry does

  -- an expiry on an open end
  pub data Expires (n : ℕ) : Type 0 where
    refuses : (m : ℕ) → K.expire (image L first a) n ≡ refusing m (image L first a) → mark_of L first n r ≤ a.base → Expires n
    goes : (d : ℕ) → (d ≡ 0 → ⊥) → Within a.base (indexes a.records) (a.base + d) → mark_of L first n r ≡ a.base + d
        → K.expire (image L first a) n ≡ image_after L first (expire_i a d) → Expires n

  -- the tests of 19 and 17, of a number that doesn't lie before base, less than half the circle on
  module _ (n : ℕ) (small : n < modulus_of L) (on : before (modulus_of L) (number_of L first a.base) n ≡ false) where
    abbrev pub d : ℕ
    d = forward_from L first a.base n

    near : d < half L
    near = not_before L (number_of L first a.base) n on

    -- the packet d past base bears it
    pub bears : number_of L first (a.base + d) ≡ n
    bears = lands (modulus_of L) first (positive L) a.base n small

    pub beyond_test : K.mark_beyond (image L first a) n ≡ beyond_i a.base (indexes a.records) (a.base + d)
    beyond_test =
        let is : ℕ → Bool = is_beyond (modulus_of L) (number_of L first a.base) (K.held (image L first a)) in
        ap (λ (t : Bool). not t and is n) on ∙ ap is (sym bears) ∙ beyond_is L first a (follows_reach F) d near

    pub none_test : K.none_precedes (image L first a) n ≡ eqb d 0
    none_test = ahead_past L (number_of L first a.base) n on

  -- of one that does, 19 isn't given
  pub never_beyond : (n : ℕ) → before (modulus_of L) (number_of L first a.base) n ≡ true → K.mark_beyond (image L first a) n ≡ false
  never_beyond n e = ap (λ (t : Bool). not t and is_beyond (modulus_of L) (number_of L first a.base) (K.held (image L first a)) n) e

  pub expire_cases : a.closed ≡ false → (n : ℕ) → Expires n
  expire_cases o n =
      ⊎_elim
      (λ e. refuses 10 (otherwise _ _ o ∙ chosen _ _ e) (mark_no_number n (leb-true (modulus_of L) n e)))
      (λ e. numbered (leb-false (modulus_of L) n e) (otherwise _ _ o ∙ otherwise _ _ e))
      (tested (leb (modulus_of L) n))
    where
      k : K.Keeper
      k = image L first a

      b : ℕ
      b = number_of L first a.base

      d : ℕ
      d = forward_from L first a.base n

      -- from 17 on
      past19 : After K.Keeper ℕ
      past19 = if K.none_precedes k n then refusing 17 k else K.expire_below k d

      -- by how far it is past base
      distant : n < modulus_of L → before (modulus_of L) b n ≡ false → K.expire k n ≡ past19 → Within a.base (indexes a.records) (a.base + d) → Expires n
      distant small on is w =
          let named = mark_is n d (bears n small on) w in
          ⊎_elim
          (λ e. refuses 17 (is ∙ chosen _ _ (none_test n small on ∙ e)) (omega (arith, named, eqb-true d 0 e)))
          (λ e. goes d (eqb-false d 0 e) w named (is ∙ otherwise _ _ (none_test n small on ∙ e) ∙ image_expire_below L first a (follows_reach F) d (omega (arith, not_before L b n on))))
          (tested (eqb d 0))

      numbered : n < modulus_of L → K.expire k n ≡ (if K.mark_beyond k n then refusing 19 k else past19) → Expires n
      numbered small is =
          ⊎_elim
          (λ e. refuses 17 (is ∙ otherwise _ _ (never_beyond n e) ∙ chosen _ _ (never_ahead (modulus_of L) b n e)) (mark_before n (is_before_lem L b n e)))
          (λ on. ⊎_elim
          (λ e. refuses 19 (is ∙ chosen _ _ (beyond_test n small on ∙ e)) (mark_beyond_lem n e))
          (λ e. distant small on (is ∙ otherwise _ _ (beyond_test n small on ∙ e)) (not_beyond a.base (indexes a.records) (a.base + d) e))
          (tested (beyond_i a.base (indexes a.records) (a.base + d))))
          (tested (before (modulus_of L) b n))
