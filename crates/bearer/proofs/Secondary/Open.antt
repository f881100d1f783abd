-- Which packets are open, and what open_below holds: the elements of a list that have a property, and the open packets below a
-- bound, which are those from the lowest open one on.
-- Assumes nothing.
use mathlib.Core.Path.{◌≡◌, refl, sym, ◌∙◌, ap}
use mathlib.Core.Bool.{Bool, true, false, not}
use mathlib.Core.List.{List, [], ◌∷◌, ◌++◌}
use mathlib.Core.Logic.{◌⊎◌, inl, inr, ⊎_elim}
use Prim.Native.Nat.{ℕ, zero, suc, ◌+◌, ◌-◌, ◌≤◌, ◌<◌}
use native.Mathlib.Nat.{zero-add}
use native.Mathlib.Numerals.{add-one}
use native.Mathlib.Omega.{arith}
use borrow.Author.Tests.{ltb-true, ltb-false, not-true}
use lib.Dec.{ltb}
use Rattle.basics.proofs.Choices.{tested, contrary, and_true, and_no, order}
use Rattle.bearer.specs.Rule.{Fates, is_in, is_open, Lowest, below, only, open_below}
use Rattle.bearer.specs.Packets.{In, Rising}
use Rattle.bearer.specs.Account.{packets_from}
use Rattle.bearer.proofs.Lists.Elements.{in_head, in_tail, in_cons, rising_head, rising_tail, rising_cons, in_first}
use Rattle.bearer.proofs.Lists.Rows.{in_packets, packets_append}

-- ---- open, received, lost

pub open_is : (r : Fates) (i : ℕ) → is_in i r.received ≡ false → is_in i r.lost ≡ false → is_open r i ≡ true
open_is r i p q = rw (p, q)

pub open_unreceived : (r : Fates) (i : ℕ) → is_open r i ≡ true → is_in i r.received ≡ false
open_unreceived r i h = not-true (is_in i r.received) (and_true (not (is_in i r.received)) (not (is_in i r.lost)) h).0

pub received_closed : (r : Fates) (i : ℕ) → In i r.received → is_open r i ≡ false
received_closed r i p = rw p

pub lost_closed : (r : Fates) (i : ℕ) → In i r.lost → is_open r i ≡ false
lost_closed r i q = rw q (and_no (not (is_in i r.received)))

pub closed : (r : Fates) (i : ℕ) → is_open r i ≡ false → In i r.received ⊎ In i r.lost
closed r i h =
    ⊎_elim (λ p. inl p) (λ p. ⊎_elim (λ q. inr q) (λ q. absurd (contrary (open_is r i p q) h)) (tested (is_in i r.lost))) (tested (is_in i r.received))

-- there is one lowest open packet
pub one_lowest : (r : Fates) (b c : ℕ) → Lowest r b → Lowest r c → b ≡ c
one_lowest r b c l m =
    ⊎_elim (λ (h : b < c). absurd (contrary l.open_itself (m.none_below b h)))
    (λ (h : c ≤ b). ⊎_elim (λ (g : c < b). absurd (contrary m.open_itself (l.none_below c g))) (λ (g : b ≤ c). omega arith) (order c b))
    (order b c)

-- ---- the elements of a list that have a property

pub only_append : (p : ℕ → Bool) (xs ys : List ℕ) → only p (xs ++ ys) ≡ only p xs ++ only p ys
only_append p [] ys = refl
only_append p (x ∷ xs) ys = ⊎_elim (λ e. rw e (rw (only_append p xs ys))) (λ e. rw e (only_append p xs ys)) (tested (p x))

pub only_alike : (p q : ℕ → Bool) (xs : List ℕ) → ((i : ℕ) → In i xs → p i ≡ q i) → only p xs ≡ only q xs
only_alike p q [] h = refl
only_alike p q (x ∷ xs) h = rw (h x (in_head x xs), only_alike p q xs (λ i t. h i (in_tail i x xs t)))

pub only_all : (p : ℕ → Bool) (xs : List ℕ) → ((i : ℕ) → In i xs → p i ≡ true) → only p xs ≡ xs
only_all p [] h = refl
only_all p (x ∷ xs) h = rw (h x (in_head x xs), only_all p xs (λ i t. h i (in_tail i x xs t)))

pub only_none : (p : ℕ → Bool) (xs : List ℕ) → ((i : ℕ) → In i xs → p i ≡ false) → only p xs ≡ []
only_none p [] h = refl
only_none p (x ∷ xs) h = rw (h x (in_head x xs)) (only_none p xs (λ i t. h i (in_tail i x xs t)))

pub in_only : (p : ℕ → Bool) (xs : List ℕ) (i : ℕ) → In i (only p xs) → In i xs × (p i ≡ true)
in_only p [] i h = absurd (contrary h refl)
in_only p (x ∷ xs) i h =
    ⊎_elim
    (λ e. ⊎_elim (λ q. (in_first i x xs q, rw q e)) (λ t. behind (in_only p xs i t)) (in_cons i x (only p xs) (rw e at h)))
    (λ e. behind (in_only p xs i (rw e at h)))
    (tested (p x))
  where
    behind : In i xs × (p i ≡ true) → In i (x ∷ xs) × (p i ≡ true)
    behind t = (in_tail i x xs t.0, t.1)

pub only_in : (p : ℕ → Bool) (xs : List ℕ) (i : ℕ) → In i xs → p i ≡ true → In i (only p xs)
only_in p [] i h e = absurd (contrary h refl)
only_in p (x ∷ xs) i h e =
    ⊎_elim (λ q. rw (← q, e) (in_head i (only p xs)))
    (λ t. ⊎_elim (λ f. rw f (in_tail i x (only p xs) (only_in p xs i t e))) (λ f. rw f (only_in p xs i t e)) (tested (p x)))
    (in_cons i x xs h)

pub rising_only : (p : ℕ → Bool) (xs : List ℕ) → Rising xs → Rising (only p xs)
rising_only p [] r = tt
rising_only p (x ∷ xs) r =
    let others = rising_only p xs (rising_tail x xs r) in
    ⊎_elim (λ e. rw e (rising_cons x (only p xs) (λ i h. rising_head x xs r i (in_only p xs i h).0) others)) (λ e. rw e others) (tested (p x))

-- ---- the open packets below a bound

-- the packets below n are a row
below_packets : (n : ℕ) → below n ≡ packets_from 0 n
below_packets zero = refl
below_packets (suc n) = rw (below_packets n) (sym (ap (packets_from 0) (sym (add-one n)) ∙ packets_append 0 n 1 ∙ rw (zero-add n)))

-- where none is open below b, they are those from b on
pub open_from : (r : Fates) (b n : ℕ) → ((j : ℕ) → j < b → is_open r j ≡ false) → open_below r n ≡ only (is_open r) (packets_from b (n - b))
open_from r b n none =
    ⊎_elim
    (λ l. let e : n ≡ b + (n - b) = omega (arith, ltb-true b n l) in
    ap (only (is_open r)) (below_packets n ∙ ap (packets_from 0) e ∙ packets_append 0 b (n - b))
    ∙ only_append (is_open r) (packets_from 0 b) (packets_from (0 + b) (n - b))
    ∙ rw (none_open b (λ j h. h), zero-add b))
    (λ l. let z : n - b ≡ 0 = omega (arith, ltb-false b n l) in
    ap (only (is_open r)) (below_packets n) ∙ rw z (none_open n (λ j h. omega (arith, ltb-false b n l))))
    (tested (ltb b n))
  where
    none_open : (m : ℕ) → ((j : ℕ) → j < m → j < b) → only (is_open r) (packets_from 0 m) ≡ []
    none_open m l = only_none (is_open r) (packets_from 0 m) (λ j h. none j (l j (let t : j < 0 + m = (in_packets 0 m j h).1 in omega arith)))
