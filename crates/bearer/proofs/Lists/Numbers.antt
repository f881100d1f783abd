-- Packets' numbers on a circle of M, how they lie to each other, and the tests of specs/Losses.antt on them: of packets within half the
-- circle of each other each is a plain comparison of packet indexes. The laws are stated once over M and the number of packet 0.
-- Assumes nothing.
use Rattle.std.specs.Prelude.{if◌then◌else◌}
use mathlib.Core.Path.{◌≡◌, refl, sym, ◌∙◌, ap}
use mathlib.Core.Bool.{Bool, true, false, not}
use Prim.Native.Nat.{ℕ, ◌+◌, ◌-◌, ◌/◌, ◌%◌, ◌≤◌, ◌<◌}
use native.Mathlib.Omega.{arith}
use native.Mathlib.Nat.{add_assoc, add-zero, mod-add-mod, mod-eq_of_lt}
use borrow.Author.Tests.{ltb-true, ltb-false, leb-true, leb-false, eqb-true, eqb-false, eq-eqb, ne_eqb, lt-ltb, le-ltb, le-leb, lt-leb}
use lib.Dec.{ltb, leb, eqb}
use Rattle.basics.proofs.Choices.{contrary, eqb_alike}
use Rattle.circle.specs.Circle as C
use Rattle.circle.specs.Circle.{forward}
use Rattle.circle.specs.Sides.{Side, same, ahead, behind, opposite, lies, Told}
use Rattle.circle.proofs.Sides.{side_told, told_one}
use Rattle.circle.specs.Lengths.{modulus_of, half, is_long}
use Rattle.circle.proofs.Forms.{modulus_bounds, halves}
use Rattle.bearer.specs.Losses.{is_before, before, is_ahead, ahead_of, from_on, far_behind}

-- ---- the two circles

-- half of the numbers, twice, is all of them
pub whole : (L : ℕ) → half L + half L ≡ modulus_of L
whole L = halves (is_long L)

pub positive : (L : ℕ) → 0 < modulus_of L
positive L = (modulus_bounds (is_long L)).0

-- ---- how numbers and packets lie to each other

-- a number that doesn't lie before another is less than half the circle forward from it
pub not_before : (L a n : ℕ) → before (modulus_of L) a n ≡ false → forward (modulus_of L) a n < half L
not_before L a n = by (lies (modulus_of L) a n) (side_told (half L) (forward (modulus_of L) a n))
  where
    by : (s : Side) → Told (half L) (forward (modulus_of L) a n) s → is_before s ≡ false → forward (modulus_of L) a n < half L
    by same t e = omega (arith, positive L, whole L)
    by ahead t e = t.1
    by behind t e = absurd (contrary refl e)
    by opposite t e = absurd (contrary refl e)

-- one that does is half the circle or more forward from it
pub is_before_lem : (L a n : ℕ) → before (modulus_of L) a n ≡ true → half L ≤ forward (modulus_of L) a n
is_before_lem L a n = by (lies (modulus_of L) a n) (side_told (half L) (forward (modulus_of L) a n))
  where
    by : (s : Side) → Told (half L) (forward (modulus_of L) a n) s → is_before s ≡ true → half L ≤ forward (modulus_of L) a n
    by same t e = absurd (contrary e refl)
    by ahead t e = absurd (contrary e refl)
    by behind t e = omega arith
    by opposite t e = omega arith

-- one ahead of another doesn't lie before it, nor is it the same
pub ahead_past : (L a n : ℕ) → before (modulus_of L) a n ≡ false → not (ahead_of (modulus_of L) a n) ≡ eqb (forward (modulus_of L) a n) 0
ahead_past L a n = by (lies (modulus_of L) a n) (side_told (half L) (forward (modulus_of L) a n))
  where
    by : (s : Side) → Told (half L) (forward (modulus_of L) a n) s → is_before s ≡ false → not (is_ahead s) ≡ eqb (forward (modulus_of L) a n) 0
    by same t e = sym (eq-eqb (forward (modulus_of L) a n) 0 t)
    by ahead t e = sym (ne_eqb (forward (modulus_of L) a n) 0 (λ z. omega (arith, t.0)))
    by behind t e = absurd (contrary refl e)
    by opposite t e = absurd (contrary refl e)

-- and one that lies before it isn't
pub never_ahead : (M a n : ℕ) → before M a n ≡ true → not (ahead_of M a n) ≡ true
never_ahead M a n = by (lies M a n)
  where
    by : (s : Side) → is_before s ≡ true → not (is_ahead s) ≡ true
    by same e = refl
    by ahead e = absurd (contrary e refl)
    by behind e = refl
    by opposite e = refl

-- how packet j lies to packet i, from h before it up to, and without, h past it
abbrev pub side_i : ℕ → ℕ → ℕ → Side
side_i h i j = if ltb j i then (if eqb (j + h) i then opposite else behind) else (if eqb i j then same else ahead)

-- ---- the number of packet i, where packet 0 has the number first

abbrev pub on : ℕ → ℕ → ℕ → ℕ
on M first i = (first + i) % M

-- packet 0 has the number first
pub first_number : (L first : ℕ) → first < modulus_of L → first ≡ on (modulus_of L) first 0
first_number L first h = sym (ap (λ (n : ℕ). n % modulus_of L) (add-zero first) ∙ mod-eq_of_lt h)

module _ (M first : ℕ) (pos : 0 < M) where
  -- so many steps on from a packet's number
  pub onward_is : (i d : ℕ) → (on M first i + d) % M ≡ on M first (i + d)
  onward_is i d = mod-add-mod (first + i) M d ∙ ap (λ (x : ℕ). x % M) (add_assoc first i d)

  -- the packet that lies as far past another as a number lies forward from that one's bears the number
  pub lands : (i n : ℕ) → n < M → on M first (i + forward M (on M first i) n) ≡ n
  lands i n small = sym (onward_is i (forward M (on M first i) n)) ∙ C.forward_lands M pos (on M first i) n small

  -- forward to a later packet less than a turn away
  pub to_later : (i j : ℕ) → i ≤ j → j - i < M → forward M (on M first i) (on M first j) ≡ j - i
  to_later i j h near =
      let e : first + j ≡ first + i + (j - i) = omega arith in
      C.forward_from_lem M pos (first + i) (on M first j)
      ∙ C.forward_to M pos (first + i) (first + j)
      ∙ ap (λ (x : ℕ). forward M (first + i) x) e
      ∙ C.forward_short M pos (first + i) (j - i) near

  -- forward to an earlier one: the rest of the turn
  pub to_earlier : (i j : ℕ) → j < i → i - j < M → forward M (on M first i) (on M first j) ≡ M - (i - j)
  to_earlier i j h near =
      let e : first + i ≡ first + j + (i - j) = omega arith in
      C.forward_from_lem M pos (first + i) (on M first j)
      ∙ C.forward_to M pos (first + i) (first + j)
      ∙ ap (λ (x : ℕ). forward M x (first + j)) e
      ∙ C.forward_back M pos (first + j) (i - j) (omega arith) near

  same_ordered : (i j : ℕ) → i ≤ j → j - i < M → on M first i ≡ on M first j → i ≡ j
  same_ordered i j h near e =
      let z : forward M (on M first i) (on M first i) ≡ i - i = to_later i i (omega arith) (omega arith) in
      let d : forward M (on M first i) (on M first i) ≡ j - i = ap (λ (x : ℕ). forward M (on M first i) x) e ∙ to_later i j h near in
      omega (arith, sym z ∙ d)

  -- packets less than a turn apart that have one number are one
  pub same_packet : (i j : ℕ) → i < j + M → j < i + M → on M first i ≡ on M first j → i ≡ j
  same_packet i j hi hj e = by (leb i j) refl
    where
      by : (t : Bool) → leb i j ≡ t → i ≡ j
      by true r = same_ordered i j (leb-true i j r) (omega arith) e
      by false r = sym (same_ordered j i (omega (arith, leb-false i j r)) (omega arith) (sym e))

  pub same_number : (i j : ℕ) → i < j + M → j < i + M → eqb (on M first i) (on M first j) ≡ eqb i j
  same_number i j hi hj = eqb_alike (on M first i) (on M first j) i j (same_packet i j hi hj) (ap (on M first))

  module _ (even : M / 2 + M / 2 ≡ M) (i j : ℕ) (lo : i ≤ j + M / 2) (hi : j < i + M / 2) where
    -- how one packet's number lies to another's, by their indexes
    pub lies_is : lies M (on M first i) (on M first j) ≡ side_i (M / 2) i j
    lies_is = told_one (M / 2) (forward M (on M first i) (on M first j)) (omega arith) (side_i (M / 2) i j) (by (ltb j i) refl)
      where
        later : i ≤ j → (t : Bool) → eqb i j ≡ t → Told (M / 2) (forward M (on M first i) (on M first j)) (if t then same else ahead)
        later h true e = to_later i j h (omega arith) ∙ (let none : j - i ≡ 0 = omega (arith, eqb-true i j e) in none)
        later h false e = let way = to_later i j h (omega arith) in let apart = eqb-false i j e in (omega arith, omega arith)

        earlier : j < i → (t : Bool) → eqb (j + M / 2) i ≡ t → Told (M / 2) (forward M (on M first i) (on M first j)) (if t then opposite else behind)
        earlier h true e = omega (arith, to_earlier i j h (omega arith), eqb-true (j + M / 2) i e)
        earlier h false e = let way = to_earlier i j h (omega arith) in let apart = eqb-false (j + M / 2) i e in omega arith

        by : (t : Bool) → ltb j i ≡ t → Told (M / 2) (forward M (on M first i) (on M first j)) (if t then (if eqb (j + M / 2) i then opposite else behind) else (if eqb i j then same else ahead))
        by true e = earlier (ltb-true j i e) (eqb (j + M / 2) i) refl
        by false e = later (ltb-false j i e) (eqb i j) refl

    -- before it on the circle is before it
    pub before_is : before M (on M first i) (on M first j) ≡ ltb j i
    before_is = ap is_before lies_is ∙ by (ltb j i) (eqb (j + M / 2) i) (eqb i j)
      where
        by : (t o s : Bool) → is_before (if t then (if o then opposite else behind) else (if s then same else ahead)) ≡ t
        by true true s = refl
        by true false s = refl
        by false o true = refl
        by false o false = refl

    -- ahead of it is past it
    pub ahead_is : ahead_of M (on M first i) (on M first j) ≡ ltb i j
    ahead_is = ap is_ahead lies_is ∙ by (ltb j i) (eqb i j) refl refl (eqb (j + M / 2) i)
      where
        by : (t s : Bool) → ltb j i ≡ t → eqb i j ≡ s → (o : Bool) → is_ahead (if t then (if o then opposite else behind) else (if s then same else ahead)) ≡ ltb i j
        by true s e f true = sym (le-ltb i j (omega (arith, ltb-true j i e)))
        by true s e f false = sym (le-ltb i j (omega (arith, ltb-true j i e)))
        by false true e f o = sym (le-ltb i j (omega (arith, eqb-true i j f)))
        by false false e f o = let apart = eqb-false i j f in sym (lt-ltb i j (omega (arith, ltb-false j i e)))

    -- and from it on is from it on
    pub from_is : from_on M (on M first i) (on M first j) ≡ leb i j
    from_is = ap not before_is ∙ by (ltb j i) refl
      where
        by : (t : Bool) → ltb j i ≡ t → not t ≡ leb i j
        by true e = sym (lt-leb i j (ltb-true j i e))
        by false e = sym (le-leb i j (ltb-false j i e))

    -- how far behind it
    pub behind_is : far_behind M (on M first i) (on M first j) ≡ i - j
    behind_is = rw before_is (by (ltb j i) refl)
      where
        by : (b : Bool) → ltb j i ≡ b → (if b then forward M (on M first j) (on M first i) else 0) ≡ i - j
        by true e = let h : j < i = ltb-true j i e in to_later j i (omega arith) (omega arith)
        by false e = omega (arith, ltb-false j i e)
