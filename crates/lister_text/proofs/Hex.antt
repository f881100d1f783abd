-- What the digits of a line say, pair by pair.
-- Assumes nothing.
use borrow.Author.Tests.{lt-leb}
use Rattle.std.specs.Prelude.{nat_le}
use Rattle.std.proofs.Common.{◌⊎◌, inl, inr, ⊎_elim, le-ltb, lt-ltb, le-leb, ◌≡◌, ℕ, suc, ◌+◌, ◌*◌, ◌<◌, ◌≤◌, Bool, true, false, Some, None, List, [], ◌∷◌, length, get_or, drop, refl, ap, ◌∙◌, add-one, arith, drop-cons, ltb-true, if◌then◌else◌}
use Rattle.basics.specs.Basics.{◌and◌, all}
use Rattle.basics.proofs.Choices.{and_true}
use Rattle.frame_layout.specs.Trips.{AreOctets}
use Rattle.frame_layout.proofs.Octets.{none_are, cons_are}
use Rattle.lister_text.specs.Hexadecimal.{among, digit_of, is_digit, octet_of, octet_said, octets_in}
use Rattle.lister_text.proofs.Cases.{true_or, below_or}

among_kinds : (first n v c other : ℕ) → (among first n v c other < v + n) ⊎ (among first n v c other ≡ other)
among_kinds first n v c other =
    below_or c first
    (λ below. inr (rw (lt-leb first c below)))
    (λ from.
    below_or c (first + n)
    (λ below. inl (rw (le-leb first c from, lt-ltb c (first + n) below) (omega arith)))
    (λ past. inr (rw (le-leb first c from, le-ltb c (first + n) past))))

-- a digit is below 16, and another character is 256
pub digit_kinds : (c : ℕ) → (digit_of c < 16) ⊎ (digit_of c ≡ 256)
unfolding digit_of
digit_kinds c =
    ⊎_elim (λ h. inl (omega arith))
    (λ e.
    ⊎_elim (λ h. inl (omega arith))
    (λ f. ⊎_elim (λ h. inl (omega arith)) (λ g. inr (e ∙ f ∙ g)) (among_kinds 97 6 10 c 256))
    (among_kinds 65 6 10 c _))
    (among_kinds 48 10 0 c _)

pub digit_most : (c : ℕ) → digit_of c ≤ 256
digit_most c = ⊎_elim (λ h. omega arith) (λ e. omega arith) (digit_kinds c)

-- two characters say an octet where both are digits, and otherwise more than any
pub octet_told : (a b : ℕ) → (if nat_le (octet_of a b) 255 then Some (octet_of a b) else None) ≡ octet_said a b
octet_told a b =
    ⊎_elim
    (λ first. ⊎_elim
    (λ second. rw (lt-ltb (digit_of a) 16 first, lt-ltb (digit_of b) 16 second, le-leb (octet_of a b) 255 (omega arith)))
    (λ second. rw (lt-ltb (digit_of a) 16 first, le-ltb (digit_of b) 16 (omega arith), lt-leb (octet_of a b) 255 (omega arith)))
    (digit_kinds b))
    (λ first. rw (le-ltb (digit_of a) 16 (omega arith), lt-leb (octet_of a b) 255 (omega arith)))
    (digit_kinds a)

-- an octet that two characters say is chosen where both are digits
pick_octet : (t : Bool) (x y : ℕ) → Some x ≡ (if t then Some y else None) → (t ≡ true) × (x ≡ y)
pick_octet true x y e = (refl, cc)
pick_octet false x y e = cc

-- a pair in front of a line
module _ (a b : ℕ) (cs : List ℕ) where
  both : {x : ℕ} → Some x ≡ octet_said a b → ((is_digit a and is_digit b) ≡ true) × (x ≡ octet_of a b)
  both {x} said = pick_octet (is_digit a and is_digit b) x (octet_of a b) said

  -- that says an octet
  pub octets_said : {x : ℕ} → Some x ≡ octet_said a b → octets_in (a ∷ b ∷ cs) ≡ x ∷ octets_in cs
  octets_said {x} said = rw ((both said).0, (both said).1) refl

  pub digits_said : {x : ℕ} → Some x ≡ octet_said a b → all is_digit (a ∷ b ∷ cs) ≡ all is_digit cs
  digits_said {x} said = let p = and_true (is_digit a) (is_digit b) (both said).0 in rw (p.0, p.1) refl

  -- two digits say one
  octet_small : (is_digit a and is_digit b) ≡ true → octet_of a b < 256
  octet_small e =
      let p = and_true (is_digit a) (is_digit b) e in
      omega (arith, ltb-true (digit_of a) 16 p.0, ltb-true (digit_of b) 16 p.1)

-- the pair of a line from i on, and what follows it
pub pair_at : (l : List ℕ) (i : ℕ) → i + 1 < length l → drop i l ≡ get_or l i 0 ∷ get_or l (i + 1) 0 ∷ drop (i + 2) l
pair_at l i h =
    let first : drop i l ≡ get_or l i 0 ∷ drop (i + 1) l = rw (add-one, drop-cons l i 0 (omega arith)) in
    let second : drop (i + 1) l ≡ get_or l (i + 1) 0 ∷ drop (i + 2) l = drop-cons l (i + 1) 0 h ∙ ap (λ (k : ℕ). get_or l (i + 1) 0 ∷ drop k l) (let e : suc (i + 1) ≡ i + 2 = omega arith in e) in
    first ∙ ap (λ (t : List ℕ). get_or l i 0 ∷ t) second

-- what a line says are octets
pub octets_are : (l : List ℕ) → AreOctets (octets_in l)
octets_are [] = none_are
octets_are (a ∷ []) = none_are
octets_are (a ∷ b ∷ cs) = true_or (is_digit a and is_digit b) (λ e. rw e (cons_are (octet_small a b cs e) (octets_are cs))) (λ e. rw e none_are)

-- two characters each
pub octets_half : (l : List ℕ) → 2 * length (octets_in l) ≤ length l
octets_half [] = omega arith
octets_half (a ∷ []) = omega arith
octets_half (a ∷ b ∷ cs) = true_or (is_digit a and is_digit b) (λ e. rw e (omega (arith, octets_half cs))) (λ e. rw e (omega arith))

-- ---- a pair, by whether its values say an octet. No code goes so today; the laws stand

module _ (a b : ℕ) (cs : List ℕ) where
  -- that says an octet: both are digits
  both_small : octet_of a b < 256 → (is_digit a ≡ true) × (is_digit b ≡ true)
  both_small h =
      let second : digit_of b < 16 = ⊎_elim (λ g. g) (λ e. absurd (let no : ⊥ = omega arith in no)) (digit_kinds b) in
      (lt-ltb (digit_of a) 16 (omega arith), lt-ltb (digit_of b) 16 second)

  pub octets_pair : octet_of a b < 256 → octets_in (a ∷ b ∷ cs) ≡ octet_of a b ∷ octets_in cs
  octets_pair h = rw ((both_small h).0, (both_small h).1)

  pub digits_pair : octet_of a b < 256 → all is_digit (a ∷ b ∷ cs) ≡ all is_digit cs
  digits_pair h = rw ((both_small h).0, (both_small h).1)

  -- that says none: one of them is another character
  either : {P : Type 0} → 256 ≤ octet_of a b → (is_digit a ≡ false → P) → (is_digit a ≡ true → is_digit b ≡ false → P) → P
  either h f g =
      below_or (digit_of a) 16
      (λ first. below_or (digit_of b) 16 (λ second. absurd (let no : ⊥ = omega arith in no)) (λ second. g (lt-ltb _ _ first) (le-ltb _ _ second)))
      (λ first. f (le-ltb _ _ first))

  pub octets_other : 256 ≤ octet_of a b → octets_in (a ∷ b ∷ cs) ≡ []
  octets_other h = either h (λ e. rw e) (λ d e. rw (d, e))
