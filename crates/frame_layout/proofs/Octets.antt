-- Numbers in octets, once over the width: what was put into octets stands there, and the octets of what stands there are those
-- octets. The same of ranges.
-- Assumes nothing.
use mathlib.Core.Path.{◌≡◌, refl, sym, ◌∙◌, ap, ap₂, subst}
use mathlib.Core.Bool.{Bool, true}
use mathlib.Core.List.{List, [], ◌∷◌, ◌++◌, append_assoc}
use Prim.Native.Nat.{ℕ, zero, suc, ◌+◌, ◌*◌, ◌/◌, ◌%◌, ◌^◌, ◌≤◌, ◌<◌}
use native.Mathlib.Omega.{arith}
use native.Mathlib.Nat.{zero-add, suc-add, add_comm, div-one, div-div-eq-div-mul, pow-succ', pow-suc, one-le-pow, mod-one, mod-eq_of_lt, zero-mul}
use borrow.Author.Tests.{ltb-true, lt-ltb}
use lib.Dec.{ltb}
use lib.Pow.{pow-add}
use lib.Arith.{digits_lt, digits_div, digits_mod, mod-mul}
use lib.ListN.{length, get_or, take, drop, length-append, length-drop}
use lib.Seq.{take-suc, take-add, drop-drop, get_or-drop, get_or-append-add, get_or_at}
use Rattle.basics.specs.Basics.{all, ◌and◌}
use Rattle.frame_layout.specs.Octets.{octets, field}
use Rattle.frame_layout.specs.Frames.{Range, width, in_form, range_octets, ranges_at}
use Rattle.frame_layout.specs.Trips.{AreOctets}
use Rattle.circle.specs.Lengths.{modulus}
use Rattle.basics.proofs.Choices.{and_true}
use Rattle.frame_layout.proofs.Forms.{modulus_is}

-- ---- lists of octets

pub none_are : AreOctets []
none_are = record { at = λ i. omega arith }

pub cons_are : {x : ℕ} {s : List ℕ} → x < 256 → AreOctets s → AreOctets (x ∷ s)
cons_are {x} {s} h a = record { at = go }
  where
    go : (i : ℕ) → get_or (x ∷ s) i 0 < 256
    go zero = h
    go (suc i) = a.at i

pub append_are : {s t : List ℕ} → AreOctets s → AreOctets t → AreOctets (s ++ t)
append_are {s = []} a b = b
append_are {s = x ∷ s} {t = t} a b = cons_are (a.at 0) (append_are {s = s} {t = t} (record { at = λ i. a.at (suc i) }) b)

-- a part of s, and then the part behind it, are one part
pub parts_join : (s : List ℕ) (i a j b : ℕ) → i + a ≡ j → take a (drop i s) ++ take b (drop j s) ≡ take (a + b) (drop i s)
parts_join s i a j b e =
    ap (λ (t : List ℕ). take a (drop i s) ++ take b t) (ap (λ (k : ℕ). drop k s) (sym e) ∙ sym (drop-drop a i s)) ∙ sym (take-add a b (drop i s))

-- ---- one number

-- a number in w octets takes w of them
pub length_octets : (w n : ℕ) → length (octets w n) ≡ w
length_octets zero n = refl
length_octets (suc w) n = ap suc (length_octets w n)

-- a number in v + w octets: what stands above the last w, and those
pub octets_split : (v w n : ℕ) → octets (v + w) n ≡ octets v (n / 256 ^ w) ++ octets w n
octets_split zero w n = rw (zero-add w)
octets_split (suc v) w n =
    let above : n / 256 ^ w / 256 ^ v ≡ n / 256 ^ (v + w) = div-div-eq-div-mul n (256 ^ w) (256 ^ v) ∙ sym (ap (λ (k : ℕ). n / k) (ap (λ (k : ℕ). 256 ^ k) (add_comm v w) ∙ pow-add 256 w v)) in
    rw (suc-add v w, above, octets_split v w n)

-- each of them is an octet
pub octets_are : (w n : ℕ) → AreOctets (octets w n)
octets_are zero n = none_are
octets_are (suc w) n = cons_are (omega arith) (octets_are w n)

-- the last is the number modulo 256, and those before it are the number without it
pub octets_last : (w n : ℕ) → octets (suc w) n ≡ octets w (n / 256) ++ (n % 256 ∷ [])
octets_last zero n = ap (λ (k : ℕ). k % 256 ∷ []) (div-one n)
octets_last (suc w) n =
    let shifted : n / 256 ^ suc w ≡ n / 256 / 256 ^ w = ap (λ (k : ℕ). n / k) (pow-succ' 256 w) ∙ sym (div-div-eq-div-mul n 256 (256 ^ w)) in
    ap₂ (λ (k : ℕ) (o : List ℕ). k % 256 ∷ o) shifted (octets_last w n)

-- what was put into w octets behind p stands there, but for what w octets can't hold
pub field_octets : (w n : ℕ) (p q : List ℕ) → field (p ++ (octets w n ++ q)) (length p) w ≡ n % 256 ^ w
field_octets zero n p q = sym (mod-one n)
field_octets (suc w) n p q =
    let o : List ℕ = octets w (n / 256) in
    let same : octets (suc w) n ++ q ≡ o ++ n % 256 ∷ q = ap (λ (t : List ℕ). t ++ q) (octets_last w n) ∙ append_assoc o (n % 256 ∷ []) q in
    let last : get_or (p ++ (o ++ n % 256 ∷ q)) (length p + w) 0 ≡ n % 256
    = get_or-append-add p (o ++ n % 256 ∷ q) w 0 ∙ get_or_at o (n % 256) q 0 w (length_octets w (n / 256)) in
    ap (λ (t : List ℕ). field (p ++ t) (length p) (suc w)) same
    ∙ ap₂ (λ (a b : ℕ). a * 256 + b) (field_octets w (n / 256) p (n % 256 ∷ q)) last
    ∙ sym (ap (λ (m : ℕ). n % m) (pow-suc 256 w) ∙ mod-mul n (one-le-pow w 256 (omega arith)) (omega arith))

-- a number that w octets hold, in octets s that are known to be p, the number and q, is read from the place behind p
pub field_of : (s p q : List ℕ) (i w n : ℕ) → s ≡ p ++ (octets w n ++ q) → length p ≡ i → n < 256 ^ w → field s i w ≡ n
field_of s p q i w n e l h = ap₂ (λ (t : List ℕ) (j : ℕ). field t j w) e (sym l) ∙ field_octets w n p q ∙ mod-eq_of_lt h

-- what stands in w octets is below 256 ^ w
pub field_below : (s : List ℕ) (i w : ℕ) → AreOctets s → field s i w < 256 ^ w
field_below s i zero o = omega arith
field_below s i (suc w) o = subst (λ (m : ℕ). field s i (suc w) < m) (sym (pow-suc 256 w)) (digits_lt (field_below s i w o) (o.at (i + w)))

-- the octets of what stands in w octets are those octets
pub octets_field : (s : List ℕ) (i w : ℕ) → AreOctets s → i + w ≤ length s → octets w (field s i w) ≡ take w (drop i s)
octets_field s i zero o h = refl
octets_field s i (suc w) o h =
    let x : ℕ = get_or s (i + w) 0 in
    let inside : w < length (drop i s) = simp length-drop (omega arith) in
    octets_last w (field s i w * 256 + x)
    ∙ ap₂ (λ (a b : ℕ). octets w a ++ (b ∷ [])) (digits_div (field s i w) (o.at (i + w))) (digits_mod (field s i w) (o.at (i + w)))
    ∙ ap₂ (λ (t : List ℕ) (b : ℕ). t ++ (b ∷ [])) (octets_field s i w o (omega arith)) (sym (get_or-drop i s w 0))
    ∙ sym (take-suc (drop i s) w 0 inside)

-- ---- ranges

-- the ends of a range of a form are held by its octets
pub in_form_held : (long : Bool) (r : Range) → in_form long r ≡ true → (r.start < 256 ^ width long) × (r.end < 256 ^ width long)
in_form_held long r h =
    let both = and_true (ltb r.start (modulus long)) (ltb r.end (modulus long)) h in
    rw (← (modulus_is long)) (ltb-true r.start (modulus long) both.0, ltb-true r.end (modulus long) both.1)

-- a range whose ends they hold is of the form
pub held_in_form : (long : Bool) (r : Range) → r.start < 256 ^ width long → r.end < 256 ^ width long → in_form long r ≡ true
held_in_form long r a b =
    simp (lt-ltb r.start (modulus long) (rw (modulus_is long) a), lt-ltb r.end (modulus long) (rw (modulus_is long) b))

-- n ranges take 2 * w octets each
pub length_range_octets : (w : ℕ) (rs : List Range) → length (range_octets w rs) ≡ length rs * (2 * w)
length_range_octets w [] = omega arith
length_range_octets w (r ∷ rs) = simp (length-append, length_octets, length_range_octets w rs) (omega arith)

-- each of them is an octet
pub range_octets_are : (w : ℕ) (rs : List Range) → AreOctets (range_octets w rs)
range_octets_are w [] = none_are
range_octets_are w (r ∷ rs) = append_are (append_are (octets_are w r.start) (octets_are w r.end)) (range_octets_are w rs)

-- ranges of a form that were put behind p are read from there
pub ranges_of_lem : (long : Bool) (s p q : List ℕ) (i : ℕ) (rs : List Range)
    → s ≡ p ++ (range_octets (width long) rs ++ q) → length p ≡ i → all (in_form long) rs ≡ true → ranges_at s (width long) i (length rs) ≡ rs
ranges_of_lem long s p q i [] e l h = refl
ranges_of_lem long s p q i (r ∷ rs) e l h =
    let w : ℕ = width long in
    let a : List ℕ = octets w r.start in
    let b : List ℕ = octets w r.end in
    let t : List ℕ = range_octets w rs in
    let both = and_true (in_form long r) (all (in_form long) rs) h in
    let held = in_form_held long r both.0 in
    let behind-a : length (p ++ a) ≡ i + w = simp (length-append, length_octets) (omega arith) in
    let behind-b : length (p ++ a ++ b) ≡ i + 2 * w = simp (length-append, length_octets) (omega arith) in
    let start : field s i w ≡ r.start = field_of s p (b ++ (t ++ q)) i w r.start (e ∙ simp append_assoc) l held.0 in
    let end : field s (i + w) w ≡ r.end = field_of s (p ++ a) (t ++ q) (i + w) w r.end (e ∙ simp append_assoc) behind-a held.1 in
    let rest = ranges_of_lem long s (p ++ a ++ b) q (i + 2 * w) rs (e ∙ simp append_assoc) behind-b both.1 in
    λ j. record { start = start j; end = end j } ∷ rest j

-- there are as many ranges as were asked for
pub length_ranges_at : (s : List ℕ) (w i n : ℕ) → length (ranges_at s w i n) ≡ n
length_ranges_at s w i zero = refl
length_ranges_at s w i (suc n) = ap suc (length_ranges_at s w (i + 2 * w) n)

-- ranges that are read are of the form
pub ranges_at_in_form : (long : Bool) (s : List ℕ) (i n : ℕ) → AreOctets s → all (in_form long) (ranges_at s (width long) i n) ≡ true
ranges_at_in_form long s i zero o = refl
ranges_at_in_form long s i (suc n) o =
    let w : ℕ = width long in
    let r : Range = record { start = field s i w; end = field s (i + w) w } in
    ap₂ ◌and◌ (held_in_form long r (field_below s i w o) (field_below s (i + w) w o)) (ranges_at_in_form long s (i + 2 * w) n o)

-- the octets of the ranges read are the octets that they were read from
pub range_octets_ranges_at : (s : List ℕ) (w i n : ℕ) → AreOctets s → i + n * (2 * w) ≤ length s
    → range_octets w (ranges_at s w i n) ≡ take (n * (2 * w)) (drop i s)
range_octets_ranges_at s w i zero o h = ap (λ (k : ℕ). take k (drop i s)) (sym (zero-mul (2 * w)))
range_octets_ranges_at s w i (suc n) o h =
    let start : octets w (field s i w) ≡ take w (drop i s) = octets_field s i w o (omega arith) in
    let end : octets w (field s (i + w) w) ≡ take w (drop (i + w) s) = octets_field s (i + w) w o (omega arith) in
    let rest = range_octets_ranges_at s w (i + 2 * w) n o (omega arith) in
    let more : w + w + n * (2 * w) ≡ suc n * (2 * w) = omega arith in
    ap₂ ◌++◌ (ap₂ ◌++◌ start end ∙ parts_join s i w (i + w) w refl) rest
    ∙ parts_join s i (w + w) (i + 2 * w) (n * (2 * w)) (omega arith)
    ∙ ap (λ (k : ℕ). take k (drop i s)) more
