-- The number that digits say.
-- Assumes nothing.
use Rattle.std.specs.Prelude.{if◌then◌else◌}
use mathlib.Core.Path.{◌≡◌, refl, sym, ◌∙◌, ap}
use mathlib.Core.Bool.{Bool, true, false, not}
use mathlib.Core.List.{List, [], ◌∷◌}
use Prim.Native.Nat.{ℕ, ◌+◌, ◌-◌, ◌*◌, ◌≤◌, ◌<◌}
use Prim.Native.Char.{code}
use native.Mathlib.Omega.{arith}
use lib.Dec.{ltb, eqb}
use lib.ListN.{length, get_or, drop}
use Rattle.replay_calls.proofs.Fields.{split}
use borrow.Author.Tests.{lt-ltb}
use Rattle.std.proofs.lemmas.Bool.{le-ltb}
use Rattle.std.proofs.Math.ListN.{drop_of_length-le}
use Rattle.basics.specs.Basics.{◌or◌, all}
use Rattle.replay_calls.specs.Calls.{is_decimal, digit_in, value_of, most_number, no_number, number_of}
use Rattle.std.specs.Prelude.{Some, None}

-- more digits make no number smaller
pub value_grows : (v : ℕ) (cs : List ℕ) → v ≤ value_of v cs
value_grows v [] = omega arith
value_grows v (c ∷ cs) = omega (arith, value_grows (v * 10 + (c - code "0")) cs)

-- ---- a digit

-- a digit read is one, and its value
pub decimal_small : (c d : ℕ) → Some d ≡ digit_in c → (is_decimal c ≡ true) × (d ≡ c - code "0")
decimal_small c d = by (is_decimal c)
  where
    by : (b : Bool) → Some d ≡ (if b then Some (c - code "0") else None) → (b ≡ true) × (d ≡ c - code "0")
    by true e = (refl, cc)
    by false e = cc

-- its value alone
pub digit_says : (c d : ℕ) → Some d ≡ digit_in c → d ≡ c - code "0"
digit_says c d e = (decimal_small c d e).1

-- ---- a field

module _ (f : List ℕ) where
  unread : no_number f ≡ true → number_of f ≡ None
  unread e = rw e

  -- with too many
  pub unread_long : 10 < length f → number_of f ≡ None
  unread_long h = unread (by (eqb (length f) 0))
    where
      by : (a : Bool) → (a or ltb 10 (length f) or not (all is_decimal f) or ltb most_number (value_of 0 f)) ≡ true
      by true = refl
      by false = rw (lt-ltb 10 (length f) h)

  -- above the largest
  pub unread_large : most_number < value_of 0 f → number_of f ≡ None
  unread_large h = unread (by (eqb (length f) 0) (ltb 10 (length f)) (not (all is_decimal f)))
    where
      by : (a b c : Bool) → (a or b or c or ltb most_number (value_of 0 f)) ≡ true
      by true b c = refl
      by false true c = refl
      by false false true = refl
      by false false false = lt-ltb most_number (value_of 0 f) h

-- ---- the digits from a place on

module _ (f : List ℕ) (i : ℕ) where
  pub value_on : i < length f → (v : ℕ) → value_of v (drop i f) ≡ value_of (v * 10 + (get_or f i 0 - code "0")) (drop (i + 1) f)
  value_on h v = rw (split f i h)

  -- what more digits make too large is too large
  pub grown_large : i < length f → (v : ℕ) → value_of v (drop i f) ≡ value_of 0 f → most_number < v * 10 + (get_or f i 0 - code "0") → number_of f ≡ None
  grown_large h v e large = unread_large f (omega (arith, e, value_on h v, value_grows (v * 10 + (get_or f i 0 - code "0")) (drop (i + 1) f)))

  -- where all digits are read, and none of this is so
  pub read_whole : (v : ℕ) → length f ≤ i → eqb (length f) 0 ≡ false → length f ≤ 10 → v ≤ most_number
      → all is_decimal (drop i f) ≡ all is_decimal f → value_of v (drop i f) ≡ value_of 0 f → Some v ≡ number_of f
  read_whole v ended some few small digits value =
      let none : drop i f ≡ [] = drop_of_length-le f ended in
      let same : value_of 0 f ≡ v = sym value ∙ ap (value_of v) none in
      let decimal : all is_decimal f ≡ true = sym digits ∙ ap (all is_decimal) none in
      let within : ltb most_number (value_of 0 f) ≡ false = le-ltb most_number (value_of 0 f) (omega (arith, same)) in
      rw (some, le-ltb 10 (length f) few, decimal, within, same)
