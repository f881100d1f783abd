-- A line is its first field, and the fields behind it, each with a tab before it.
-- Assumes nothing.
use Rattle.std.specs.Prelude.{if◌then◌else◌, ◌==◌, cond, not, nat_lt, Some, None, ◌-◌}
use Rattle.std.specs.List.{position, position_or_len}
use Rattle.std.specs.Option.{unwrap_or}
use Rattle.std.proofs.lemmas.Bool.{ltb-false}
use Rattle.std.proofs.Common.{take_all}
use mathlib.Core.Path.{◌≡◌, refl, ap}
use mathlib.Core.Bool.{Bool, true, false}
use mathlib.Core.List.{List, [], ◌∷◌}
use Prim.Native.Nat.{ℕ, suc, ◌+◌, ◌≤◌, ◌<◌}
use native.Mathlib.Omega.{arith}
use native.Mathlib.Numerals.{add-one}
use lib.Dec.{eqb}
use lib.ListN.{length, get_or, take, drop}
use lib.Seq.{drop-cons}
use Rattle.lister_text.specs.Texts.{tab, onto}
use Rattle.replay_calls.specs.Calls.{fields_in, first_field, tabbed_fields}

-- its fields
pub fields_split : (l : List ℕ) → fields_in l ≡ first_field l ∷ tabbed_fields (drop (length (first_field l)) l)
fields_split [] = refl
fields_split (c ∷ cs) = by (eqb c tab) (fields_split cs)
  where
    by : (b : Bool)
        → fields_in cs ≡ first_field cs ∷ tabbed_fields (drop (length (first_field cs)) cs)
        → (if b then [] ∷ fields_in cs else onto c (fields_in cs))
        ≡ (if b then [] else (c ∷ first_field cs)) ∷ tabbed_fields (drop (length (if b then [] else (c ∷ first_field cs))) (c ∷ cs))
    by true e = refl
    by false e = ap (onto c) e

-- the first one stands at the front
pub first_front : (l : List ℕ) → take (length (first_field l)) l ≡ first_field l
first_front [] = refl
first_front (c ∷ cs) = by (eqb c tab) (first_front cs)
  where
    by : (b : Bool) → take (length (first_field cs)) cs ≡ first_field cs → take (length (if b then [] else (c ∷ first_field cs))) (c ∷ cs) ≡ (if b then [] else (c ∷ first_field cs))
    by true e = refl
    by false e = ap (λ (t : List ℕ). c ∷ t) e

pub first_within : (l : List ℕ) → length (first_field l) ≤ length l
first_within [] = omega arith
first_within (c ∷ cs) = by (eqb c tab) (first_within cs)
  where
    by : (b : Bool) → length (first_field cs) ≤ length cs → length (if b then [] else (c ∷ first_field cs)) ≤ suc (length cs)
    by true e = omega arith
    by false e = omega arith

-- and ends at the first tab
pub first_ends : (l : List ℕ) → position_or_len (λ c. c == tab) l ≡ length (first_field l)
first_ends [] = refl
first_ends (c ∷ cs) = by (eqb c tab) (first_ends cs)
  where
    by : (b : Bool) → position_or_len (λ c. c == tab) cs ≡ length (first_field cs)
        → cond (not b) (1 + position_or_len (λ c. c == tab) cs) 0 ≡ length (if b then [] else (c ∷ first_field cs))
    by true e = refl
    by false e = omega (arith, e)

-- or at the end
pub first_at : (l : List ℕ) → unwrap_or (position (λ c. c == tab) l) (length l) ≡ length (first_field l)
first_at l = by (nat_lt (position_or_len (λ c. c == tab) l) (length l)) refl
  where
    by : (b : Bool) → nat_lt (position_or_len (λ c. c == tab) l) (length l) ≡ b → unwrap_or (cond b (Some (position_or_len (λ c. c == tab) l)) None) (length l) ≡ length (first_field l)
    by true e = first_ends l
    by false e = omega (arith, ltb-false (position_or_len (λ c. c == tab) l) (length l) e, first_ends l, first_within l)

-- ---- behind a tab

-- what stands behind the first octet, as the code takes it
abbrev pub behind : List ℕ → List ℕ
behind l = take (length l - 1) (drop 1 l)

-- where there is one
pub behind_one : (c : ℕ) (cs : List ℕ) → behind (c ∷ cs) ≡ cs
behind_one c cs = take_all (length (c ∷ cs) - 1) cs (omega arith)

-- ---- at a place

-- what stands there, and what behind it
pub split : (l : List ℕ) (i : ℕ) → i < length l → drop i l ≡ get_or l i 0 ∷ drop (i + 1) l
split l i h = rw (add-one, drop-cons l i 0)
