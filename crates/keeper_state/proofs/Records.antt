-- Numbers, PDCP numbers and marks as records: parts of the three lists are parts of the records.
-- Assumes nothing.
use mathlib.Core.Path.{◌≡◌, refl, sym, ap}
use mathlib.Core.List.{List, [], ◌∷◌}
use Prim.Native.Nat.{ℕ, zero, suc, ◌≤◌, ◌<◌, min}
use native.Mathlib.Omega.{arith}
use lib.ListN.{length, get_or, take, drop}
use Rattle.bearer.specs.Keeper.{Record, no_record, numbers_of}
use Rattle.basics.specs.Basics.{is_set}
use Rattle.keeper_state.specs.State.{records_of}

-- a record, by what three arrays hold of it
abbrev pub record_of : ℕ → ℕ → ℕ → Record
record_of n p c = record { number = n; pdcp = p; confirmed = is_set c }

-- the first records are those of the first of each list
pub records_take : (i : ℕ) (ns ps cs : List ℕ) → take i (records_of ns ps cs) ≡ records_of (take i ns) (take i ps) (take i cs)
records_take zero ns ps cs = refl
records_take (suc i) [] ps cs = refl
records_take (suc i) (n ∷ ns) [] cs = refl
records_take (suc i) (n ∷ ns) (p ∷ ps) [] = refl
records_take (suc i) (n ∷ ns) (p ∷ ps) (c ∷ cs) = ap (λ (rs : List Record). record_of n p c ∷ rs) (records_take i ns ps cs)

-- no records without PDCP numbers
records_no_pdcp : (ns cs : List ℕ) → records_of ns [] cs ≡ []
records_no_pdcp [] cs = refl
records_no_pdcp (n ∷ ns) cs = refl

-- nor without marks
records_no_mark : (ns ps : List ℕ) → records_of ns ps [] ≡ []
records_no_mark [] ps = refl
records_no_mark (n ∷ ns) [] = refl
records_no_mark (n ∷ ns) (p ∷ ps) = refl

-- and so are those behind
pub records_drop : (i : ℕ) (ns ps cs : List ℕ) → drop i (records_of ns ps cs) ≡ records_of (drop i ns) (drop i ps) (drop i cs)
records_drop zero ns ps cs = refl
records_drop (suc i) [] ps cs = refl
records_drop (suc i) (n ∷ ns) [] cs = sym (records_no_pdcp (drop i ns) (drop (suc i) cs))
records_drop (suc i) (n ∷ ns) (p ∷ ps) [] = sym (records_no_mark (drop i ns) (drop i ps))
records_drop (suc i) (n ∷ ns) (p ∷ ps) (c ∷ cs) = records_drop i ns ps cs

-- what stands in one of them
pub record_at_lem : (i : ℕ) (ns ps cs : List ℕ) → i < length ns → i < length ps → i < length cs
    → get_or (records_of ns ps cs) i no_record ≡ record_of (get_or ns i 0) (get_or ps i 0) (get_or cs i 0)
record_at_lem i [] ps cs hn hp hc = absurd (omega arith)
record_at_lem i (n ∷ ns) [] cs hn hp hc = absurd (omega arith)
record_at_lem i (n ∷ ns) (p ∷ ps) [] hn hp hc = absurd (omega arith)
record_at_lem zero (n ∷ ns) (p ∷ ps) (c ∷ cs) hn hp hc = refl
record_at_lem (suc i) (n ∷ ns) (p ∷ ps) (c ∷ cs) hn hp hc = record_at_lem i ns ps cs (omega arith) (omega arith) (omega arith)

-- ---- the first n records, where there are so many of all three

-- their numbers are the first numbers
pub numbers_held : (n : ℕ) (ns ps cs : List ℕ) → n ≤ length ns → n ≤ length ps → n ≤ length cs → numbers_of (take n (records_of ns ps cs)) ≡ take n ns
numbers_held zero ns ps cs hn hp hc = refl
numbers_held (suc n) [] ps cs hn hp hc = absurd (omega arith)
numbers_held (suc n) (x ∷ ns) [] cs hn hp hc = absurd (omega arith)
numbers_held (suc n) (x ∷ ns) (y ∷ ps) [] hn hp hc = absurd (omega arith)
numbers_held (suc n) (x ∷ ns) (y ∷ ps) (z ∷ cs) hn hp hc = ap (λ (l : List ℕ). x ∷ l) (numbers_held n ns ps cs (omega arith) (omega arith) (omega arith))

-- there are as many records as there are of all three
pub records_count : (ns ps cs : List ℕ) → length (records_of ns ps cs) ≡ min (length ns) (min (length ps) (length cs))
records_count [] ps cs = omega arith
records_count (x ∷ ns) [] cs = omega arith
records_count (x ∷ ns) (y ∷ ps) [] = omega arith
records_count (x ∷ ns) (y ∷ ps) (z ∷ cs) = omega (arith, records_count ns ps cs)
