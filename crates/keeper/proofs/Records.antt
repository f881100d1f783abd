-- The first records of numbers, PDCP numbers and marks, when all three lists change.
-- Assumes nothing.
use mathlib.Core.Path.{◌≡◌, refl, sym, ap}
use mathlib.Core.Bool.{Bool, true}
use mathlib.Core.List.{List, [], ◌∷◌, ◌++◌}
use Prim.Native.Nat.{ℕ, zero, suc, ◌+◌, ◌-◌, ◌≤◌, ◌<◌, min}
use native.Mathlib.Omega.{arith}
use lib.ListN.{length, get_or, set, take, drop}
use lib.Seq.{length-take-le}
use Rattle.basics.specs.Basics.{is_set}
use Rattle.bearer.specs.Bearer.{most_records}
use Rattle.bearer.specs.Keeper.{Record, no_record, new_record, records_with, delivered}
use Rattle.keeper_state.specs.State.{records_of}
use Rattle.keeper_state.proofs.Records.{record_of, records_take, records_drop}

-- a record put in among records, of as many of all three
records_with_lem : (i n p : ℕ) (ns ps cs : List ℕ) → i ≤ length ns → length ns ≡ length ps → length ns ≡ length cs
    → records_of (take i ns ++ n ∷ drop i ns) (take i ps ++ p ∷ drop i ps) (take i cs ++ 0 ∷ drop i cs) ≡ records_with (records_of ns ps cs) i (new_record n p)
records_with_lem zero n p ns ps cs l h g = refl
records_with_lem (suc i) n p [] ps cs l h g = absurd (omega arith)
records_with_lem (suc i) n p (x ∷ ns) [] cs l h g = absurd (omega arith)
records_with_lem (suc i) n p (x ∷ ns) (y ∷ ps) [] l h g = absurd (omega arith)
records_with_lem (suc i) n p (x ∷ ns) (y ∷ ps) (z ∷ cs) l h g =
    ap (λ (rs : List Record). record_of x y z ∷ rs) (records_with_lem i n p ns ps cs (omega arith) (omega arith) (omega arith))

-- one of the first so many marked, by a number that is yes
pub records_mark : (mark : ℕ) → is_set mark ≡ true → (held i : ℕ) (ns ps cs : List ℕ) → i < length (take held (records_of ns ps cs))
    → take held (records_of ns ps (set cs i mark)) ≡ set (take held (records_of ns ps cs)) i (delivered (get_or (take held (records_of ns ps cs)) i no_record))
records_mark mark set_is zero i ns ps cs h = absurd (omega arith)
records_mark mark set_is (suc held) i [] ps cs h = absurd (omega arith)
records_mark mark set_is (suc held) i (x ∷ ns) [] cs h = absurd (omega arith)
records_mark mark set_is (suc held) i (x ∷ ns) (y ∷ ps) [] h = absurd (omega arith)
records_mark mark set_is (suc held) zero (x ∷ ns) (y ∷ ps) (z ∷ cs) h =
    ap (λ (confirmed : Bool). record { number = x; pdcp = y; confirmed = confirmed } ∷ take held (records_of ns ps cs)) set_is
records_mark mark set_is (suc held) (suc i) (x ∷ ns) (y ∷ ps) (z ∷ cs) h = ap (λ (rs : List Record). record_of x y z ∷ rs) (records_mark mark set_is held i ns ps cs (omega arith))

-- as many as a word says are held
module _ (ns ps cs ns' ps' cs' : List ℕ) (word held : ℕ) (held_is : held ≡ min word most_records) where
  -- all three get one more
  pub records_added : (i n p : ℕ) → i ≤ held → held < most_records → held ≤ length ns → held ≤ length ps → held ≤ length cs
      → take (held + 1) ns' ≡ take i (take held ns) ++ n ∷ drop i (take held ns)
      → take (held + 1) ps' ≡ take i (take held ps) ++ p ∷ drop i (take held ps)
      → take (held + 1) cs' ≡ take i (take held cs) ++ 0 ∷ drop i (take held cs)
      → take (min (held + 1) most_records) (records_of ns' ps' cs') ≡ records_with (take (min word most_records) (records_of ns ps cs)) i (new_record n p)
  records_added i n p l room hn hp hc en ep ec =
      let ln : length (take held ns) ≡ held = length-take-le held ns hn in
      let lp : length (take held ps) ≡ held = length-take-le held ps hp in
      let lc : length (take held cs) ≡ held = length-take-le held cs hc in
      let all : min (held + 1) most_records ≡ held + 1 = omega arith in
      rw (all, ← held_is, records_take (held + 1) ns' ps' cs', en, ep, ec, records_take held ns ps cs)
      (records_with_lem i n p (take held ns) (take held ps) (take held cs) (omega arith) (omega arith) (omega arith))

  -- all three lose k at the front
  pub records_left : (k : ℕ)
      → take (held - k) ns' ≡ drop k (take held ns) → take (held - k) ps' ≡ drop k (take held ps) → take (held - k) cs' ≡ drop k (take held cs)
      → take (min (held - k) most_records) (records_of ns' ps' cs') ≡ drop k (take (min word most_records) (records_of ns ps cs))
  records_left k en ep ec =
      let all : min (held - k) most_records ≡ held - k = omega arith in
      rw (all, ← held_is, records_take (held - k) ns' ps' cs', en, ep, ec, records_take held ns ps cs)
      (sym (records_drop k (take held ns) (take held ps) (take held cs)))
