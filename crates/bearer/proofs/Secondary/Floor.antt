-- Floor: "the earliest of base, the listed numbers and the numbers with records" is that of base, the first run and the first record, since
-- both stand in sending order.
-- Assumes nothing.
use mathlib.Core.Path.{◌≡◌, refl, sym, ◌∙◌, ap, ap₂}
use mathlib.Core.List.{List, [], ◌∷◌, ◌++◌}
use Prim.Native.Nat.{ℕ, suc, ◌-◌, min, max}
use native.Mathlib.Omega.{arith}
use Rattle.bearer.specs.Losses.{Gap}
use Rattle.bearer.specs.Packets.{Rising}
use Rattle.bearer.specs.Account.{Account, packets_of, Maximal, indexes, untold, listed}
use Rattle.bearer.specs.Refusals.{earliest, floor_of}
use Rattle.bearer.proofs.Lists.Elements.{rising_drop}
use Rattle.bearer.proofs.Secondary.Index.{froms, first_back, floor_i}
use Rattle.bearer.proofs.Secondary.Runs.{maximal_first}
use Rattle.bearer.proofs.Secondary.Follows.{Follows}
use Rattle.bearer.proofs.Secondary.Accounts.{indexed_of}

-- how far the earlier of two packets is behind base
back_min : (b i j : ℕ) → b - min i j ≡ max (b - i) (b - j)
back_min b i j = omega arith

max_assoc : (i j k : ℕ) → max i (max j k) ≡ max (max i j) k
max_assoc i j k = omega arith

-- how far the earliest of two lists is
back_append : (b : ℕ) (xs ys : List ℕ) → b - earliest b (xs ++ ys) ≡ max (b - earliest b xs) (b - earliest b ys)
back_append b [] ys = omega arith
back_append b (x ∷ xs) ys =
    back_min b x (earliest b (xs ++ ys))
    ∙ ap (max (b - x)) (back_append b xs ys)
    ∙ max_assoc (b - x) (b - earliest b xs) (b - earliest b ys)
    ∙ ap (λ (i : ℕ). max i (b - earliest b ys)) (sym (back_min b x (earliest b xs)))

-- the earliest of packets in sending order is the first
back_rising : (b : ℕ) (xs : List ℕ) → Rising xs → b - earliest b xs ≡ first_back b xs
back_rising b [] r = omega arith
back_rising b (x ∷ []) r = omega arith
back_rising b (x ∷ y ∷ ys) r = let others : b - earliest b (y ∷ ys) ≡ b - y = back_rising b (y ∷ ys) r.1 in omega arith

-- the first packet of runs is the start of the first
back_runs : (b : ℕ) (gs : List Gap) → Maximal gs → first_back b (packets_of gs) ≡ first_back b (froms gs)
back_runs b [] m = refl
back_runs b (g ∷ gs) m =
    let first = maximal_first g gs m in
    let long : g.to - g.from ≡ suc (g.to - g.from - 1) = omega arith in
    rw long

-- forward from floor to base
pub floor_is : {h base : ℕ} {a : Account} → Follows h (indexed_of base a) a.fates a.told → floor_i (indexed_of base a) ≡ base - floor_of a base
floor_is {base = base} {a = a} F =
    let lost = untold a.told a.fates in
    let held = indexes a.records in
    let lost-rise : Rising lost = rising_drop a.told a.fates.lost F.fates.lost_rising in
    let runs : first_back base (froms (listed a)) ≡ base - earliest base lost =
    sym (back_runs base (listed a) F.runs.maximal) ∙ ap (first_back base) F.runs.hold ∙ sym (back_rising base lost lost-rise) in
    let records : first_back base held ≡ base - earliest base held = sym (back_rising base held F.records.rising) in
    ap₂ max runs records ∙ sym (back_append base lost held)
