-- New runs behind those that are listed: the first may join the last listed, and then the list is one shorter.
-- Assumes nothing.
use mathlib.Core.Path.{◌≡◌, refl, sym, ap}
use mathlib.Core.Bool.{Bool, true, false}
use mathlib.Core.List.{List, [], ◌∷◌, ◌++◌, append-nil, append_assoc}
use Prim.Native.Nat.{ℕ, zero, suc, ◌+◌, ◌-◌, ◌<◌}
use native.Mathlib.Omega.{arith}
use lib.ListN.{length, get_or, take, length-append, length-map}
use lib.Seq.{length-take-le}
use Rattle.basics.specs.Basics.{bit}
use Rattle.frame_layout.specs.Frames.{Range, starts_of, ends_of}
use Rattle.bearer.specs.Losses.{joined, runs_joined}
use Rattle.keeper_judge.specs.Judgements.{adjoins_last, first_adjoins}

-- ---- one more run

-- behind the last, where it doesn't adjoin that
joined_apart : (M : ℕ) (runs : List Range) (r : Range) → adjoins_last M (ends_of runs) r.start ≡ false → joined M runs r ≡ runs ++ (r ∷ [])
joined_apart M [] r h = refl
joined_apart M (x ∷ []) r h = rw h
joined_apart M (x ∷ y ∷ ys) r h = ap (λ (l : List Range). x ∷ l) (joined_apart M (y ∷ ys) r h)

-- in its place, which keeps its start, where it does
joined_last : (M : ℕ) (runs : List Range) (r : Range) (i : ℕ) → i + 1 ≡ length runs → adjoins_last M (ends_of runs) r.start ≡ true
    → joined M runs r ≡ take i runs ++ (record { start = get_or (starts_of runs) i 0; end = r.end } ∷ [])
joined_last M [] r i l h = absurd (omega arith)
joined_last M (x ∷ []) r i l h = let z : i ≡ 0 = omega arith in rw (h, z)
joined_last M (x ∷ y ∷ ys) r zero l h = absurd (omega arith)
joined_last M (x ∷ y ∷ ys) r (suc i) l h = ap (λ (l : List Range). x ∷ l) (joined_last M (y ∷ ys) r i (omega arith) h)

-- ---- new runs

-- a run that adjoins the last of some has some
adjoins_some : (M : ℕ) (es : List ℕ) (start : ℕ) → adjoins_last M es start ≡ true → 0 < length es
adjoins_some M [] start h = let z : ◌≡◌ {A = ℕ} 0 1 = cc in omega arith
adjoins_some M (e ∷ es) start h = omega arith

-- and so has the first of new runs
pub adjoins_listed : (M : ℕ) (es : List ℕ) (new : List Range) → first_adjoins M es new ≡ true → 0 < length es
adjoins_listed M es [] h = let z : ◌≡◌ {A = ℕ} 0 1 = cc in absurd (omega arith)
adjoins_listed M es (r ∷ rs) h = adjoins_some M es r.start h

-- all behind the last
pub with_apart : (M : ℕ) (runs new : List Range) → first_adjoins M (ends_of runs) new ≡ false → runs_joined M runs new ≡ runs ++ new
with_apart M runs [] h = sym (append-nil runs)
with_apart M runs (r ∷ rs) h = rw (joined_apart M runs r h) (append_assoc runs (r ∷ []) rs)

-- the first in the place of the last
pub with_joined : (M : ℕ) (runs : List Range) (r : Range) (rs : List Range) (i : ℕ) → i + 1 ≡ length runs → first_adjoins M (ends_of runs) (r ∷ rs) ≡ true
    → runs_joined M runs (r ∷ rs) ≡ take i runs ++ (record { start = get_or (starts_of runs) i 0; end = r.end } ∷ rs)
with_joined M runs r rs i l h =
    let x : Range = record { start = get_or (starts_of runs) i 0; end = r.end } in
    rw (joined_last M runs r i l h) (append_assoc (take i runs) (x ∷ []) rs)

-- how many runs are listed then, where the first doesn't adjoin
pub count_apart : (M : ℕ) (runs new : List Range) → first_adjoins M (ends_of runs) new ≡ false → length (runs_joined M runs new) ≡ length runs + length new
count_apart M runs new h = rw (with_apart M runs new h) (length-append runs new)

-- and where it does
pub count_joined : (M : ℕ) (runs new : List Range) → first_adjoins M (ends_of runs) new ≡ true → length (runs_joined M runs new) + 1 ≡ length runs + length new
count_joined M runs [] h = let z : ◌≡◌ {A = ℕ} 0 1 = cc in absurd (omega arith)
count_joined M runs (r ∷ rs) h =
    let some : 0 < length runs = omega (arith, adjoins_some M (ends_of runs) r.start h, length-map runs (λ (r : Range). r.end)) in
    let i = length runs - 1 in
    let x : Range = record { start = get_or (starts_of runs) i 0; end = r.end } in
    let whole = length-append (take i runs) (x ∷ rs) in
    let front : length (take i runs) ≡ i = length-take-le i runs (omega arith) in
    rw (with_joined M runs r rs i (omega arith) h) (omega arith)

-- in one
pub count_with : (M : ℕ) (runs new : List Range) (t : Bool) → first_adjoins M (ends_of runs) new ≡ t → length (runs_joined M runs new) + bit t ≡ length runs + length new
count_with M runs new true h = count_joined M runs new h
count_with M runs new false h = omega (arith, count_apart M runs new h)
