-- Where the oldest waiting entry stands, and that the ledger goes on knowing it: a send puts an entry behind all others, a status turns and frees
-- waiting ones alone, and a take lets one entry go.
-- Assumes nothing.
use Rattle.std.specs.Prelude.{if◌then◌else◌}
use mathlib.Core.Path.{◌≡◌, refl, ap}
use mathlib.Core.Bool.{Bool, true, false}
use mathlib.Core.List.{List, [], ◌∷◌, ◌++◌}
use mathlib.Core.Logic.{◌⊎◌, inl, inr}
use Prim.Native.Nat.{ℕ, zero, suc, ◌+◌, ◌-◌, ◌≤◌, ◌<◌}
use native.Mathlib.Omega.{arith}
use borrow.Author.Tests.{lt-ltb, le-ltb}
use lib.ListN.{length, drop}
use Rattle.basics.proofs.Choices.{tested, order}
use Rattle.bearer.specs.Ledger.{Entry, waits, waiting_at, place_without}
use Rattle.bearer.specs.LedgerMeaning.{waiting_in, in_front, TurnedLost, turned_end, turns, as_it_was}
use Rattle.bearer.proofs.Master.Frees.{left_over}

-- ---- what it says

-- it is behind the lost entries in front of it
pub behind_lost : (es : List (Entry ℕ)) → waiting_at es ≡ length (in_front es)
behind_lost [] = refl
behind_lost (e ∷ es) = go (waits e) (behind_lost es)
  where
    go : (b : Bool) → waiting_at es ≡ length (in_front es) → (if b then 0 else suc (waiting_at es)) ≡ length (if b then [] else e ∷ in_front es)
    go true r = refl
    go false r = ap suc r

-- from there on stand the waiting entries, the oldest first
pub oldest_there : (es : List (Entry ℕ)) → waiting_in (drop (waiting_at es) es) ≡ waiting_in es
oldest_there [] = refl
oldest_there (e ∷ es) = go (waits e) refl (oldest_there es)
  where
    go : (b : Bool) → waits e ≡ b → waiting_in (drop (waiting_at es) es) ≡ waiting_in es
        → waiting_in (drop (if b then 0 else suc (waiting_at es)) (e ∷ es)) ≡ (if b then e ∷ waiting_in es else waiting_in es)
    go true w r = rw w
    go false w r = r

-- what stands there waits
pub waits_there : (es : List (Entry ℕ)) (e : Entry ℕ) (rest : List (Entry ℕ)) → drop (waiting_at es) es ≡ e ∷ rest → waits e ≡ true
waits_there [] e rest q = absurd (let z : ◌≡◌ {A = ℕ} 0 1 = cc in omega arith)
waits_there (x ∷ es) e rest q = go (tested (waits x)) (waits_there es e rest)
  where
    go : (waits x ≡ true) ⊎ (waits x ≡ false) → (drop (waiting_at es) es ≡ e ∷ rest → waits e ≡ true) → waits e ≡ true
    go (inl w) r = let same : x ∷ es ≡ e ∷ rest = rw w at q in let here : x ≡ e = cc in rw (← here) w
    go (inr w) r = r (rw w at q)

-- ---- it is known on

-- looked for from a place that it isn't in front of, it is found
pub found_from : (n : ℕ) (es : List (Entry ℕ)) → n ≤ waiting_at es → n + waiting_at (drop n es) ≡ waiting_at es
found_from zero es h = omega arith
found_from (suc n) [] h = absurd (omega arith)
found_from (suc n) (e ∷ es) h = go (waits e) h (found_from n es)
  where
    go : (b : Bool) → suc n ≤ (if b then 0 else suc (waiting_at es)) → (n ≤ waiting_at es → n + waiting_at (drop n es) ≡ waiting_at es)
        → suc n + waiting_at (drop n es) ≡ (if b then 0 else suc (waiting_at es))
    go true h r = absurd (omega arith)
    go false h r = let s = r (omega arith) in omega arith

-- a waiting entry behind all others leaves it where it is, or is it
pub oldest_appended : (es : List (Entry ℕ)) (e : Entry ℕ) → waits e ≡ true → waiting_at (es ++ (e ∷ [])) ≡ waiting_at es
oldest_appended [] e w = rw w
oldest_appended (x ∷ es) e w = ap (λ (n : ℕ). if waits x then 0 else suc n) (oldest_appended es e w)

-- where entries turn lost it goes on
pub oldest_turned : {ns : List ℕ} {es ds : List (Entry ℕ)} → TurnedLost ns es ds → waiting_at es ≤ waiting_at ds
oldest_turned turned_end = omega arith
oldest_turned (turns e w t) = rw w (omega arith)
oldest_turned (as_it_was {es = es} {ds = ds} e t) = go (waits e) (oldest_turned t)
  where
    go : (b : Bool) → waiting_at es ≤ waiting_at ds → (if b then 0 else suc (waiting_at es)) ≤ (if b then 0 else suc (waiting_at ds))
    go true r = omega arith
    go false r = omega arith

-- and where they are freed
pub oldest_left : (g : ℕ) (es : List (Entry ℕ)) → waiting_at es ≤ waiting_at (left_over g es)
oldest_left g [] = omega arith
oldest_left g (e ∷ es) = go (tested (waits e)) (oldest_left g es)
  where
    go : (waits e ≡ true) ⊎ (waits e ≡ false) → waiting_at es ≤ waiting_at (left_over g es) → waiting_at (e ∷ es) ≤ waiting_at (left_over g (e ∷ es))
    go (inl w) r = rw w (omega arith)
    go (inr w) r = rw w (rw w (omega arith))

-- where an entry is taken it stays, or goes up by that one
pub oldest_without : (front : List (Entry ℕ)) (e : Entry ℕ) (back : List (Entry ℕ)) → place_without (length front) (waiting_at (front ++ (e ∷ back))) ≤ waiting_at (front ++ back)
oldest_without [] e back = go (waits e)
  where
    go : (b : Bool) → place_without 0 (if b then 0 else suc (waiting_at back)) ≤ waiting_at back
    go true = omega arith
    go false = rw (lt-ltb 0 (suc (waiting_at back)) (omega arith)) (omega arith)
oldest_without (x ∷ front) e back = go (waits x) (order (length front) n) (oldest_without front e back)
  where
    -- where it stands behind the first, and where without the entry
    n : ℕ
    n = waiting_at (front ++ (e ∷ back))

    m : ℕ
    m = waiting_at (front ++ back)

    go : (b : Bool) → (length front < n) ⊎ (n ≤ length front) → place_without (length front) n ≤ m
        → place_without (suc (length front)) (if b then 0 else suc n) ≤ (if b then 0 else suc m)
    go true t r = rw (le-ltb (suc (length front)) 0 (omega arith)) (omega arith)
    go false (inl t) r = rw (lt-ltb (suc (length front)) (suc n) (omega arith)) (let s : n - 1 ≤ m = rw (lt-ltb (length front) n t) at r in omega arith)
    go false (inr t) r = rw (le-ltb (suc (length front)) (suc n) (omega arith)) (let s : n ≤ m = rw (le-ltb (length front) n t) at r in omega arith)
