-- A sum of waiting sizes beside entries that change: as long as it is lowered by each size that waits no longer, it is what the machine leaves.
-- Assumes nothing.
use Rattle.std.specs.Prelude.{if◌then◌else◌}
use mathlib.Core.Path.{◌≡◌, sym, ◌∙◌, ap}
use mathlib.Core.Bool.{true}
use mathlib.Core.List.{List, ◌∷◌, ◌++◌, [], append_assoc}
use Prim.Native.Nat.{ℕ, suc, ◌+◌, ◌-◌, ◌<◌}
use native.Mathlib.Numerals.{add-one}
use native.Mathlib.Omega.{arith}
use lib.ListN.{length, set, take, drop, take-append-drop}
use lib.Seq.{take-suc-set, drop-set-lt}
use Rattle.bearer.specs.Ledger.{Entry, waits, as_lost, waiting_sizes}
use Rattle.bearer.proofs.Master.Sums.{sizes_without}
use Rattle.ledger_entries.specs.Steps.{Lowers}
use Rattle.ledger_entries.proofs.Slots.{Stands}

-- nothing has changed
pub lowers_none : (octets : ℕ) (xs : List (Entry Unit)) → Lowers octets xs xs octets
lowers_none octets xs = record { no_more = omega arith; left_is = omega arith }

-- entries give way to others, and these to others again
pub lowers_then : {a b c : ℕ} {xs ys zs : List (Entry Unit)} → Lowers a xs ys b → Lowers b ys zs c → Lowers a xs zs c
lowers_then f g =
    let few = f.no_more in
    let fewer = g.no_more in
    let left = f.left_is in
    let rest = g.left_is in
    record { no_more = omega arith; left_is = omega arith }

-- what is stored at a place stands between those in front of it and those behind it
set_among : (xs : List (Entry Unit)) (i : ℕ) (x : Entry Unit) → i < length xs → set xs i x ≡ take i xs ++ (x ∷ drop (suc i) xs)
set_among xs i x inside =
    sym (take-append-drop (suc i) (set xs i x)) ∙ rw (take-suc-set xs i x inside, drop-set-lt (suc i) xs i x (omega arith)) (append_assoc (take i xs) (x ∷ []) (drop (suc i) xs))

module _ {octets left : ℕ} {ys : List (Entry Unit)} where
  -- an entry goes from among others: the sum is lowered by what it had of it
  lowers_one : (front : List (Entry Unit)) (e : Entry Unit) (back : List (Entry Unit)) → Lowers octets ys (front ++ (e ∷ back)) left
      → {rest : ℕ} → rest ≡ left - (if waits e then e.size else 0) → Lowers octets ys (front ++ back) rest
  lowers_one front e back f less =
      let with_it = sizes_without front e back in
      let few = f.no_more in
      let lowered = f.left_is in
      record { no_more = omega arith; left_is = omega arith }

  -- the entry that a pass has come to goes, and those kept in front of it stay
  pub lowers_passed : (front : List (Entry Unit)) {xs : List (Entry Unit)} {i : ℕ} {e : Entry Unit} → Stands xs i e → Lowers octets ys (front ++ drop i xs) left → waits e ≡ true
      → {rest : ℕ} → rest ≡ left - e.size → Lowers octets ys (front ++ drop (i + 1) xs) rest
  lowers_passed front {xs} {i} {e} at f w less = rw (add-one i) (lowers_one front e (drop (suc i) xs) (rw at.rest at f) (rw w less))

  -- or it stays, behind them
  pub lowers_kept : (front : List (Entry Unit)) {xs : List (Entry Unit)} {i : ℕ} {e : Entry Unit} → Stands xs i e → Lowers octets ys (front ++ drop i xs) left
      → Lowers octets ys (front ++ (e ∷ []) ++ drop (i + 1) xs) left
  lowers_kept front {xs} {i} {e} at f = rw (add-one i, append_assoc) (rw at.rest at f)

  -- an entry becomes lost where it stands
  pub lowers_lost : {xs : List (Entry Unit)} {i : ℕ} {e : Entry Unit} → Stands xs i e → Lowers octets ys xs left → waits e ≡ true
      → {rest : ℕ} → rest ≡ left - e.size → Lowers octets ys (set xs i (as_lost e)) rest
  lowers_lost {xs} {i} {e} at f w less =
      let front = take i xs in
      let back = drop (suc i) xs in
      let was = ap waiting_sizes (sym (take-append-drop i xs) ∙ ap (λ (zs : List (Entry Unit)). front ++ zs) at.rest) in
      let waited = rw w at (sizes_without front e back) in
      let is = ap waiting_sizes (set_among xs i (as_lost e) at.inside) in
      let counts-none = sizes_without front (as_lost e) back in
      let few = f.no_more in
      let lowered = f.left_is in
      record { no_more = omega arith; left_is = omega arith }

-- one entry is taken out
pub lowers_taken : (octets : ℕ) {xs : List (Entry Unit)} {i : ℕ} {e : Entry Unit} → Stands xs i e
    → {rest : ℕ} → rest ≡ octets - (if waits e then e.size else 0) → Lowers octets xs (take i xs ++ drop (i + 1) xs) rest
lowers_taken octets {xs} {i} {e} at less =
    rw (add-one i) (lowers_one (take i xs) e (drop (suc i) xs) (rw (← at.rest, take-append-drop i xs) (lowers_none octets xs)) less)
