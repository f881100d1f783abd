-- The passes over entries that look, free and take, one entry at a time: what is done so far, and what is still to be
-- done, is what the whole pass comes to.
-- Assumes nothing.
use Rattle.std.specs.Prelude.{Option, Some, None, if◌then◌else◌}
use Rattle.std.specs.List.{list_any, position_or_len, slice_range}
use Rattle.std.specs.Option.{unwrap_or}
use Rattle.std.proofs.lemmas.List.{take_rest, drop_min, drop-map, append-nil}
use Rattle.std.proofs.lemmas.List.Sums.{prefix_len-le-length}
use Rattle.std.proofs.lemmas.List.Recursion.{is_position_or_len}
use mathlib.Core.Path.{◌≡◌, refl, sym, ◌∙◌, ap}
use mathlib.Core.Bool.{Bool, true, false, not, ◌||◌, cond}
use mathlib.Core.List.{List, [], ◌∷◌, ◌++◌, map, append_assoc}
use Prim.Native.Nat.{ℕ, suc, ◌+◌, ◌≤◌, min}
use native.Mathlib.Numerals.{add-one}
use native.Mathlib.Nat.{add-zero}
use native.Mathlib.Omega.{arith}
use borrow.Author.Tests.{ltb-false}
use Rattle.basics.proofs.Choices.{of_choice}
use lib.Dec.{eqb, ltb}
use lib.ListN.{length, drop, length-map}
use Rattle.basics.specs.Basics.{◌and◌, ◌or◌}
use Rattle.bearer.specs.Ledger.{Entry, Passed, waits, waiting_at, waits_for, take_at, kept, counted, free_through}
use Rattle.ledger_entries.specs.declared.Entry.{Entry as Slot}
use Rattle.ledger_entries.specs.View.{entry_in}
use Rattle.ledger_entries.specs.Steps.{free_while, passed_of, place_in}
use Rattle.ledger_entries.proofs.Slots.{Stands}

-- ---- looking

-- whether one of the entries waits and bears this PDCP number
pub looked : (h : ℕ) (xs : List Slot) → list_any (λ (e : Slot). waits (entry_in e) and eqb e.pdcp h) xs ≡ waits_for h (map entry_in xs)
looked h [] = refl
looked h (x ∷ xs) = rw (looked h xs) (either (waits (entry_in x) and eqb x.pdcp h) (waits_for h (map entry_in xs)))
  where
    either : (a b : Bool) → (a || b) ≡ (a or b)
    either true b = refl
    either false b = refl

-- an entry is the first that passes a test, or passed over
over : (b : Bool) (n : ℕ) → (if b then 0 else suc n) ≡ cond b 0 (1 + n)
over true n = refl
over false n = omega arith

-- where the first that waits stands is the place that the library finds
waiting_first : (xs : List Slot) → waiting_at (map entry_in xs) ≡ position_or_len (λ (e : Slot). waits (entry_in e)) xs
waiting_first = is_position_or_len (λ (xs : List Slot). waiting_at (map entry_in xs)) _ refl (λ x xs. over (waits (entry_in x)) (waiting_at (map entry_in xs)))

-- the place that was found, or behind all
or_behind : (p n : ℕ) → p ≤ n → unwrap_or (cond (ltb p n) (Some p) None) n ≡ p
or_behind p n h = of_choice (λ (o : Option ℕ). unwrap_or o n ≡ p) (ltb p n) (Some p) None (λ t. refl) (λ f. omega (arith, ltb-false p n f))

-- the first that waits of those behind a place
pub waiting_behind : (xs : List Slot) {es : List (Entry Unit)} → map entry_in xs ≡ es → (place i : ℕ) → i ≡ min place (length xs) → (found : Option ℕ)
    → (let behind = slice_range xs i (length xs) in let at = position_or_len (λ (e : Slot). waits (entry_in e)) behind in
    found ≡ cond (ltb at (length behind)) (Some at) None → unwrap_or found (length behind) ≡ waiting_at (drop place es))
waiting_behind xs is place i from found e =
    let behind = slice_range xs i (length xs) in
    let rest : behind ≡ drop place xs = take_rest xs i ∙ ap (λ (n : ℕ). drop n xs) from ∙ drop_min place xs in
    ap (λ (o : Option ℕ). unwrap_or o (length behind)) e
    ∙ or_behind _ (length behind) (prefix_len-le-length _ behind)
    ∙ sym (waiting_first behind)
    ∙ ap waiting_at (ap (map entry_in) rest ∙ sym (drop-map entry_in place xs) ∙ ap (drop place) is)

-- where the first that may be taken stands is the place that the library finds, if there is one
pub taken_first : (closed : Bool) (xs : List Slot) {es : List (Entry Unit)} → map entry_in xs ≡ es
    → (let at = position_or_len (λ (e : Slot). closed or not (waits (entry_in e))) xs in cond (ltb at (length xs)) (Some at) None ≡ place_in es (take_at closed es))
taken_first closed xs is =
    let first : take_at closed (map entry_in xs) ≡ position_or_len (λ (e : Slot). closed or not (waits (entry_in e))) xs =
    is_position_or_len (λ (ys : List Slot). take_at closed (map entry_in ys)) _ refl (λ x ys. over (closed or not (waits (entry_in x))) (take_at closed (map entry_in ys))) xs in
    rw (← is, first, length-map) refl

-- ---- freeing

-- entries passed, c of them counted, in front of what a pass did behind them
abbrev pub in_front : ℕ → List (Entry Unit) → Passed Unit → Passed Unit
in_front c xs p = record { entries = xs ++ p.entries; count = c + p.count }

-- an entry is kept
keeps_one : (h : ℕ) (going : Bool) (e : Entry Unit) (ys : List (Entry Unit)) → (going and waits e) ≡ false → free_while going h (e ∷ ys) ≡ kept e (free_while going h ys)
keeps_one h true e ys b = rw b
keeps_one h false e ys b = refl

-- an entry is freed, the last one or not
frees_by : (last : Bool) (p q : Passed Unit) → (if last then counted q else counted p) ≡ counted (if not last then p else q)
frees_by true p q = refl
frees_by false p q = refl

-- the pass goes on behind it as long as freeing goes on
frees_one : (h : ℕ) (going : Bool) (e : Entry Unit) (ys : List (Entry Unit)) → (going and waits e) ≡ true
    → free_while going h (e ∷ ys) ≡ counted (free_while (not (eqb e.pdcp h)) h ys)
frees_one h true e ys b = rw b (frees_by (eqb e.pdcp h) (free_through h ys) (passed_of ys 0))
frees_one h false e ys b = cc

module _ (h : ℕ) (going : Bool) (c : ℕ) (front : List (Entry Unit)) {xs : List (Entry Unit)} {i : ℕ} {e : Entry Unit} (at : Stands xs i e) where
  -- the next entry is kept
  pub stays : (going and waits e) ≡ false → in_front c front (free_while going h (drop i xs)) ≡ in_front c (front ++ (e ∷ [])) (free_while going h (drop (i + 1) xs))
  stays b = rw (at.rest, keeps_one h going e (drop (suc i) xs) b, add-one i, append_assoc)

  -- it is freed, and freeing ends with the highest
  pub goes : (going and waits e) ≡ true → in_front c front (free_while going h (drop i xs)) ≡ in_front (c + 1) front (free_while (not (eqb e.pdcp h)) h (drop (i + 1) xs))
  goes b =
      let p = free_while (not (eqb e.pdcp h)) h (drop (suc i) xs) in
      let n : c + (p.count + 1) ≡ c + 1 + p.count = omega arith in
      rw (at.rest, frees_one h going e (drop (suc i) xs) b, n, add-one i)

-- none is left
pub all_passed : (h : ℕ) (going : Bool) (c : ℕ) (front : List (Entry Unit)) → in_front c front (free_while going h []) ≡ passed_of front c
all_passed h true c front = rw (append-nil, add-zero)
all_passed h false c front = rw (append-nil, add-zero)
