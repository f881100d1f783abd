-- The passes that look, keep and free, one entry at a time, in slots that are written as they are passed. No code goes so today; the laws stand.
-- Assumes nothing.
use Rattle.std.specs.Prelude.{if◌then◌else◌}
use mathlib.Core.Path.{◌≡◌, refl, sym, ◌∙◌, ap}
use mathlib.Core.Bool.{Bool, true, false, not}
use mathlib.Core.List.{List, [], ◌∷◌, ◌++◌, append_assoc}
use Prim.Native.Nat.{ℕ, suc, ◌+◌, ◌-◌, ◌≤◌, ◌<◌, min}
use native.Mathlib.Numerals.{add-one}
use native.Mathlib.Nat.{add-zero}
use native.Mathlib.Omega.{arith}
use lib.Dec.{eqb}
use lib.ListN.{length, get_or, set, take, drop}
use lib.Seq.{take-suc-set, drop-set-lt}
use Rattle.basics.specs.Basics.{◌and◌, ◌or◌}
use Rattle.bearer.specs.Bearer.{most_entries}
use Rattle.bearer.specs.Ledger.{Entry, Passed, waits, waiting_at, waits_for, take_at}
use Rattle.ledger_entries.specs.declared.Entry.{Entry as Slot}
use Rattle.ledger_entries.specs.View.{entry_in, held_in}
use Rattle.ledger_entries.specs.Steps.{free_while}
use Rattle.ledger_entries.proofs.Slots.{Stands, Reached, here, in_count, stored, held_length}
use Rattle.ledger_entries.proofs.Passes as passes
use Rattle.ledger_entries.proofs.Passes.{in_front}

-- what is in a slot stands there
pub slot : (es : List Slot) (count : ℕ) → length es ≡ most_entries → (i : ℕ) → i < min count most_entries → (d : Slot) → Stands (held_in es count) i (entry_in (get_or es i d))
slot es count full i h d =
    let far : i < length (held_in es count) = omega (arith, held_length es count full) in
    let at : Reached es count (length (held_in es count)) i = record { far = omega arith; held = refl } in
    here at far d

-- ---- looking for a waiting entry's PDCP number

module _ (h : ℕ) {xs : List (Entry Unit)} {i : ℕ} {e : Entry Unit} (at : Stands xs i e) where
  -- an entry that doesn't bear it is passed
  pub looked : (waits e and eqb e.pdcp h) ≡ false → waits_for h (drop i xs) ≡ waits_for h (drop (i + 1) xs)
  looked b = rw (add-one i, at.rest, b)

  -- one that bears it is enough
  pub seen : (waits e and eqb e.pdcp h) ≡ true → waits_for h (drop i xs) ≡ true
  seen b = rw (at.rest, b)

-- ---- looking for a place

-- a place is that of the first entry that passes a test; for none, it is behind all
pub record Finds (place : List (Entry Unit) → ℕ) (test : Entry Unit → Bool) : Type 0 where
  pub none : place [] ≡ 0
  pub first : (e : Entry Unit) (es : List (Entry Unit)) → place (e ∷ es) ≡ (if test e then 0 else suc (place es))

-- the oldest that waits
pub finds_waiting : Finds waiting_at waits
finds_waiting = record { none = refl; first = λ e es. refl }

-- the oldest that may be taken
pub finds_takeable : (closed : Bool) → Finds (take_at closed) (λ (e : Entry Unit). closed or not (waits e))
finds_takeable closed = record { none = refl; first = λ e es. refl }

module _ {place : List (Entry Unit) → ℕ} {test : Entry Unit → Bool} (finds : Finds place test) where
  module _ {xs : List (Entry Unit)} {i : ℕ} {e : Entry Unit} (at : Stands xs i e) where
    -- an entry that doesn't pass the test is passed over
    pub passed_over : test e ≡ false → i + place (drop i xs) ≡ (i + 1) + place (drop (i + 1) xs)
    passed_over b = rw (add-one i, at.rest, finds.first e (drop (suc i) xs), b) (omega arith)

    -- one that passes it is the first of them
    pub found_here : test e ≡ true → i + place (drop i xs) ≡ i
    found_here b = rw (at.rest, finds.first e (drop (suc i) xs), b, add-zero i)

-- ---- moving down what is kept

-- the entries with i passed and k of them kept, which now stand in front
abbrev pub keeping : List (Entry Unit) → ℕ → ℕ → List (Entry Unit)
keeping xs k i = take k xs ++ drop i xs

-- the entry at i is kept, and moves down
pub moves_down : {xs : List (Entry Unit)} {i : ℕ} {e : Entry Unit} → Stands xs i e → (k : ℕ) → k ≤ i → keeping xs k i ≡ keeping (set xs k e) (k + 1) (i + 1)
moves_down {xs} {i} {e} at k below =
    rw (add-one k, add-one i, take-suc-set xs k e (omega (arith, at.inside)), drop-set-lt (suc i) xs k e (omega arith), at.rest)
    (sym (append_assoc (take k xs) (e ∷ []) (drop (suc i) xs)))

-- the same in slots
pub moved : {es : List Slot} {count n i : ℕ} (r : Reached es count n i) → i < n → (k : ℕ) → k ≤ i → (d : Slot)
    → keeping (held_in es count) k i ≡ keeping (held_in (set es k (get_or es i d)) count) (k + 1) (i + 1)
moved {es} {count} {n} {i} r inside k below d =
    moves_down (here r inside d) k below
    ∙ ap (λ (xs : List (Entry Unit)). keeping xs (k + 1) (i + 1)) (sym (stored es count k (get_or es i d) (in_count es count k (omega (arith, r.held)))))

-- ---- freeing

-- the pass with i entries passed and k of them kept, which now stand in front
abbrev pub freeing : ℕ → List (Entry Unit) → ℕ → ℕ → Bool → Passed Unit
freeing h xs k i going = in_front (i - k) (take k xs) (free_while going h (drop i xs))

-- an entry is kept, and moves down
pub stays : (h : ℕ) {xs : List (Entry Unit)} {i : ℕ} {e : Entry Unit} (at : Stands xs i e) (k : ℕ) → k ≤ i → (going : Bool)
    → (going and waits e) ≡ false → freeing h xs k i going ≡ freeing h (set xs k e) (k + 1) (i + 1) going
stays h {xs} {i} {e} at k below going b =
    let n : i + 1 - (k + 1) ≡ i - k = omega arith in
    passes.stays h going (i - k) (take k xs) at b
    ∙ rw (n, add-one k, add-one i, take-suc-set xs k e (omega (arith, at.inside)), drop-set-lt (suc i) xs k e (omega arith))

-- it is freed, and freeing ends with the highest
pub goes : (h : ℕ) {xs : List (Entry Unit)} {i : ℕ} {e : Entry Unit} (at : Stands xs i e) (k : ℕ) → k ≤ i → (going : Bool)
    → (going and waits e) ≡ true → freeing h xs k i going ≡ freeing h xs k (i + 1) (not (eqb e.pdcp h))
goes h {xs} {i} {e} at k below going b =
    let n : i - k + 1 ≡ i + 1 - k = omega arith in
    passes.goes h going (i - k) (take k xs) at b ∙ rw n

-- kept in slots: the entry is stored further down
pub stays_stored : (h : ℕ) {es : List Slot} {count n i : ℕ} (r : Reached es count n i) → i < n → (k : ℕ) → k ≤ i → (going : Bool) (d : Slot)
    → (going and waits (entry_in (get_or es i d))) ≡ false
    → freeing h (held_in es count) k i going ≡ freeing h (held_in (set es k (get_or es i d)) count) (k + 1) (i + 1) going
stays_stored h {es} {count} {n} {i} r inside k below going d b =
    stays h (here r inside d) k below going b
    ∙ ap (λ (xs : List (Entry Unit)). freeing h xs (k + 1) (i + 1) going) (sym (stored es count k (get_or es i d) (in_count es count k (omega (arith, r.held)))))
