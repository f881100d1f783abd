-- The entries that stand in slots: what a slot's content and a store to a slot are among them.
-- Assumes nothing.
use mathlib.Core.Path.{◌≡◌, refl, sym, ◌∙◌, ap}
use mathlib.Core.Bool.{true, false}
use mathlib.Core.List.{List, [], ◌∷◌, ◌++◌, map}
use Prim.Native.Nat.{ℕ, suc, ◌+◌, ◌-◌, ◌≤◌, ◌<◌, min}
use native.Mathlib.Numerals.{add-one}
use native.Mathlib.Omega.{arith}
use lib.ListN.{length, get_or, set, take, drop, length-map, length-set, get_or-map, length-take}
use lib.Seq.{length-take-le, take-suc, drop-cons, get_or-take, take-set-lt, take-suc-set}
use borrow.Author.Tests.{lt-leb, le-leb}
use Rattle.std.proofs.lemmas.List.{map-set, take-map, take_min, drop-map, map-append, drop-take, take-take, length-drop}
use Rattle.std.proofs.lemmas.List.Edits.{take-paste}
use Rattle.std.proofs.Math.Seq.{paste}
use Rattle.std.specs.List.{copy_within}
use Rattle.bearer.specs.Bearer.{most_entries}
use Rattle.bearer.specs.Ledger.{Entry as Noted}
use Rattle.ledger_entries.specs.declared.Entry.{Entry}
use Rattle.ledger_entries.specs.declared.Fate.TheVariants.{Waiting}
use Rattle.ledger_entries.specs.View.{entry_in, entries_in, held_in}
use Rattle.ledger_entries.specs.Steps.{is_full}

-- what would be read past the end of the slots
abbrev pub unread : Entry
unread = record { number = 0; pdcp = 0; size = 0; fate = Waiting }

-- an entry stands at a place of a list
pub record Stands (xs : List (Noted Unit)) (i : ℕ) (e : Noted Unit) : Type 0 where
  pub inside : i < length xs
  pub front : take (suc i) xs ≡ take i xs ++ (e ∷ [])
  pub rest : drop i xs ≡ e ∷ drop (suc i) xs

module _ (xs : List Entry) {es : List (Noted Unit)} (is : map entry_in xs ≡ es) where
  -- what is in a list stands at its place among what the list is read as; d is what would be read past the end
  pub stands : (i : ℕ) → i < length xs → (d : Entry) → Stands es i (entry_in (get_or xs i d))
  stands i h d =
      let inside : i < length es = rw (← is, length-map) h in
      let at : get_or es i (entry_in d) ≡ entry_in (get_or xs i d) = rw (← is) (get_or-map entry_in xs i d) in
      rw (← at) (record { inside = inside; front = take-suc es i (entry_in d) inside; rest = drop-cons es i (entry_in d) inside })

-- an entry stored behind the first k
pub laid : (es : List Entry) (k : ℕ) (x : Entry) → k < length es → entries_in (set es k x) (k + 1) ≡ entries_in es k ++ (entry_in x ∷ [])
laid es k x inside = rw (add-one k, map-set entry_in es k x) (take-suc-set (map entry_in es) k (entry_in x) (rw length-map inside))

module _ (es : List Entry) (count : ℕ) (full : length es ≡ most_entries) where
  -- as many as the count says, or as there are slots
  pub held_length : length (held_in es count) ≡ min count most_entries
  held_length = length-take-le (min count most_entries) (map entry_in es) (rw length-map (omega arith))

  -- they are those of the front that is read
  pub front_is : map entry_in (take count es) ≡ held_in es count
  front_is = sym (take-map entry_in count es) ∙ sym (take_min count (map entry_in es)) ∙ rw (length-map, full) refl

  -- a slot is free
  pub slot_free : count < most_entries → is_full (held_in es count) ≡ false
  slot_free h = lt-leb most_entries (length (held_in es count)) (omega (arith, held_length))

  -- none is
  pub slots_full : most_entries ≤ count → is_full (held_in es count) ≡ true
  slots_full h = le-leb most_entries (length (held_in es count)) (omega (arith, held_length))

  -- what is read as those that are held is as long
  pub held_count : (xs : List Entry) → map entry_in xs ≡ held_in es count → length xs ≡ min count most_entries
  held_count xs is = sym (length-map xs entry_in) ∙ ap length is ∙ held_length

  -- the slots without one, where those behind it moved down by one
  pub without : (at n : ℕ) → n ≡ min count most_entries → at < n
      → held_in (copy_within es (at + 1) n at) (n - 1) ≡ take at (held_in es count) ++ drop (at + 1) (held_in es count)
  without at n is inside =
      let k = n - (at + 1) in
      let left : min (n - 1) most_entries ≡ at + k = omega arith in
      let all : min count most_entries ≡ at + 1 + k = omega arith in
      let few : k ≤ length (drop (at + 1) es) = omega (arith, length-drop (at + 1) es) in
      let moved : entries_in (paste es at (drop (at + 1) es) k) (at + k) ≡ take at (map entry_in es) ++ take k (drop (at + 1) (map entry_in es)) =
      take-map entry_in (at + k) (paste es at (drop (at + 1) es) k)
      ∙ ap (map entry_in) (take-paste es at (drop (at + 1) es) k (omega arith) few)
      ∙ map-append entry_in (take at es) (take k (drop (at + 1) es))
      ∙ rw (take-map, drop-map, take-map) in
      rw (left, all) (moved ∙ rw (drop-take (at + 1) k (map entry_in es), take-take at (at + 1 + k) (map entry_in es) (omega arith)))

  -- an entry stored behind the last, where a slot is free
  pub pushed : count < most_entries → (e : Entry) {x : Noted Unit} → entry_in e ≡ x → held_in (set es count e) (count + 1) ≡ held_in es count ++ (x ∷ [])
  pushed h e is =
      let before : min count most_entries ≡ count = omega arith in
      let after : min (count + 1) most_entries ≡ count + 1 = omega arith in
      rw (← is, before, after) (laid es count e (omega arith))

-- ---- a pass over the entries

-- a pass has come to place i of the n entries that are held
pub record Reached (es : List Entry) (count n i : ℕ) : Type 0 where
  pub far : i ≤ n
  pub held : n ≡ length (held_in es count)

-- a place among them lies in front of the count
pub in_count : (es : List Entry) (count i : ℕ) → i < length (held_in es count) → i < min count most_entries
in_count es count i h = omega (arith, length-take (min count most_entries) (map entry_in es))

-- what is stored in a slot that is held
pub stored : (es : List Entry) (count i : ℕ) (e : Entry) → i < min count most_entries → held_in (set es i e) count ≡ set (held_in es count) i (entry_in e)
stored es count i e h = ap (take (min count most_entries)) (map-set entry_in es i e) ∙ take-set-lt (min count most_entries) (map entry_in es) i (entry_in e) h

-- as many are held, whatever is stored
same_count : (es : List Entry) (count k : ℕ) (e : Entry) → length (held_in es count) ≡ length (held_in (set es k e) count)
same_count es count k e = rw map-set (omega (arith, length-take (min count most_entries) (map entry_in es), length-take (min count most_entries) (set (map entry_in es) k (entry_in e)), length-set (map entry_in es) k (entry_in e)))

module _ {es : List Entry} {count n i : ℕ} (r : Reached es count n i) where
  -- all were passed
  pub passed_all : n ≤ i → length (held_in es count) ≤ i
  passed_all h = omega (arith, r.held)

  module _ (h : i < n) where
    -- the entry in the slot that it has come to stands there
    pub here : (d : Entry) → Stands (held_in es count) i (entry_in (get_or es i d))
    here d =
        let xs = held_in es count in
        let inside : i < length xs = omega (arith, r.held) in
        let at : get_or xs i (entry_in d) ≡ entry_in (get_or es i d) =
        get_or-take (min count most_entries) (map entry_in es) i (entry_in d) (in_count es count i inside) ∙ get_or-map entry_in es i d in
        rw (← at) (record { inside = inside; front = take-suc xs i (entry_in d) inside; rest = drop-cons xs i (entry_in d) inside })

    -- what is stored there
    pub stored_here : (e : Entry) → held_in (set es i e) count ≡ set (held_in es count) i (entry_in e)
    stored_here e = stored es count i e (in_count es count i (omega (arith, r.held)))

    -- the next place
    pub next : Reached es count n (i + 1)
    next = record { far = omega arith; held = r.held }

    -- the next place, with a slot written
    pub next_stored : (k : ℕ) (e : Entry) → Reached (set es k e) count n (i + 1)
    next_stored k e = record { far = omega arith; held = r.held ∙ same_count es count k e }
