-- A status's ranges applied to entries, one entry at a time: what is found so far, and what is still to be done, is what
-- the whole pass comes to.
-- Assumes nothing.
use mathlib.Core.Path.{◌≡◌, refl, sym, ◌∙◌, ap}
use mathlib.Core.Bool.{Bool, true, false}
use mathlib.Core.List.{List, [], ◌∷◌, ◌++◌, append_assoc}
use mathlib.Core.Option.{Option, none, some}
use Prim.Native.Nat.{ℕ, suc, ◌+◌, ◌-◌, ◌%◌, ◌≤◌, ◌<◌}
use native.Mathlib.Numerals.{add-one}
use native.Mathlib.Nat.{add-zero, zero-add, mod-lt}
use native.Mathlib.Omega.{arith}
use borrow.Author.Tests.{eq-eqb, ne_eqb}
use lib.ListN.{length, get_or, set, take, drop, take-append-drop, drop_of_length-le}
use lib.Seq.{take-suc-set, drop-set-lt}
use Rattle.basics.proofs.Choices.{and_true}
use Rattle.circle.specs.Circle.{forward, forward_self, forward_none, one_nearer}
use Rattle.circle.specs.Lengths.{modulus, is_long}
use Rattle.circle.proofs.Forms.{modulus_bounds}
use Rattle.frame_layout.specs.Frames.{Range}
use Rattle.bearer.specs.Ledger.{Entry, Passed, note_in, as_lost, waits, bears, after_number, mark_lost}
use Rattle.ledger_entries.specs.declared.Entry.{Entry as Slot}
use Rattle.ledger_entries.specs.View.{entry_in, held_in}
use Rattle.ledger_entries.specs.Steps.{Lowers}
use Rattle.ledger_entries.proofs.Slots.{Stands, Reached, here, stored_here}
use Rattle.ledger_entries.proofs.Passes.{in_front}
use Rattle.ledger_entries.proofs.Sums.{lowers_lost}
use Rattle.ledger_marks.proofs.Walks.{range}

-- the same in front of a pass that may have failed
abbrev pub in_front_any : ℕ → List (Entry Unit) → Option (Passed Unit) → Option (Passed Unit)
in_front_any c xs none = none
in_front_any c xs (some p) = some (in_front c xs p)

-- the pass with i entries passed, c of them lost, and ranges left, on a bearer with length L
abbrev pub marking : List (Entry Unit) → ℕ → ℕ → List Range → ℕ → Option (Passed Unit)
marking xs i c rs L = in_front_any c (take i xs) (mark_lost L (drop i xs) rs)

-- two passes come to the same on every bearer of a form
abbrev pub Same : Bool → (ℕ → Option (Passed Unit)) → (ℕ → Option (Passed Unit)) → Type 0
Same long f g = (L : ℕ) → is_long L ≡ long → f L ≡ g L

-- ---- the entry that a pass has come to

module _ (e : Entry Unit) (n : ℕ) where
  -- it waits and bears the number
  pub it_bears : waits e ≡ true → e.number ≡ n → bears e n ≡ true
  it_bears w same = rw w (eq-eqb e.number n same)

  -- it bears another
  pub other_number : waits e ≡ true → (e.number ≡ n → ⊥) → bears e n ≡ false
  other_number w other = rw w (ne_eqb e.number n other)

  -- it doesn't wait
  pub it_is_lost : waits e ≡ false → bears e n ≡ false
  it_is_lost w = rw w

-- before the first entry
pub marking_none : (xs : List (Entry Unit)) (rs : List Range) (L : ℕ) → mark_lost L xs rs ≡ marking xs 0 0 rs L
marking_none xs rs L = nothing (mark_lost L xs rs)
  where
    nothing : (o : Option (Passed Unit)) → o ≡ in_front_any 0 [] o
    nothing none = refl
    nothing (some p) = rw (zero-add p.count)

-- an entry is noted as it is
noted_kept : (c : ℕ) (xs : List (Entry Unit)) (e : Entry Unit) (o : Option (Passed Unit)) → in_front_any c xs (note_in false e o) ≡ in_front_any c (xs ++ (e ∷ [])) o
noted_kept c xs e none = refl
noted_kept c xs e (some p) = rw (append_assoc xs (e ∷ []) p.entries)

-- an entry is noted as lost
noted_lost : (c : ℕ) (xs : List (Entry Unit)) (e : Entry Unit) (o : Option (Passed Unit)) → in_front_any c xs (note_in true e o) ≡ in_front_any (c + 1) (xs ++ (as_lost e ∷ [])) o
noted_lost c xs e none = refl
noted_lost c xs e (some p) =
    let n : c + (p.count + 1) ≡ c + 1 + p.count = omega arith in
    rw (append_assoc xs (as_lost e ∷ []) p.entries, n)

module _ {xs : List (Entry Unit)} {i : ℕ} {e : Entry Unit} (at : Stands xs i e) (c : ℕ) (r : Range) (rs : List Range) where
  -- an entry that doesn't bear the number that is looked for is passed
  pub miss : bears e r.start ≡ false → (L : ℕ) → marking xs i c (r ∷ rs) L ≡ marking xs (i + 1) c (r ∷ rs) L
  miss b L = rw (add-one i, at.front, at.rest, b) (noted_kept c (take i xs) e (mark_lost L (drop (suc i) xs) (r ∷ rs)))

  -- one that bears it is lost, and the next number is looked for
  hit : bears e r.start ≡ true → (L : ℕ) → marking xs i c (r ∷ rs) L ≡ marking (set xs i (as_lost e)) (i + 1) (c + 1) (after_number L r rs) L
  hit b L =
      rw (add-one i, take-suc-set xs i (as_lost e) at.inside, drop-set-lt (suc i) xs i (as_lost e) (omega arith), at.rest, b)
      (noted_lost c (take i xs) e (mark_lost L (drop (suc i) xs) (after_number L r rs)))

-- the same in slots, with x the entry in slot i, lost
module _ {es : List Slot} {count n i : ℕ} (reached : Reached es count n i) (inside : i < n) (d x : Slot) (is : entry_in x ≡ as_lost (entry_in (get_or es i d)))
    (c s t : ℕ) (rs : List Range) (long : Bool) (b : bears (entry_in (get_or es i d)) s ≡ true) where
  found : (L : ℕ) → marking (held_in es count) i c (range s t ∷ rs) L ≡ marking (held_in (set es i x) count) (i + 1) (c + 1) (after_number L (range s t) rs) L
  found L = rw (stored_here reached inside x, is) (hit (here reached inside d) c (range s t) rs b L)

  -- behind the last number of a range the next range is looked for
  pub last_found : s ≡ t → Same long (marking (held_in es count) i c (range s t ∷ rs)) (marking (held_in (set es i x) count) (i + 1) (c + 1) rs)
  last_found end L form = found L ∙ rw (eq-eqb s t end)

  -- else the next number
  pub one_found : (s ≡ t → ⊥) → Same long (marking (held_in es count) i c (range s t ∷ rs)) (marking (held_in (set es i x) count) (i + 1) (c + 1) (range ((s + 1) % modulus long) t ∷ rs))
  one_found more L form = found L ∙ rw (ne_eqb s t more, form)

-- and a sum of waiting sizes is lowered by its size
pub lowers_found : {es : List Slot} {count n i : ℕ} (reached : Reached es count n i) (inside : i < n) (d x : Slot) → entry_in x ≡ as_lost (entry_in (get_or es i d))
    → (s : ℕ) → bears (entry_in (get_or es i d)) s ≡ true → {octets left rest : ℕ} {ys : List (Entry Unit)} → Lowers octets ys (held_in es count) left → rest ≡ left - (get_or es i d).size
    → Lowers octets ys (held_in (set es i x) count) rest
lowers_found {es} {count} {n} {i} reached inside d x is s b f less =
    rw (stored_here reached inside x, is) (lowers_lost (here reached inside d) f (and_true _ _ b).0 less)

-- without ranges nothing changes
nothing_left : (L : ℕ) (ys : List (Entry Unit)) → mark_lost L ys [] ≡ some (record { entries = ys; count = 0 })
nothing_left L [] = refl
nothing_left L (y ∷ ys) = refl

-- no range is left: all was found
pub all_found : (xs : List (Entry Unit)) (i c L : ℕ) → marking xs i c [] L ≡ some (record { entries = xs; count = c })
all_found xs i c L = rw (nothing_left L (drop i xs), take-append-drop i xs, add-zero c)

-- a range is left, and no entry
pub not_found : (xs : List (Entry Unit)) (i c : ℕ) (r : Range) (rs : List Range) → length xs ≤ i → (L : ℕ) → marking xs i c (r ∷ rs) L ≡ none
not_found xs i c r rs h L = rw (drop_of_length-le xs h)

-- ---- the way to a range's end

-- a range is walked as far as a number; so much further is its end, both on the circle of the form
pub record OnWay (long : Bool) (number end further : ℕ) : Type 0 where
  pub here : number < modulus long
  pub there : end < modulus long
  pub way : further ≡ forward (modulus long) number end

module _ {long : Bool} {number end further : ℕ} (w : OnWay long number end further) where
  -- the circle has numbers
  some_numbers : 0 < modulus long
  some_numbers = (modulus_bounds long).0

  -- no further: it is the end
  pub last_is : further ≡ 0 → number ≡ end
  last_is over = forward_none (modulus long) some_numbers number end w.here w.there (sym w.way ∙ over)

  -- some way further: it isn't
  pub not_last : (further ≡ 0 → ⊥) → number ≡ end → ⊥
  not_last some-way e = some-way (w.way ∙ ap (forward (modulus long) number) (sym e) ∙ forward_self (modulus long) some_numbers number)

  -- the next number is one nearer
  pub one_on : (further ≡ 0 → ⊥) → OnWay long ((number + 1) % modulus long) end (further - 1)
  one_on some-way =
      let nearer = one_nearer (modulus long) some_numbers number end w.here w.there (not_last some-way) in
      record { here = mod-lt (number + 1) some_numbers; there = w.there; way = omega (arith, w.way) }
