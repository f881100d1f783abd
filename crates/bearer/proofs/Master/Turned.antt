-- What the master's pass over any ranges does, hostile ones included: where it finds every number, it turns waiting entries of exactly
-- the ranges' numbers lost, in sending order, counts them, and leaves the rest. What held of the entries by packets holds after it.
-- Assumes nothing.
use Rattle.std.specs.Prelude.{if◌then◌else◌}
use mathlib.Core.Path.{◌≡◌, refl, sym, ◌∙◌, ap}
use mathlib.Core.Bool.{Bool, true, false}
use mathlib.Core.List.{List, [], ◌∷◌}
use mathlib.Core.Option.{Option, none, some}
use mathlib.Core.Logic.{◌⊎◌, inl, inr}
use Prim.Native.Nat.{ℕ, suc, ◌+◌, ◌%◌, ◌<◌}
use native.Mathlib.Omega.{arith}
use borrow.Author.Tests.{eqb-true, eqb-false}
use lib.Dec.{eqb}
use lib.ListN.{length}
use Rattle.basics.proofs.Choices.{tested, and_true}
use Rattle.circle.specs.Circle.{forward, forward_self, one_nearer}
use Rattle.circle.specs.Lengths.{modulus_of}
use Rattle.frame_layout.specs.Frames.{Range}
use Rattle.bearer.specs.Ledger.{Entry, Passed, waits, bears, as_lost, note_in, after_number, mark_lost}
use Rattle.bearer.specs.Packets.{in_ranges, Each}
use Rattle.bearer.specs.LedgerMeaning.{TurnedLost, turned_end, turns, as_it_was}
use Rattle.bearer.proofs.Lists.Numbers.{positive}

-- what a pass found where it found all, behind a first entry
record Noted (hit : Bool) (e : Entry ℕ) (x : Option (Passed ℕ)) (m : Passed ℕ) : Type 0 where
  pub behind : Passed ℕ
  pub found : x ≡ some behind
  pub entries_are : m.entries ≡ (if hit then as_lost e else e) ∷ behind.entries
  pub count_is : m.count ≡ (if hit then suc behind.count else behind.count)

noted : (hit : Bool) (e : Entry ℕ) (x : Option (Passed ℕ)) (m : Passed ℕ) → note_in hit e x ≡ some m → Noted hit e x m
noted hit e none m q = absurd (let z : ◌≡◌ {A = ℕ} 0 1 = cc in omega arith)
noted true e (some p) m q = record { behind = p; found = refl; entries_are = cc; count_is = let c : m.count ≡ p.count + 1 = cc in omega arith }
noted false e (some p) m q = record { behind = p; found = refl; entries_are = cc; count_is = cc }

-- an entry that bears a number waits, and its number is that
bears_number : (e : Entry ℕ) (n : ℕ) → bears e n ≡ true → (waits e ≡ true) × (e.number ≡ n)
bears_number e n t = let b = and_true (waits e) (eqb e.number n) t in (b.0, eqb-true e.number n b.1)

turns_number : {ns : List ℕ} {es ds : List (Entry ℕ)} (e : Entry ℕ) (n : ℕ) → (waits e ≡ true) × (e.number ≡ n) → TurnedLost ns es ds → TurnedLost (n ∷ ns) (e ∷ es) (as_lost e ∷ ds)
turns_number e n b t = rw (← b.1) (turns e b.0 t)

module _ (L : ℕ) where
  -- the numbers of ranges are the first one's start, and those of what is left
  pub first_number : (r : Range) (rs : List Range) → r.start < modulus_of L → r.end < modulus_of L → in_ranges L (r ∷ rs) ≡ r.start ∷ in_ranges L (after_number L r rs)
  first_number r rs hs he = go (tested (eqb r.start r.end))
    where
      go : (eqb r.start r.end ≡ true) ⊎ (eqb r.start r.end ≡ false) → in_ranges L (r ∷ rs) ≡ r.start ∷ in_ranges L (after_number L r rs)
      go (inl t) =
          let none : forward (modulus_of L) r.start r.end ≡ 0 = ap (forward (modulus_of L) r.start) (sym (eqb-true r.start r.end t)) ∙ forward_self (modulus_of L) (positive L) r.start in
          rw (t, none)
      go (inr t) = rw (t, one_nearer (modulus_of L) (positive L) r.start r.end hs he (eqb-false r.start r.end t))

  -- ranges that a pass finds are of numbers on the circle
  found_fits : (es : List (Entry ℕ)) (r : Range) (rs : List Range) (m : Passed ℕ) → Each (λ (e : Entry ℕ). e.number < modulus_of L) es → mark_lost L es (r ∷ rs) ≡ some m
      → (r.start < modulus_of L) × (r.end < modulus_of L)
  found_fits [] r rs m a q = absurd (let z : ◌≡◌ {A = ℕ} 0 1 = cc in omega arith)
  found_fits (e ∷ es) r rs m a q = go (tested (bears e r.start)) (tested (eqb r.start r.end)) (λ t p b. found_fits es t rs p a.1 b)
    where
      go : (bears e r.start ≡ true) ⊎ (bears e r.start ≡ false) → (eqb r.start r.end ≡ true) ⊎ (eqb r.start r.end ≡ false)
          → ((t : Range) (p : Passed ℕ) → mark_lost L es (t ∷ rs) ≡ some p → (t.start < modulus_of L) × (t.end < modulus_of L)) → (r.start < modulus_of L) × (r.end < modulus_of L)
      go (inl t) (inl s) rest =
          let start : r.start < modulus_of L = rw (← (bears_number e r.start t).1) a.0 in
          (start, rw (← eqb-true r.start r.end s) start)
      go (inl t) (inr s) rest =
          let left : Range = record { start = (r.start + 1) % modulus_of L; end = r.end } in
          let n = noted true e (mark_lost L es (left ∷ rs)) m (rw (t, s) at q) in
          (rw (← (bears_number e r.start t).1) a.0, (rest left n.behind n.found).1)
      go (inr t) s rest = let n = noted false e (mark_lost L es (r ∷ rs)) m (rw t at q) in rest r n.behind n.found

  -- what a pass makes of entries: waiting ones of the ranges' numbers are lost, and counted
  pub record Turns (rs : List Range) (es : List (Entry ℕ)) (m : Passed ℕ) : Type 0 where
    pub turned : TurnedLost (in_ranges L rs) es m.entries
    pub count_is : m.count ≡ length (in_ranges L rs)

  none_turn : (es : List (Entry ℕ)) → TurnedLost [] es es
  none_turn [] = turned_end
  none_turn (e ∷ es) = as_it_was e (none_turn es)

  pub turns_lost : (es : List (Entry ℕ)) (rs : List Range) (m : Passed ℕ) → Each (λ (e : Entry ℕ). e.number < modulus_of L) es → mark_lost L es rs ≡ some m → Turns rs es m
  turns_lost [] [] m a q = record { turned = rw (let e : m.entries ≡ [] = cc in e) turned_end; count_is = cc }
  turns_lost [] (r ∷ rs) m a q = absurd (let z : ◌≡◌ {A = ℕ} 0 1 = cc in omega arith)
  turns_lost (e ∷ es) [] m a q = record { turned = rw (let d : m.entries ≡ e ∷ es = cc in d) (none_turn (e ∷ es)); count_is = cc }
  turns_lost (e ∷ es) (r ∷ rs) m a q = go (tested (bears e r.start)) (λ t p b. turns_lost es t p a.1 b)
    where
      go : (bears e r.start ≡ true) ⊎ (bears e r.start ≡ false)
          → ((t : List Range) (p : Passed ℕ) → mark_lost L es t ≡ some p → Turns t es p) → Turns (r ∷ rs) (e ∷ es) m
      go (inl t) rest =
          let n = noted true e (mark_lost L es (after_number L r rs)) m (rw t at q) in
          let fits = found_fits (e ∷ es) r rs m a q in
          let whole = first_number r rs fits.0 fits.1 in
          let behind = rest (after_number L r rs) n.behind n.found in
          record {
            turned = rw (whole, n.entries_are) (turns_number e r.start (bears_number e r.start t) behind.turned);
            count_is = n.count_is ∙ ap suc behind.count_is ∙ sym (ap length whole);
          }
      go (inr t) rest =
          let n = noted false e (mark_lost L es (r ∷ rs)) m (rw t at q) in
          let behind = rest (r ∷ rs) n.behind n.found in
          record { turned = rw n.entries_are (as_it_was e behind.turned); count_is = n.count_is ∙ behind.count_is }
