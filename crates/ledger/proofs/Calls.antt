-- The machine's calls, by what their tests say.
-- Assumes nothing.
use Rattle.std.specs.Prelude.{Some, None, Err, if◌then◌else◌}
use mathlib.Core.Path.{◌≡◌, refl, sym, ◌∙◌, ap}
use mathlib.Core.Bool.{Bool, true, false, not}
use mathlib.Core.List.{List, [], ◌∷◌, ◌++◌}
use mathlib.Core.Option.{Option, some}
use Prim.Native.Nat.{ℕ, ◌+◌, ◌-◌, ◌%◌, ◌≤◌, ◌<◌}
use native.Mathlib.Numerals.{add-one}
use native.Mathlib.Omega.{arith}
use borrow.Author.Tests.{ne_eqb, ltb-true, lt-ltb, lt-leb, le-leb}
use lib.Dec.{eqb, ltb}
use lib.ListN.{length, take, drop, drop_of_length-le}
use lib.Seq.{length-take-le}
use Rattle.basics.proofs.Apart.{apart}
use Rattle.basics.proofs.Choices.{by_choice}
use Rattle.basics.specs.Basics.{◌and◌, ◌or◌, Outcome, done, refused}
use Rattle.circle.specs.Lengths.{modulus_of, pdcps}
use Rattle.frame_layout.specs.Frames.{Status}
use Rattle.refusal.specs.declared.Refusal.{Refusal}
use Rattle.bearer.specs.Bearer.{After, refusing, most_entries}
use Rattle.bearer.specs.Ledger.{Entry, Ledger, Passed, is_size, is_in_order, new_entry, raised, past_last, is_within_half, send, waits, waiting_at, waits_for, freed, free_through, accepted_state, accept_marked, take_at, place_without, take_oldest, ◌with_next◌, ◌with_sent◌, ◌with_highest◌, ◌with_closed◌, ◌with_sizes_of◌, ◌with_octets◌, ◌with_oldest◌, ◌with_entries◌}
use Rattle.ledger_entries.specs.Steps.{place_in, passed_of, free_while, Lowers}
use Rattle.ledger_entries.proofs.Slots.{Stands}
use Rattle.ledger_entries.proofs.Sums.{lowers_taken}
use Rattle.ledger_marks.specs.Walked.{marked_as}
use Rattle.ledger.specs.View.{beside}
use Rattle.ledger.specs.Steps.{judged}

-- ---- send

-- the PDCP order of a number that isn't H, seen from the oldest waiting entry's
pub order_oldest : (l : Ledger Unit) (p : ℕ) → (p ≡ l.highest → ⊥) → {x : Entry Unit} → Stands l.entries l.oldest x
    → is_in_order l p ≡ (past_last l x.pdcp p and is_within_half l x.pdcp p)
order_oldest l p other at = rw (ne_eqb p l.highest other, at.rest)

-- with none waiting any is in order
pub order_any : (l : Ledger Unit) (p : ℕ) → (p ≡ l.highest → ⊥) → length l.entries ≤ l.oldest → is_in_order l p ≡ true
order_any l p a none = rw (ne_eqb p l.highest a, drop_of_length-le l.entries none)

-- a refusal of what is judged
abbrev against : ℕ → Outcome Unit
against n = refused n

-- the first of four tests that refuses, whatever is answered behind them
first_of : (l : Ledger Unit) (a b c d : Bool) (x : After (Ledger Unit) ℕ) (n : ℕ)
    → (if a then refused 9 else (if b then refused 10 else (if c then refused 39 else (if d then refused 35 else done tt)))) ≡ against n
    → (if a then refusing 9 l else (if b then refusing 10 l else (if c then refusing 39 l else (if d then refusing 35 l else x)))) ≡ refusing n l
first_of l true b c d x n e = cc
first_of l false true c d x n e = cc
first_of l false false true d x n e = cc
first_of l false false false true x n e = cc
first_of l false false false false x n e = cc

-- what is judged is what the call refuses by
pub send_judged : (l : Ledger Unit) (p z n : ℕ) → refused n ≡ judged l p z → beside (refused n) l ≡ send l p z tt
send_judged l p z n e = sym (first_of l _ _ _ _ _ n (sym e))

-- what is tested in front of the order: the end is open, the number below 2^L, and the size within its limits
pub record Fit (l : Ledger Unit) (p z : ℕ) : Type 0 where
  pub open_end : l.closed ≡ false
  pub below : p < pdcps l.bits
  pub sized : is_size z ≡ true

module _ {l : Ledger Unit} {p z : ℕ} (fit : Fit l p z) where
  -- 35
  pub send_order : is_in_order l p ≡ false → send l p z tt ≡ beside (refused 35) l
  send_order o = sym (send_judged l p z 35 (rw (fit.open_end, lt-ltb p (pdcps l.bits) fit.below, fit.sized, o)))

  module _ (o : is_in_order l p ≡ true) where
    -- 36
    pub send_full : most_entries ≤ length l.entries → send l p z tt ≡ beside (refused 36) l
    send_full f = rw (fit.sized, o, fit.open_end, lt-ltb p (pdcps l.bits) fit.below, le-leb most_entries (length l.entries) f)

    -- sent
    pub send_done : length l.entries < most_entries → (next : ℕ) → next ≡ (l.next + 1) % modulus_of l.bits
        → (octets : ℕ) → octets ≡ raised l.octets z
        → (es : List (Entry Unit)) → es ≡ l.entries ++ (new_entry l.next p z tt ∷ [])
        → beside (done l.next) (l with_next next with_sent p with_octets octets with_entries es) ≡ send l p z tt
    send_done f next n octets q es e =
        rw (fit.sized, o, fit.open_end, lt-ltb p (pdcps l.bits) fit.below, lt-leb most_entries (length l.entries) f, n, q, e)

-- ---- accepting a status

-- a number wasn't found
pub accept_missing : (l : Ledger Unit) (s : Status) (r : Refusal) {o : Option (Passed Unit)} → marked_as (Err r) ≡ o → accept_marked l s o ≡ beside (refused 33) l
accept_missing l s r e = rw (← e)

-- what is freed, by whether the highest is the one last accepted
freed_by : (again : Bool) (p q : Passed Unit) → (if again then p else q) ≡ (if not again then q else p)
freed_by true p q = refl
freed_by false p q = refl

-- the ranges were applied: these entries, with so many of them lost
module _ (l : Ledger Unit) (s : Status) (es : List (Entry Unit)) (lost : ℕ) where
  pub accept_highest : (eqb s.highest l.highest or waits_for s.highest es) ≡ false → accept_marked l s (some (passed_of es lost)) ≡ beside (refused 34) l
  accept_highest b = rw b

  -- what is freed, what is left of the sum, and the place of the oldest waiting entry are the machine's
  pub accept_done : (eqb s.highest l.highest or waits_for s.highest es) ≡ true
      → (others : List (Entry Unit)) (n : ℕ) → passed_of others n ≡ free_while (not (eqb s.highest l.highest)) s.highest es
      → (place : ℕ) → place ≡ l.oldest + waiting_at (drop l.oldest others)
      → (left : ℕ) → Lowers l.octets l.entries others left
      → accept_marked l s (some (passed_of es lost)) ≡ beside (done (record { freed = n; lost = lost; final = s.final }))
      (l with_highest s.highest with_closed s.final with_sizes_of s with_oldest place with_octets left with_entries others)
  accept_done b others n f place found left sum =
      let g : freed l s.highest es ≡ passed_of others n = freed_by (eqb s.highest l.highest) (passed_of es 0) (free_through s.highest es) ∙ sym f in
      rw (b, found, sum.left_is) (ap (λ (p : Passed Unit). beside (done (record { freed = p.count; lost = lost; final = s.final })) (accepted_state l s p.entries)) g)

-- ---- take

-- a place that stands there is the one that was looked for
pub place_found : (es : List (Entry Unit)) (p i : ℕ) → place_in es p ≡ Some i → (i ≡ p) × (i < length es)
place_found es p i e =
    by_choice (ltb p (length es)) (Some p) None (Some i) (λ t f. let is : p ≡ i = cc in (sym is, rw (← is) (ltb-true p (length es) t))) (λ t f. apart (cc)) e

module _ (l : Ledger Unit) (i : ℕ) (e : i ≡ take_at l.closed l.entries) where
  -- the entries, what is left of the sum, and the place of the oldest waiting one are the machine's
  pub take_one : (x : Entry Unit) → Stands l.entries i x → (es : List (Entry Unit)) → es ≡ take i l.entries ++ drop (i + 1) l.entries
      → (place : ℕ) → place ≡ place_without i l.oldest + waiting_at (drop (place_without i l.oldest) es)
      → (octets : ℕ) → octets ≡ l.octets - (if waits x then x.size else 0)
      → beside (done (record { number = x.number; pdcp = x.pdcp; size = x.size })) (l with_oldest place with_octets octets with_entries es) ≡ take_oldest l
  take_one x at es left place found octets less =
      let front : length (take i l.entries) ≡ i = length-take-le i l.entries (omega (arith, at.inside)) in
      let sum = (lowers_taken l.octets at less).left_is in
      rw (found, sum, left, ← e, at.rest, front, add-one i)
