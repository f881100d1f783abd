-- What octets laid one after another make: the laws that every store is put together from, the room that they leave, and what a loop
-- still has to lay.
-- Assumes nothing.
use mathlib.Core.Path.{◌≡◌, refl, sym, ◌∙◌, ap}
use mathlib.Core.List.{List, [], ◌∷◌, ◌++◌}
use Prim.Native.Nat.{ℕ, suc, ◌+◌, ◌≤◌, ◌<◌}
use native.Mathlib.Nat.{add-zero, add-suc, suc-add}
use native.Mathlib.Numerals.{add-one}
use native.Mathlib.Omega.{arith}
use lib.ListN.{length, get_or, set, drop, length-append}
use lib.Seq.{sets, length-sets, drop-cons, set_comm}
use Rattle.basics.specs.Laid.{Room, Laid}

-- a buffer keeps its length
pub laid_length : {d e os : List ℕ} {at next : ℕ} → Laid d at os next e → length e ≡ length d
laid_length {d} {e} {os} {at} l = ap length l.buffer ∙ length-sets d at os

-- and what room it had behind them
pub laid_room : {d e os : List ℕ} {at next : ℕ} (n : ℕ) → Laid d at os next e → Room d at (length os + n) → Room e next n
laid_room n l h = omega (arith, laid_length l, l.behind)

-- no octets: nothing changes
pub laid_none : (d : List ℕ) {at next : ℕ} → next ≡ at → Laid d at [] next d
laid_none d {at} e = record { behind = e ∙ sym (add-zero at); buffer = refl }

-- one octet, and the others behind it
pub laid_octet : {d e os : List ℕ} {at next x y : ℕ} → x ≡ y → Laid (set d at x) (at + 1) os next e → Laid d at (y ∷ os) next e
laid_octet {d} {e} {os} {at} {next} {x} {y} same l = record {
  behind = l.behind ∙ omega arith;
  buffer = l.buffer ∙ rw (add-one at, same);
}

-- octets stored, and others right behind them: both are stored
pub sets_append : (d xs ys : List ℕ) (at : ℕ) → sets (sets d at xs) (at + length xs) ys ≡ sets d at (xs ++ ys)
sets_append d [] ys at = rw (add-zero at)
sets_append d (x ∷ xs) ys at = rw (add-suc at (length xs), ← suc-add at (length xs)) (sets_append (set d at x) xs ys (suc at))

-- octets, and others right behind them
pub laid_then : {d e f xs ys : List ℕ} {at mid next : ℕ} → Laid d at xs mid e → Laid e mid ys next f → Laid d at (xs ++ ys) next f
laid_then {d} {e} {f} {xs} {ys} {at} {mid} {next} k l = record {
  behind = l.behind ∙ simp length-append (omega (arith, k.behind));
  buffer = l.buffer ∙ simp (k.buffer, k.behind) (sets_append d xs ys at);
}

-- a store behind octets may come before them
pub sets_set : (d xs : List ℕ) (at i x : ℕ) → at + length xs ≤ i → set (sets d at xs) i x ≡ sets (set d i x) at xs
sets_set d [] at i x h = refl
sets_set d (y ∷ ys) at i x h =
    sets_set (set d at y) ys (suc at) i x (omega arith) ∙ ap (λ (e : List ℕ). sets e (suc at) ys) (set_comm d at i y x (λ e. omega arith))

-- room for two texts is room for the first
pub room_first : (d : List ℕ) (at : ℕ) (xs ys : List ℕ) → Room d at (length (xs ++ ys)) → Room d at (length xs)
room_first d at xs ys h = omega (arith, length-append xs ys)

-- and, once the first is laid, for the second
pub room_then : {d e : List ℕ} {at mid : ℕ} (xs ys : List ℕ) → Laid d at xs mid e → Room d at (length (xs ++ ys)) → Room e mid (length ys)
room_then xs ys l h = omega (arith, laid_length l, l.behind, length-append xs ys)

-- what is still to be laid: rest, at mid of e, makes what os makes at `at` of d
pub record Still (d : List ℕ) (at : ℕ) (os e : List ℕ) (mid : ℕ) (rest : List ℕ) : Type 0 where
  pub buffer : sets e mid rest ≡ sets d at os
  pub behind : mid + length rest ≡ at + length os

-- at first, all
pub still_all : (d : List ℕ) {at mid : ℕ} (os : List ℕ) → mid ≡ at → Still d at os d mid os
still_all d os e = record { buffer = rw e; behind = rw e }

-- a part is laid: the others are
pub still_on : {d os e f xs ys : List ℕ} {at mid next : ℕ} → Still d at os e mid (xs ++ ys) → Laid e mid xs next f → Still d at os f next ys
still_on {d} {os} {e} {f} {xs} {ys} {at} {mid} {next} s l = record {
  buffer = simp (l.buffer, l.behind) (sets_append e xs ys mid) ∙ s.buffer;
  behind = omega (arith, s.behind, l.behind, length-append xs ys);
}

-- one octet is stored, of those of a list from i on
pub still_stored : {d os e : List ℕ} {at : ℕ} (mid i x : ℕ) (xs : List ℕ) → Still d at os e (mid + i) (drop i xs) → i < length xs → x ≡ get_or xs i 0
    → Still d at os (set e (mid + i) x) (mid + (i + 1)) (drop (i + 1) xs)
still_stored {d} {os} {e} {at} mid i x xs s h same =
    let split : drop i xs ≡ get_or xs i 0 ∷ drop (i + 1) xs = rw (add-one, drop-cons xs i 0) in
    still_on (rw split at s) (laid_octet same (laid_none _ (omega arith)))

-- at last, nothing
pub still_none : {d os e : List ℕ} {at mid : ℕ} → Still d at os e mid [] → Laid d at os mid e
still_none s = record { behind = omega (arith, s.behind); buffer = s.buffer }

-- the buffer keeps its length
pub still_length : {d os e rest : List ℕ} {at mid : ℕ} → Still d at os e mid rest → length e ≡ length d
still_length {d} {os} {e} {rest} {at} {mid} s = sym (length-sets e mid rest) ∙ ap length s.buffer ∙ length-sets d at os

-- and has room for the rest
pub still_room : {d os e rest : List ℕ} {at mid : ℕ} → Still d at os e mid rest → Room d at (length os) → Room e mid (length rest)
still_room s h = omega (arith, still_length s, s.behind)
