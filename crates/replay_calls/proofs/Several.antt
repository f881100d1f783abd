-- Several numbers, one field after another.
-- Assumes nothing.
use mathlib.Core.Path.{◌≡◌, refl, sym, ◌∙◌, ap}
use mathlib.Core.List.{List, [], ◌∷◌, ◌++◌, append_assoc}
use Rattle.std.specs.Prelude.{Option, Some, None}
use Prim.Native.Nat.{ℕ, ◌+◌, ◌≤◌, ◌<◌}
use native.Mathlib.Omega.{arith}
use lib.ListN.{length, drop, length-append}
use lib.Seq.{drop-drop}
use borrow.Author.Tests.{lt-leb}
use Rattle.replay_calls.specs.Calls.{first_field, tabbed_fields, number_of, numbers_of, before, few, call_with}
use Rattle.replay_calls.proofs.Fields.{split, fields_split, behind, behind_one}

-- numbers before others, if those can be read
abbrev pub following : List ℕ → Option (List ℕ) → Option (List ℕ)
following ms None = None
following ms (Some ns) = Some (ms ++ ns)

-- fields of which there is one: its tab, the first, and those behind it
pub tabbed_one : (l : List ℕ) → 1 ≤ length l → tabbed_fields l ≡ first_field (behind l) ∷ tabbed_fields (drop (length (first_field (behind l))) (behind l))
tabbed_one [] h = absurd (omega arith)
tabbed_one (c ∷ cs) h = rw (behind_one c cs) (fields_split cs)

-- its number is the next of all
pub next_number : (ms : List ℕ) (l : List ℕ) (all : Option (List ℕ)) → 1 ≤ length l
    → following ms (numbers_of (tabbed_fields l)) ≡ all
    → following ms (before (number_of (first_field (behind l))) (numbers_of (tabbed_fields (drop (length (first_field (behind l))) (behind l))))) ≡ all
next_number ms l all h e = ap (λ (fs : List (List ℕ)). following ms (numbers_of fs)) (sym (tabbed_one l h)) ∙ e

-- one more is read
pub following_one : (ms : List ℕ) (n : ℕ) (o : Option (List ℕ)) → following ms (before (Some n) o) ≡ following (ms ++ (n ∷ [])) o
following_one ms n None = refl
following_one ms n (Some ns) = ap Some (sym (append_assoc ms (n ∷ []) ns))

-- a fifth is too many
pub five : (ms : List ℕ) (n : ℕ) (o : Option (List ℕ)) → length ms ≡ 4 → few (following ms (before (Some n) o)) ≡ None
five ms n None h = refl
five ms n (Some ns) h = rw (lt-leb (length (ms ++ (n ∷ ns))) 4 (omega (arith, length-append ms (n ∷ ns))))

-- no call has five numbers
pub few_enough : (w : List ℕ) (o : Option (List ℕ)) → call_with w (few o) ≡ call_with w o
few_enough w None = refl
few_enough w (Some []) = refl
few_enough w (Some (a ∷ [])) = refl
few_enough w (Some (a ∷ b ∷ [])) = refl
few_enough w (Some (a ∷ b ∷ c ∷ [])) = refl
few_enough w (Some (a ∷ b ∷ c ∷ d ∷ [])) = refl
few_enough w (Some (a ∷ b ∷ c ∷ d ∷ e ∷ ns)) = rw (lt-leb (length (a ∷ b ∷ c ∷ d ∷ e ∷ ns)) 4 (omega arith))

-- no code goes place by place today, and the law stands: fields from a place on, at which a tab stands: the first, and those behind it
pub tabbed_here : (l : List ℕ) (i : ℕ) → i < length l
    → tabbed_fields (drop i l) ≡ first_field (drop (i + 1) l) ∷ tabbed_fields (drop (i + 1 + length (first_field (drop (i + 1) l))) l)
tabbed_here l i h =
    let rest = drop (i + 1) l in
    ap tabbed_fields (split l i h)
    ∙ fields_split rest
    ∙ ap (λ (t : List ℕ). first_field rest ∷ tabbed_fields t) (drop-drop (length (first_field rest)) (i + 1) l)
