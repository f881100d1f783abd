-- The field of accept: octets behind a tab are one field if they can be read at all, for a tab is no digit.
-- Assumes nothing.
use Rattle.std.specs.Prelude.{Some, None, if◌then◌else◌}
use mathlib.Core.Path.{◌≡◌, refl, ap}
use mathlib.Core.Bool.{Bool, true, false, not}
use mathlib.Core.List.{List, [], ◌∷◌}
use Prim.Native.Nat.{ℕ, ◌≤◌}
use native.Mathlib.Omega.{arith}
use lib.Dec.{eqb}
use lib.ListN.{length, drop}
use borrow.Author.Tests.{eqb-true}
use Rattle.basics.specs.Basics.{◌and◌, ◌or◌, all}
use Rattle.lister_text.specs.Texts.{tab}
use Rattle.lister_text.specs.Hexadecimal.{digit_of, is_digit, bad_count, octets_in, decoded_of, decoded_into}
use Rattle.replay_calls.specs.Calls.{fields_in, first_field, tabbed_fields, framed, accept_of, decoded_behind}
use Rattle.replay_calls.proofs.Fields.{fields_split, behind, behind_one}

-- octets are one field, or several and no digits
data Shape (cs : List ℕ) : Type 0 where
  one : fields_in cs ≡ cs ∷ [] → Shape cs
  more : (f g : List ℕ) (fs : List (List ℕ)) → fields_in cs ≡ f ∷ g ∷ fs → all is_digit cs ≡ false → Shape cs

tab_no_digit : is_digit tab ≡ false
unfolding digit_of
tab_no_digit = refl

none_and : (a b : Bool) → b ≡ false → (a and b) ≡ false
none_and true b e = e
none_and false b e = refl

shape : (cs : List ℕ) → Shape cs
shape [] = one refl
shape (c ∷ cs) = by (eqb c tab) refl (shape cs)
  where
    by : (b : Bool) → eqb c tab ≡ b → Shape cs → Shape (c ∷ cs)
    by true e s =
        more [] (first_field cs) (tabbed_fields (drop (length (first_field cs)) cs))
        (rw e (ap (λ (fs : List (List ℕ)). [] ∷ fs) (fields_split cs)))
        (rw (eqb-true c tab e, tab_no_digit))
    by false e (one p) = one (rw (e, p))
    by false e (more f g fs p q) = more (c ∷ f) g fs (rw (e, p)) (none_and (is_digit c) (all is_digit cs) q)

none_read : (cs : List ℕ) → all is_digit cs ≡ false → decoded_of cs ≡ None
none_read cs e = by (bad_count (length cs))
  where
    by : (b : Bool) → (if b or not (all is_digit cs) then None else Some (length (octets_in cs))) ≡ None
    by true = refl
    by false = rw e

-- decoding all that stands behind the tab reads the one field
accept_fields : (cs : List ℕ) → accept_of (fields_in cs) ≡ framed (decoded_of cs)
accept_fields cs = by (shape cs)
  where
    by : Shape cs → accept_of (fields_in cs) ≡ framed (decoded_of cs)
    by (one p) = rw p
    by (more f g fs p q) = rw (p, none_read cs q)

-- where something stands behind the word, what is decoded is read
pub accept_some : (l frame : List ℕ) → 1 ≤ length l
    → (accept_of (tabbed_fields l) ≡ framed (decoded_of (drop 1 l))) × (decoded_behind l frame ≡ decoded_into (drop 1 l) frame)
accept_some [] frame h = absurd (omega arith)
accept_some (c ∷ cs) frame h = (accept_fields cs, refl)

-- as the code takes it
pub accept_behind : (l : List ℕ) → 1 ≤ length l → accept_of (tabbed_fields l) ≡ framed (decoded_of (behind l))
accept_behind [] h = absurd (omega arith)
accept_behind (c ∷ cs) h = rw (behind_one c cs) (accept_fields cs)
