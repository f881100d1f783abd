-- A property of some element of a list.
-- Assumes nothing.
use mathlib.Core.List.{List, [], ◌∷◌}
use mathlib.Core.Logic.{inl, inr}
use Prim.Native.Nat.{ℕ, zero, suc, ◌<◌}
use native.Mathlib.Omega.{arith}
use native.Mathlib.Nat.{le_of_suc-le-suc}
use lib.ListN.{length, get_or}
use Rattle.basics.specs.Refusals.{Some}
use Rattle.bearer.specs.Packets.{Each}

-- what follows from it holds of some element
pub some_so : {A : Type 0} {P Q : A → Type 0} (xs : List A) → ((x : A) → P x → Q x) → Some P xs → Some Q xs
some_so [] f s = elim s [ ]
some_so (x ∷ xs) f (inl p) = inl (f x p)
some_so (x ∷ xs) f (inr s) = inr (some_so xs f s)

-- what holds of every element holds of that one
pub some_both : {A : Type 0} (P Q : A → Type 0) (xs : List A) → Each P xs → Some Q xs → Some (λ (x : A). P x × Q x) xs
some_both P Q [] each s = elim s [ ]
some_both P Q (x ∷ xs) each (inl q) = inl (each.0, q)
some_both P Q (x ∷ xs) each (inr s) = inr (some_both P Q xs each.1 s)

-- the element at a place
pub some_at : {A : Type 0} (P : A → Type 0) (xs : List A) (i : ℕ) (d : A) → i < length xs → P (get_or xs i d) → Some P xs
some_at P [] i d h p = absurd (omega arith)
some_at P (x ∷ xs) zero d h p = inl p
some_at P (x ∷ xs) (suc i) d h p = inr (some_at P xs i d (le_of_suc-le-suc h) p)

-- none has what can't be
pub some_never : {A : Type 0} (P : A → Type 0) (xs : List A) → ((x : A) → P x → ⊥) → Some P xs → ⊥
some_never P [] f s = elim s [ ]
some_never P (x ∷ xs) f (inl p) = f x p
some_never P (x ∷ xs) f (inr s) = some_never P xs f s
