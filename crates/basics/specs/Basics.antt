-- Words that every definition here is written with: a choice, an answer or a refusal, and tests on lists.
-- Assumes nothing.
use Rattle.std.specs.Prelude.{Bool, true, false, not, List, [], ◌∷◌, ℕ, eqb}

-- both tests hold
infixr 30 ◌and◌
abbrev pub ◌and◌ : Bool → Bool → Bool
◌and◌ true b = b
◌and◌ false b = false

-- one of the tests holds
infixr 25 ◌or◌
abbrev pub ◌or◌ : Bool → Bool → Bool
◌or◌ true b = true
◌or◌ false b = b

-- 1 for a test that holds, 0 for one that doesn't
abbrev pub bit : Bool → ℕ
bit true = 1
bit false = 0

-- a number that isn't 0 is yes
abbrev pub is_set : ℕ → Bool
is_set x = not (eqb x 0)

-- What a call answers: a value, or the number of a refusal (document 01, "Refusal numbers").
pub data Outcome (A : Type 0) : Type 0 where
  done : A → Outcome A
  refused : ℕ → Outcome A

-- whether a call was accepted
abbrev pub is_done : {A : Type 0} → Outcome A → Bool
is_done (done a) = true
is_done (refused n) = false

-- whether a test holds of every element
abbrev pub all : {A : Type 0} → (A → Bool) → List A → Bool
all p [] = true
all p (x ∷ xs) = p x and all p xs

-- whether two lists of numbers are the same
abbrev pub same : List ℕ → List ℕ → Bool
same [] [] = true
same [] (y ∷ ys) = false
same (x ∷ xs) [] = false
same (x ∷ xs) (y ∷ ys) = eqb x y and same xs ys

-- whether a list has an element
abbrev pub some_in : {A : Type 0} → List A → Bool
some_in [] = false
some_in (x ∷ xs) = true

-- both Bools are alike
abbrev pub alike : Bool → Bool → Bool
alike true b = b
alike false true = false
alike false false = true
