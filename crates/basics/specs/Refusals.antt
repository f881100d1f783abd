-- A call's refusals, each with its sentence, in the order of document 01, and what they make of the call's answer: "The first that applies
-- wins, in these orders."
-- Assumes nothing.
use Rattle.std.specs.Prelude.{◌≡◌, true, List, [], ◌∷◌, ◌⊎◌, ℕ}
use Rattle.basics.specs.Basics.{Outcome, refused, is_done}

infix 4 ◌when◌
-- a row of the table of refusals: a number, and the sentence by which it is given
pub data Refusal : Type 1 where
  ◌when◌ : ℕ → Type 0 → Refusal

-- the answer is the first of these whose sentence holds, and where none does the call is accepted
abbrev pub Given : {A : Type 0} → List Refusal → Outcome A → Type 0
Given [] a = is_done a ≡ true
Given ((n when S) ∷ rs) a = (S × (a ≡ refused n)) ⊎ ((S → ⊥) × Given rs a)

-- a property of some element of a list
abbrev pub Some : {A : Type 0} → (A → Type 0) → List A → Type 0
Some P [] = ⊥
Some P (x ∷ xs) = P x ⊎ Some P xs
