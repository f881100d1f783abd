-- How an answer of either machine is shown to be the one that its call's refusals give (the crate basics, Refusals.antt): what both opens ask, and
-- calls that refuse by one test after another.
-- Assumes nothing.
use Rattle.std.specs.Prelude.{if◌then◌else◌}
use mathlib.Core.Path.{◌≡◌, refl}
use mathlib.Core.Bool.{Bool, true, false, not}
use mathlib.Core.List.{List, ◌∷◌}
use Prim.Native.Nat.{ℕ}
use lib.Dec.{ltb}
use Rattle.basics.specs.Basics.{◌and◌, ◌or◌}
use Rattle.basics.specs.Refusals.{Refusal, ◌when◌, Given}
use Rattle.basics.proofs.Refusals.{Says, says_same, says_or, says_not, says_not_both, says_past, given_of}
use Rattle.circle.specs.Lengths.{is_length, modulus_of, pdcps}
use Rattle.bearer.specs.Bearer.{After, refusing}
use Rattle.bearer.specs.Refusals.{NoLength, NoNumber}

-- 7
pub says_length : (L : ℕ) → Says (not (is_length L)) (NoLength L)
says_length L = says_not (says_or (says_same L 12) (says_or (says_same L 15) (says_same L 18)))

-- 10
pub says_number : (L n p : ℕ) → Says (not (ltb n (modulus_of L) and ltb p (pdcps L))) (NoNumber L n p)
says_number L n p = says_not_both (ltb n (modulus_of L)) (ltb p (pdcps L)) (says_past n (modulus_of L)) (says_past p (pdcps L))

-- a call that leaves a state, whose first test says the first sentence, and which goes on by the others
pub call_by : {S A P : Type 0} (t : Bool) (n : ℕ) (rs : List Refusal) (s : S) (x : After S A) → Says t P → (t ≡ false → Given rs x.answer)
    → Given ((n when P) ∷ rs) (if t then refusing n s else x).answer
call_by t n rs s x p f = given_of (λ (y : After _ _). y.answer) t n rs (refusing n s) x p refl f

-- two tests, one after the other, with one answer are one test
pub one_test : {X : Type 0} (s t : Bool) (x y : X) → (if s then x else (if t then x else y)) ≡ (if s or t then x else y)
one_test true t x y = refl
one_test false t x y = refl
