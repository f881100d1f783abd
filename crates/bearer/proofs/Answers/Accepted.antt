-- What an accepted call has passed, of either machine: none of its tests refused it, and an open that is accepted leaves a fresh end.
-- Assumes nothing.
use Rattle.std.specs.Prelude.{if◌then◌else◌}
use mathlib.Core.Path.{◌≡◌, refl, ap}
use mathlib.Core.Bool.{Bool, true, false, not}
use Prim.Native.Nat.{ℕ, ◌<◌}
use borrow.Author.Tests.{ltb-true}
use lib.Dec.{ltb}
use Rattle.basics.specs.Basics.{◌and◌, done, refused}
use Rattle.basics.proofs.Choices.{and_true, never_done, done_one}
use Rattle.circle.specs.Lengths.{is_length, modulus_of, pdcps}
use Rattle.bearer.specs.Bearer.{After, refusing}

-- calls that are equal answer the same
pub same_answer : {S A : Type 0} {x y : After S A} → x ≡ y → x.answer ≡ y.answer
same_answer e = ap (λ (z : After _ _). z.answer) e

-- and leave the same
pub same_state : {S A : Type 0} {x y : After S A} → x ≡ y → x.state ≡ y.state
same_state e = ap (λ (z : After _ _). z.state) e

-- a call that is accepted wasn't refused by its first test: it is what stands behind that
pub not_refused : {S A : Type 0} (t : Bool) (n : ℕ) (s : S) (x : After S A) (c : A) → (if t then refusing n s else x).answer ≡ done c
    → (t ≡ false) × (x.answer ≡ done c) × ((if t then refusing n s else x) ≡ x)
not_refused true n s x c e = never_done n c e
not_refused false n s x c e = (refl, e, refl)

-- an open that is accepted: L is one of document 01's, the first number is below M, and the end is a fresh one
pub record Opened {A : Type 0} (L first : ℕ) (fresh a : A) : Type 0 where
  pub ok : is_length L ≡ true
  pub small : first < modulus_of L
  pub is : fresh ≡ a

pub opened : {A : Type 0} (L first f : ℕ) (fresh a : A)
    → (if not (is_length L) then refused 7 else (if not (ltb first (modulus_of L) and ltb f (pdcps L)) then refused 10 else done fresh)) ≡ done a
    → Opened L first fresh a
opened L first f fresh a = by (is_length L) (ltb first (modulus_of L) and ltb f (pdcps L)) refl refl
  where
    by : (s t : Bool) → is_length L ≡ s → (ltb first (modulus_of L) and ltb f (pdcps L)) ≡ t → (if not s then refused 7 else (if not t then refused 10 else done fresh)) ≡ done a → Opened L first fresh a
    by true true ok fits e = record { ok = ok; small = ltb-true first (modulus_of L) (and_true (ltb first (modulus_of L)) (ltb f (pdcps L)) fits).0; is = done_one fresh a e }
    by true false ok fits e = never_done 10 a e
    by false t ok fits e = never_done 7 a e
