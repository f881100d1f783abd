-- What follows of tests that hold or fail, alone or together, of a choice between two values, and of answers.
-- Assumes nothing.
use Rattle.std.specs.Prelude.{if◌then◌else◌}
use mathlib.Core.Path.{◌≡◌, refl, sym, ◌∙◌}
use mathlib.Core.Bool.{Bool, true, false, true≢false}
use mathlib.Core.Logic.{◌⊎◌, inl, inr, ⊎_elim}
use Prim.Native.Nat.{ℕ, ◌≤◌, ◌<◌}
use native.Mathlib.Omega.{arith}
use borrow.Author.Tests.{ltb-true, ltb-false, leb-true, eqb-true, le-leb, eq-eqb}
use lib.Dec.{ltb, leb, eqb}
use Rattle.basics.specs.Basics.{◌and◌, ◌or◌, bit, is_set, done, refused}

-- ---- a test

-- a test holds or fails
pub tested : (t : Bool) → (t ≡ true) ⊎ (t ≡ false)
tested true = inl refl
tested false = inr refl

-- and not both
pub contrary : {t : Bool} → t ≡ true → t ≡ false → ⊥
contrary p q = true≢false (sym p ∙ q)

-- one that can't hold fails
pub refuted : (t : Bool) → (t ≡ true → ⊥) → t ≡ false
refuted true h = absurd (h refl)
refuted false h = refl

-- two that hold together are one
pub same_test : (s t : Bool) → (s ≡ true → t ≡ true) → (t ≡ true → s ≡ true) → s ≡ t
same_test true t f g = sym (f refl)
same_test false true f g = g refl
same_test false false f g = refl

-- ---- two tests

-- of two tests that hold together each holds
pub and_true : (a b : Bool) → (a and b) ≡ true → (a ≡ true) × (b ≡ true)
and_true true b e = (refl, e)
and_true false b e = (e, cc)

-- a test and one that holds
pub and_yes : (a : Bool) → (a and true) ≡ a
and_yes true = refl
and_yes false = refl

-- a test and one that fails
pub and_no : (a : Bool) → (a and false) ≡ false
and_no true = refl
and_no false = refl

-- where one of two tests holds, the first does or the second
pub or_true : (a b : Bool) → (a or b) ≡ true → (a ≡ true) ⊎ (b ≡ true)
or_true true b e = inl refl
or_true false b e = inr e

-- the first will do
pub or_left : (a b : Bool) → a ≡ true → (a or b) ≡ true
or_left a b e = rw e

-- and so will the second
pub or_right : (a b : Bool) → b ≡ true → (a or b) ≡ true
or_right true b e = refl
or_right false b e = e

-- of two tests of which none holds neither holds
pub or_false : (a b : Bool) → (a or b) ≡ false → (a ≡ false) × (b ≡ false)
or_false true b e = (e, cc)
or_false false b e = (refl, e)

-- a test or one that fails
pub or_no : (a : Bool) → (a or false) ≡ a
or_no true = refl
or_no false = refl

-- a test kept as a number is read back
pub set_bit : (b : Bool) → is_set (bit b) ≡ b
set_bit true = refl
set_bit false = refl

-- ---- tests of numbers

-- one number is below another, or not
pub order : (i j : ℕ) → (i < j) ⊎ (j ≤ i)
order i j = ⊎_elim (λ e. inl (ltb-true i j e)) (λ e. inr (ltb-false i j e)) (tested (ltb i j))

-- two comparisons that hold together are one test
pub leb_alike : (a b c d : ℕ) → (a ≤ b → c ≤ d) → (c ≤ d → a ≤ b) → leb a b ≡ leb c d
leb_alike a b c d there back = same_test (leb a b) (leb c d) (λ e. le-leb c d (there (leb-true a b e))) (λ e. le-leb a b (back (leb-true c d e)))

-- and so are two equations
pub eqb_alike : (a b c d : ℕ) → (a ≡ b → c ≡ d) → (c ≡ d → a ≡ b) → eqb a b ≡ eqb c d
eqb_alike a b c d there back = same_test (eqb a b) (eqb c d) (λ e. eq-eqb c d (there (eqb-true a b e))) (λ e. eq-eqb a b (back (eqb-true c d e)))

-- ---- a choice

-- the first value, where the test holds
pub chosen : {A : Type 0} {t : Bool} (x y : A) → t ≡ true → (if t then x else y) ≡ x
chosen x y e = rw e

-- the other, where it fails
pub otherwise : {A : Type 0} {t : Bool} (x y : A) → t ≡ false → (if t then x else y) ≡ y
otherwise x y e = rw e

-- a choice between images is the image of the choice
pub choice : {A B : Type 0} (f : A → B) {t s : Bool} {x y : B} {u v : A} → t ≡ s → x ≡ f u → y ≡ f v → (if t then x else y) ≡ f (if s then u else v)
choice f {t} {s} {x} {y} {u} {v} e p q = rw e (by s)
  where
    by : (b : Bool) → (if b then x else y) ≡ f (if b then u else v)
    by true = p
    by false = q

-- a choice that came to z came to it by one of its ways
pub by_choice : {A P : Type 0} (b : Bool) (x y z : A) → (b ≡ true → x ≡ z → P) → (b ≡ false → y ≡ z → P) → (if b then x else y) ≡ z → P
by_choice true x y z f g e = f refl e
by_choice false x y z f g e = g refl e

-- what each value has where it is chosen, the choice has
pub of_choice : {A : Type 0} (P : A → Type 0) (t : Bool) (x y : A) → (t ≡ true → P x) → (t ≡ false → P y) → P (if t then x else y)
of_choice P true x y f g = f refl
of_choice P false x y f g = g refl

-- ---- answers

-- two answers that are equal have equal values
pub done_one : {A : Type 0} (a b : A) → done a ≡ done b → a ≡ b
done_one a b e = cc

-- a refusal is no answer with a value
pub never_done : {P A : Type 0} (n : ℕ) (a : A) → refused n ≡ done a → P
never_done n a e = absurd (let z : ◌≡◌ {A = ℕ} 0 1 = cc in omega arith)
