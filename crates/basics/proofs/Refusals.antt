-- How an answer is shown to be the one that its call's refusals give, test by test and part by part, and that it is the only one.
-- Assumes nothing.
use Rattle.std.specs.Prelude.{if◌then◌else◌}
use mathlib.Core.Path.{◌≡◌, refl, sym, ◌∙◌, ap}
use mathlib.Core.Bool.{Bool, true, false, not}
use mathlib.Core.List.{List, [], ◌∷◌, ◌++◌}
use mathlib.Core.Logic.{◌⊎◌, inl, inr, ⊎_elim}
use Prim.Native.Nat.{ℕ, ◌≤◌, ◌<◌}
use native.Mathlib.Omega.{arith}
use borrow.Author.Tests.{ltb-true, lt-ltb, leb-true, le-leb, eqb-true, eq-eqb}
use lib.Dec.{ltb, leb, eqb}
use Rattle.basics.specs.Basics.{◌and◌, ◌or◌, Outcome, refused, is_done, all}
use Rattle.basics.specs.Refusals.{Refusal, ◌when◌, Given, Some}
use Rattle.basics.proofs.Choices.{contrary, refuted, order, and_true, or_true, or_left, or_right}

-- ---- sentences and tests

-- a sentence that a test says, both ways
pub record Says (t : Bool) (S : Type 0) : Type 0 where
  pub there : t ≡ true → S
  pub back : S → t ≡ true

-- a number is below another
pub says_below : (a b : ℕ) → Says (ltb a b) (a < b)
says_below a b = record { there = ltb-true a b; back = lt-ltb a b }

-- two numbers are the same
pub says_same : (a b : ℕ) → Says (eqb a b) (a ≡ b)
says_same a b = record { there = eqb-true a b; back = eq-eqb a b }

-- a number is at most another
pub says_at_most : (a b : ℕ) → Says (leb a b) (a ≤ b)
says_at_most a b = record { there = leb-true a b; back = le-leb a b }

-- a test that is another one: that holds
pub says_holds : {s t : Bool} → s ≡ t → Says s (t ≡ true)
says_holds q = record { there = λ e. sym q ∙ e; back = λ e. q ∙ e }

-- one of two sentences
pub says_or : {S T : Type 0} {a b : Bool} → Says a S → Says b T → Says (a or b) (S ⊎ T)
says_or {a = a} {b = b} s t = record {
  there = λ e. ⊎_elim (λ p. inl (s.there p)) (λ q. inr (t.there q)) (or_true a b e);
  back = ⊎_elim (λ p. or_left a b (s.back p)) (λ q. or_right a b (t.back q));
}

-- two sentences together
pub says_and : {S T : Type 0} {a b : Bool} → Says a S → Says b T → Says (a and b) (S × T)
says_and {a = a} {b = b} s t = record {
  there = λ e. (s.there (and_true a b e).0, t.there (and_true a b e).1);
  back = λ h. rw (s.back h.0) (t.back h.1);
}

-- no such sentence
pub says_not : {S : Type 0} {t : Bool} → Says t S → Says (not t) (S → ⊥)
says_not {S} {t} s = by t s
  where
    by : (t : Bool) → Says t S → Says (not t) (S → ⊥)
    by true s = record { there = λ e h. contrary e refl; back = λ none. absurd (none (s.there refl)) }
    by false s = record { there = λ e h. contrary (s.back h) refl; back = λ none. refl }

-- one of two tests fails
pub says_not_both : {S T : Type 0} (a b : Bool) → Says (not a) S → Says (not b) T → Says (not (a and b)) (S ⊎ T)
says_not_both true b s t = record { there = λ e. inr (t.there e); back = ⊎_elim (λ h. absurd (contrary (s.back h) refl)) t.back }
says_not_both false b s t = record { there = λ e. inl (s.there refl); back = λ h. refl }

-- not all pass a test: some has what its failing says
pub says_some : {A : Type 0} (p : A → Bool) {P : A → Type 0} → ((x : A) → Says (not (p x)) (P x)) → (xs : List A) → Says (not (all p xs)) (Some P xs)
says_some p f [] = record { there = λ e. contrary e refl; back = λ h. absurd h }
says_some p f (x ∷ xs) = says_not_both (p x) (all p xs) (f x) (says_some p f xs)

-- a sentence in other words
pub says_as : {S T : Type 0} {t : Bool} → Says t S → (S → T) → (T → S) → Says t T
says_as s f g = record { there = λ e. f (s.there e); back = λ h. s.back (g h) }

-- a number isn't below another
pub says_past : (a b : ℕ) → Says (not (ltb a b)) (b ≤ a)
says_past a b = says_as (says_not (says_below a b)) (λ none. ⊎_elim (λ h. absurd (none h)) (λ h. h) (order a b)) (λ h k. omega arith)

-- a number isn't at most another
pub says_more : (a b : ℕ) → Says (not (leb a b)) (b < a)
says_more a b = says_as (says_not (says_at_most a b)) (λ none. ⊎_elim (λ h. h) (λ h. absurd (none h)) (order b a)) (λ h k. omega arith)

-- a test of a sentence that doesn't hold fails
pub says_fails : {S : Type 0} {t : Bool} → Says t S → (S → ⊥) → t ≡ false
says_fails {t = t} s none = refuted t (λ e. none (s.there e))

-- ---- an answer, test by test

-- what a call answers of a choice whose test says the first sentence, and which goes on by the others
pub given_of : {A B S : Type 0} (f : B → Outcome A) (t : Bool) (n : ℕ) (rs : List Refusal) (x y : B)
    → Says t S → f x ≡ refused n → (t ≡ false → Given rs (f y)) → Given ((n when S) ∷ rs) (f (if t then x else y))
given_of f true n rs x y s e g = inl (s.there refl, e)
given_of f false n rs x y s e g = inr ((λ h. contrary (s.back h) refl), g refl)

-- the same of a choice whose test says that the first sentence doesn't hold
pub given_unless : {A B S : Type 0} (f : B → Outcome A) (t : Bool) (n : ℕ) (rs : List Refusal) (x y : B)
    → Says (not t) S → f x ≡ refused n → (t ≡ true → Given rs (f y)) → Given ((n when S) ∷ rs) (f (if t then y else x))
given_unless f true n rs x y s e g = inr ((λ h. contrary (s.back h) refl), g refl)
given_unless f false n rs x y s e g = inl (s.there refl, e)

-- a call whose first test says the first sentence, and which goes on by the others
pub given_by : {A S : Type 0} (t : Bool) (n : ℕ) (rs : List Refusal) (a : Outcome A) → Says t S → (t ≡ false → Given rs a)
    → Given ((n when S) ∷ rs) (if t then refused n else a)
given_by t n rs a s g = given_of (λ (b : Outcome _). b) t n rs (refused n) a s refl g

-- ---- an answer, part by part

-- a call that gives what its first part refuses, and which goes on by further refusals where that part is accepted
pub given_append : {A B : Type 0} (rs more : List Refusal) {x : Outcome B} {a : Outcome A} → Given rs x
    → ((n : ℕ) → x ≡ refused n → a ≡ refused n) → (is_done x ≡ true → Given more a) → Given (rs ++ more) a
given_append [] more g same next = next g
given_append ((n when S) ∷ rs) more (inl (h, e)) same next = inl (h, same n e)
given_append ((n when S) ∷ rs) more (inr (none, g)) same next = inr (none, given_append rs more g same next)

-- ---- a call that is accepted

-- an accepted call isn't refused
not_refused : {A : Type 0} {a : Outcome A} (n : ℕ) → is_done a ≡ true → a ≡ refused n → ⊥
not_refused n e r = contrary e (ap is_done r)

-- no sentence of these holds
abbrev pub None : List Refusal → Type 0
None [] = Unit
None ((n when S) ∷ rs) = (S → ⊥) × None rs

-- a call that is accepted was to be refused by no sentence
pub given_none : {A : Type 0} (rs : List Refusal) (a : Outcome A) → Given rs a → is_done a ≡ true → None rs
given_none [] a g e = tt
given_none ((n when S) ∷ rs) a (inl (h, r)) e = absurd (not_refused n e r)
given_none ((n when S) ∷ rs) a (inr (none, g)) e = (none, given_none rs a g e)

-- ---- the only answer

-- one number refuses alike whatever the calls would answer
pub refused_alike : {A B : Type 0} (n m : ℕ) → ◌≡◌ {A = Outcome A} (refused n) (refused m) → ◌≡◌ {A = Outcome B} (refused n) (refused m)
refused_alike n m e = let same : n ≡ m = cc in ap refused same

-- two answers that the same refusals give agree: both calls are accepted, or both are refused with one number
pub given_one : {A B : Type 0} (rs : List Refusal) {a : Outcome A} {b : Outcome B} → Given rs a → Given rs b
    → (is_done a ≡ is_done b) × ((n : ℕ) → a ≡ refused n → b ≡ refused n)
given_one [] p q = (p ∙ sym q, λ n e. absurd (not_refused n p e))
given_one ((n when S) ∷ rs) (inl (h, p)) (inl (k, q)) = (ap is_done p ∙ sym (ap is_done q), λ m e. q ∙ refused_alike n m (sym p ∙ e))
given_one ((n when S) ∷ rs) (inl (h, p)) (inr (none, g)) = absurd (none h)
given_one ((n when S) ∷ rs) (inr (none, f)) (inl (k, q)) = absurd (none k)
given_one ((n when S) ∷ rs) (inr (none, f)) (inr (none', g)) = given_one rs f g
