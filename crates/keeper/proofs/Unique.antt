-- What a contract of this crate allows is one outcome. Two outcomes of a call have equal answers, and a status's buffers are equal; on a
-- refusal no array has changed; and where the arrays were plain before an accepted call, what it leaves in them is equal up to the slots
-- past the counts, which no call reads. Where they were not, which calls from an open never make, they are read alike.
-- Assumes nothing.
use Rattle.std.specs.Prelude.{Result, Ok, Err}
use mathlib.Core.Path.{◌≡◌, refl, sym, ◌∙◌, ap, subst}
use mathlib.Core.Bool.{Bool}
use mathlib.Core.List.{List}
use Prim.Native.Nat.{ℕ}
use Rattle.basics.specs.Basics.{Outcome, refused}
use Rattle.refusal.specs.declared.Refusal.{Refusal}
use Rattle.refusal.specs.Numbers.{number_of, answer_of}
use Rattle.refusal.proofs.Numbers.{numbered, told}
use Rattle.bearer.specs.Bearer.{After}
use Rattle.bearer.specs.Keeper.{Keeper, Reported}
use Rattle.keeper.specs.View.{Arrays, state_held, answered, reported_as}
use Rattle.keeper.specs.Plain.{Plain, Sized, Alike}
use Rattle.keeper.specs.Unopened.{Unchanged}
use Rattle.keeper.proofs.Alike.{alike_own, same_arrays}

-- ---- no two answers mean the same

same_numbers : {A : Type 0} (d e : Refusal) → ◌≡◌ {A = Outcome A} (refused (number_of d)) (refused (number_of e)) → d ≡ e
same_numbers d e h = let n : number_of d ≡ number_of e = cc in sym (told d) ∙ ap numbered n ∙ told e

same_answers : {A : Type 0} (r s : Result A Refusal) → answer_of (λ a. a) r ≡ answer_of (λ a. a) s → r ≡ s
same_answers (Ok a) (Ok b) h = cc
same_answers (Ok a) (Err e) h = cc
same_answers (Err d) (Ok b) h = cc
same_answers {A} (Err d) (Err e) h = ap Err (same_numbers {A = A} d e h)

-- ---- one outcome, as it is read

-- of an open, an arrival, an expiry and a confirm
pub read_call : {A : Type 0} (a : After Keeper A) (r s : Result A Refusal) (k l : Keeper) → answered r k ≡ a → answered s l ≡ a → (r ≡ s) × (k ≡ l)
read_call {A} a r s k l p q =
    let same = p ∙ sym q in
    (same_answers r s (ap (λ (x : After Keeper A). x.answer) same), ap (λ (x : After Keeper A). x.state) same)

pub read_status_lem : (a : Reported) (r s : Result ℕ Refusal) (k l : Keeper) (d e : List ℕ) → reported_as r k d ≡ a → reported_as s l e ≡ a → (r ≡ s) × (k ≡ l) × (d ≡ e)
read_status_lem a r s k l d e p q =
    let same = p ∙ sym q in
    (same_answers r s (ap (λ (x : Reported). x.answer) same), ap (λ (x : Reported). x.state) same, ap (λ (x : Reported). x.buffer) same)

-- of the question whether there is anything to say, which leaves every array
pub one_question : (a : Outcome Bool) (r s : Result Bool Refusal) → answer_of (λ yes. yes) r ≡ a → answer_of (λ yes. yes) s ≡ a → r ≡ s
one_question a r s p q = same_answers r s (p ∙ sym q)

-- ---- one outcome, array by array

-- arrays are plain
abbrev IsPlain : Arrays → Type 0
IsPlain a = Plain a.words a.marks

-- an open leaves the arrays `before` as they were where it refuses, and plain ones where it doesn't
pub one_open : (a : After Keeper Unit) (r s : Result Unit Refusal) (before x y : Arrays) → Sized x → Sized y
    → answered r (state_held x) ≡ a → Unchanged r before x → (r ≡ Ok tt → IsPlain x)
    → answered s (state_held y) ≡ a → Unchanged s before y → (s ≡ Ok tt → IsPlain y)
    → (r ≡ s) × Alike x y
one_open a r s before x y sx sy p xs px q ys py = let both = read_call a r s (state_held x) (state_held y) p q in (both.0, by r refl)
  where
    by : (t : Result Unit Refusal) → r ≡ t → Alike x y
    by (Ok u) e = let both = read_call a r s (state_held x) (state_held y) p q in same_arrays x y sx sy (px e) (py (sym both.0 ∙ e)) both.1
    by (Err n) e =
        let both = read_call a r s (state_held x) (state_held y) p q in
        subst (Alike x) (xs n e ∙ sym (ys n (sym both.0 ∙ e))) (alike_own x)

-- the other calls keep what is plain
module _ (before x y : Arrays) (plain : IsPlain before) (sized-x : Sized x) (sized-y : Sized y) (keeps-x : IsPlain before → IsPlain x) (keeps-y : IsPlain before → IsPlain y) where
  alike_if : state_held x ≡ state_held y → Alike x y
  alike_if = same_arrays x y sized-x sized-y (keeps-x plain) (keeps-y plain)

  -- an arrival, an expiry and a confirm
  pub one_call : {A : Type 0} (a : After Keeper A) (r s : Result A Refusal) → answered r (state_held x) ≡ a → answered s (state_held y) ≡ a → (r ≡ s) × Alike x y
  one_call a r s p q = let both = read_call a r s (state_held x) (state_held y) p q in (both.0, alike_if both.1)

  pub one_status : (a : Reported) (r s : Result ℕ Refusal) (d e : List ℕ) → reported_as r (state_held x) d ≡ a → reported_as s (state_held y) e ≡ a → (r ≡ s) × Alike x y × (d ≡ e)
  one_status a r s d e p q = let both = read_status_lem a r s (state_held x) (state_held y) d e p q in (both.0, alike_if both.1, both.2)
