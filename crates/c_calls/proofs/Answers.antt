-- An answer is a signed number of 64 bits: what a call hands back is what it said.
-- Assumes nothing.
use Rattle.std.proofs.Common.{◌≡◌, ℕ, ◌<◌, ◌^◌, min, ℤ, pos, negsuc, Result, Ok, Err, refl, sym, ◌∙◌, ap, arith}
use lib.Signed.{mag}
use mir.Syntax.{w64}
use mir.Val.{to_z, of_z}
use mir.ValLaws.{to_z-of_z}
use Rattle.basics.specs.Basics.{Outcome}
use Rattle.basics.proofs.Apart.{apart}
use Rattle.refusal.specs.declared.Refusal.{Refusal}
use Rattle.refusal.specs.Numbers as numbers
use Rattle.c_calls.specs.Boundary.{most_answer, Left, leaves, said, itself, answer_of}

-- a length within what 63 bits hold is answered whole
pub whole_length : (n : ℕ) → n < 2 ^ 63 → pos (min n most_answer) ≡ pos n
whole_length n h = ap pos (let e : min n most_answer ≡ n = omega arith in e)

-- what a call answered is what it said
pub handed_on : {z x : ℤ} → mag z < 2 ^ 63 → z ≡ x → to_z w64 (of_z w64 z) ≡ x
handed_on {z} fits e = to_z-of_z w64 z (record { sfits = fits }) ∙ e

-- an answer that a call made, and what is left with it
pub left_as : {S : Type 0} {z x : ℤ} {s : S} {l : Left S} → mag z < 2 ^ 63 → z ≡ x → leaves x s ≡ l → leaves (to_z w64 (of_z w64 z)) s ≡ l
left_as {s = s} fits e q = ap (λ (y : ℤ). leaves y s) (handed_on fits e) ∙ q

-- a result whose meaning is known is answered as that is
pub said_as : {T A : Type 0} (f : T → A) (g : A → ℕ) (r : Result T Refusal) {o : Outcome A} → numbers.answer_of f r ≡ o → said (λ t. g (f t)) r ≡ answer_of g o
said_as f g (Ok t) e = ap (answer_of g) e
said_as f g (Err q) e = ap (answer_of g) e

-- a length that fits is answered whole
pub whole_answer : (r : Result ℕ Refusal) → ((n : ℕ) → r ≡ Ok n → n < 2 ^ 63) → said (λ n. min n most_answer) r ≡ answer_of itself (numbers.answer_of (λ n. n) r)
whole_answer (Ok n) fits = whole_length n (fits n refl)
whole_answer (Err q) fits = refl

-- an answer below 0 is a refusal
refused_by : {T : Type 0} (g : T → ℕ) (r : Result T Refusal) {n : ℕ} → said g r ≡ negsuc n → (q : Refusal) × (r ≡ Err q)
refused_by g (Ok t) e = apart (cc)
refused_by g (Err q) e = (q, refl)

pub refusal_told : {T : Type 0} (g : T → ℕ) {r : Result T Refusal} {z : ℤ} {n : ℕ} → mag z < 2 ^ 63 → z ≡ said g r → to_z w64 (of_z w64 z) ≡ negsuc n → (q : Refusal) × (r ≡ Err q)
refusal_told g {r} fits is e = refused_by g r (sym is ∙ sym (handed_on fits refl) ∙ e)
