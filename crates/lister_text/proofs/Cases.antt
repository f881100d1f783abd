-- A test holds or fails; a number is below another or it isn't.
-- Assumes nothing.
use Rattle.std.proofs.Common.{◌≡◌, ℕ, ◌<◌, ◌≤◌, Bool, true, false, ltb, refl, ltb-false, ltb-true}

pub true_or : {P : Type 0} (b : Bool) → (b ≡ true → P) → (b ≡ false → P) → P
true_or true f g = f refl
true_or false f g = g refl

pub below_or : {P : Type 0} (m n : ℕ) → (m < n → P) → (n ≤ m → P) → P
below_or m n f g = true_or (ltb m n) (λ e. f (ltb-true m n e)) (λ e. g (ltb-false m n e))
