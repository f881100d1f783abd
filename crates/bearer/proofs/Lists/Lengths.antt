-- What document 01's three lengths have in common.
-- Assumes nothing.
use mathlib.Core.Path.{◌≡◌, refl, sym, subst}
use mathlib.Core.Bool.{true}
use mathlib.Core.Logic.{⊎_elim}
use Prim.Native.Nat.{ℕ, suc, ◌+◌, ◌-◌, ◌/◌, ◌^◌, ◌≤◌, ◌<◌}
use borrow.Author.Tests.{eqb-true}
use lib.Dec.{eqb, lit<, lit≤}
use Rattle.basics.specs.Basics.{◌or◌}
use Rattle.basics.proofs.Choices.{or_true}
use Rattle.circle.specs.Lengths.{is_length, is_long, modulus_of, half, pdcps}
use Rattle.frame_layout.specs.Frames.{most_highest}
use Rattle.bearer.specs.Bearer.{most_entries}

-- what holds of 12, 15 and 18 holds of every length
pub each_length : (P : ℕ → Type 0) → P 12 → P 15 → P 18 → (L : ℕ) → is_length L ≡ true → P L
each_length P a b c L e =
    ⊎_elim (λ p. subst P (sym (eqb-true L 12 p)) a)
    (λ p. ⊎_elim (λ q. subst P (sym (eqb-true L 15 q)) b) (λ q. subst P (sym (eqb-true L 18 q)) c) (or_true (eqb L 15) (eqb L 18) p))
    (or_true (eqb L 12) (eqb L 15 or eqb L 18) e)

-- half of the PDCP numbers
pub half_is : (L : ℕ) → is_length L ≡ true → pdcps L / 2 ≡ 2 ^ (L - 1)
half_is = each_length (λ (L : ℕ). pdcps L / 2 ≡ 2 ^ (L - 1)) refl refl refl

-- the numbers are even, half of them are more than a ledger or half the PDCP numbers, and a status bears every PDCP number
pub record Roomy (L : ℕ) : Type 0 where
  pub halves : half L + half L ≡ modulus_of L
  pub more_entries : most_entries ≤ half L
  pub more_pdcps : pdcps L / 2 ≤ half L
  pub some_pdcps : 0 < pdcps L
  pub half_pdcps : 0 < pdcps L / 2
  pub bears_all : pdcps L ≤ suc (most_highest (is_long L))

pub roomy : (L : ℕ) → is_length L ≡ true → Roomy L
roomy =
    each_length Roomy
    (record { halves = refl; more_entries = lit≤ tt; more_pdcps = lit≤ tt; some_pdcps = lit< tt; half_pdcps = lit< tt; bears_all = lit≤ tt })
    (record { halves = refl; more_entries = lit≤ tt; more_pdcps = lit≤ tt; some_pdcps = lit< tt; half_pdcps = lit< tt; bears_all = lit≤ tt })
    (record { halves = refl; more_entries = lit≤ tt; more_pdcps = lit≤ tt; some_pdcps = lit< tt; half_pdcps = lit< tt; bears_all = lit≤ tt })
