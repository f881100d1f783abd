-- What the machine's open answers where it refuses.
-- Assumes nothing.
use Rattle.std.specs.Prelude.{if◌then◌else◌}
use mathlib.Core.Path.{◌≡◌, ap}
use mathlib.Core.Bool.{Bool, true, false, not}
use Prim.Native.Nat.{ℕ, ◌<◌}
use native.Mathlib.Omega.{arith}
use lib.Dec.{ltb}
use Rattle.basics.specs.Basics.{◌and◌, Outcome, done, refused}
use Rattle.basics.proofs.Choices.{never_done}
use Rattle.circle.specs.Lengths.{is_length, modulus_of, pdcps}
use Rattle.bearer.specs.Bearer.{After, refusing}
use Rattle.bearer.specs.Keeper.{Keeper, open_keeper, fresh_keeper}
use Rattle.keeper.specs.View.{opens_into}

module _ (k : Keeper) (L first f : ℕ) where
  -- a refusal is 7 or 10
  pub open_refusal : (k' : Keeper) (n : ℕ) → refusing n k' ≡ opens_into k (open_keeper L first f) → 0 < n
  open_refusal k' n e = by (not (is_length L)) (not (ltb first (modulus_of L) and ltb f (pdcps L))) (ap (λ (a : After Keeper Unit). a.answer) e)
    where
      numbered : (m : ℕ) → ◌≡◌ {A = Outcome Unit} (refused n) (refused m) → n ≡ m
      numbered m r = cc

      by : (b c : Bool) → refused n ≡ (opens_into k (if b then refused 7 else (if c then refused 10 else done (fresh_keeper L first f)))).answer → 0 < n
      by true c r = omega (arith, numbered 7 r)
      by false true r = omega (arith, numbered 10 r)
      by false false r = never_done n tt r
