-- Parts of a list, as code lends them.
-- Assumes nothing.
use mathlib.Core.Path.{◌≡◌}
use mathlib.Core.List.{List}
use Prim.Native.Nat.{ℕ, ◌-◌}
use native.Mathlib.Omega.{arith}
use lib.ListN.{length, take, drop, length-drop}
use lib.Seq.{take_all}

-- the rest of a list from n on, lent as a part that ends where the list does
pub rest_part : (l : List ℕ) (n : ℕ) → take (length l - n) (drop n l) ≡ drop n l
rest_part l n = take_all (length l - n) (drop n l) (omega (arith, length-drop n l))
