-- The sizes of waiting entries, added up, whatever the entries' labels.
-- Assumes nothing.
use Rattle.std.specs.Prelude.{if◌then◌else◌}
use mathlib.Core.Path.{◌≡◌, sym}
use mathlib.Core.Bool.{Bool, true, false}
use mathlib.Core.List.{List, [], ◌∷◌, ◌++◌}
use Prim.Native.Nat.{◌+◌}
use native.Mathlib.Nat.{zero-add}
use native.Mathlib.Omega.{arith}
use Rattle.bearer.specs.Ledger.{Entry, waits, waiting_sizes}

module _ {A : Type 0} where
  -- those of two lists
  pub sizes_append : (xs ys : List (Entry A)) → waiting_sizes (xs ++ ys) ≡ waiting_sizes xs + waiting_sizes ys
  sizes_append [] ys = sym (zero-add (waiting_sizes ys))
  sizes_append (x ∷ xs) ys = go (waits x) (sizes_append xs ys)
    where
      go : (w : Bool) → waiting_sizes (xs ++ ys) ≡ waiting_sizes xs + waiting_sizes ys
          → (if w then x.size + waiting_sizes (xs ++ ys) else waiting_sizes (xs ++ ys)) ≡ (if w then x.size + waiting_sizes xs else waiting_sizes xs) + waiting_sizes ys
      go true r = omega (arith, r)
      go false r = r

  -- one entry counts with its size if it waits, wherever it stands
  pub sizes_without : (front : List (Entry A)) (e : Entry A) (back : List (Entry A))
      → waiting_sizes (front ++ (e ∷ back)) ≡ (if waits e then e.size else 0) + waiting_sizes (front ++ back)
  sizes_without front e back =
      let all = sizes_append front (e ∷ back) in
      let others = sizes_append front back in
      go (waits e) all others
    where
      go : (w : Bool) → waiting_sizes (front ++ (e ∷ back)) ≡ waiting_sizes front + (if w then e.size + waiting_sizes back else waiting_sizes back)
          → waiting_sizes (front ++ back) ≡ waiting_sizes front + waiting_sizes back
          → waiting_sizes (front ++ (e ∷ back)) ≡ (if w then e.size else 0) + waiting_sizes (front ++ back)
      go true a o = omega (arith, a, o)
      go false a o = omega (arith, a, o)
