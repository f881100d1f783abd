-- What a call on the front part of an array leaves there, and the first of those that are first.
-- Assumes nothing.
use mathlib.Core.Path.{◌≡◌, refl, sym, ◌∙◌, ap}
use mathlib.Core.Bool.{Bool, true, false}
use mathlib.Core.List.{List, [], ◌∷◌, ◌++◌, append_assoc}
use Prim.Native.Nat.{ℕ, ◌+◌, ◌≤◌, ◌<◌, min}
use native.Mathlib.Omega.{arith}
use native.Mathlib.Numerals.{add-one}
use lib.Dec.{ltb}
use lib.ListN.{length, get_or, take, drop, length-append, length-take, length-drop, drop_of_length-le}
use lib.Seq.{take-suc, length-take-le, take_at, take-append-le, drop-append-le, take-take, take_all}
use borrow.Author.Tests.{ltb-true, ltb-false}

module _ (a e : List ℕ) where
  -- a number put in among the first of an array
  pub put_in : (held place v : ℕ) → place ≤ held → held < length a
      → e ≡ take (length (take (held + 1) a)) (take place (take (held + 1) a) ++ v ∷ drop place (take (held + 1) a))
      → take (held + 1) (e ++ drop (held + 1) a) ≡ take place (take held a) ++ v ∷ drop place (take held a)
  put_in held place v p h e-is =
      let front = take held a in
      let x = get_or a held 0 in
      let new = take place front ++ v ∷ drop place front in
      let len : length front ≡ held = length-take-le held a (omega arith) in
      let more : take (held + 1) a ≡ front ++ (x ∷ []) = rw (add-one held) (take-suc a held 0 h) in
      let long : length (front ++ (x ∷ [])) ≡ held + 1 = simp length-append (omega arith) in
      let within : place ≤ length front = omega arith in
      let one : length new ≡ held + 1 = simp (length-append, length-take, length-drop) (omega arith) in
      let is-new : e ≡ new =
      e-is ∙ rw (more, long, take-append-le place front (x ∷ []) within, drop-append-le place front (x ∷ []) within)
      (ap (λ (l : List ℕ). take (held + 1) l) (sym (append_assoc (take place front) (v ∷ drop place front) (x ∷ []))) ∙ take_at new (x ∷ []) (held + 1) one) in
      rw is-new (take_at new (drop (held + 1) a) (held + 1) one)

module _ {A : Type 0} (n m : ℕ) (l : List A) where
  -- the first m of the first n
  pub take_both : take m (take n l) ≡ take (min n m) l
  take_both = by_test (ltb m n) refl
    where
      by_test : (t : Bool) → ltb m n ≡ t → take m (take n l) ≡ take (min n m) l
      by_test true e =
          let h : m < n = ltb-true m n e in
          let least : min n m ≡ m = omega arith in
          rw least (take-take m n l (omega arith))
      by_test false e =
          let h : n ≤ m = ltb-false m n e in
          let least : min n m ≡ n = omega arith in
          rw least (take_all m (take n l) (omega (arith, length-take n l)))

  -- and what is behind them
  pub drop_both : drop (min n m) (take n l) ≡ drop m (take n l)
  drop_both = by_test (ltb m n) refl
    where
      by_test : (t : Bool) → ltb m n ≡ t → drop (min n m) (take n l) ≡ drop m (take n l)
      by_test true e =
          let h : m < n = ltb-true m n e in
          let least : min n m ≡ m = omega arith in
          rw least
      by_test false e =
          let h : n ≤ m = ltb-false m n e in
          let least : min n m ≡ n = omega arith in
          let short : length (take n l) ≤ n = omega (arith, length-take n l) in
          let shorter : length (take n l) ≤ m = omega arith in
          rw (least, drop_of_length-le (take n l) short, drop_of_length-le (take n l) shorter)

-- the first of a list that is no longer than m
pub take_most : (n m : ℕ) (l : List ℕ) → length l ≤ m → take n l ≡ take (min n m) l
take_most n m l h =
    let swap : min m n ≡ min n m = omega arith in
    ap (take n) (sym (take_all m l h)) ∙ take_both m n l ∙ rw swap
