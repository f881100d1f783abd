-- A list whose elements move one at a time: one up, from the back, and k down, from the front. No code moves them so today; the laws stand.
-- Assumes nothing.
use mathlib.Core.Path.{◌≡◌, sym, ◌∙◌, ap}
use mathlib.Core.List.{List, ◌∷◌, ◌++◌, append-nil}
use Prim.Native.Nat.{ℕ, suc, ◌+◌, ◌-◌, ◌≤◌, ◌<◌}
use native.Mathlib.Omega.{arith}
use native.Mathlib.Numerals.{add-one}
use native.Mathlib.Nat.{zero-add, add_comm}
use lib.ListN.{length, get_or, set, take, drop, length-append, length-take, length-drop, get_or-append}
use lib.Seq.{take-length, drop-cons, length-take-le, take-take, drop_at, get_or-drop, get_or-take, set_split, take-append-le, take-append-add, paste-suc}

module _ (a : List ℕ) where
  -- ---- up, from the back

  -- what stood from place j on is one up, and place j holds what it held
  abbrev pub raised : ℕ → List ℕ
  raised j = take (j + 1) a ++ take (length a - (j + 1)) (drop j a)

  -- before the first move
  pub raised_none : 0 < length a → raised (length a - 1) ≡ a
  raised_none h =
      let e : length a - 1 + 1 ≡ length a = omega arith in
      let f : length a - length a ≡ 0 = omega arith in
      rw (e, f) (append-nil (take (length a) a) ∙ take-length a)

  module _ (j : ℕ) (h : j < length a) where
    front : length (take (j + 1) a) ≡ j + 1
    front = length-take-le (j + 1) a (omega arith)

    pub raised_length : length (raised j) ≡ length a
    raised_length = simp (length-append, front, length-take, length-drop) (omega arith)

    filled : (v : ℕ) → set (raised j) j v ≡ take j a ++ v ∷ take (length a - (j + 1)) (drop j a)
    filled v =
        let l : j ≤ length (take (j + 1) a) = omega (arith, front) in
        let e : length (take (j + 1) a) ≡ suc j = omega (arith, front) in
        set_split (raised j) j v (omega (arith, raised_length))
        ∙ rw (take-append-le j (take (j + 1) a) (take (length a - (j + 1)) (drop j a)) l, take-take j (j + 1) a (omega arith))
        (ap (λ (l : List ℕ). take j a ++ v ∷ l) (drop_at (take (j + 1) a) (take (length a - (j + 1)) (drop j a)) (suc j) e))

    -- one move more
    pub raised_more : 0 < j → set (raised j) j (get_or (raised j) (j - 1) 0) ≡ raised (j - 1)
    raised_more p =
        let e : j - 1 + 1 ≡ j = omega arith in
        let s : suc (j - 1) ≡ j = omega arith in
        let f : length a - j ≡ suc (length a - (j + 1)) = omega arith in
        let here : get_or (raised j) (j - 1) 0 ≡ get_or a (j - 1) 0 =
        get_or-append (take (j + 1) a) (take (length a - (j + 1)) (drop j a)) 0 (j - 1) (omega (arith, front)) ∙ get_or-take (j + 1) a (j - 1) 0 (omega arith) in
        rw (here, e, drop-cons a (j - 1) 0 (omega arith), s, f) (filled (get_or a (j - 1) 0))

    -- the freed place is filled
    pub raised_all : (v : ℕ) → set (raised j) j v ≡ take (length a) (take j a ++ v ∷ drop j a)
    raised_all v =
        let len : length (take j a) ≡ j = length-take-le j a (omega arith) in
        let e : length (take j a) + suc (length a - (j + 1)) ≡ length a = omega arith in
        filled v ∙ rw e at (sym (take-append-add (take j a) (v ∷ drop j a) (suc (length a - (j + 1)))))

  -- ---- k down, from the front

  -- the first j of those from k on stand at the front
  abbrev pub lowered : ℕ → ℕ → List ℕ
  lowered k j = take j (drop k a) ++ drop j a

  module _ (k j : ℕ) where
    -- one move more
    pub lowered_more : j + k < length a → set (lowered k j) j (get_or (lowered k j) (j + k) 0) ≡ lowered k (j + 1)
    lowered_more h =
        let len : length (take j (drop k a)) ≡ j = length-take-le j (drop k a) (simp length-drop (omega arith)) in
        let here : get_or (lowered k j) (j + k) 0 ≡ get_or (drop k a) j 0 =
        sym (get_or-drop j (lowered k j) k 0)
        ∙ ap (λ (l : List ℕ). get_or l k 0) (drop_at (take j (drop k a)) (drop j a) j len)
        ∙ get_or-drop j a k 0
        ∙ ap (λ (n : ℕ). get_or a n 0) (add_comm j k)
        ∙ sym (get_or-drop k a j 0) in
        let more = paste-suc a 0 (drop k a) j 0 (omega arith) (simp length-drop (omega arith)) in
        rw (here, add-one j) (simp zero-add at more)

    -- all moves
    pub lowered_all : j + k ≡ length a → lowered k j ≡ drop k a ++ drop (length a - k) a
    lowered_all h =
        let e : length a - k ≡ j = omega arith in
        let len : length (drop k a) ≡ j = simp length-drop (omega arith) in
        rw (e, ← len) (ap (λ (l : List ℕ). l ++ drop (length (drop k a)) a) (take-length (drop k a)))
