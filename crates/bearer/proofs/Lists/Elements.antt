-- General facts on lists: membership, a property of every element, strictly rising lists, and where a rising list is split by
-- a bound.
-- Assumes nothing.
use mathlib.Core.Path.{◌≡◌, refl, sym, ◌∙◌}
use mathlib.Core.Bool.{Bool, true, false}
use mathlib.Core.List.{List, [], ◌∷◌, ◌++◌, map, map-id}
use mathlib.Core.Logic.{◌⊎◌, inl, inr, ⊎_elim}
use Prim.Native.Nat.{ℕ, zero, suc, ◌≤◌, ◌<◌}
use native.Mathlib.Nat.{eq-or-lt_of_le}
use native.Mathlib.Omega.{arith}
use borrow.Author.Tests.{eqb-true, eq-eqb, ne_eqb, leb-true, leb-false, le-leb, lt-leb}
use lib.Dec.{leb, eqb}
use lib.ListN.{length, get_or, take, drop, set, take-append-drop, drop_of_length-le}
use lib.Seq.{take-suc, drop-cons}
use Rattle.basics.specs.Basics.{◌or◌, all}
use Rattle.basics.proofs.Choices.{eqb_alike, tested, refuted, contrary, or_true, or_right, or_no, order}
use Rattle.basics.proofs.Lists.{inserted}
use Rattle.bearer.specs.Losses.{front_of}
use Rattle.bearer.specs.Keeper.{run_with}
use Rattle.bearer.specs.Rule.{is_in}
use Rattle.bearer.specs.Packets.{In, Rising, Each}
use Rattle.bearer.proofs.Lists.Mapped.{each_append, each_take, each_drop, each_of_all, each_behind, front_none}

-- ---- membership

-- nothing is in no list
pub in_none : ◌≡◌ {A = Bool} false true → ⊥
in_none h = contrary h refl

-- what is in no list is not found
pub not_in : (i : ℕ) (l : List ℕ) → (In i l → ⊥) → is_in i l ≡ false
not_in i l n = refuted (is_in i l) n

pub in_head : (i : ℕ) (xs : List ℕ) → In i (i ∷ xs)
in_head i xs = rw (eq-eqb i i refl)

-- what is the first is there
pub in_first : (j i : ℕ) (xs : List ℕ) → j ≡ i → In j (i ∷ xs)
in_first j i xs q = rw (eq-eqb j i q)

pub in_tail : (i x : ℕ) (xs : List ℕ) → In i xs → In i (x ∷ xs)
in_tail i x xs h = or_right (eqb i x) (is_in i xs) h

pub in_cons : (i x : ℕ) (xs : List ℕ) → In i (x ∷ xs) → (i ≡ x) ⊎ In i xs
in_cons i x xs h = ⊎_elim (λ e. inl (eqb-true i x e)) (λ t. inr t) (or_true (eqb i x) (is_in i xs) h)

pub in_left : (i : ℕ) (xs ys : List ℕ) → In i xs → In i (xs ++ ys)
in_left i [] ys h = absurd (contrary h refl)
in_left i (x ∷ xs) ys h = ⊎_elim (λ e. rw (eq-eqb i x e)) (λ t. in_tail i x (xs ++ ys) (in_left i xs ys t)) (in_cons i x xs h)

pub in_right : (i : ℕ) (xs ys : List ℕ) → In i ys → In i (xs ++ ys)
in_right i [] ys h = h
in_right i (x ∷ xs) ys h = in_tail i x (xs ++ ys) (in_right i xs ys h)

pub in_append : (i : ℕ) (xs ys : List ℕ) → In i (xs ++ ys) → In i xs ⊎ In i ys
in_append i [] ys h = inr h
in_append i (x ∷ xs) ys h =
    ⊎_elim (λ e. inl (rw (eq-eqb i x e)))
    (λ t. ⊎_elim (λ l. inl (in_tail i x xs l)) (λ r. inr r) (in_append i xs ys t))
    (in_cons i x (xs ++ ys) h)

-- a last element
pub in_one : (i x : ℕ) → In i (x ∷ []) → i ≡ x
in_one i x h = ⊎_elim (λ e. e) (λ t. absurd (contrary t refl)) (in_cons i x [] h)

pub in_last : (i : ℕ) (xs : List ℕ) (y : ℕ) → In i (xs ++ (y ∷ [])) → In i xs ⊎ (i ≡ y)
in_last i xs y h = ⊎_elim (λ t. inl t) (λ t. inr (in_one i y t)) (in_append i xs (y ∷ []) h)

-- a list is what stands in front of a place, and what stands from there on
pub in_take : (i n : ℕ) (xs : List ℕ) → In i (take n xs) → In i xs
in_take i n xs h = rw (take-append-drop n xs) at (in_left i (take n xs) (drop n xs) h)

pub in_drop : (i n : ℕ) (xs : List ℕ) → In i (drop n xs) → In i xs
in_drop i n xs h = rw (take-append-drop n xs) at (in_right i (take n xs) (drop n xs) h)

pub in_split : (i n : ℕ) (xs : List ℕ) → In i xs → In i (take n xs) ⊎ In i (drop n xs)
in_split i n xs h = in_append i (take n xs) (drop n xs) (rw (take-append-drop n xs) h)

-- ---- a property of every element

module _ {A : Type 0} (P : A → Type 0) where
  pub each_set : (xs : List A) (n : ℕ) (y : A) → P y → Each P xs → Each P (set xs n y)
  each_set [] n y q p = tt
  each_set (x ∷ xs) zero y q p = (q, p.1)
  each_set (x ∷ xs) (suc n) y q p = (p.0, each_set xs n y q p.1)

-- a property of some number of each element is one of the numbers
module _ {A : Type 0} (f : A → ℕ) (P : ℕ → Type 0) where
  pub each_in : (xs : List A) → Each (λ (x : A). P (f x)) xs → (i : ℕ) → In i (map f xs) → P i
  each_in [] p i h = absurd (contrary h refl)
  each_in (x ∷ xs) p i h = ⊎_elim (λ e. rw e p.0) (λ t. each_in xs p.1 i t) (in_cons i (f x) (map f xs) h)

  pub in_each : (xs : List A) → ((i : ℕ) → In i (map f xs) → P i) → Each (λ (x : A). P (f x)) xs
  in_each [] p = tt
  in_each (x ∷ xs) p = (p (f x) (in_head (f x) (map f xs)), in_each xs (λ i h. p i (in_tail i (f x) (map f xs) h)))

-- a property of every element is one of whatever is in the list
module _ (P : ℕ → Type 0) where
  pub each_there : (xs : List ℕ) → Each P xs → (i : ℕ) → In i xs → P i
  each_there xs p i h = each_in (λ (j : ℕ). j) P xs p i (rw (map-id xs) h)

  pub there_each : (xs : List ℕ) → ((i : ℕ) → In i xs → P i) → Each P xs
  there_each xs p = in_each (λ (j : ℕ). j) P xs (λ i h. p i (rw (map-id xs) at h))

-- what is in a list is in its image
pub in_map : (f : ℕ → ℕ) (i : ℕ) (xs : List ℕ) → In i xs → In (f i) (map f xs)
in_map f i xs h = each_there (λ (j : ℕ). In (f j) (map f xs)) xs (in_each f (λ (n : ℕ). In n (map f xs)) xs (λ n k. k)) i h

-- what no element is mapped to isn't in the image
pub not_in_map : (f : ℕ → ℕ) (n : ℕ) (xs : List ℕ) → ((i : ℕ) → In i xs → f i ≡ n → ⊥) → In n (map f xs) → ⊥
not_in_map f n xs none h = each_in f (λ (m : ℕ). m ≡ n → ⊥) xs (there_each (λ (i : ℕ). f i ≡ n → ⊥) xs none) n h refl

-- ---- strictly rising lists

pub rising_head : (x : ℕ) (xs : List ℕ) → Rising (x ∷ xs) → (i : ℕ) → In i xs → x < i
rising_head x [] r i h = absurd (contrary h refl)
rising_head x (y ∷ ys) r i h =
    ⊎_elim (λ e. omega arith) (λ t. let l : y < i = rising_head y ys r.1 i t in omega arith) (in_cons i y ys h)

pub rising_first : (x : ℕ) (xs : List ℕ) → Rising (x ∷ xs) → (i : ℕ) → In i (x ∷ xs) → x ≤ i
rising_first x xs r i h = ⊎_elim (λ e. omega arith) (λ t. let l : x < i = rising_head x xs r i t in omega arith) (in_cons i x xs h)

-- the first of a rising list isn't one of the others
pub rising_once : (x : ℕ) (xs : List ℕ) → Rising (x ∷ xs) → is_in x xs ≡ false
rising_once x xs r = not_in x xs (λ h. let k : x < x = rising_head x xs r x h in omega arith)

pub rising_tail : (x : ℕ) (xs : List ℕ) → Rising (x ∷ xs) → Rising xs
rising_tail x [] r = tt
rising_tail x (y ∷ ys) r = r.1

pub rising_cons : (x : ℕ) (xs : List ℕ) → ((i : ℕ) → In i xs → x < i) → Rising xs → Rising (x ∷ xs)
rising_cons x [] l r = tt
rising_cons x (y ∷ ys) l r = (l y (in_head y ys), r)

-- rising lists on both sides of a bound
pub rising_append : (c : ℕ) (xs ys : List ℕ) → Rising xs → Rising ys → ((i : ℕ) → In i xs → i < c) → ((i : ℕ) → In i ys → c ≤ i) → Rising (xs ++ ys)
rising_append c [] ys r s l g = s
rising_append c (x ∷ xs) ys r s l g =
    rising_cons x (xs ++ ys)
    (λ i h. ⊎_elim (rising_head x xs r i) (λ t. let a : x < c = l x (in_head x xs) in let b : c ≤ i = g i t in omega arith) (in_append i xs ys h))
    (rising_append c xs ys (rising_tail x xs r) s (λ i h. l i (in_tail i x xs h)) g)

pub rising_take : (n : ℕ) (xs : List ℕ) → Rising xs → Rising (take n xs)
rising_take zero xs r = tt
rising_take (suc n) [] r = tt
rising_take (suc n) (x ∷ xs) r =
    rising_cons x (take n xs) (λ i h. rising_head x xs r i (in_take i n xs h)) (rising_take n xs (rising_tail x xs r))

pub rising_drop : (n : ℕ) (xs : List ℕ) → Rising xs → Rising (drop n xs)
rising_drop zero xs r = r
rising_drop (suc n) [] r = tt
rising_drop (suc n) (x ∷ xs) r = rising_drop n xs (rising_tail x xs r)

-- ---- a rising list, split at a place

-- the front of a rising list lies below what follows it
pub front_below : (n : ℕ) (l : List ℕ) (y x : ℕ) → Rising l → In y (take n l) → In x (drop n l) → y < x
front_below zero l y x r p q = absurd (in_none p)
front_below (suc n) [] y x r p q = absurd (in_none p)
front_below (suc n) (z ∷ l) y x r p q =
    ⊎_elim (λ e. let k = rising_head z l r x (in_drop x n l q) in omega arith) (λ t. front_below n l y x (rising_tail z l r) t q) (in_cons y z (take n l) p)

-- so they share nothing
pub parts_apart : (n : ℕ) (l : List ℕ) (x : ℕ) → Rising l → In x (drop n l) → is_in x (take n l) ≡ false
parts_apart n l x r p = not_in x (take n l) (λ q. let k = front_below n l x x r q p in omega arith)

-- there is a place where something stands from there on
pub some_behind : (n : ℕ) (l : List ℕ) (x : ℕ) → In x (drop n l) → n < length l
some_behind n l x p = ⊎_elim (λ (h : n < length l). h) (λ (h : length l ≤ n). absurd (in_none (rw (drop_of_length-le l h) at p))) (order n (length l))

-- what stands behind it is past what stands there
pub past_place : (q : ℕ) (l : List ℕ) (x : ℕ) → q < length l → Rising l → In x (drop (suc q) l) → get_or l q 0 < x
past_place q l x h r p = rising_head (get_or l q 0) (drop (suc q) l) (rw (drop-cons l q 0 h) at (rising_drop q l r)) x p

-- what stands from there on isn't before it
pub first_behind_lem : (n : ℕ) (l : List ℕ) (x : ℕ) → Rising l → In x (drop n l) → get_or l n 0 ≤ x
first_behind_lem n l x r p =
    let h = some_behind n l x p in
    rising_first (get_or l n 0) (drop (suc n) l) (rw (drop-cons l n 0 h) at (rising_drop n l r)) x (rw (drop-cons l n 0 h) at p)

-- what stands through it isn't past it
pub through : (q : ℕ) (l : List ℕ) (x : ℕ) → q < length l → Rising l → In x (take (suc q) l) → x ≤ get_or l q 0
through q l x h r p =
    let there : In (get_or l q 0) (drop q l) = rw (drop-cons l q 0 h) (in_head (get_or l q 0) (drop (suc q) l)) in
    ⊎_elim (λ t. let k = front_below q l x (get_or l q 0) r t there in omega arith) (λ e. omega arith) (in_last x (take q l) (get_or l q 0) (rw (take-suc l q 0 h) at p))

-- ---- a rising list, split by a bound

-- where those elements from c on begin that stand at the end of a list
abbrev pub front : ℕ → List ℕ → ℕ
front c xs = front_of (λ (j : ℕ). leb c j) xs

-- a property of everything in a list
all_in : (q : ℕ → Bool) (xs : List ℕ) → ((i : ℕ) → In i xs → q i ≡ true) → all q xs ≡ true
all_in q [] h = refl
all_in q (x ∷ xs) h = rw (h x (in_head x xs)) (all_in q xs (λ i t. h i (in_tail i x xs t)))

-- where all elements are from c on, the place is the list's start
pub front_zero : (c : ℕ) (xs : List ℕ) → ((i : ℕ) → In i xs → c ≤ i) → front c xs ≡ 0
front_zero c xs h = front_none (leb c) xs (all_in (leb c) xs (λ i t. le-leb c i (h i t)))

pub from_front : (c : ℕ) (xs : List ℕ) (i : ℕ) → In i (drop (front c xs) xs) → c ≤ i
from_front c xs i h =
    leb-true c i (each_there (λ (j : ℕ). leb c j ≡ true) (drop (front c xs) xs) (each_behind (λ (j : ℕ). leb c j) xs) i h)

pub below_front : (c : ℕ) (xs : List ℕ) → Rising xs → (i : ℕ) → In i (take (front c xs) xs) → i < c
below_front c [] r i h = absurd (contrary h refl)
below_front c (x ∷ xs) r i h =
    ⊎_elim (λ e. absurd (contrary (rw e at h) refl))
    (λ e. ⊎_elim (λ q. rw q (first e)) (λ t. below_front c xs (rising_tail x xs r) i t) (in_cons i x (take (front c xs) xs) (rw e at h)))
    (tested (all (λ (j : ℕ). leb c j) (x ∷ xs)))
  where
    from_first : c ≤ x → (j : ℕ) → In j (x ∷ xs) → c ≤ j
    from_first g j t = ⊎_elim (λ q. rw q g) (λ u. let l : x < j = rising_head x xs r j u in omega arith) (in_cons j x xs t)

    first : all (λ (j : ℕ). leb c j) (x ∷ xs) ≡ false → x < c
    first e =
        ⊎_elim (λ g. absurd (contrary (all_in (leb c) (x ∷ xs) (λ j t. le-leb c j (from_first (leb-true c x g) j t))) e)) (λ l. leb-false c x l) (tested (leb c x))

-- an element from c on stands behind the place, one below c in front of it
pub behind_front : (c : ℕ) (xs : List ℕ) → Rising xs → (i : ℕ) → c ≤ i → In i xs → In i (drop (front c xs) xs)
behind_front c xs r i g h =
    ⊎_elim (λ t. absurd (let l : i < c = below_front c xs r i t in omega arith)) (λ t. t) (in_split i (front c xs) xs h)

-- whether the element in front of a place is i
abbrev pub ends_in : List ℕ → ℕ → ℕ → Bool
ends_in xs i zero = false
ends_in xs i (suc p) = eqb (get_or xs p 0) i

-- in a rising list i can only stand in front of those at the end that have a property, if i hasn't it and all past i have
pub ends_in_lem : (q : ℕ → Bool) (xs : List ℕ) (i : ℕ) → Rising xs → q i ≡ false → ((j : ℕ) → In j xs → i < j → q j ≡ true)
    → ends_in xs i (front_of q xs) ≡ is_in i xs
ends_in_lem q [] i r not-i past = refl
ends_in_lem q (x ∷ xs) i r not-i past =
    ⊎_elim (λ e. rw e (sym (refuted (is_in i (x ∷ xs)) (λ h. contrary (each_there (λ (j : ℕ). q j ≡ true) (x ∷ xs) (each_of_all q (x ∷ xs) e) i h) not-i))))
    (λ e. rw e (at_first (front_of q xs) refl (ends_in_lem q xs i (rising_tail x xs r) not-i (λ j h. past j (in_tail j x xs h)))))
    (tested (all q (x ∷ xs)))
  where
    swapped : eqb x i ≡ eqb i x
    swapped = eqb_alike x i i x sym sym

    all_past : i ≡ x → front_of q xs ≡ 0
    all_past e = front_none q xs (all_in q xs (λ j h. past j (in_tail j x xs h) (rw e (rising_head x xs r j h))))

    at_first : (p : ℕ) → front_of q xs ≡ p → ends_in xs i p ≡ is_in i xs → eqb (get_or (x ∷ xs) p 0) i ≡ (eqb i x or is_in i xs)
    at_first zero e ih = swapped ∙ sym (rw (← ih) (or_no (eqb i x)))
    at_first (suc p) e ih = rw (ne_eqb i x (λ same. let none = all_past same in omega arith)) ih

-- ... as those past i
pub ends_past : (xs : List ℕ) (i : ℕ) → Rising xs → ends_in xs i (front (suc i) xs) ≡ is_in i xs
ends_past xs i r = ends_in_lem (leb (suc i)) xs i r (lt-leb (suc i) i (omega arith)) (λ j h l. le-leb (suc i) j l)

-- ---- an element put at a place

pub each_inserted : {A : Type 0} (P : A → Type 0) (p : ℕ) (y : A) (xs : List A) → P y → Each P xs → Each P (inserted p y xs)
each_inserted P p y xs q e = each_append P (take p xs) (y ∷ drop p xs) (each_take P p xs e) (q, each_drop P p xs e)

pub in_inserted : (i p y : ℕ) (xs : List ℕ) → In i (inserted p y xs) → (i ≡ y) ⊎ In i xs
in_inserted i p y xs h =
    ⊎_elim (λ t. inr (in_take i p xs t)) (λ u. ⊎_elim (λ e. inl e) (λ t. inr (in_drop i p xs t)) (in_cons i y (drop p xs) u))
    (in_append i (take p xs) (y ∷ drop p xs) h)

pub inserted_in : (i p y : ℕ) (xs : List ℕ) → (i ≡ y) ⊎ In i xs → In i (inserted p y xs)
inserted_in i p y xs (inl e) = rw e (in_right y (take p xs) (y ∷ drop p xs) (in_head y (drop p xs)))
inserted_in i p y xs (inr h) =
    ⊎_elim (in_left i (take p xs) (y ∷ drop p xs)) (λ t. in_right i (take p xs) (y ∷ drop p xs) (in_tail i y (drop p xs) t)) (in_split i p xs h)

-- a new element in front of the first one past it
pub rising_inserted : (i : ℕ) (xs : List ℕ) → Rising xs → is_in i xs ≡ false → Rising (inserted (front (suc i) xs) i xs)
rising_inserted i xs r new =
    rising_append i (take p xs) (i ∷ drop p xs) (rising_take p xs r)
    (rising_cons i (drop p xs) (from_front (suc i) xs) (rising_drop p xs r))
    (λ j h. ⊎_elim (λ e. absurd (contrary (rw e at (in_take j p xs h)) new)) (λ l. l) (eq-or-lt_of_le (let l : j < suc i = below_front (suc i) xs r j h in omega arith)))
    (λ j h. ⊎_elim (λ e. omega arith) (λ t. let l : suc i ≤ j = from_front (suc i) xs j t in omega arith) (in_cons j i (drop p xs) h))
  where
    p : ℕ
    p = front (suc i) xs

-- ---- how many elements at the front of a list have a property

module _ {A : Type 0} (p : A → Bool) where
  pub each_run : (xs : List A) → Each (λ (x : A). p x ≡ true) (take (run_with p xs) xs)
  each_run [] = tt
  each_run (x ∷ xs) = ⊎_elim (λ e. rw e (e, each_run xs)) (λ e. rw e tt) (tested (p x))

  pub run_within : (xs : List A) → run_with p xs ≤ length xs
  run_within [] = omega arith
  run_within (x ∷ xs) = let rest = run_within xs in ⊎_elim (λ e. rw e (omega arith)) (λ e. rw e (omega arith)) (tested (p x))

  pub run_ends : (xs : List A) (d : A) → run_with p xs < length xs → p (get_or xs (run_with p xs) d) ≡ false
  run_ends [] d h = absurd (omega arith)
  run_ends (x ∷ xs) d h =
      ⊎_elim (λ e. rw e (run_ends xs d (let l : suc (run_with p xs) < suc (length xs) = rw e at h in omega arith))) (λ e. rw e e) (tested (p x))
