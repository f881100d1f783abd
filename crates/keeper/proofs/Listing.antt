-- What is lost, written to the slots behind the runs that are listed: the list with it.
-- Assumes nothing.
use mathlib.Core.Path.{◌≡◌, refl, sym, ◌∙◌, ap}
use mathlib.Core.Bool.{true, false}
use mathlib.Core.List.{List, [], ◌∷◌, ◌++◌, append_assoc, append-nil}
use Prim.Native.Nat.{ℕ, zero, suc, ◌+◌, ◌-◌, ◌≤◌, ◌<◌}
use native.Mathlib.Omega.{arith}
use lib.ListN.{length, get_or, set, take, drop, length-append, length-map, length-take, length-drop, drop_of_length-le}
use Rattle.std.proofs.Common.{drop-drop}
use lib.Seq.{set-set, set-get_or, set_comm, take-suc, take-take, get_or-take, take_at, take_all, length-take-le, sets, sets-eq}
use borrow.Rule.Slice.PartMut.{put_mid}
use Rattle.std.proofs.lemmas.List.{take_rest}
use Rattle.basics.specs.Basics.{bit}
use Rattle.frame_layout.specs.Frames.{Range, ranges_of, starts_of, ends_of}
use Rattle.bearer.specs.Losses.{Gap, gaps, offsets, runs_of, new_runs, runs_joined}
use Rattle.keeper_judge.specs.declared.Losses.{Losses}
use Rattle.keeper_judge.specs.Judgements.{first_adjoins, Losing}
use Rattle.frame_layout.proofs.Ranges.{ranges_take, ranges_append, ranges_own, ranges_count, starts_listed}
use Rattle.keeper_judge.proofs.Joining.{adjoins_listed, with_apart, with_joined, count_apart, count_joined}
use Rattle.keeper_judge.proofs.Given.{same_gaps}
use Rattle.keeper.specs.Steps.{Lists}

-- runs in the front slots
in_front_lem : (ss es ss' es' : List ℕ) (rs : List Range) → length ss ≡ length es → ranges_of ss es ≡ rs → take (length rs) (ranges_of (ss ++ ss') (es ++ es')) ≡ rs
in_front_lem ss es ss' es' rs alike e = rw (ranges_append ss es ss' es' alike, e) (take_at rs (ranges_of ss' es') (length rs) refl)

-- a slot keeps what it held, while those behind it are stored
set_sets : (a vs : List ℕ) (i j v : ℕ) → i < j → set (sets a j vs) i v ≡ sets (set a i v) j vs
set_sets a [] i j v h = refl
set_sets a (x ∷ vs) i j v h = set_sets (set a j x) vs i (suc j) v (omega arith) ∙ rw (set_comm a j i x v (λ (e : j ≡ i). omega arith))

kept : (a vs : List ℕ) (i v : ℕ) → set (sets a i (v ∷ vs)) i (get_or a i 0) ≡ sets a (suc i) vs
kept a vs i v = set_sets (set a i v) vs i (suc i) (get_or a i 0) (omega arith) ∙ rw (set-set a i v (get_or a i 0), set-get_or a i 0)

module _ (M : ℕ) (ss es : List ℕ) (n : ℕ) (within : n ≤ length ss) (alike : length ss ≡ length es) where
  -- those listed
  abbrev listed : List Range
  listed = take n (ranges_of ss es)

  count_listed : length listed ≡ n
  count_listed = omega (arith, length-take n (ranges_of ss es), ranges_count ss es)

  first_starts : (i : ℕ) → i ≤ n → length (take i ss) ≡ i
  first_starts i h = length-take-le i ss (omega arith)

  first_ends : (i : ℕ) → i ≤ n → length (take i es) ≡ i
  first_ends i h = length-take-le i es (omega arith)

  count_starts : (new : List Range) → length (starts_of new) ≡ length new
  count_starts new = length-map new (λ (r : Range). r.start)

  count_ends : (new : List Range) → length (ends_of new) ≡ length new
  count_ends new = length-map new (λ (r : Range). r.end)

  -- new ones behind the last
  listed_behind : (new : List Range) → first_adjoins M (ends_of listed) new ≡ false → length (runs_joined M listed new) ≤ length ss
      → take (length (runs_joined M listed new)) (ranges_of (sets ss n (starts_of new)) (sets es n (ends_of new))) ≡ runs_joined M listed new
  listed_behind new apart few =
      let count = count_apart M listed new apart in
      let both : length (take n ss ++ starts_of new) ≡ length (take n es ++ ends_of new) =
      simp length-append (omega (arith, first_starts n (omega arith), first_ends n (omega arith), count_starts new, count_ends new)) in
      let is : ranges_of (take n ss ++ starts_of new) (take n es ++ ends_of new) ≡ runs_joined M listed new =
      ranges_append (take n ss) (take n es) (starts_of new) (ends_of new) (omega (arith, first_starts n (omega arith), first_ends n (omega arith)))
      ∙ rw (← ranges_take n ss es, ranges_own new, with_apart M listed new apart) in
      rw (sets-eq (starts_of new) ss n (omega (arith, count_listed, count_starts new)), sets-eq (ends_of new) es n (omega (arith, count_listed, count_ends new)))
      (in_front_lem (take n ss ++ starts_of new) (take n es ++ ends_of new) (drop (n + length (starts_of new)) ss) (drop (n + length (ends_of new)) es) (runs_joined M listed new) both is)

  -- the first of them joins the last, which keeps its start
  listed_joined : (new : List Range) → first_adjoins M (ends_of listed) new ≡ true → length (runs_joined M listed new) ≤ length ss
      → take (length (runs_joined M listed new)) (ranges_of (set (sets ss (n - 1) (starts_of new)) (n - 1) (get_or ss (n - 1) 0)) (sets es (n - 1) (ends_of new))) ≡ runs_joined M listed new
  listed_joined [] join few = let z : ◌≡◌ {A = ℕ} 0 1 = cc in absurd (omega arith)
  listed_joined (r ∷ rs) join few =
      let some : 0 < n = omega (arith, adjoins_listed M (ends_of listed) (r ∷ rs) join, count_ends listed, count_listed) in
      let i = n - 1 in
      let last : suc i ≡ n = omega arith in
      let count = count_joined M listed (r ∷ rs) join in
      let x : Range = record { start = get_or ss i 0; end = r.end } in
      let cut : take n ss ≡ take i ss ++ (get_or ss i 0 ∷ []) = rw last at (take-suc ss i 0 (omega arith)) in
      let starts-cut : take n ss ++ starts_of rs ≡ take i ss ++ (get_or ss i 0 ∷ starts_of rs) =
      ap (λ (l : List ℕ). l ++ starts_of rs) cut ∙ append_assoc (take i ss) (get_or ss i 0 ∷ []) (starts_of rs) in
      let front : take i listed ≡ ranges_of (take i ss) (take i es) = take-take i n (ranges_of ss es) (omega arith) ∙ ranges_take i ss es in
      let start : get_or (starts_of listed) i 0 ≡ get_or ss i 0 = rw (starts_listed n ss es within (omega arith)) (get_or-take n ss i 0 (omega arith)) in
      let runs : runs_joined M listed (r ∷ rs) ≡ ranges_of (take i ss) (take i es) ++ (x ∷ rs) =
      with_joined M listed r rs i (omega (arith, count_listed)) join ∙ rw (front, start) in
      let is : ranges_of (take i ss ++ (get_or ss i 0 ∷ starts_of rs)) (take i es ++ (r.end ∷ ends_of rs)) ≡ runs_joined M listed (r ∷ rs) =
      ranges_append (take i ss) (take i es) (get_or ss i 0 ∷ starts_of rs) (r.end ∷ ends_of rs) (omega (arith, first_starts i (omega arith), first_ends i (omega arith)))
      ∙ rw (ranges_own rs, runs) in
      let both : length (take i ss ++ (get_or ss i 0 ∷ starts_of rs)) ≡ length (take i es ++ (r.end ∷ ends_of rs)) =
      simp length-append (omega (arith, first_starts i (omega arith), first_ends i (omega arith), count_starts rs, count_ends rs)) in
      rw (
        kept ss (starts_of rs) i r.start,
        last,
        sets-eq (starts_of rs) ss n (omega (arith, count_listed, count_starts rs)),
        sets-eq (ends_of (r ∷ rs)) es i (omega (arith, count_listed, count_ends rs)),
        starts-cut,
      )
      (in_front_lem (take i ss ++ (get_or ss i 0 ∷ starts_of rs)) (take i es ++ (r.end ∷ ends_of rs)) _ _ (runs_joined M listed (r ∷ rs)) both is)

-- ---- a part of an array from a slot on

-- what is stored in it is stored from that slot on
sets_cons : (x : ℕ) (a vs : List ℕ) (n : ℕ) → sets (x ∷ a) (suc n) vs ≡ x ∷ sets a n vs
sets_cons x a [] n = refl
sets_cons x a (v ∷ vs) n = sets_cons x (set a n v) vs (suc n)

sets_rest : (n : ℕ) (a vs : List ℕ) → n ≤ length a → take n a ++ sets (drop n a) 0 vs ≡ sets a n vs
sets_rest zero a vs h = refl
sets_rest (suc n) [] vs h = absurd (omega arith)
sets_rest (suc n) (x ∷ a) vs h = ap (λ (l : List ℕ). x ∷ l) (sets_rest n a vs (omega arith)) ∙ sym (sets_cons x a vs n)

put_sets : (n k : ℕ) (a vs e : List ℕ) → n + k ≡ length a → e ≡ sets (take k (drop n a)) 0 vs → put_mid n k a e ≡ sets a n vs
put_sets n k a vs e h is =
    let none : drop (n + k) a ≡ [] = drop_of_length-le a (omega arith) in
    let rest : take k (drop n a) ≡ drop n a = take_all k (drop n a) (omega (arith, length-drop n a)) in
    rw (is, rest, drop-drop, none, append-nil (sets (drop n a) 0 vs)) (sets_rest n a vs (omega arith))

-- ---- what is lost, listed

module _ {lost : Losses} {M base : ℕ} {ns ss es : List ℕ} {n : ℕ} (h : Lists lost M base ns ss es n) where
  -- the gaps that a pass over the numbers from `from` on finds
  abbrev passed : List Gap
  passed = gaps 0 lost.limit (offsets M base (drop lost.from ns))

  -- written from a slot on
  module _ (at : ℕ) (at-is : at ≡ n - bit lost.joins) (ss' es' : List ℕ) (e-starts : ss' ≡ sets ss at (starts_of (runs_of M base passed)))
      (e-ends : es' ≡ sets es at (ends_of (runs_of M base passed))) where
    -- the first joins, and the slot keeps its start
    pub lists_joined : lost.joins ≡ true → (start : ℕ) → start ≡ get_or ss at 0
        → take lost.runs (ranges_of (set ss' at start) es') ≡ runs_joined M (take n (ranges_of ss es)) (new_runs M base ns lost.limit)
    lists_joined e start start_is =
        let l = h.losing in
        let slot : at ≡ n - 1 = at-is ∙ rw e in
        rw (e-starts, e-ends, start_is, slot, same_gaps l.reaches, l.runs_are)
        (listed_joined M ss es n h.within h.alike (new_runs M base ns lost.limit) (sym l.joins_is ∙ e) (omega (arith, l.runs_are, h.few)))

    -- it doesn't
    pub lists_behind : lost.joins ≡ false → take lost.runs (ranges_of ss' es') ≡ runs_joined M (take n (ranges_of ss es)) (new_runs M base ns lost.limit)
    lists_behind e =
        let l = h.losing in
        let slot : at ≡ n = at-is ∙ rw e (omega arith) in
        rw (e-starts, e-ends, slot, same_gaps l.reaches, l.runs_are)
        (listed_behind M ss es n h.within h.alike (new_runs M base ns lost.limit) (sym l.joins_is ∙ e) (omega (arith, l.runs_are, h.few)))

  -- the same by a pass over a part of the numbers
  abbrev part_passed : List Gap
  part_passed = gaps 0 lost.limit (offsets M base (take (length ns - lost.from) (drop lost.from ns)))

  -- what is put into a part is put from its first slot on
  part_put : (at k : ℕ) (a e : List ℕ) (of : List Gap → List ℕ) → at + k ≡ length a → e ≡ sets (take k (drop at a)) 0 (of part_passed) → put_mid at k a e ≡ sets a at (of passed)
  part_put at k a e of room is = put_sets at k a (of part_passed) e room is ∙ rw take_rest

  -- written to parts from the last listed slot on: the first joins, and the slot keeps its start
  pub part_joined : lost.joins ≡ true → (k : ℕ) → (n - 1) + k ≡ length ss → (ss' es' : List ℕ)
      → ss' ≡ sets (take k (drop (n - 1) ss)) 0 (starts_of (runs_of M base part_passed)) → es' ≡ sets (take k (drop (n - 1) es)) 0 (ends_of (runs_of M base part_passed))
      → take lost.runs (ranges_of (set (put_mid (n - 1) k ss ss') (n - 1) (get_or ss (n - 1) 0)) (put_mid (n - 1) k es es'))
      ≡ runs_joined M (take n (ranges_of ss es)) (new_runs M base ns lost.limit)
  part_joined e k room ss' es' s t =
      lists_joined (n - 1) (rw e) (put_mid (n - 1) k ss ss') (put_mid (n - 1) k es es')
      (part_put (n - 1) k ss ss' (λ gs. starts_of (runs_of M base gs)) room s)
      (part_put (n - 1) k es es' (λ gs. ends_of (runs_of M base gs)) (omega (arith, h.alike)) t)
      e (get_or ss (n - 1) 0) refl

  -- written to parts from the first free slot on
  pub part_behind : lost.joins ≡ false → (k : ℕ) → n + k ≡ length ss → (ss' es' : List ℕ)
      → ss' ≡ sets (take k (drop n ss)) 0 (starts_of (runs_of M base part_passed)) → es' ≡ sets (take k (drop n es)) 0 (ends_of (runs_of M base part_passed))
      → take lost.runs (ranges_of (put_mid n k ss ss') (put_mid n k es es')) ≡ runs_joined M (take n (ranges_of ss es)) (new_runs M base ns lost.limit)
  part_behind e k room ss' es' s t =
      lists_behind n (rw e (omega arith)) (put_mid n k ss ss') (put_mid n k es es')
      (part_put n k ss ss' (λ gs. starts_of (runs_of M base gs)) room s)
      (part_put n k es es' (λ gs. ends_of (runs_of M base gs)) (omega (arith, h.alike)) t)
      e

-- ---- the same, of terms that are equal

module _ {M M' n n' : ℕ} {ns ns' : List ℕ} (base : ℕ) (e : M' ≡ M) (f : ns' ≡ ns) (g : n' ≡ n) where
  pub lists_of : {lost : Losses} (ss es : List ℕ) → Losing lost M base ns (take n (ranges_of ss es)) → n ≤ length ss → length ss ≡ length es → lost.runs ≤ length ss
      → Lists lost M' base ns' ss es n'
  lists_of ss es losing within alike few = rw (e, f, g) (record { losing = losing; within = within; alike = alike; few = few })
