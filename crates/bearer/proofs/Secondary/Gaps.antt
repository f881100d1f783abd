-- Gaps between records: what is given up below a bound is each packet there that has no record, and the lowest index from a
-- bound on that has none.
-- Assumes nothing.
use Rattle.std.specs.Prelude.{if◌then◌else◌}
use mathlib.Core.Path.{◌≡◌, refl, sym, ◌∙◌, ap, ap₂}
use mathlib.Core.Bool.{Bool, true, false, not}
use mathlib.Core.List.{List, [], ◌∷◌, ◌++◌, map, map-append, append-nil}
use mathlib.Core.Logic.{◌⊎◌, inl, inr, ⊎_elim}
use Prim.Native.Nat.{ℕ, suc, ◌+◌, ◌-◌, ◌≤◌, ◌<◌}
use native.Mathlib.Omega.{arith}
use borrow.Author.Tests.{ltb-true, ltb-false, le-ltb, leb-true, leb-false, le-leb, lt-leb, eqb-true, eqb-false, eq-eqb, ne_eqb}
use lib.Dec.{ltb, leb, eqb}
use lib.ListN.{length, length-append}
use Rattle.basics.specs.Basics.{◌or◌}
use Rattle.basics.proofs.Choices.{leb_alike, eqb_alike, choice, tested, refuted}
use Rattle.bearer.specs.Losses.{Gap, gap, outside, gaps, size_of, lowest}
use Rattle.bearer.specs.Rule.{is_in, only}
use Rattle.bearer.specs.Packets.{In, Rising}
use Rattle.bearer.specs.Account.{packets_from, packets_of}
use Rattle.bearer.proofs.Lists.Elements.{in_head, in_tail, in_cons, rising_head, rising_tail}
use Rattle.bearer.proofs.Lists.Rows.{packets_of_append, in_packets, packets_append, length_packets}
use Rattle.bearer.proofs.Secondary.Index.{past_base, gap_at}
use Rattle.bearer.proofs.Secondary.Open.{only_append, only_alike, only_all}

-- ---- distances from base and indexes

-- a test of distances is the test of the indexes
outside_shift : (b c l j : ℕ) → b ≤ j → outside c l (j - b) ≡ outside (b + c) (b + l) j
outside_shift b c l j h = ap₂ ◌or◌ (leb_alike (suc (j - b)) c (suc j) (b + c) (omega arith) (omega arith)) (leb_alike l (j - b) (b + l) j (omega arith) (omega arith))

gap_shift : (b c l : ℕ) → map (gap_at b) (gap c l) ≡ gap (b + c) (b + l)
gap_shift b c l = sym (choice (map (gap_at b)) (leb_alike (suc (b + c)) (b + l) (suc c) l (omega arith) (omega arith)) refl refl)

pub gaps_shift : (b c l : ℕ) (js : List ℕ) → ((i : ℕ) → In i js → b ≤ i) → map (gap_at b) (gaps c l (past_base b js)) ≡ gaps (b + c) (b + l) js
gaps_shift b c l [] h = gap_shift b c l
gaps_shift b c l (j ∷ js) h = rw (outside_shift b c l j from) (by (outside (b + c) (b + l) j) (λ d. gaps_shift b d l js (λ i t. h i (in_tail i j js t))))
  where
    from : b ≤ j
    from = h j (in_head j js)

    by : (t : Bool) → ((d : ℕ) → map (gap_at b) (gaps d l (past_base b js)) ≡ gaps (b + d) (b + l) js)
        → map (gap_at b) ((if t then [] else gap c (j - b)) ++ gaps (if t then c else suc (j - b)) l (past_base b js))
        ≡ (if t then [] else gap (b + c) j) ++ gaps (if t then b + c else suc j) (b + l) js
    by true ih = ih c
    by false ih =
        let e : b + (j - b) ≡ j = omega (arith, from) in
        let f : b + suc (j - b) ≡ suc j = omega (arith, from) in
        map-append (gap_at b) (gap c (j - b)) (gaps (suc (j - b)) l (past_base b js)) ∙ rw (gap_shift b c (j - b), ih (suc (j - b)), e, f)

pub lowest_shift : (b c : ℕ) (js : List ℕ) → ((i : ℕ) → In i js → b ≤ i) → b + lowest c (past_base b js) ≡ lowest (b + c) js
lowest_shift b c [] h = refl
lowest_shift b c (j ∷ js) h =
    ap (λ (t : Bool). b + lowest (if t then suc c else c) (past_base b js)) same
    ∙ (by (eqb j (b + c)) (λ d. lowest_shift b d js (λ i t. h i (in_tail i j js t))))
  where
    from : b ≤ j
    from = h j (in_head j js)

    same : eqb (j - b) c ≡ eqb j (b + c)
    same = eqb_alike (j - b) c j (b + c) (omega (arith, from)) (omega (arith, from))

    by : (t : Bool) → ((d : ℕ) → b + lowest d (past_base b js) ≡ lowest (b + d) js)
        → b + lowest (if t then suc c else c) (past_base b js) ≡ lowest (if t then suc (b + c) else b + c) js
    by true ih = let e : b + suc c ≡ suc (b + c) = omega arith in rw (← e) (ih (suc c))
    by false ih = ih c

-- ---- gaps behind the first record

pub gaps_past : (c l o : ℕ) (os : List ℕ) → c ≤ o → l ≤ o → gaps c l (o ∷ os) ≡ gaps c l os
gaps_past c l o os h g = rw (le-ltb o c h, le-leb l o g)

pub gaps_inside : (c l o : ℕ) (os : List ℕ) → c ≤ o → o < l → gaps c l (o ∷ os) ≡ gap c o ++ gaps (suc o) l os
gaps_inside c l o os h g = rw (le-ltb o c h, lt-leb l o g)

-- ---- the packets of gaps

gap_packets : (c l : ℕ) → packets_of (gap c l) ≡ packets_from c (l - c)
gap_packets c l =
    ⊎_elim (λ e. rw e (append-nil (packets_from c (l - c)))) (λ e. let z : l - c ≡ 0 = omega (arith, ltb-false c l e) in rw e (rw z))
    (tested (ltb c l))

-- how many packets gaps hold
pub size_packets : (b : ℕ) (gs : List Gap) → size_of gs ≡ length (packets_of (map (gap_at b) gs))
size_packets b [] = refl
size_packets b (g ∷ gs) =
    let e : b + g.to - (b + g.from) ≡ g.to - g.from = omega arith in
    rw (size_packets b gs, ← e)
    (rw (length-append (packets_from (b + g.from) (b + g.to - (b + g.from))) (packets_of (map (gap_at b) gs)), length_packets (b + g.from) (b + g.to - (b + g.from))))

-- gaps between records are the packets there without a record
pub gaps_packets : (c l : ℕ) (js : List ℕ) → Rising js → ((i : ℕ) → In i js → c ≤ i)
    → packets_of (gaps c l js) ≡ only (λ (i : ℕ). not (is_in i js)) (packets_from c (l - c))
gaps_packets c l [] r h = gap_packets c l ∙ sym (only_all (λ (i : ℕ). true) (packets_from c (l - c)) (λ i t. refl))
gaps_packets c l (o ∷ os) r h =
    ⊎_elim (λ e. let g : l ≤ o = leb-true l o e in rw (gaps_past c l o os from g) (by_past g (gaps_packets c l os r' (λ i t. h i (in_tail i o os t)))))
    (λ e. let g : o < l = leb-false l o e in rw (gaps_inside c l o os from g) (by_inside g (gaps_packets (suc o) l os r' (rising_head o os r))))
    (tested (leb l o))
  where
    r' : Rising os
    r' = rising_tail o os r

    from : c ≤ o
    from = h o (in_head o os)

    -- only the first record is o
    other : (i : ℕ) → (i ≡ o → ⊥) → not (is_in i os) ≡ not (is_in i (o ∷ os))
    other i ne = rw (ne_eqb i o ne)

    p : ℕ → Bool
    p i = not (is_in i (o ∷ os))

    before : List ℕ
    before = packets_from c (o - c)

    behind : List ℕ
    behind = packets_from (suc o) (l - suc o)

    here : p o ≡ false
    here = rw (eq-eqb o o refl)

    below : (i : ℕ) → i < c + (o - c) → p i ≡ true
    below i l =
        rw (refuted (is_in i (o ∷ os)) (λ t. ⊎_elim (λ q. omega (arith, from)) (λ u. omega (arith, from, rising_head o os r i u)) (in_cons i o os t)))

    parted : o < l → packets_from c (l - c) ≡ before ++ (o ∷ behind)
    parted g =
        let e : l - c ≡ (o - c) + suc (l - suc o) = omega (arith, from) in
        let f : c + (o - c) ≡ o = omega (arith, from) in
        ap (packets_from c) e ∙ packets_append c (o - c) (suc (l - suc o)) ∙ rw f

    by_past : l ≤ o → packets_of (gaps c l os) ≡ only (λ (i : ℕ). not (is_in i os)) (packets_from c (l - c))
        → packets_of (gaps c l os) ≡ only (λ (i : ℕ). not (is_in i (o ∷ os))) (packets_from c (l - c))
    by_past g ih =
        ih ∙ only_alike (λ (i : ℕ). not (is_in i os)) (λ (i : ℕ). not (is_in i (o ∷ os))) (packets_from c (l - c))
        (λ i t. let b = in_packets c (l - c) i t in other i (λ q. omega arith))

    by_inside : o < l → packets_of (gaps (suc o) l os) ≡ only (λ (i : ℕ). not (is_in i os)) (packets_from (suc o) (l - suc o))
        → packets_of (gap c o ++ gaps (suc o) l os) ≡ only (λ (i : ℕ). not (is_in i (o ∷ os))) (packets_from c (l - c))
    by_inside g ih =
        packets_of_append (gap c o) (gaps (suc o) l os)
        ∙ rw (gap_packets c o, ih)
        (sym (ap (only p) (parted g) ∙ only_append p before (o ∷ behind)
        ∙ rw (only_all p before (λ i t. below i (in_packets c (o - c) i t).1), here)
        (ap (λ (xs : List ℕ). before ++ xs) (sym (only_alike (λ (i : ℕ). not (is_in i os)) p behind (λ i t. let b = in_packets (suc o) (l - suc o) i t in other i (λ q. omega arith)))))))

-- ---- the lowest index with no record

pub record Least (c : ℕ) (js : List ℕ) (m : ℕ) : Type 0 where
  pub from : c ≤ m
  pub free : is_in m js ≡ false
  pub between : (i : ℕ) → c ≤ i → i < m → In i js

pub least : (c : ℕ) (js : List ℕ) → Rising js → Least c js (lowest c js)
least c [] r = record { from = omega arith; free = refl; between = λ i l g. absurd (omega arith) }
least c (o ∷ os) r = by (eqb o c) refl (λ d. least d os (rising_tail o os r))
  where
    by : (t : Bool) → eqb o c ≡ t → ((d : ℕ) → Least d os (lowest d os)) → Least c (o ∷ os) (lowest (if t then suc c else c) os)
    by true e ih =
        let m = ih (suc c) in
        let q : o ≡ c = eqb-true o c e in
        record {
          from = omega arith;
          free = rw (ne_eqb (lowest (suc c) os) o (λ n. omega (arith, m.from))) m.free;
          between = λ i l g. ⊎_elim (λ n. rw (eq-eqb i o (n ∙ sym q))) (λ n. in_tail i o os (m.between i n g)) (first_or i l);
        }
      where
        first_or : (i : ℕ) → c ≤ i → (i ≡ c) ⊎ (suc c ≤ i)
        first_or i l = ⊎_elim (λ n. inr (ltb-true c i n)) (λ n. inl (omega (arith, ltb-false c i n))) (tested (ltb c i))
    by false e ih =
        let m = ih c in
        record {
          from = m.from;
          free = rw (ne_eqb (lowest c os) o (λ n. not_first m.from m.between n)) m.free;
          between = λ i l g. in_tail i o os (m.between i l g);
        }
      where
        -- past c, o would be behind c among the records
        not_first : c ≤ lowest c os → ((i : ℕ) → c ≤ i → i < lowest c os → In i os) → lowest c os ≡ o → ⊥
        not_first l between n =
            ⊎_elim
            (λ g. omega (arith, rising_head o os r c (between c (omega arith) (omega (arith, ltb-true c o g)))))
            (λ g. eqb-false o c e (omega (arith, ltb-false c o g)))
            (tested (ltb c o))
