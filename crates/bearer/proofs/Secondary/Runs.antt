-- Maximal runs of packets: that gaps between records are such, and how they join the runs that are listed.
-- Assumes nothing.
use mathlib.Core.Path.{◌≡◌, refl, sym, ◌∙◌, ap}
use mathlib.Core.List.{List, [], ◌∷◌, ◌++◌, append-nil, append_assoc}
use mathlib.Core.Logic.{⊎_elim}
use Prim.Native.Nat.{ℕ, zero, suc, ◌+◌, ◌-◌, ◌≤◌, ◌<◌}
use native.Mathlib.Omega.{arith}
use borrow.Author.Tests.{ltb-true, eqb-true, eqb-false, leb-true, leb-false}
use lib.Dec.{ltb, leb, eqb}
use lib.ListN.{drop}
use Rattle.basics.proofs.Choices.{tested}
use Rattle.bearer.specs.Losses.{Gap, gap, gaps}
use Rattle.bearer.specs.Packets.{In, Rising, Each}
use Rattle.bearer.specs.Account.{packets_from, packets_of, Maximal}
use Rattle.bearer.proofs.Lists.Mapped.{each_append, each_so}
use Rattle.bearer.proofs.Lists.Elements.{in_head, in_tail, in_cons, in_right, in_none, rising_head, rising_tail}
use Rattle.bearer.proofs.Lists.Rows.{packets_append, packets_of_append, run_in}
use Rattle.bearer.proofs.Secondary.Index.{froms, joined_i, runs_joined_i}
use Rattle.bearer.proofs.Secondary.Gaps.{gaps_past, gaps_inside}

-- ---- maximal runs

pub maximal_first : (g : Gap) (gs : List Gap) → Maximal (g ∷ gs) → g.from < g.to
maximal_first g [] m = m
maximal_first g (h ∷ hs) m = m.0

pub maximal_tail : (g : Gap) (gs : List Gap) → Maximal (g ∷ gs) → Maximal gs
maximal_tail g [] m = tt
maximal_tail g (h ∷ hs) m = m.2

pub maximal_head : (g : Gap) (gs : List Gap) → Maximal (g ∷ gs) → Each (λ (h : Gap). g.to < h.from) gs
maximal_head g [] m = tt
maximal_head g (h ∷ hs) m =
    let first = maximal_first h hs m.2 in
    (m.1, each_so hs (λ k l. omega arith) (maximal_head h hs m.2))

pub maximal_cons : (g : Gap) (gs : List Gap) → g.from < g.to → Each (λ (h : Gap). g.to < h.from) gs → Maximal gs → Maximal (g ∷ gs)
maximal_cons g [] f e m = f
maximal_cons g (h ∷ hs) f e m = (f, e.0, m)

pub maximal_each : (gs : List Gap) → Maximal gs → Each (λ (g : Gap). g.from < g.to) gs
maximal_each [] m = tt
maximal_each (g ∷ gs) m = (maximal_first g gs m, maximal_each gs (maximal_tail g gs m))

pub maximal_drop : (n : ℕ) (gs : List Gap) → Maximal gs → Maximal (drop n gs)
maximal_drop zero gs m = m
maximal_drop (suc n) [] m = tt
maximal_drop (suc n) (g ∷ gs) m = maximal_drop n gs (maximal_tail g gs m)

-- the runs start in sending order
pub maximal_rising : (gs : List Gap) → Maximal gs → Rising (froms gs)
maximal_rising [] m = tt
maximal_rising (g ∷ []) m = tt
maximal_rising (g ∷ h ∷ hs) m = (omega arith, maximal_rising (h ∷ hs) m.2)

-- a run's first packet is one of theirs
pub starts_in : (gs : List Gap) → Maximal gs → (f : ℕ) → In f (froms gs) → In f (packets_of gs)
starts_in [] m f t = absurd (in_none t)
starts_in (g ∷ gs) m f t =
    let first = maximal_first g gs m in
    ⊎_elim (λ q. run_in g gs f (omega arith) (omega arith))
    (λ u. in_right f (packets_from g.from (g.to - g.from)) (packets_of gs) (starts_in gs (maximal_tail g gs m) f u))
    (in_cons f g.from (froms gs) t)

-- ---- gaps between records

gap_from : (c l : ℕ) → Each (λ (g : Gap). c ≤ g.from) (gap c l)
gap_from c l = ⊎_elim (λ e. rw e (omega arith)) (λ e. rw e tt) (tested (ltb c l))

pub gaps_from : (c l : ℕ) (js : List ℕ) → Rising js → ((i : ℕ) → In i js → c ≤ i) → Each (λ (g : Gap). c ≤ g.from) (gaps c l js)
gaps_from c l [] r h = gap_from c l
gaps_from c l (o ∷ os) r h =
    let from : c ≤ o = h o (in_head o os) in
    let os-rise : Rising os = rising_tail o os r in
    ⊎_elim
    (λ e. rw (gaps_past c l o os from (leb-true l o e)) (gaps_from c l os os-rise (λ i t. h i (in_tail i o os t))))
    (λ e. rw (gaps_inside c l o os from (leb-false l o e))
    (each_append (λ (g : Gap). c ≤ g.from) (gap c o) (gaps (suc o) l os) (gap_from c o)
    (each_so (gaps (suc o) l os) (λ g w. omega arith) (gaps_from (suc o) l os os-rise (rising_head o os r)))))
    (tested (leb l o))

pub gaps_maximal : (c l : ℕ) (js : List ℕ) → Rising js → ((i : ℕ) → In i js → c ≤ i) → Maximal (gaps c l js)
gaps_maximal c l [] r h = ⊎_elim (λ e. rw e (ltb-true c l e)) (λ e. rw e tt) (tested (ltb c l))
gaps_maximal c l (o ∷ os) r h =
    let from : c ≤ o = h o (in_head o os) in
    let os-rise : Rising os = rising_tail o os r in
    ⊎_elim
    (λ e. rw (gaps_past c l o os from (leb-true l o e)) (gaps_maximal c l os os-rise (λ i t. h i (in_tail i o os t))))
    (λ e. rw (gaps_inside c l o os from (leb-false l o e)) (behind_gap (gaps_maximal (suc o) l os os-rise (rising_head o os r))))
    (tested (leb l o))
  where
    behind_gap : Maximal (gaps (suc o) l os) → Maximal (gap c o ++ gaps (suc o) l os)
    behind_gap m =
        ⊎_elim
        (λ e. rw e
        (maximal_cons (record { from = c; to = o }) (gaps (suc o) l os) (ltb-true c o e)
        (gaps_from (suc o) l os (rising_tail o os r) (rising_head o os r))
        m))
        (λ e. rw e m)
        (tested (ltb c o))

-- ---- runs with new ones behind them

-- a property that a joined run has
module _ (P : Gap → Type 0) (r : Gap) (join : (x : Gap) → P x → P (record { from = x.from; to = r.to })) where
  each_joined : (xs : List Gap) → Each P xs → P r → Each P (joined_i xs r)
  each_joined [] e p = (p, tt)
  each_joined (x ∷ []) e p = ⊎_elim (λ t. rw t (join x e.0, tt)) (λ t. rw t (e.0, (p, tt))) (tested (eqb x.to r.from))
  each_joined (x ∷ y ∷ ys) e p = (e.0, each_joined (y ∷ ys) e.1 p)

-- a run that adjoins the next: the packets of both
adjoined : (x r : Gap) → x.from ≤ x.to → x.to ≡ r.from → r.from ≤ r.to
    → packets_from x.from (r.to - x.from) ≡ packets_from x.from (x.to - x.from) ++ packets_from r.from (r.to - r.from)
adjoined x r f e g =
    let sum : r.to - x.from ≡ (x.to - x.from) + (r.to - r.from) = omega arith in
    let start : x.from + (x.to - x.from) ≡ r.from = omega arith in
    ap (packets_from x.from) sum ∙ packets_append x.from (x.to - x.from) (r.to - r.from) ∙ rw start

packets_joined : (xs : List Gap) (r : Gap) → Maximal xs → r.from ≤ r.to → packets_of (joined_i xs r) ≡ packets_of (xs ++ (r ∷ []))
packets_joined [] r m g = refl
packets_joined (x ∷ []) r m g =
    ⊎_elim
    (λ t. rw t (rw (adjoined x r (omega arith) (eqb-true x.to r.from t) g)
    (append_assoc (packets_from x.from (x.to - x.from)) (packets_from r.from (r.to - r.from)) [])))
    (λ t. rw t)
    (tested (eqb x.to r.from))
packets_joined (x ∷ y ∷ ys) r m g = rw (packets_joined (y ∷ ys) r m.2 g)

maximal_joined : (xs : List Gap) (r : Gap) (rs : List Gap) → Maximal xs → Maximal (r ∷ rs) → Each (λ (x : Gap). x.to ≤ r.from) xs → Maximal (joined_i xs r ++ rs)
maximal_joined [] r rs m n e = n
maximal_joined (x ∷ []) r rs m n e =
    let first : r.from < r.to = maximal_first r rs n in
    ⊎_elim
    (λ t. rw t (maximal_cons (record { from = x.from; to = r.to }) rs (omega arith) (maximal_head r rs n) (maximal_tail r rs n)))
    (λ t. rw t (m, apart (eqb-false x.to r.from t), n))
    (tested (eqb x.to r.from))
  where
    apart : (x.to ≡ r.from → ⊥) → x.to < r.from
    apart ne = omega (arith, e)
maximal_joined (x ∷ y ∷ ys) r rs m n e =
    let y-first : y.from < y.to = maximal_first y ys m.2 in
    let r-first : r.from < r.to = maximal_first r rs n in
    let before : x.to < r.from = omega arith in
    maximal_cons x (joined_i (y ∷ ys) r ++ rs) m.0
    (each_append (λ (h : Gap). x.to < h.from) (joined_i (y ∷ ys) r) rs
    (each_joined (λ (h : Gap). x.to < h.from) r (λ z p. p) (y ∷ ys) (maximal_head x (y ∷ ys) m) before)
    (each_so rs (λ h l. omega arith) (maximal_head r rs n)))
    (maximal_joined (y ∷ ys) r rs m.2 n e.1)

module _ (P : Gap → Type 0) (join : (x r : Gap) → P x → P r → P (record { from = x.from; to = r.to })) where
  pub each_with_runs : (xs rs : List Gap) → Each P xs → Each P rs → Each P (runs_joined_i xs rs)
  each_with_runs xs [] e f = e
  each_with_runs xs (r ∷ rs) e f = each_append P (joined_i xs r) rs (each_joined P r (λ x p. join x r p f.0) xs e f.0) f.1

pub packets_with_runs : (xs rs : List Gap) → Maximal xs → Maximal rs → packets_of (runs_joined_i xs rs) ≡ packets_of xs ++ packets_of rs
packets_with_runs xs [] m n = sym (append-nil (packets_of xs))
packets_with_runs xs (r ∷ rs) m n =
    let first : r.from < r.to = maximal_first r rs n in
    packets_of_append (joined_i xs r) rs
    ∙ ap (λ (ps : List ℕ). ps ++ packets_of rs) (packets_joined xs r m (omega arith))
    ∙ sym (packets_of_append (xs ++ (r ∷ [])) rs)
    ∙ ap packets_of (append_assoc xs (r ∷ []) rs)
    ∙ packets_of_append xs (r ∷ rs)

-- the new runs lie from b on, the old ones before
pub maximal_with_runs : (b : ℕ) (xs rs : List Gap) → Maximal xs → Maximal rs → Each (λ (x : Gap). x.to ≤ b) xs → Each (λ (r : Gap). b ≤ r.from) rs
    → Maximal (runs_joined_i xs rs)
maximal_with_runs b xs [] m n e f = m
maximal_with_runs b xs (r ∷ rs) m n e f =
    maximal_joined xs r rs m n (each_so xs (λ x l. omega arith) e)
