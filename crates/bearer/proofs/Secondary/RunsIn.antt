-- Packets in sending order as runs (specs/Account.antt): `runs_in` gives their maximal runs, and no other maximal runs hold them.
-- Assumes nothing.
use mathlib.Core.Path.{◌≡◌, refl, ◌∙◌, ap}
use mathlib.Core.List.{List, [], ◌∷◌, ◌++◌}
use mathlib.Core.Logic.{⊎_elim}
use Prim.Native.Nat.{ℕ, zero, suc, ◌+◌, ◌-◌, ◌<◌}
use native.Mathlib.Omega.{arith}
use borrow.Author.Tests.{eqb-true, eqb-false, eq-eqb, ne_eqb}
use lib.Dec.{eqb}
use Rattle.basics.proofs.Choices.{tested}
use Rattle.bearer.specs.Losses.{Gap}
use Rattle.bearer.specs.Packets.{Each}
use Rattle.bearer.specs.Account.{packets_from, packets_of, Maximal, joining, runs_in, RunsMaximal}
use Rattle.bearer.proofs.Lists.Elements.{in_each, rising_head, rising_tail}
use Rattle.bearer.proofs.Secondary.Runs.{starts_in, maximal_first, maximal_tail, maximal_head, maximal_cons}

-- ---- a packet in front of runs that lie past it

abbrev Past : ℕ → List Gap → Type 0
Past i gs = Each (λ (g : Gap). i < g.from) gs

-- it is one packet more
packets_joining : (i : ℕ) (gs : List Gap) → Maximal gs → Past i gs → packets_of (joining i gs) ≡ i ∷ packets_of gs
packets_joining i [] m past = let one : suc i - i ≡ 1 = omega arith in rw one
packets_joining i (g ∷ gs) m past =
    let first = maximal_first g gs m in
    let one : suc i - i ≡ 1 = omega arith in
    ⊎_elim
    (λ t. let q : suc i ≡ g.from = eqb-true (suc i) g.from t in let longer : g.to - i ≡ suc (g.to - g.from) = omega arith in rw t (rw (longer, q)))
    (λ t. rw t (rw one))
    (tested (eqb (suc i) g.from))

-- none can be joined further
maximal_joining : (i : ℕ) (gs : List Gap) → Maximal gs → Past i gs → Maximal (joining i gs)
maximal_joining i [] m past = omega arith
maximal_joining i (g ∷ gs) m past =
    let first = maximal_first g gs m in
    ⊎_elim
    (λ t. rw t (maximal_cons (record { from = i; to = g.to }) gs (omega arith) (maximal_head g gs m) (maximal_tail g gs m)))
    (λ t. let apart = eqb-false (suc i) g.from t in rw t (omega arith, omega arith, m))
    (tested (eqb (suc i) g.from))

-- ---- the runs of packets

pub runs_maximal : RunsMaximal
runs_maximal [] r = (refl, tt)
runs_maximal (i ∷ is) r =
    let others = runs_maximal is (rising_tail i is r) in
    let past : Past i (runs_in is) = in_each (λ (g : Gap). g.from) (λ (f : ℕ). i < f) (runs_in is)
    (λ f t. rising_head i is r f (rw others.0 at (starts_in (runs_in is) others.1 f t))) in
    (packets_joining i (runs_in is) others.1 past ∙ ap (λ (js : List ℕ). i ∷ js) others.0, maximal_joining i (runs_in is) others.1 past)

-- a row of packets in front of others is one run in front of theirs
row_in : (i c : ℕ) (js : List ℕ) (gs : List Gap) → runs_in js ≡ gs → Past (i + suc c) gs
    → runs_in (packets_from i (suc c) ++ js) ≡ record { from = i; to = i + suc c } ∷ gs
row_in i zero js gs e past = rw e (alone gs past)
  where
    next : suc i ≡ i + 1
    next = omega arith

    alone : (gs : List Gap) → Past (i + 1) gs → joining i gs ≡ record { from = i; to = i + 1 } ∷ gs
    alone [] p = rw next
    alone (g ∷ gs) p = rw (ne_eqb (suc i) g.from (λ q. omega arith)) (rw next)
row_in i (suc c) js gs e past =
    let on : suc i + suc c ≡ i + suc (suc c) = omega arith in
    rw (row_in (suc i) c js gs e (rw on past)) (rw (eq-eqb (suc i) (suc i) refl, on))

-- no other maximal runs hold the packets
pub runs_of_packets : (gs : List Gap) → Maximal gs → runs_in (packets_of gs) ≡ gs
runs_of_packets [] m = refl
runs_of_packets (g ∷ gs) m =
    let first = maximal_first g gs m in
    let long : g.to - g.from ≡ suc (g.to - g.from - 1) = omega arith in
    let end : g.from + suc (g.to - g.from - 1) ≡ g.to = omega arith in
    rw long (rw (row_in g.from (g.to - g.from - 1) (packets_of gs) gs (runs_of_packets gs (maximal_tail g gs m)) (rw end (maximal_head g gs m))) (rw end))
