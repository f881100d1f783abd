-- Packets in a row, and those of gaps and runs: which they are, how many, and in what order.
-- Assumes nothing.
use mathlib.Core.Path.{◌≡◌, refl, sym, ap}
use mathlib.Core.List.{List, [], ◌∷◌, ◌++◌, append_assoc}
use mathlib.Core.Logic.{⊎_elim}
use Prim.Native.Nat.{ℕ, zero, suc, ◌+◌, ◌-◌, ◌≤◌, ◌<◌}
use native.Mathlib.Nat.{zero-add, add-zero}
use native.Mathlib.Omega.{arith}
use borrow.Author.Tests.{ltb-true, ltb-false}
use lib.Dec.{ltb}
use lib.ListN.{length}
use Rattle.basics.proofs.Choices.{tested, contrary}
use Rattle.bearer.specs.Losses.{Gap}
use Rattle.bearer.specs.Packets.{In, Rising}
use Rattle.bearer.specs.Account.{packets_from, packets_of, Maximal}
use Rattle.bearer.proofs.Lists.Elements.{in_tail, in_cons, in_left, in_append, rising_cons, in_none, in_first}

-- ---- packets in a row

pub in_packets : (i c j : ℕ) → In j (packets_from i c) → (i ≤ j) × (j < i + c)
in_packets i zero j h = absurd (contrary h refl)
in_packets i (suc c) j h =
    ⊎_elim (λ e. omega arith) (λ t. let b = in_packets (suc i) c j t in omega arith) (in_cons j i (packets_from (suc i) c) h)

pub packets_in : (i c j : ℕ) → i ≤ j → j < i + c → In j (packets_from i c)
packets_in i zero j l h = absurd (omega arith)
packets_in i (suc c) j l h =
    ⊎_elim (λ e. in_tail j i (packets_from (suc i) c) (packets_in (suc i) c j (ltb-true i j e) (omega arith)))
    (λ e. let q : j ≡ i = omega (arith, ltb-false i j e) in in_first j i (packets_from (suc i) c) q)
    (tested (ltb i j))

pub rising_packets : (i c : ℕ) → Rising (packets_from i c)
rising_packets i zero = tt
rising_packets i (suc c) = rising_cons i (packets_from (suc i) c) (λ j h. (in_packets (suc i) c j h).0) (rising_packets (suc i) c)

pub packets_append : (i c d : ℕ) → packets_from i (c + d) ≡ packets_from i c ++ packets_from (i + c) d
packets_append i zero d = rw (zero-add d, add-zero i)
packets_append i (suc c) d =
    let e : suc c + d ≡ suc (c + d) = omega arith in
    let f : i + suc c ≡ suc i + c = omega arith in
    rw (e, f, packets_append (suc i) c d)

pub length_packets : (i c : ℕ) → length (packets_from i c) ≡ c
length_packets i zero = refl
length_packets i (suc c) = ap suc (length_packets (suc i) c)

-- ---- packets of gaps

pub packets_of_append : (gs hs : List Gap) → packets_of (gs ++ hs) ≡ packets_of gs ++ packets_of hs
packets_of_append [] hs = refl
packets_of_append (g ∷ gs) hs = rw (packets_of_append gs hs) (sym (append_assoc (packets_from g.from (g.to - g.from)) (packets_of gs) (packets_of hs)))

-- a packet of the first gap is one of them
pub run_in : (g : Gap) (gs : List Gap) (x : ℕ) → g.from ≤ x → x < g.to → In x (packets_of (g ∷ gs))
run_in g gs x h k = in_left x (packets_from g.from (g.to - g.from)) (packets_of gs) (packets_in g.from (g.to - g.from) x h (omega arith))

-- the packets of runs lie from the first one's start on
pub runs_from : (g : Gap) (gs : List Gap) → Maximal (g ∷ gs) → (x : ℕ) → In x (packets_of (g ∷ gs)) → g.from ≤ x
runs_from g [] m x p = ⊎_elim (λ q. (in_packets g.from (g.to - g.from) x q).0) (λ q. absurd (in_none q)) (in_append x (packets_from g.from (g.to - g.from)) [] p)
runs_from g (h ∷ gs) m x p =
    ⊎_elim (λ q. (in_packets g.from (g.to - g.from) x q).0)
    (λ q. let k = runs_from h gs m.2 x q in let a = m.0 in let b = m.1 in omega arith)
    (in_append x (packets_from g.from (g.to - g.from)) (packets_of (h ∷ gs)) p)
