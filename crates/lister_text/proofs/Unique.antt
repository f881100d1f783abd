-- Two places that the contract of `line_end` allows are equal. (The other contracts of this crate are equations of the answer and of what
-- it leaves.)
-- Assumes nothing.
use Rattle.std.proofs.Common.{◌≡◌, ℕ, zero, suc, ◌<◌, ◌≤◌, true, not, eqb, List, [], ◌∷◌, Option, Some, None, length, get_or, take, take_all, refl, ap, ⊎_elim, arith, eq-eqb}
use Rattle.basics.proofs.Choices.{and_true, contrary, order}
use Rattle.lister_text.specs.Texts.{line_feed, unended, FeedAt, LineEnd}

-- where no line feed is among the first octets of a block, none stands there
no_feed : (block : List ℕ) (i n : ℕ) → i < n → i < length block → unended (take n block) ≡ true → get_or block i 0 ≡ line_feed → ⊥
no_feed [] i n h k u e = absurd (omega arith)
no_feed (c ∷ cs) i zero h k u e = absurd (omega arith)
no_feed (c ∷ cs) zero (suc n) h k u e =
    let other = (and_true (not (eqb c line_feed)) (unended (take n cs)) u).0 in
    contrary other (ap not (eq-eqb c line_feed e))
no_feed (c ∷ cs) (suc i) (suc n) h k u e = no_feed cs i n (omega arith) (omega arith) (and_true (not (eqb c line_feed)) (unended (take n cs)) u).1 e

-- no place is before another
not_before : {block : List ℕ} {i j : ℕ} → FeedAt block i → FeedAt block j → j ≤ i
not_before {block} {i} {j} a b = ⊎_elim (λ h. absurd (no_feed block i j h a.within b.before a.there)) (λ h. h) (order i j)

-- and a block with a line feed is none without
not_without : {P : Type 0} {block : List ℕ} {i : ℕ} → FeedAt block i → unended block ≡ true → P
not_without {P} {block} {i} a u = absurd (no_feed block i (length block) a.within a.within (rw (take_all (length block) block (omega arith)) u) a.there)

pub one_line_end : (block : List ℕ) (p q : Option ℕ) → LineEnd block p → LineEnd block q → p ≡ q
one_line_end block (Some i) (Some j) a b = ap Some (let e : i ≡ j = omega (arith, not_before a b, not_before b a) in e)
one_line_end block (Some i) None a b = not_without a b
one_line_end block None (Some j) a b = not_without b a
one_line_end block None None a b = refl
