-- `put_listed`: all are laid, joined by commas; where there is none, it is said. Assumes nothing.
use Rattle.std.proofs.Common.{◌≡◌, ℕ, ◌+◌, ◌*◌, ◌≤◌, List, ◌++◌, [], ◌∷◌, length, refl, sym, ◌∙◌, arith, rules, length-append}
use Rattle.std.specs.Prelude.{map}
use Rattle.std.proofs.lemmas.Iterator.Consumers.{YieldsList-at, YieldsList-end}
use Rattle.replay_parts.proofs.Joining.{joins_none, joins_more, joins_all, joins_nothing}
use Rattle.replay_states.proofs.put_listed.Goals as goal

-- one more of a number
one_more : (n m k : ℕ) → k ≡ n + 1 → n * m + m ≤ k * m
one_more n m k e = rw e (grind arith)

same_map : {A : Type 0} (xs : List A) → map (λ x. x) xs ≡ xs
same_map [] = refl
same_map (x ∷ xs) = rw (same_map xs)

pub loop-item-init : goal.loop-item-init
loop-item-init g c = record {
  can = rw c.into_iter-item-iterator.ensures.into_iter_gives c.requires.can;
  finite = rw c.into_iter-item-iterator.ensures.into_iter_gives c.requires.finite;
  joins = joins_none _ _ _;
}

pub loop-item-preserved : goal.loop-item-preserved
loop-item-preserved g c =
    let l = c.loop-item in
    let all = l.yielded ++ (c.in-Some.item ∷ []) in
    record {
      can = search rules;
      finite = search rules;
      joins = joins_more (length all * g.T.Listed.most) l.yielded all c.in-Some.item refl (one_more (length l.yielded) g.T.Listed.most (length all) (length-append l.yielded (c.in-Some.item ∷ []))) l.invariant.joins c.put.ensures;
    }

pub returns-then-mark-eq-TAB : goal.returns-then-mark-eq-TAB
returns-then-mark-eq-TAB g c =
    let l = c.loop-item in
    record {
      loan = c.text.ensures.loan ∙ l.invariant.joins.puts.loan;
      puts = λ xs e.
          let seen = YieldsList-end (YieldsList-at c.into_iter-item-iterator.ensures.into_iter_gives e) l.yielded _ l.yielded_by _ _ c.in-None.is c.next.ensures.steps in
          let is : l.yielded ≡ xs = sym (same_map l.yielded) ∙ seen.0 in
          rw is at (joins_nothing l.yielded c.if-mark-eq-TAB.true l.invariant.joins c.text.ensures);
    }

pub returns-else-mark-eq-TAB-clause-puts : goal.returns-else-mark-eq-TAB-clause-puts
returns-else-mark-eq-TAB-clause-puts g c = λ xs e.
    let l = c.loop-item in
    let seen = YieldsList-end (YieldsList-at c.into_iter-item-iterator.ensures.into_iter_gives e) l.yielded _ l.yielded_by _ _ c.in-None.is c.next.ensures.steps in
    let is : l.yielded ≡ xs = sym (same_map l.yielded) ∙ seen.0 in
    rw is at (joins_all (5 + length l.yielded * g.T.Listed.most) l.yielded c.if-mark-eq-TAB.false (omega arith) l.invariant.joins)
