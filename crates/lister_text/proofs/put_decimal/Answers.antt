-- `put_decimal`: each turn stores the last digit of what is left, and leaves its tenth to be laid before it. Assumes nothing.
use Rattle.std.proofs.Common.{◌≡◌, ℕ, ◌+◌, ◌/◌, ◌%◌, ◌≤◌, List, [], ◌∷◌, length, set, sym, refl, ap, ◌∙◌, arith, length-set}
use Prim.Native.Char.{code}
use Rattle.std.proofs.lemmas.List.Edits.{sets}
use Rattle.lister_text.specs.Texts.{decimal}
use Rattle.lister_text.proofs.Decimal.{decimal_one, decimal_more, decimal_some, length_more}
use Rattle.basics.proofs.Laying.{sets_append, sets_set}
use Rattle.lister_text.proofs.put_decimal.Goals as goal

-- the last digit first, and then the others before it
last_first : (d : List ℕ) (at i n : ℕ) → 10 ≤ n → i + 1 ≡ at + length (decimal n) → sets (set d i (code "0" + n % 10)) at (decimal (n / 10)) ≡ sets d at (decimal n)
last_first d at i n h e =
    let front : List ℕ = decimal (n / 10) in
    let place : i ≡ at + length front = omega (arith, length_more n h) in
    sym (sets_set d front at i (code "0" + n % 10) (omega arith))
    ∙ ap (λ (k : ℕ). set (sets d at front) k (code "0" + n % 10)) place
    ∙ sets_append d front ((code "0" + n % 10) ∷ []) at
    ∙ ap (sets d at) (sym (decimal_more n h))

pub overflow_sub-i : goal.overflow_sub-i
overflow_sub-i c = omega (arith, c.requires.0, decimal_some c.args.n)

pub loop-rest-init : goal.loop-rest-init
loop-rest-init c =
    let some = decimal_some c.args.n in
    (omega (arith, c.requires.0), omega (arith, c.requires), refl, refl)

pub overflow_sub-i-in-loop-rest : goal.overflow_sub-i-in-loop-rest
overflow_sub-i-in-loop-rest c =
    let l = c.loop-rest in
    omega (arith, l.invariant.0, length_more l.rest c.loop-rest-test.true, decimal_some (l.rest / 10))

pub loop-rest-preserved : goal.loop-rest-preserved
loop-rest-preserved c =
    let l = c.loop-rest in
    let at = c.args.at in
    let more = length_more l.rest c.loop-rest-test.true in
    let some = decimal_some (l.rest / 10) in
    (omega (arith, l.invariant.0), simp length-set (omega (arith, l.invariant.1)), simp length-set l.invariant.2, last_first l.out at l.i l.rest c.loop-rest-test.true l.invariant.0 ∙ l.invariant.3)

pub returns : goal.returns
returns c =
    let l = c.loop-rest in
    let at = c.args.at in
    let one : decimal l.rest ≡ (code "0" + l.rest) ∷ [] = decimal_one l.rest c.loop-rest-test.false in
    let place : l.i ≡ at = omega (arith, l.invariant.0, ap length one) in
    record {
      behind = ap (λ (k : ℕ). at + k) c.requires.0;
      buffer = ap (λ (k : ℕ). set l.out k (code "0" + l.rest)) place ∙ (rw one at l.invariant.3);
    }
