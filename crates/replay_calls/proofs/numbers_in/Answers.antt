-- `numbers_in`: each turn reads one more field; those read and those still to be read are all. Assumes nothing.
use Rattle.std.proofs.Common.{◌≡◌, ℕ, ◌<◌, List, length, take, drop, sym, ap, ◌∙◌, arith, length-set, add-one}
use Rattle.std.specs.Prelude.{Option, Some, None}
use Rattle.std.proofs.Math.Seq.{take-suc-set}
use Rattle.replay_calls.specs.Calls.{first_field, tabbed_fields, number_of, numbers_of, before, few}
use Rattle.replay_calls.proofs.Fields.{behind}
use Rattle.replay_calls.proofs.Several.{following, following_one, next_number}
use Rattle.replay_calls.proofs.numbers_in.Goals as goal

-- the octets behind the next field, and the numbers that they say
abbrev later : List ℕ → Option (List ℕ)
later l = numbers_of (tabbed_fields (drop (length (first_field (behind l))) (behind l)))

pub returns-in_err-number-clause-read : goal.returns-in_err-number-clause-read
returns-in_err-number-clause-read c =
    let l = c.loop-rest in
    let ms = take l.count l.values in
    let number : number_of (first_field (behind l.rest.now)) ≡ None = rw c.first_parted.ensures.field at (sym c.number_in.ensures ∙ c.in_err-number.was) in
    let all = next_number ms l.rest.now (numbers_of (tabbed_fields c.args.fields.now)) c.in-len1-up.len_at_least l.invariant.read in
    rw c.from_residual.ensures (ap few (ap (λ (m : Option ℕ). following ms (before m (later l.rest.now))) (sym number) ∙ all))

pub loop-rest-preserved : goal.loop-rest-preserved
loop-rest-preserved c =
    let l = c.loop-rest in
    let ms = take l.count l.values in
    let n = c.in_ok-number.number in
    let number : number_of (first_field (behind l.rest.now)) ≡ Some n = rw c.first_parted.ensures.field at (sym c.number_in.ensures ∙ c.in_ok-number.was) in
    let all = next_number ms l.rest.now (numbers_of (tabbed_fields c.args.fields.now)) c.in-len1-up.len_at_least l.invariant.read in
    let some : l.count < length l.values = omega (arith, l.invariant.array, l.invariant.few, c.if-count-eq-MOST_NUMBERS.false) in
    record {
      few = omega (arith, l.invariant.few, c.if-count-eq-MOST_NUMBERS.false);
      array = simp length-set l.invariant.array;
      read =
          rw (add-one l.count, take-suc-set l.values l.count n some, c.first_parted.ensures.behind)
          (sym (following_one ms n (later l.rest.now)) ∙ ap (λ (m : Option ℕ). following ms (before m (later l.rest.now))) (sym number) ∙ all);
    }
