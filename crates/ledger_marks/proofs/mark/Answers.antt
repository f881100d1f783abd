-- `mark`: what is marked so far, with what the ranges that are left do to the rest, is what all the ranges do to all. The inner
-- loop says so of its own start, the outer loop of the first range. A range's numbers are on the circle of the frame's form, so no
-- distance is left at its last number alone.
-- Assumes nothing.
use Rattle.std.proofs.Common.{◌≡◌, ◌∙◌, ℕ, Bool, false, List, ◌∷◌, length, get_or, refl, sym, ap, subst, arith}
use Rattle.std.proofs.Math.ListN.{length-map}
use Rattle.std.proofs.Math.Option.{Option}
use Rattle.frame_layout.specs.Frames.{Range}
use Rattle.frame_view.specs.Views.{ahead_of}
use Rattle.bearer.specs.Ledger.{Entry, Passed, bears}
use Rattle.ledger_entries.specs.View.{entry_in, held_in}
use Rattle.ledger_entries.proofs.Slots.{unread, here, next, next_stored, passed_all}
use Rattle.ledger_entries.proofs.Sums.{lowers_none, lowers_then}
use Rattle.ledger_marks.proofs.Walks.{OnCircle, shown_on_circle}
use Rattle.ledger_marks.proofs.Marks.{marking, Same, marking_none, it_bears, it_is_lost, other_number, miss, last_found, one_found, lowers_found, all_found, not_found, last_is, not_last, one_on}
use Rattle.ledger_marks.proofs.mark.Goals as goal
use Rattle.ledger_marks.proofs.mark.Goals.{then-waits+then-e-number+else-further-eq0, else-waits, else-waits-via-then-waits+else-e-number, else-waits-via-else-waits}

-- what the inner loop's turn has left to do comes to the whole pass
still : {long : Bool} {whole f : ℕ → Option (Passed Unit)} (xs : List (Entry Unit)) (i c : ℕ) (rs : List Range) {r : Range} {ahead : List Range}
    → Same long whole (marking xs i c rs) → rs ≡ r ∷ ahead → Same long (marking xs i c (r ∷ ahead)) f → Same long whole f
still xs i c rs outer shown inner L form =
    outer L form ∙ ap (λ (qs : List Range). marking xs i c qs L) shown ∙ inner L form

pub ranges-2-init : goal.ranges-2-init
ranges-2-init c =
    let at = c.args.from in
    record {
      can = tt;
      finite = tt;
      reached = record { far = omega arith; held = sym (length-map c.held-n.result.now entry_in) ∙ ap length c.held-n.ensures };
      as_many = refl;
      few = omega arith;
      same = λ L form. refl;
      on_circle = shown_on_circle c.args.frame.now (record { at = λ i. omega (arith, c.type_inv.frame i) }) at.long at.place at.left;
      lowers = lowers_none _ _;
    }

pub loop-i-init : goal.loop-i-init
loop-i-init c =
    let o = c.ranges-2.invariant in
    let on = subst (OnCircle c.args.from.long) c.in-Some.ensures.steps o.on_circle in
    record {
      reached = o.reached;
      as_many = o.as_many;
      few = o.few;
      same = λ L form. refl;
      on_way = record { here = on.0; there = on.1; way = c.distance-further.ensures };
      lowers = lowers_none _ _;
    }

pub ranges-2-preserved : goal.ranges-2-preserved
ranges-2-preserved c =
    let o = c.ranges-2 in
    let p = c.loop-i in
    let v = p.invariant in
    let shown = c.in-Some.ensures.steps in
    let hit = it_bears (entry_in (get_or p.marked.entries.slots p.i unread)) p.number (sym c.if-waits.ensures) c.if-e-number.true in
    record {
      can = tt;
      finite = tt;
      reached = next_stored v.reached (omega arith) _ _;
      as_many = v.as_many;
      few = omega arith;
      same = λ L form. still (held_in o.marked.entries.slots c.args.entries.now.count) o.passed o.marked.lost (ahead_of o.view) o.invariant.same shown v.same L form
          ∙ last_found v.reached (omega arith) _ _ c.as_lost.ensures _ _ _ _ _ hit (last_is v.on_way c.if-further-eq0.true) L form;
      on_circle = (subst (OnCircle c.args.from.long) shown o.invariant.on_circle).2;
      lowers = lowers_then o.invariant.lowers (lowers_found v.reached (omega arith) _ _ c.as_lost.ensures _ hit v.lowers (omega arith));
    }

pub loop-i-preserved : goal.loop-i-preserved
loop-i-preserved c =
    let p = c.loop-i in
    let v = p.invariant in
    let x = entry_in (get_or p.marked.entries.slots p.i unread) in
    elim c.if-waits.branch [
      | then-waits+then-e-number+else-further-eq0 w ↦
          let hit = it_bears x p.number (sym w.if-waits.ensures) w.if-e-number.true in
          let onward = w.number-is ∙ w.onward-number.ensures in
          rw (w.marked-is, onward, w.further-is)
          (record {
            reached = next_stored v.reached (omega arith) _ _;
            as_many = v.as_many;
            few = omega arith;
            same = λ L form. v.same L form ∙ one_found v.reached (omega arith) _ _ w.as_lost.ensures _ _ _ _ _ hit (not_last v.on_way w.if-further-eq0.false) L form;
            on_way = one_on v.on_way w.if-further-eq0.false;
            lowers = lowers_found v.reached (omega arith) _ _ w.as_lost.ensures _ hit v.lowers (omega arith);
          })
      | else-waits w ↦
          let other : bears x p.number ≡ false = elim w.else-waits.branch [
            | else-waits-via-then-waits+else-e-number u ↦ other_number x p.number (sym u.if-waits.ensures) u.if-e-number.false
            | else-waits-via-else-waits u ↦ it_is_lost x p.number (sym u.if-waits.ensures)
          ] in
          rw (w.marked-is, w.number-is, w.further-is)
          (record {
            reached = next v.reached (omega arith);
            as_many = v.as_many;
            few = omega arith;
            same = λ L form. v.same L form ∙ miss (here v.reached (omega arith) unread) _ _ _ other L;
            on_way = v.on_way;
            lowers = v.lowers;
          })
    ]

pub returns-in_default : goal.returns-in_default
returns-in_default c =
    let p = c.ranges-2 in
    let v = p.invariant in
    let es = held_in p.marked.entries.slots c.args.entries.now.count in
    let first = held_in c.args.entries.now.slots c.args.entries.now.count in
    rw v.as_many (
      λ L form. sym (marking_none first _ L ∙ v.same L form
          ∙ ap (λ (rs : List Range). marking es p.passed p.marked.lost rs L) c.in_default.ensures.steps.0 ∙ all_found es p.passed p.marked.lost L),
      tt,
      v.lowers,
    )

pub returns : goal.returns
returns c =
    let o = c.ranges-2 in
    let v = c.loop-i.invariant in
    let es = held_in c.args.entries.now.slots c.args.entries.now.count in (
      λ L form. sym (marking_none es _ L
          ∙ still (held_in o.marked.entries.slots c.args.entries.now.count) o.passed o.marked.lost (ahead_of o.view) o.invariant.same c.in-Some.ensures.steps v.same L form
          ∙ not_found _ _ _ _ _ (passed_all v.reached (omega arith)) L),
      refl,
      tt,
    )
