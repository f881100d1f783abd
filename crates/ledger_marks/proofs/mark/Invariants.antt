-- `mark`: what is found so far, and what is still to be done, is what the whole pass comes to; the inner loop walks one range, the outer one all.
-- Assumes nothing.
use Rattle.std.proofs.Common.{◌≡◌, ◌≤◌, ◌∷◌}
use Rattle.frame_view.specs.Views.{ahead_of}
use Rattle.ledger_entries.specs.View.{held_in}
use Rattle.ledger_entries.specs.Steps.{Lowers}
use Rattle.ledger_entries.proofs.Slots.{Reached}
use Rattle.ledger_marks.proofs.Walks.{range, OnCircle}
use Rattle.ledger_marks.proofs.Marks.{marking, Same, OnWay}
use Rattle.ledger_marks.proofs.mark.Given as goal

abbrev pub invariant-loop-i : goal.invariant-loop-i
invariant-loop-i l = record {
  reached : Reached l.marked.entries.slots l.fn.entries.count l.n l.i;
  as_many : l.marked.entries.count ≡ l.fn.entries.count;
  few : l.marked.lost ≤ l.i;
  same : Same l.from.long (marking (held_in l.initial.marked.entries.slots l.fn.entries.count) l.initial.i l.initial.marked.lost (range l.start l.end ∷ ahead_of l.view))
      (marking (held_in l.marked.entries.slots l.fn.entries.count) l.i l.marked.lost (range l.number l.end ∷ ahead_of l.view));
  on_way : OnWay l.from.long l.number l.end l.further;
  lowers : Lowers l.initial.marked.octets (held_in l.initial.marked.entries.slots l.fn.entries.count) (held_in l.marked.entries.slots l.fn.entries.count) l.marked.octets;
}

abbrev pub invariant-ranges-2 : goal.invariant-ranges-2
invariant-ranges-2 l = record {
  can : (goal.iterator-ranges-2).can_next l.view;
  finite : (goal.iterator-ranges-2).is_finite l.view;
  reached : Reached l.marked.entries.slots l.fn.entries.count l.n l.passed;
  as_many : l.marked.entries.count ≡ l.fn.entries.count;
  few : l.marked.lost ≤ l.passed;
  same : Same l.from.long (marking (held_in l.initial.marked.entries.slots l.fn.entries.count) l.initial.passed l.initial.marked.lost (ahead_of l.initial.view))
      (marking (held_in l.marked.entries.slots l.fn.entries.count) l.passed l.marked.lost (ahead_of l.view));
  on_circle : OnCircle l.from.long (ahead_of l.view);
  lowers : Lowers l.initial.marked.octets (held_in l.initial.marked.entries.slots l.fn.entries.count) (held_in l.marked.entries.slots l.fn.entries.count) l.marked.octets;
}
