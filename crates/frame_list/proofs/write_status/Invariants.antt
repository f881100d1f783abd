-- A status over a lent list. The invariant: the numbers of the ranges before i are copied. Assumes nothing.
use Rattle.std.proofs.Common.{◌≡◌, length, take, map}
use Rattle.frame_list.proofs.write_status.Given as goal

abbrev pub invariant-loop-i : goal.invariant-loop-i
invariant-loop-i l = record {
  starts_long : length l.starts ≡ 163;
  ends_long : length l.ends ≡ 163;
  starts_copied : take l.i l.starts ≡ map (λ r. r.start) (take l.i l.ranges);
  ends_copied : take l.i l.ends ≡ map (λ r. r.end) (take l.i l.ranges);
}
