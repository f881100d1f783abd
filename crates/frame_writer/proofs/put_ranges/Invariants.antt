-- All ranges. The invariant: laying those that are left at the place reached is laying all of them at the first place.
-- Assumes nothing.
use Rattle.std.proofs.Common.{ℕ, List, length}
use Rattle.basics.specs.Laid.{Room, Laid}
use Rattle.frame_layout.specs.Frames.{width, ranges_of, range_octets}
use Rattle.frame_writer.proofs.put_ranges.Given as goal

abbrev pub invariant-loop-start : goal.invariant-loop-start
invariant-loop-start l = record {
  room : Room l.dst l.at (length (range_octets (width l.long) (ranges_of l.start-iterator.a.rest.now l.start-iterator.b.rest.now)));
  laid : (next : ℕ) (e : List ℕ) → Laid l.dst l.at (range_octets (width l.long) (ranges_of l.start-iterator.a.rest.now l.start-iterator.b.rest.now)) next e
      → Laid l.initial.dst l.fn.at (range_octets (width l.long) (ranges_of l.starts l.ends)) next e;
}
