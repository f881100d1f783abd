-- `Point::list_gaps`: the runs written so far, with those of the gaps that are left, are the runs of all. Assumes nothing.
use Rattle.std.proofs.Common.{◌≡◌, List}
use Rattle.std.proofs.lemmas.List.Edits.{sets}
use Rattle.circle.specs.Lengths.{modulus}
use Rattle.frame_layout.specs.Frames.{starts_of, ends_of}
use Rattle.bearer.specs.Losses.{Gap, offsets, gaps, runs_of}
use Rattle.keeper_loss.specs.Tally.{gaps_left}
use Rattle.keeper_loss.proofs.Point.list_gaps.Given as goal

abbrev pub invariant-loop-slot : goal.invariant-loop-slot
invariant-loop-slot l =
    let all : List Gap = gaps 0 l.limit (offsets (modulus l.self.long) l.self.at l.numbers) in
    let left : List Gap = gaps_left l.slot-iterator.iter in
    record {
      starts : sets l.starts l.slot-iterator.count (starts_of (runs_of (modulus l.self.long) l.self.at left)) ≡ sets l.initial.starts 0 (starts_of (runs_of (modulus l.self.long) l.self.at all));
      ends : sets l.ends l.slot-iterator.count (ends_of (runs_of (modulus l.self.long) l.self.at left)) ≡ sets l.initial.ends 0 (ends_of (runs_of (modulus l.self.long) l.self.at all));
    }
