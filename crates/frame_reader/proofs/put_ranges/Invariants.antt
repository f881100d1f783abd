-- `put_ranges`: what is laid so far, with the ranges that are left laid behind it, is all of them laid. Assumes nothing.
use Rattle.std.proofs.Common.{◌≡◌, ◌+◌, ◌-◌, ◌*◌}
use Rattle.std.proofs.lemmas.List.Edits.{sets}
use Rattle.frame_layout.specs.Frames.{width, starts_of, ends_of, ranges_at}
use Rattle.frame_reader.proofs.put_ranges.Given as goal

abbrev pub invariant-loop-i : goal.invariant-loop-i
invariant-loop-i l = record {
  starts_laid : sets l.starts l.i (starts_of (ranges_at l.frame (width l.at.long) (l.at.place + l.i * l.size) (l.count - l.i)))
      ≡ sets l.initial.starts 0 (starts_of (ranges_at l.frame (width l.at.long) l.at.place l.count));
  ends_laid : sets l.ends l.i (ends_of (ranges_at l.frame (width l.at.long) (l.at.place + l.i * l.size) (l.count - l.i)))
      ≡ sets l.initial.ends 0 (ends_of (ranges_at l.frame (width l.at.long) l.at.place l.count));
}
