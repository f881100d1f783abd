-- What the writer's answers mean in document 01's words.
-- Assumes nothing.
use Rattle.std.specs.Prelude.{List, ℕ, Result}
use Rattle.frame_layout.specs.Frames.{Range, Status, Written}
use Rattle.refusal.specs.declared.Refusal.{Refusal}
use Rattle.refusal.specs.Numbers.{answer_of}
use Rattle.frame_writer.specs.declared.Head.{Head}

-- what a call leaves: how many octets were written, or the number of the refusal, and the buffer
abbrev pub left : Result ℕ Refusal → List ℕ → Written
left r d = record { answer = answer_of (λ n. n) r; buffer = d }

-- the status that a head and ranges say
abbrev pub head_status : Head → List Range → Status
head_status h rs = record {
  long = h.long;
  final = h.last;
  highest = h.highest;
  desired = h.desired;
  minimum = h.minimum;
  ranges = rs;
}
