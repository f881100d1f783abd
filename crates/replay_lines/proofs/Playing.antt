-- A line played into an output is answered as the script has it.
-- Assumes nothing.
use Rattle.std.proofs.Common.{◌≡◌, ℕ, ◌+◌, List, length, replicate, ap, ◌∙◌, le-leb}
use Rattle.std.specs.Prelude.{leb, if◌then◌else◌}
use Rattle.std.proofs.lemmas.List.{length-replicate}
use Rattle.frame_layout.specs.Frames.{most_octets}
use Rattle.lister_text.specs.declared.Output.{Output}
use Rattle.lister_text.specs.Outputs.{HasRoom}
use Rattle.program_lines.specs.Feeding.{Said}
use Rattle.replay_calls.specs.Calls.{read_call, frame_after}
use Rattle.replay_states.specs.Lines.{most_text}
use Rattle.replay_ends.specs.Steps.{Step}
use Rattle.replay_ends.specs.Playing.{Ends, Played, laying, play_into, PlaysInto}
use Rattle.replay_lines.specs.Scripts.{frame_in, play_line, replaying}
use Rattle.replay_lines.proofs.Frames.{frames_alike}

-- whatever an earlier line left in the frame's buffer
pub frame_plays : {e e' : Ends} {o p : Output} (l frame : List ℕ) → length frame ≡ most_octets → PlaysInto e (read_call l) (frame_after l frame) o e' p
    → PlaysInto e (read_call l) (frame_in l) o e' p
unfolding play_into
frame_plays {e} {e'} {o} {p} l frame size x =
    let same = frames_alike e frame (replicate most_octets 0) size (length-replicate {A = ℕ} most_octets 0) l in
    record {
      loan = x.loan;
      after = x.after ∙ ap (λ (s : Step Ends). if leb (o.at + most_text) (length o.octets.now) then laying s o.octets.now o.at else record { ends = e; out = o.octets.now; at = o.at }) same;
      within = x.within;
    }

-- with room, what was played is what the line says
room_plays : {e e' : Ends} {o p : Output} (l : List ℕ) → HasRoom o most_text → PlaysInto e (read_call l) (frame_in l) o e' p
    → ◌≡◌ {A = Played} (record { ends = e'; out = p.octets.now; at = p.at }) (laying (play_line e l) o.octets.now o.at)
unfolding play_line play_into
room_plays {e} {e'} {o} {p} l room x = rw (le-leb (o.at + most_text) (length o.octets.now) room) at x.after

pub line_said : {e e' : Ends} {o p : Output} (l : List ℕ) → PlaysInto e (read_call l) (frame_in l) o e' p → Said replaying e l o e' p
line_said l x = record {
  loan = x.loan;
  lays = λ room.
      let all = room_plays l room x in
      record { loan = x.loan; laid = record { behind = ap (λ (y : Played). y.at) all; buffer = ap (λ (y : Played). y.out) all } };
  next = λ room. ap (λ (y : Played). y.ends) (room_plays l room x);
  within = x.within;
}
