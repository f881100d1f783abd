-- What a script prints: each of its lines says a call, which is played on the ends that the calls before it leave, and its answer is
-- printed.
-- Assumes nothing.
use Rattle.std.specs.Prelude.{◌≡◌, false, List, ℕ, replicate}
use Rattle.frame_layout.specs.Frames.{most_octets}
use Rattle.program_lines.specs.Lines.{Answering, lines_of, answers, LinesCount}
use Rattle.program_lines.specs.Feeding.{CallsAnswer}
use Rattle.replay_calls.specs.Calls.{read_call, frame_after}
use Rattle.replay_calls.specs.Bound.{most_line}
use Rattle.replay_states.specs.Lines.{most_text}
use Rattle.replay_ends.specs.Steps.{Step}
use Rattle.replay_ends.specs.Playing.{Ends, play}

-- the frame that a line's digits say, in an empty buffer
abbrev pub frame_in : List ℕ → List ℕ
frame_in l = frame_after l (replicate most_octets 0)

-- what a line leaves of both ends, and the line that answers it
unfoldable pub play_line : Ends → List ℕ → Step Ends
play_line e l = play e (read_call l) (frame_in l)

-- lines played one after another: no line longer than the longest call is one, and no answer is longer than the room for any
abbrev pub replaying : Answering Ends
replaying = record {
  next = λ (e : Ends) (l : List ℕ). (play_line e l).state;
  answer = λ (e : Ends) (l : List ℕ). (play_line e l).line;
  most_line = most_line;
  most_text = most_text;
}

-- all that a script prints, from such ends on
abbrev pub printed : Ends → List ℕ → List ℕ
printed e script = answers replaying e (lines_of script)

-- ---- the statements, proved in proofs/Blocks.antt

-- A script that is fed in blocks of any sizes, into an output of any room, prints that.
abbrev pub ScriptsPlay : Type 0
ScriptsPlay = CallsAnswer replaying

-- Each line is answered by one, so where a front of it was written, as many lines were answered as that has line feeds.
abbrev pub ScriptsCount : Type 0
ScriptsCount = LinesCount replaying

-- What ends hold that are not opened changes nothing of it.
abbrev pub UnopenedPrint : Type 0
UnopenedPrint = (e f : Ends) (script : List ℕ) → e.opened ≡ false → f.opened ≡ false → printed e script ≡ printed f script
