-- What is held of a line tells what it leaves, and its answer: a law of the program, which may cite no proof of its own crate.
-- Assumes nothing.
use Rattle.std.proofs.Common.{◌≡◌, List, ℕ, ap}
use Rattle.std.specs.Prelude.{Option}
use Rattle.lister_text.proofs.Holding.{front_answers}
use Rattle.program_lines.specs.Feeding.{kept, FrontTells}
use Rattle.replay_calls.specs.Calls.{read_call}
use Rattle.replay_calls.specs.Bound.{most_line}
use Rattle.replay_calls.specs.declared.Call.{Call}
use Rattle.replay_calls.proofs.Bound.{too_long}
use Rattle.replay_answers.specs.declared.Answer as A
use Rattle.replay_ends.specs.Steps.{Step, answered}
use Rattle.replay_ends.specs.Playing.{Ends, play}
use Rattle.replay_lines.specs.Scripts.{frame_in, play_line, replaying}

pub line_kept : (e : Ends) (l : List ℕ) → play_line e (kept replaying l) ≡ play_line e l
unfolding play_line
line_kept e =
    front_answers (λ (l : List ℕ). play e (read_call l) (frame_in l)) (answered e A.TheVariants.Unreadable) most_line
    (λ l h. ap (λ (c : Option Call). play e c (frame_in l)) (too_long l h))

pub line_tells : FrontTells replaying
line_tells = record {
  next = λ e l. ap (λ (s : Step Ends). s.state) (line_kept e l);
  answer = λ e l. ap (λ (s : Step Ends). s.line) (line_kept e l);
}
