-- `play_open`: both ends opened, where there is room for the line. Assumes nothing.
use Rattle.std.proofs.Common.{sym, ◌∙◌}
use Rattle.std.specs.Prelude.{Some}
use Rattle.replay_answers.specs.Answers.{answer_fields, answer_by}
use Rattle.replay_calls.specs.declared.Call.TheVariants.{Open}
use Rattle.replay_ends.proofs.Steps.{into_room, into_full, plays_shown}
use Rattle.replay_ends.proofs.play_open.Goals as goal

pub returns-then-has_room-clause-plays : goal.returns-then-has_room-clause-plays
returns-then-has_room-clause-plays c =
    let opened = plays_shown (answer_fields (answer_by c.open_both-answer.result)) c.open_both-answer.ensures.opens (rw c.from.ensures at c.lay_answer.ensures) in
    λ frame. into_room _ (Some (Open c.args.o)) frame (sym c.has_room.ensures ∙ c.if-has_room.true) opened

pub returns-else-has_room-clause-plays : goal.returns-else-has_room-clause-plays
returns-else-has_room-clause-plays c = λ frame. into_full _ _ (Some (Open c.args.o)) frame (sym c.has_room.ensures ∙ c.if-has_room.false)
