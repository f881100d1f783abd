-- `status`: the frame lies within the room. Assumes nothing.
use Rattle.std.proofs.Common.{◌≡◌, ℕ, min, List, ◌++◌, take, drop, replicate, sym, ◌∙◌, ap, subst, arith, length-take}
use Rattle.frame_layout.specs.Frames.{Within}
use Rattle.refusal.specs.Numbers.{number_of}
use Rattle.bearer.specs.Keeper.{Keeper, Reported, status as status_of}
use Rattle.bearer.proofs.Answers.Reported.{left_report}
use Rattle.keeper_state.specs.Lent.{keeper_of}
use Rattle.keeper.specs.View.{reported_as}
use Rattle.replay_calls.specs.declared.StatusCall.{StatusCall}
use Rattle.replay_calls.specs.Calls.{most_room}
use Rattle.replay_answers.specs.Answers.{most_frame, frame_fields, refused_fields}
use Rattle.replay_ends.specs.Steps.{reporting}
use Rattle.replay_ends.proofs.Steps.{plays_shown}
use Rattle.replay_keeper.proofs.Reporting.{room_empty, frame_whole}
use Rattle.replay_keeper.proofs.status.Goals as goal

-- what a status leaves of an empty buffer of so much room, as the call says
abbrev reports : Keeper → StatusCall → Reported
reports k s = status_of k s.desired s.minimum s.last (replicate (min s.room most_room) 0)

-- the room is at the front of an empty buffer
told_of : (k : Keeper) (s : StatusCall) (n : ℕ) (r : Reported) → n ≡ min s.room 2048 → r ≡ status_of k s.desired s.minimum s.last (take n (replicate 2048 0)) → r ≡ reports k s
told_of k s n r is told = told ∙ rw is (ap (λ (room : List ℕ). status_of k s.desired s.minimum s.last room) (room_empty (min s.room 2048) 2048 (omega arith)))

pub returns-in-Ok-clause-plays : goal.returns-in-Ok-clause-plays
returns-in-Ok-clause-plays c =
    let s = c.args.s in
    let k = keeper_of c.args.state.now in
    let n = c.in-Ok.n in
    let dst = c.status.new.dst in
    let told : reported_as c.status.result (keeper_of c.status.new.state) dst ≡ reports k s = told_of k s c.min-room.result _ c.min-room.ensures c.status.ensures.dst_after in
    let left = rw c.in-Ok.is at told in
    let within = subst (λ (x : Reported). Within x.buffer x.answer) (sym left) (left_report k s.desired s.minimum s.last (replicate (min s.room most_room) 0)) in
    let front : c.front.result.now ≡ take n (dst ++ drop c.min-room.result (replicate 2048 0)) = c.front.ensures in
    let whole = ap (take most_frame) front ∙ frame_whole n dst (drop c.min-room.result (replicate 2048 0)) within (omega (arith, c.status.auto.dst, length-take {A = ℕ} c.min-room.result (replicate 2048 0), c.min-room.ensures)) in
    plays_shown (frame_fields (take n dst)) (ap reporting left) (rw whole at c.lay_frame.ensures)

pub returns-in-Err-clause-plays : goal.returns-in-Err-clause-plays
returns-in-Err-clause-plays c =
    let s = c.args.s in
    let k = keeper_of c.args.state.now in
    let told : reported_as c.status.result (keeper_of c.status.new.state) c.status.new.dst ≡ reports k s = told_of k s c.min-room.result _ c.min-room.ensures c.status.ensures.dst_after in
    plays_shown (refused_fields (number_of c.in-Err.refusal)) (ap reporting (rw c.in-Err.is at told)) (rw c.from.ensures at c.lay_answer.ensures)
