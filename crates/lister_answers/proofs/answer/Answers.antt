-- `answer`: with room for any answer there is room for this one, which the decoded line's frame has. Assumes nothing.
use Rattle.std.proofs.Common.{◌≡◌, ℕ, ◌-◌, true, List, length, take, sym, ap, ◌∙◌, arith, leb-true}
use Rattle.frame_layout.specs.Frames.{read_frame}
use Rattle.lister_text.specs.Texts.{ascii}
use Rattle.lister_text.specs.Outputs.{HasRoom}
use Rattle.lister_text.proofs.Laying.{puts_text}
use Rattle.lister_answers.specs.Answers.{answer_to, line_of, most_text, roomy}
use Rattle.lister_answers.proofs.Bound.{line_most}
use Rattle.lister_answers.proofs.Decoding.{says_octets, front_octets, line_read, line_unread}
use Rattle.lister_answers.proofs.answer.Goals as goal
use Rattle.lister_answers.proofs.answer.Goals.{After-decode}

-- behind the test there is room for any answer
room : (c : After-decode) → roomy (length c.args.out.now.octets.now - c.args.out.now.at) ≡ true
room c = sym c.has_room.ensures ∙ c.if-not-has_room.false

-- and for this one
room_line : (c : After-decode) → HasRoom c.args.out.now (length (line_of c.args.line.now))
room_line c =
    let o = c.args.out.now in
    omega (arith, leb-true most_text (length o.octets.now - o.at) (room c), line_most c.args.line.now)

-- the line says octets, which stand at the front of the buffer, and their answer is the line's
pub returns-in-Some-clause-laid : goal.returns-in-Some-clause-laid
returns-in-Some-clause-laid c =
    let a = c.args in
    let k = goal.at.returns-in-Some-clause-laid c in
    let p = says_octets a.line.now c.in-Some.n (sym c.decode.ensures.0 ∙ c.in-Some.is) in
    let at_front = front_octets a.line.now a.frame.now c.decode.new.frame c.decode.ensures.1 c.decode.array_long p.0 in
    let front : answer_to (read_frame c.front.result.now) ≡ line_of a.line.now
    = ap (λ (o : List ℕ). answer_to (read_frame o)) (c.front.ensures ∙ ap (λ (n : ℕ). take n c.decode.new.frame) p.1 ∙ at_front) ∙ sym (line_read a.line.now p.0) in
    rw (room k.After-decode) ((rw front at c.put_frame.ensures).lays (room_line k.After-decode))

-- or it says none
pub returns-in-None-clause-laid : goal.returns-in-None-clause-laid
returns-in-None-clause-laid c =
    let k = goal.at.returns-in-None-clause-laid c in
    let none = line_unread c.args.line.now (sym c.decode.ensures.0 ∙ c.in-None.is) in
    rw (room k.After-decode, none) ((puts_text (ascii "unreadable\n") c.text.ensures).lays (rw none at (room_line k.After-decode)))
