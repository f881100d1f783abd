-- `feed_line`: a line feed ends the unfinished line and what stands before it, which are answered; a block without one is held.
-- Assumes nothing.
use Rattle.std.proofs.Common.{◌≡◌, ℕ, ◌+◌, ◌-◌, ◌≤◌, ◌<◌, true, List, ◌++◌, length, take, refl, sym, ◌∙◌, ap, arith, length-take, length-take-le, le-leb, rules}
use Rattle.std.proofs.Math.Seq.{drop-length}
use Rattle.lister_text.specs.Texts.{unended, FeedAt}
use Rattle.lister_text.specs.Outputs.{HasRoom}
use Rattle.lister_text.specs.declared.Output.{Output}
use Rattle.program_lines.specs.declared.Line.{Line}
use Rattle.program_lines.specs.Lines.{Answering}
use Rattle.program_lines.specs.Feeding.{most_held, kept, room_for, Laws, Said, Onward}
use Rattle.program_lines.proofs.Feeds.{holds_on, answers_on}
use Rattle.program_lines.proofs.feed_line.Goals as goal

-- what a line's buffer holds
abbrev held_of : {N : ℕ} → Line N → List ℕ
held_of line = take line.held line.octets

module _ {S : Type 0} {N most : ℕ} (p : Answering S) (laws : Laws p N most) (s : S) (line : Line N) (size : length line.octets ≡ N) (block : List ℕ) (out : Output)
    (room : HasRoom out p.most_text) where
  has_room : room_for p (length out.octets.now - out.at) ≡ true
  has_room = le-leb p.most_text (length out.octets.now - out.at) (omega arith)

  few_held : length (held_of line) ≤ most_held p
  few_held = omega (arith, length-take line.held line.octets, laws.few)

  -- no line feed: the block is held
  held_block : (line' : Line N) → unended block ≡ true → 0 < length block → line'.held ≤ length line'.octets → held_of line' ≡ take N (held_of line ++ block)
      → Onward p s line block out (length block) s line' out
  held_block line' plain some within is =
      let kept_is : held_of line' ≡ kept p (held_of line ++ block) = is ∙ ap (λ (n : ℕ). take n (held_of line ++ block)) (sym laws.few) in
      record {
        loan = refl;
        same = λ n. rw (kept_is, drop-length block) (holds_on p block (held_of line) out.octets.now s out.at few_held has_room plain n);
        some = some;
        part = omega arith;
        few = omega (arith, length-take-le line'.held line'.octets within, ap length is, length-take N (held_of line ++ block));
        within = within;
        inside = λ h. h;
      }

  -- a line feed: the answer to the line that it ends is laid
  answered_line : {end : ℕ} → FeedAt block end → (x : List ℕ) (s' : S) (line' : Line N) (out' : Output) → Said p s x out s' out'
      → p.answer s x ≡ p.answer s (held_of line ++ take end block) → p.next s x ≡ p.next s (held_of line ++ take end block) → line'.held ≡ 0
      → Onward p s line block out (end + 1) s' line' out'
  answered_line {end} ends x s' line' out' said answers goes none =
      let lays = said.lays room in
      let part = ends.within in
      record {
        loan = lays.loan;
        same = λ n. rw none (answers_on p block (held_of line) out.octets.now s out.at few_held has_room laws.tells ends s' (said.next room ∙ goes) (rw answers at lays.laid) n);
        some = omega arith;
        part = omega arith;
        few = omega arith;
        within = omega arith;
        inside = said.within;
      }

pub returns-in_default : goal.returns-in_default
returns-in_default g c =
    let a = c.args in
    held_block g.A.AnswersLines.program g.met.A.AnswersLines.laws _ a.line.now (search rules) a.block.now a.out.now c.requires.1 c.hold.new.self c.in_default.ensures c.requires.0 c.hold.ensures.within c.hold.ensures.front

pub returns-then-line-eq0 : goal.returns-then-line-eq0
returns-then-line-eq0 g c =
    let a = c.args in
    let p = g.A.AnswersLines.program in
    let laws : Laws p _ _ = g.met.A.AnswersLines.laws in
    let none = c.if-line-eq0.true in
    let whole = take c.in-Some.end a.block.now in
    let kept_line : c.front.result.now ≡ kept p whole = c.front.ensures ∙ ap (λ (n : ℕ). take n whole) (sym laws.few) in
    answered_line p laws _ a.line.now (search rules) a.block.now a.out.now c.requires.1 c.in-Some.ensures c.front.result.now _ a.line.now c.answer.new.out c.answer.ensures
    (rw none (ap (p.answer _) kept_line ∙ laws.tells.answer _ whole)) (rw none (ap (p.next _) kept_line ∙ laws.tells.next _ whole)) none

pub returns : goal.returns
returns g c =
    let a = c.args in
    let p = g.A.AnswersLines.program in
    let laws : Laws p _ _ = g.met.A.AnswersLines.laws in
    let whole = take a.line.now.held a.line.now.octets ++ take c.in-Some.end a.block.now in
    let kept_line : c.held.result.now ≡ kept p whole = c.held.ensures ∙ c.hold-2.ensures.front ∙ ap (λ (n : ℕ). take n whole) (sym laws.few) in
    answered_line p laws _ a.line.now (search rules) a.block.now a.out.now c.requires.1 c.in-Some.ensures c.held.result.now _ (record { octets = c.hold-2.new.self.octets; held = 0 }) c.answer-2.new.out
    c.answer-2.ensures (ap (p.answer _) kept_line ∙ laws.tells.answer _ whole) (ap (p.next _) kept_line ∙ laws.tells.next _ whole) refl
