-- `answer`: where there is room for any answer, the whole of it is laid. Assumes nothing.
use Rattle.std.proofs.Common.{◌-◌, length, refl, arith, le-leb}
use Rattle.lister_answers.specs.Answers.{most_text}
use Rattle.lister_lines.proofs.Within.{line_within}
use Rattle.lister_lines.proofs.ListerAnswersLinesMOST_HELD.answer.Goals as goal

pub returns : goal.returns
returns c =
    let out = c.args.out.now in
    let laid = c.answer.ensures.laid in
    record {
      loan = laid.loan;
      lays = λ room. rw (le-leb most_text (length out.octets.now - out.at) (omega (arith, room))) at laid;
      next = λ room. refl;
      within = line_within c.args.line.now laid;
    }
