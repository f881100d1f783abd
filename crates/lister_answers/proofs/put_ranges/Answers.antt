-- `put_ranges`: the first range, and the others behind it, each with a comma. Assumes nothing.
use Rattle.std.proofs.Common.{◌≡◌, [], ◌∷◌, ◌++◌, ap, ◌∙◌}
use Rattle.frame_layout.specs.Types.{range_of}
use Rattle.frame_view.specs.Views.{ahead_of}
use Rattle.lister_text.specs.Texts.{ascii, comma, range_text, ranges_text}
use Rattle.lister_text.proofs.Laying.{puts_text, puts_then}
use Rattle.lister_answers.proofs.Texts.{more_text, ranges_text_lem}
use Rattle.lister_answers.proofs.Putting.{Leaves, leaves_all, leaves_on, leaves_none}
use Rattle.lister_answers.proofs.put_ranges.Goals as goal

pub returns-in_default : goal.returns-in_default
returns-in_default c = rw c.in_default.ensures.steps.0 (puts_text (ascii "none") c.text.ensures)

pub loop-range-init : goal.loop-range-init
loop-range-init c =
    let o = c.args.out.now in
    let rest = ahead_of c.next.new.self in
    let first = range_of c.in-Some.first in
    let whole : ranges_text (ahead_of c.args.ranges) ≡ range_text first ++ more_text rest = ap ranges_text c.in-Some.ensures.steps ∙ ranges_text_lem first rest in
    let start : Leaves o (ranges_text (ahead_of c.args.ranges)) o (range_text first ++ more_text rest) = rw whole (leaves_all o (range_text first ++ more_text rest)) in
    rw c.into_iter-range-iterator.ensures.into_iter_gives (leaves_on start c.put_range.ensures)

pub loop-range-preserved : goal.loop-range-preserved
loop-range-preserved c =
    leaves_on (rw c.in-Some-range.ensures.steps at c.loop-range.invariant) (puts_then (puts_text (comma ∷ []) c.octet.ensures) c.put_range-in-loop-range.ensures)

pub returns : goal.returns
returns c = leaves_none (rw c.in-None.ensures.steps.0 at c.loop-range.invariant)
