-- `line_feeds`: the line feeds of a part and of what is behind it are all. Assumes nothing.
use Rattle.std.proofs.Common.{◌≡◌, ℕ, ◌+◌, ◌≤◌, eqb, List, [], ◌∷◌, ◌++◌, length, ap, ◌∙◌, arith, length-append}
use Rattle.std.specs.Slice.Iter.{chunks_rest}
use Rattle.lister_text.specs.Texts.{line_feed, line_feeds}
use Rattle.program_io.proofs.Feeds.{bit_most}
use Rattle.program_io.proofs.line_feeds.Goals as goal

-- the line feeds of a front and of what is behind it are all
feeds_part : (xs ys : List ℕ) → line_feeds (xs ++ ys) ≡ line_feeds xs + line_feeds ys
feeds_part [] ys = omega arith
feeds_part (x ∷ xs) ys = omega (arith, feeds_part xs ys)

-- there are no more than octets
feeds_most : (xs : List ℕ) → line_feeds xs ≤ length xs
feeds_most [] = omega arith
feeds_most (x ∷ xs) = omega (arith, feeds_most xs, bit_most (eqb x line_feed))

pub loop-part-preserved : goal.loop-part-preserved
loop-part-preserved c =
    let i = c.loop-part.invariant in
    let step = c.in-Some.ensures.steps in
    let part = c.in-Some.part.now in
    let behind = chunks_rest c.next.new.self in
    let counted = c.from-n.ensures ∙ c.feeds_in.ensures in (
      step.0 ∙ i.0,
      omega (arith, counted, feeds_most part, ap length step.1.0, length-append part behind, i.1),
      omega (arith, counted, ap line_feeds step.1.0, feeds_part part behind, i.2),
    )
