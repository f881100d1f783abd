-- An input that is fed in blocks of any sizes, into an output of any room before each call, says its listing; and how much of that was written
-- tells how many lines were answered.
-- Assumes nothing.
use Rattle.program_lines.specs.Feeding.{CallsAnswer}
use Rattle.program_lines.proofs.Blocks.{calls_answer}
use Rattle.program_lines.proofs.Fronts.{lines_count}
use Rattle.lister_answers.proofs.OneLine.{line_line}
use Rattle.lister_lines.specs.Listing.{lister, ListingCounts}
use Rattle.lister_lines.proofs.Kept.{line_tells}

-- Whatever the blocks and the rooms were, what was said and the last line's answer are the listing of the input.
pub calls_list : CallsAnswer lister
calls_list = calls_answer lister line_tells

-- Each answer is a line, and a front of the listing is the answers to as many lines as it has line feeds, and a part of the next one.
pub listing_counts : ListingCounts
listing_counts = lines_count lister (λ s l. line_line l)
