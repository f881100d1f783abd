-- What is held of a line answers for the whole of it.
-- Assumes nothing.
use Rattle.std.proofs.Common.{refl}
use Rattle.program_lines.specs.Feeding.{FrontTells}
use Rattle.lister_answers.proofs.Kept.{line_kept}
use Rattle.lister_lines.specs.Listing.{lister}

pub line_tells : FrontTells lister
line_tells = record { next = λ s l. refl; answer = λ s l. line_kept l }
