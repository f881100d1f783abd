-- What a caller can rely on: a call takes something, and its answers fit. The run goes by the laws of any program today; these stand.
-- Assumes nothing.
use Rattle.std.proofs.Common.{◌≡◌, ℕ, ◌+◌, ◌-◌, ◌≤◌, ◌<◌, List, length, take, ap, arith}
use Rattle.lister_text.specs.declared.Output.{Output}
use Rattle.program_lines.specs.declared.Line.{Line}
use Rattle.program_lines.specs.Feeding.{Left, left_by, rest_into}
use Rattle.program_lines.proofs.Feeds.{said_fits, takes_some}
use Rattle.lister_answers.specs.Answers.{most_text}
use Rattle.lister_answers.proofs.Bound.{line_most}
use Rattle.lister_lines.specs.Listing.{lister}

-- what a caller of `feed` learns: with room and octets it takes some, and its answers lie within the output
pub record Goes (block out : List ℕ) (taken at : ℕ) : Type 0 where
  pub some : 0 < taken
  pub most : taken ≤ length block
  pub within : at ≤ length out

pub goes : {N : ℕ} (block : List ℕ) (line line' : Line N) (out out' : Output) (taken : ℕ) → left_by taken line' tt out' ≡ rest_into lister (length block) tt line block out
    → out.at + most_text ≤ length out.octets.now → 0 < length block → Goes block out.octets.now taken out'.at
goes block line line' out out' taken e room some =
    let d = out.octets.now in
    let held = take line.held line.octets in
    let took = takes_some lister block held d tt out.at e room some in
    let place = ap (λ (x : Left Unit). x.at) e in
    let fits = said_fits lister (λ s l. line_most l) (length d - out.at) tt held block in
    record { some = took.0; most = took.1; within = omega (arith, place, fits) }
