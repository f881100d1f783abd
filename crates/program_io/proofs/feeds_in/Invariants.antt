-- `feeds_in`: what is counted, with the line feeds of what is left, is all of them. Assumes nothing.
use Rattle.std.proofs.Common.{◌≡◌, ◌+◌, ◌≤◌, drop}
use Rattle.lister_text.specs.Texts.{line_feeds}
use Rattle.program_io.proofs.feeds_in.Given as goal

abbrev pub invariant-loop-c : goal.invariant-loop-c
invariant-loop-c l = (l.n ≤ l.c-index) × (l.n + line_feeds (drop l.c-index l.part) ≡ line_feeds l.part)
