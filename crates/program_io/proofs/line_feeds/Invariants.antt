-- `line_feeds`: part by part; what is counted, with the line feeds of what is left, is all of them. Assumes nothing.
use Rattle.std.proofs.Common.{◌≡◌, ◌+◌, ◌≤◌, length}
use Rattle.std.specs.Slice.Iter.{chunks_rest, chunks_size}
use Rattle.lister_text.specs.Texts.{line_feeds}
use Rattle.program_io.proofs.line_feeds.Given as goal

abbrev pub invariant-loop-part : goal.invariant-loop-part
invariant-loop-part l =
    (chunks_size l.part-iterator ≡ 224) × (l.n + length (chunks_rest l.part-iterator) ≤ length l.octets) × (l.n + line_feeds (chunks_rest l.part-iterator) ≡ line_feeds l.octets)
