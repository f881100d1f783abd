-- `put_octets`: before each turn so many octets are laid. Assumes nothing.
use Rattle.std.proofs.Common.{◌*◌, take}
use Rattle.replay_parts.specs.Parts.{Puts}
use Rattle.replay_answers.specs.Answers.{hex_text}
use Rattle.replay_answers.proofs.put_octets.Given as goal

abbrev pub invariant-loop-octet : goal.invariant-loop-octet
invariant-loop-octet l = Puts l.fn.out (hex_text (take l.octet-index l.octets)) l.out (l.octet-index * 2)
