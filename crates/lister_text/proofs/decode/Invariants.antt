-- `decode`: before each turn the octets of the pairs from there on are still to be laid, and no other character stands before it.
-- Assumes nothing.
use Rattle.std.proofs.Common.{◌≡◌, ◌*◌, drop}
use Rattle.basics.specs.Basics.{all}
use Rattle.basics.proofs.Laying.{Still}
use Rattle.lister_text.specs.Hexadecimal.{is_digit, octets_in}
use Rattle.lister_text.proofs.decode.Given as goal

abbrev pub invariant-loop-k : goal.invariant-loop-k
invariant-loop-k l =
    Still l.fn.frame 0 (octets_in l.line) l.frame l.k (octets_in (drop (2 * l.k) l.line)) × (all is_digit (drop (2 * l.k) l.line) ≡ all is_digit l.line)
