-- `digit`: the three runs of characters, each where the one before it leaves off. Assumes nothing.
use Rattle.std.proofs.Common.{rules}
use Rattle.lister_text.specs.Hexadecimal.{digit_of}
use Rattle.lister_text.proofs.digit.Goals as goal

pub returns : goal.returns
unfolding digit_of
returns c = search rules
