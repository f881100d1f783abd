-- `put_named`: so many numbers are laid. Assumes nothing.
use Rattle.std.proofs.Common.{◌+◌, ◌*◌, ◌∷◌, length, take}
use Rattle.replay_parts.specs.Parts.{tabbed, Parts}
use Rattle.replay_parts.proofs.put_named.Given as goal

abbrev pub invariant-loop-n : goal.invariant-loop-n
invariant-loop-n l = Parts l.fn.out (l.name ∷ tabbed (take l.n-index l.numbers)) l.out (length l.name + l.n-index * 11)
