-- `put_named`: each turn lays the next number behind its tab. Assumes nothing.
use Rattle.std.proofs.Common.{◌≡◌, ◌+◌, ◌*◌, ◌∷◌, [], ◌++◌, length, take, arith, add-one}
use Rattle.std.specs.Prelude.{slice_index}
use Rattle.std.proofs.Math.Seq.{take-suc}
use Rattle.replay_parts.specs.Parts.{tabbed}
use Rattle.replay_parts.proofs.Putting.{tabbed_append, parts_then, parts_most}
use Rattle.replay_parts.proofs.put_named.Goals as goal

pub loop-n-preserved : goal.loop-n-preserved
loop-n-preserved c =
    let l = c.loop-n in
    let ns = c.args.numbers.now in
    let one : tabbed (take (l.n-index + 1) ns) ≡ tabbed (take l.n-index ns) ++ tabbed (slice_index ns l.n-index ∷ [])
    = rw (add-one l.n-index, take-suc ns l.n-index 0 c.loop-n-test.true) (tabbed_append (take l.n-index ns) (slice_index ns l.n-index ∷ [])) in
    rw one (parts_most (length c.args.name.now + (l.n-index + 1) * 11) (omega arith) (parts_then l.invariant c.put_behind.ensures))
