-- `put_runs`: they are listed as the arrays have them, side by side. Assumes nothing.
use Rattle.std.proofs.Common.{arith, rules, tests}
use Rattle.std.specs.Prelude.{map}
use Rattle.std.specs.List.{zip}
use Rattle.std.proofs.lemmas.Iterator.{YieldsList-from_slice, YieldsList-from_zip, YieldsList-from_map}
use Rattle.std.proofs.lemmas.Iterator.Consumers.{YieldsList-at}
use Rattle.replay_parts.proofs.Putting.{puts_most}
use Rattle.replay_states.proofs.Elements.{run_of, runs_listed, runs_few}
use Rattle.replay_states.proofs.put_runs.Goals as goal

pub returns : goal.returns
returns c =
    let ss = c.args.starts.now in
    let es = c.args.ends.now in
    let runs = c.put_listed.ensures.puts (map run_of (zip ss es))
    (YieldsList-from_map _ run_of (YieldsList-at c.map.ensures.source (YieldsList-from_zip (YieldsList-from_slice ss cc) (YieldsList-from_slice es cc))) c.map.ensures.closure (λ x r q k. search (rules, tests))) in
    puts_most _ (omega (arith, runs_few ss es)) (rw (runs_listed ss es) at runs)
