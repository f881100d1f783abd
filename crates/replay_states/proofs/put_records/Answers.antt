-- `put_records`: they are listed as the arrays have them, side by side. Assumes nothing.
use Rattle.std.proofs.Common.{arith, rules, tests}
use Rattle.std.specs.Prelude.{map}
use Rattle.std.specs.List.{zip}
use Rattle.std.proofs.lemmas.Iterator.{YieldsList-from_slice, YieldsList-from_zip, YieldsList-from_map}
use Rattle.std.proofs.lemmas.Iterator.Consumers.{YieldsList-at}
use Rattle.replay_parts.proofs.Putting.{puts_most}
use Rattle.replay_states.proofs.Elements.{record_of, records_listed, records_few}
use Rattle.replay_states.proofs.put_records.Goals as goal

pub returns : goal.returns
returns c =
    let ns = c.args.numbers.now in
    let ps = c.args.pdcps.now in
    let cs = c.args.marks.now in
    let records = c.put_listed.ensures.puts (map record_of (zip (zip ns ps) cs))
    (YieldsList-from_map _ record_of
    (YieldsList-at c.map.ensures.source (YieldsList-from_zip (YieldsList-at c.zip-records.ensures.first (YieldsList-from_zip (YieldsList-from_slice ns cc) (YieldsList-from_slice ps cc))) (YieldsList-from_slice cs cc)))
    c.map.ensures.closure (λ x r q k. search (rules, tests))) in
    puts_most _ (omega (arith, records_few ns ps cs)) (rw (records_listed ns ps cs) at records)
