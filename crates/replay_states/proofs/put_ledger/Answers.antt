-- `put_ledger`: its fields one behind another. Assumes nothing.
use Rattle.std.proofs.Common.{◌≡◌, [], ◌∷◌, arith, rules}
use Rattle.std.specs.Prelude.{map}
use Rattle.std.proofs.lemmas.Iterator.{YieldsList-from_slice}
use Rattle.std.proofs.lemmas.Iterator.Consumers.{YieldsList-from_copied}
use Rattle.basics.specs.Basics.{bit}
use Rattle.ledger_entries.specs.View.{entries_of}
use Rattle.lister_text.specs.Texts.{ascii, decimal, joined}
use Rattle.replay_parts.proofs.Putting.{puts_named, puts_field, puts_most}
use Rattle.replay_states.specs.Lines.{most_fields}
use Rattle.replay_states.specs.States.{entry_text}
use Rattle.replay_states.proofs.Elements.{entries_listed, entries_few}
use Rattle.replay_states.proofs.put_ledger.Goals as goal

pub returns : goal.returns
returns c =
    let l = c.args.ledger.now in
    let es = c.held.result.now in
    let closed : c.from.result ≡ bit l.closed = search rules in
    let words = rw closed at (puts_named (ascii "ledger") (l.next ∷ l.highest ∷ l.sent ∷ c.from.result ∷ l.desired ∷ l.minimum ∷ l.octets ∷ []) c.put_named.ensures) in
    let listed = rw (entries_listed es, c.held.ensures) at (c.put_listed.ensures.puts es (YieldsList-from_copied (YieldsList-from_slice es cc))) in
    puts_most most_fields (omega (arith, entries_few es l.entries c.held.ensures))
    (puts_field (ascii "ledger")
    (decimal l.next ∷ decimal l.highest ∷ decimal l.sent ∷ decimal (bit l.closed) ∷ decimal l.desired ∷ decimal l.minimum ∷ decimal l.octets ∷ [])
    (joined (map entry_text (entries_of l.entries))) words listed)
