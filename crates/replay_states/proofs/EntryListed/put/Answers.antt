-- `Entry.put`: the packet, and its size behind a colon. Assumes nothing.
use Rattle.std.proofs.Common.{◌≡◌, sym, ap, ◌∙◌}
use Rattle.ledger_entries.specs.View.{fate_in}
use Rattle.ledger_entries.specs.declared.Fate.{Fate}
use Rattle.replay_parts.proofs.Putting.{puts_parts, puts_then}
use Rattle.replay_states.specs.States.{fate_kind}
use Rattle.replay_states.proofs.EntryListed.put.Goals.{in-Waiting, in-Lost}
use Rattle.replay_states.proofs.EntryListed.put.Goals as goal

pub returns : goal.returns
returns c =
    let said = λ (f : Fate). fate_kind (fate_in f) in
    let kind : c.match-self.kind ≡ fate_kind (fate_in c.args.self.fate) = elim c.match-self.branch [
      | in-Waiting w ↦ w.kind-is ∙ sym (ap said w.in-Waiting.is)
      | in-Lost w ↦ w.kind-is ∙ sym (ap said w.in-Lost.is)
    ] in
    rw (kind, c.from.ensures) at (puts_then c.put_packet.ensures (puts_parts c.put_behind.ensures))
