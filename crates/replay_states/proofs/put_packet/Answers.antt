-- `put_packet`: its parts one behind another. Assumes nothing.
use Rattle.replay_parts.proofs.Putting.{puts_parts, puts_octet, puts_then}
use Rattle.replay_states.proofs.put_packet.Goals as goal

pub returns : goal.returns
returns c =
    puts_then (puts_parts c.put_behind.ensures)
    (puts_then (puts_parts c.put_behind-2.ensures) (puts_then (puts_octet c.octet.ensures) (puts_octet c.octet-2.ensures)))
