-- `put_frame`: the word, and the octets behind a tab. Assumes nothing.
use Rattle.std.proofs.Common.{arith}
use Rattle.lister_text.specs.Texts.{ascii}
use Rattle.replay_parts.proofs.Putting.{puts_fitting, puts_then}
use Rattle.replay_answers.proofs.put_frame.Goals as goal

pub returns : goal.returns
returns c = puts_then (puts_fitting {most = 6} (ascii "frame\t") (omega arith) c.text.ensures) c.put_octets.ensures
