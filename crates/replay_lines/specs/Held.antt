-- Both ends as the code holds them between two lines, and what the program that they are promises.
-- Assumes nothing.
use Rattle.std.proofs.Common.{refl, ltb-true, leb-true}
use Rattle.keeper_state.specs.State.{keeper_in}
use Rattle.ledger.specs.View.{ledger_in}
use Rattle.program_lines.specs.Feeding.{Laws}
use Rattle.replay_states.specs.Lines.{most_text}
use Rattle.replay_ends.specs.Playing.{Ends, ends_of}
use Rattle.replay_lines.specs.declared.Script.{Script}
use Rattle.replay_lines.specs.Scripts.{replaying}
use Rattle.replay_lines.specs.Kept.{line_tells}

-- the secondary as its arrays hold it, and the master as its ledger does
abbrev pub ends_of_script : Script → Ends
ends_of_script s = ends_of s.opened (keeper_in s.numbers s.pdcps s.marks s.starts s.ends s.words) (ledger_in s.ledger)

-- 2,044 octets of a line are looked at
pub script_laws : Laws replaying 2044 most_text
script_laws = record {
  few = refl;
  room = refl;
  some = ltb-true 0 18432 refl;
  fits = leb-true 18432 65536 refl;
  tells = line_tells;
}
