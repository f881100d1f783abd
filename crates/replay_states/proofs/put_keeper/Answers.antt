-- `put_keeper`: its fields one behind another. Assumes nothing.
use Rattle.std.proofs.Common.{◌≡◌, [], ◌∷◌, arith, length-take, rules}
use Rattle.std.specs.Prelude.{not, map}
use Rattle.basics.specs.Basics.{bit}
use Rattle.frame_layout.specs.Frames.{ranges_of}
use Rattle.keeper_state.specs.State.{is_open, records_of}
use Rattle.lister_text.specs.Texts.{ascii, decimal, ranges_text, joined}
use Rattle.replay_parts.proofs.Putting.{puts_named, puts_field, puts_most}
use Rattle.replay_states.specs.Lines.{most_fields}
use Rattle.replay_states.specs.States.{record_text}
use Rattle.replay_states.proofs.put_keeper.Goals as goal

pub returns : goal.returns
returns c =
    let h = c.args.held.now in
    let w = h.words in
    let ss = c.front.result.now in
    let es = h.ends.now in
    let ns = c.front-numbers.result.now in
    let ps = h.pdcps.now in
    let cs = h.marks.now in
    let closed : c.from-closed.result ≡ bit (not (is_open w.opened)) = search rules in
    let words = rw closed at (puts_named (ascii "keeper") (w.base ∷ w.reported ∷ c.from-closed.result ∷ []) c.put_named.ensures) in
    let laid = rw (c.front.ensures, c.front-numbers.ensures) at
    (puts_field (ascii "keeper") (decimal w.base ∷ decimal w.reported ∷ decimal (bit (not (is_open w.opened))) ∷ ranges_text (ranges_of ss es) ∷ []) (joined (map record_text (records_of ns ps cs)))
    (puts_field (ascii "keeper") (decimal w.base ∷ decimal w.reported ∷ decimal (bit (not (is_open w.opened))) ∷ []) (ranges_text (ranges_of ss es)) words c.put_runs.ensures) c.put_records.ensures) in
    puts_most most_fields (omega (arith, length-take 256 h.starts.now, length-take 512 h.numbers.now)) laid
