-- `feed`: at the block's end, and where there is no more room for any answer, nothing more is fed. Assumes nothing.
use Rattle.std.proofs.Common.{◌≡◌, ℕ, ◌+◌, ◌-◌, ◌≤◌, false, List, [], length, take, drop, sym, refl, ◌∙◌, ap, arith}
use Rattle.std.proofs.lemmas.Bool.{lt-leb, leb-false}
use Rattle.std.proofs.Math.ListN.{drop_of_length-le}
use Rattle.lister_text.specs.declared.Output.{Output}
use Rattle.program_lines.specs.declared.Line.{Line}
use Rattle.program_lines.specs.Lines.{Answering}
use Rattle.program_lines.specs.Feeding.{room_for, feeding, leaving, Laws, rest_into, Fed}
use Rattle.program_lines.proofs.Feeds.{stops_at, fed_full}
use Rattle.program_lines.proofs.feed.Goals as goal

module _ {S : Type 0} {N : ℕ} (p : Answering S) {s s' : S} {line line' : Line N} {block : List ℕ} {out out' : Output} {taken : ℕ}
    (loan : out'.octets.ghost_name ≡ out.octets.ghost_name) (within : taken ≤ length block) (held : line'.held ≤ length line'.octets)
    (inside : out.at ≤ length out.octets.now → out'.at ≤ length out'.octets.now)
    (same : rest_into p (length block) s line block out ≡ rest_into p (length block) s' line' (drop taken block) out') where
  -- where nothing more is fed, the call ends
  ends : feeding p (length out'.octets.now - out'.at) s' (take line'.held line'.octets) (drop taken block)
      ≡ record { said = []; state = s'; line = take line'.held line'.octets; rest = drop taken block } → Fed p s line block out taken s' line' out'
  ends stop = record {
    loan = loan;
    left = stops_at block line'.octets out'.octets.now s' taken line'.held out'.at within held
        ∙ ap (leaving (length block) out'.octets.now out'.at) (sym stop)
        ∙ sym same;
    within = inside;
  }

  -- at the block's end
  at_end : length block ≤ taken → Fed p s line block out taken s' line' out'
  at_end all = ends (rw (drop_of_length-le block {i = taken} all) refl)

  -- and without room
  without_room : room_for p (length out'.octets.now - out'.at) ≡ false → Fed p s line block out taken s' line' out'
  without_room none = ends (fed_full p (length out'.octets.now - out'.at) s' (take line'.held line'.octets) (drop taken block) none)

pub returns-else-fits : goal.returns-else-fits
returns-else-fits g c =
    let l = c.loop-taken in
    let i = l.invariant in
    let laws : Laws g.A.AnswersLines.program _ _ = g.met.A.AnswersLines.laws in
    let short = leb-false (l.out.at + c.MOST_TEXT.result) (length l.out.octets.now) (sym c.fits.ensures ∙ c.if-fits.false) in
    without_room g.A.AnswersLines.program i.loan i.within i.held i.inside i.same (lt-leb _ _ (omega (arith, short, c.MOST_TEXT.ensures, laws.room, laws.some)))

pub returns-after-loop-taken : goal.returns-after-loop-taken
returns-after-loop-taken g c =
    let i = c.loop-taken.invariant in
    at_end g.A.AnswersLines.program i.loan i.within i.held i.inside i.same c.loop-taken-test.false
