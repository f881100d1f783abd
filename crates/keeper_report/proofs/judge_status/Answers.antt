-- `judge_status`: the tests are the machine's, in its order; what goes is what the machine lets go. Assumes nothing.
use Rattle.std.proofs.Common.{◌≡◌, true, false, not, length, sym, ◌∙◌, ap, arith}
use Rattle.std.proofs.lemmas.List.{length-take-le}
use Rattle.std.proofs.Math.Dec.{ltb}
use borrow.Author.Tests.{lt-ltb, le-ltb}
use Rattle.basics.specs.Basics.{◌and◌}
use Rattle.basics.proofs.Parts.{rest_part}
use Rattle.frame_layout.specs.Frames.{most_ranges}
use Rattle.bearer.specs.Keeper.{let_go}
use Rattle.keeper_state.specs.Lent.{state_shown}
use Rattle.keeper_state.proofs.Showing.{runs_shown}
use Rattle.keeper_report.proofs.Letting.{too_early, written, goes_is, go_within, gone_is}
use Rattle.keeper_report.proofs.judge_status.Goals as goal
use Rattle.keeper_report.proofs.judge_status.Goals.{After-going-count, else-last-via-then-last+else-held-gt-MOST_RANGES, else-last-via-else-last}

-- as many go as the machine lets go
count : (c : After-going-count) → c.going-count.result ≡ let_go (state_shown c.args.held.now)
count c = c.going-count.ensures ∙ rw (rest_part c.args.held.now.starts.now c.min.result) (goes_is c.args.held.now c.is_long-long.ensures c.min.ensures)

pub returns-then-held-gt-MOST_RANGES : goal.returns-then-held-gt-MOST_RANGES
returns-then-held-gt-MOST_RANGES c =
    let h = c.args.held.now in
    let early : c.args.last and ltb most_ranges (length (state_shown h).runs) ≡ true = rw (c.if-last.true, runs_shown h) (lt-ltb most_ranges (length h.starts.now) c.if-held-gt-MOST_RANGES.true) in
    λ desired minimum d. too_early (state_shown h) (ap not (sym c.is_open.ensures ∙ c.if-not-is_open.false)) c.args.last desired minimum d early

pub slice_bounds-last-end : goal.slice_bounds-last-end
slice_bounds-last-end c =
    let h = c.args.held.now in
    let k = (goal.at.slice_bounds-last-end c).After-going-count in
    sym (length-take-le c.going-count.result h.pdcps.now (omega (arith, count k, go_within h, h.pdcps_match)))

pub returns : goal.returns
returns c =
    let h = c.args.held.now in
    let k = (goal.at.returns c).After-going-count in
    let early : c.args.last and ltb most_ranges (length (state_shown h).runs) ≡ false =
    elim c.else-last.branch [
      | else-last-via-then-last+else-held-gt-MOST_RANGES w ↦ rw (w.if-last.true, runs_shown h) (le-ltb most_ranges (length h.starts.now) w.if-held-gt-MOST_RANGES.false)
      | else-last-via-else-last w ↦ rw w.if-last.false
    ] in
    record {
      gone_is = gone_is h c.going-count.result c.unwrap_or-highest.result (count k) (c.unwrap_or-highest.ensures ∙ rw (c.copied.ensures, c.last.ensures.value));
      outcome = λ desired minimum d. written (state_shown h) (ap not (sym c.is_open.ensures ∙ c.if-not-is_open.false)) c.args.last desired minimum d early;
    }
