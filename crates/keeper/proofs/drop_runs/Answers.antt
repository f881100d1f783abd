-- `drop_runs`: both arrays lose the same runs at the front. Assumes nothing.
use Rattle.std.proofs.Common.{◌≡◌, ◌-◌, refl, ◌∙◌, ap, arith}
use Rattle.keeper_state.specs.State.{listed_in, words_in}
use Rattle.keeper.proofs.Ranges.{ranges_left}
use Rattle.keeper.proofs.Becoming.{runs_become, runs_plain}
use Rattle.keeper.proofs.drop_runs.Goals as goal

pub returns : goal.returns
returns c =
    let s = c.args.state.now in
    let listed : c.listed-listed.result ≡ listed_in (words_in s.words.now) = c.listed-listed.ensures ∙ ap listed_in c.held.ensures.shows.words in
    let runs = ranges_left s.starts.now s.ends.now _ _ (words_in s.words.now).runs c.listed-listed.result c.min-carried.result listed c.min-carried.ensures c.take_off.ensures c.take_off-2.ensures in
    record {
      loans = (refl, refl, refl, refl, refl, refl);
      state =
          rw c.store_runs.ensures
          (runs_become {w = words_in s.words.now} refl s.numbers.now s.pdcps.now s.marks.now s.starts.now s.ends.now _ _ (c.listed-listed.result - c.min-carried.result) _ runs);
      plain = λ p. rw c.store_runs.ensures (runs_plain {w = words_in s.words.now} refl s.marks.now (c.listed-listed.result - c.min-carried.result) (omega (arith, listed)) p);
    }
