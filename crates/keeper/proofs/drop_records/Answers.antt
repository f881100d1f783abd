-- `drop_records`: all three arrays lose the same records at the front. Assumes nothing.
use Rattle.std.proofs.Common.{◌≡◌, ◌-◌, ◌≤◌, refl, ◌∙◌, ap, arith}
use Rattle.std.proofs.Math.ListN.{length-take}
use Rattle.keeper_state.specs.State.{held_in, records_of, words_in}
use Rattle.keeper.proofs.Records.{records_left}
use Rattle.keeper.proofs.Becoming.{records_become, dropped_plain}
use Rattle.keeper.proofs.drop_records.Goals as goal
use Rattle.keeper.proofs.drop_records.Goals.{After-held-held}

-- as many are held as the words say
held : (c : After-held-held) → c.held-held.result ≡ held_in (words_in c.args.state.now.words.now)
held c = c.held-held.ensures ∙ ap held_in c.held.ensures.shows.words

-- and no more go
within : (c : After-held-held) → c.args.gone ≤ c.held-held.result
within c =
    let s = c.args.state.now in
    omega (arith, held c, length-take (held_in (words_in s.words.now)) (records_of s.numbers.now s.pdcps.now s.marks.now), c.requires)

pub returns : goal.returns
returns c =
    let s = c.args.state.now in
    let h = (goal.at.returns c).After-held-held in
    let records =
    records_left s.numbers.now s.pdcps.now s.marks.now _ _ _ (words_in s.words.now).records c.held-held.result (held h) c.args.gone c.take_off.ensures c.take_off-2.ensures c.take_off-3.ensures in
    record {
      loans = (refl, refl, refl, refl, refl, refl);
      state =
          rw c.store_records.ensures
          (records_become {w = words_in s.words.now} refl s.numbers.now s.pdcps.now s.marks.now _ _ _ s.starts.now s.ends.now (c.held-held.result - c.args.gone) _ records);
      plain = λ p. rw c.store_records.ensures (dropped_plain {w = words_in s.words.now} refl c.held-held.result c.args.gone (omega (arith, held h, p.records.within)) c.take_off-3.ensures p);
    }
