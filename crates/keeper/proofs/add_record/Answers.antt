-- `add_record`: a record is put at the same place of all three arrays. Assumes nothing.
use Rattle.std.proofs.Common.{◌≡◌, ◌+◌, ◌≤◌, ◌<◌, refl, ◌∙◌, ap, arith, length}
use Rattle.std.proofs.Math.ListN.{length-take}
use Rattle.bearer.specs.Bearer.{most_records}
use Rattle.keeper_state.specs.State.{held_in, records_of, words_in}
use Rattle.keeper_state.proofs.Records.{records_count}
use Rattle.keeper.proofs.Records.{records_added}
use Rattle.keeper.proofs.Becoming.{records_become, added_plain}
use Rattle.keeper.proofs.add_record.Goals as goal
use Rattle.keeper.proofs.add_record.Goals.{After-held-held}

-- as many are held as the words say
held : (c : After-held-held) → c.held-held.result ≡ held_in (words_in c.args.state.now.words.now)
held c = c.held-held.ensures ∙ ap held_in c.held.ensures.shows.words

-- and there is room for one more, there
room : (c : After-held-held) → (c.args.place ≤ c.held-held.result) × (c.held-held.result < most_records)
room c =
    let s = c.args.state.now in
    let w = words_in s.words.now in
    let rs = records_of s.numbers.now s.pdcps.now s.marks.now in
    let count : length rs ≡ most_records = omega (arith, records_count s.numbers.now s.pdcps.now s.marks.now, c.held.ensures.sized.0) in
    (omega (arith, held c, length-take (held_in w) rs, c.requires.0), omega (arith, held c, length-take (held_in w) rs, c.requires.1))

pub put_in-requires : goal.put_in-requires
put_in-requires c = room (goal.at.put_in-requires c).After-held-held

pub put_in-requires-2 : goal.put_in-requires-2
put_in-requires-2 c = room (goal.at.put_in-requires-2 c).After-held-held

pub put_in-requires-3 : goal.put_in-requires-3
put_in-requires-3 c = room (goal.at.put_in-requires-3 c).After-held-held

pub returns : goal.returns
returns c =
    let s = c.args.state.now in
    let h = (goal.at.returns c).After-held-held in
    let sizes = c.held.ensures.sized.0 in
    let at = room h in
    let records =
    records_added s.numbers.now s.pdcps.now s.marks.now _ _ _ (words_in s.words.now).records c.held-held.result (held h) c.args.place c.args.number c.args.pdcp at.0 at.1
    (omega (arith, sizes.numbers)) (omega (arith, sizes.pdcps)) (omega (arith, sizes.marks)) c.put_in.ensures c.put_in-2.ensures c.put_in-3.ensures in
    record {
      loans = (refl, refl, refl, refl, refl, refl);
      state = rw c.store_records.ensures (records_become {w = words_in s.words.now} refl s.numbers.now s.pdcps.now s.marks.now _ _ _ s.starts.now s.ends.now (c.held-held.result + 1) _ records);
      plain = λ p. rw c.store_records.ensures (added_plain {w = words_in s.words.now} refl c.held-held.result c.args.place (omega (arith, held h, p.records.within)) at.1 c.put_in-3.ensures p);
    }
