-- `list_lost`: what is held and listed is passed on, as much as the words say. Assumes nothing.
use Rattle.std.proofs.Common.{◌≡◌, refl, sym, ◌∙◌, ap, arith, ℕ, zero, suc, List, [], ◌∷◌, length, take, min}
use Rattle.bearer.specs.Keeper.{Keeper, held, runs_after}
use Rattle.frame_layout.specs.Frames.{ranges_of}
use Rattle.bearer.specs.Bearer.{most_runs}
use Rattle.circle.specs.Lengths.{modulus_of}
use Rattle.bearer.specs.Losses.{above_base}
use Rattle.keeper_state.specs.State.{words_in, listed_in}
use Rattle.keeper_state.specs.Lent.{keeper_of}
use Rattle.keeper_loss.proofs.Bounds.{gaps_none}
use Rattle.keeper_state.proofs.Showing.{numbers_shown}
use Rattle.keeper.proofs.Becoming.{runs_become, runs_plain}
use Rattle.keeper.proofs.list_lost.Goals as goal
use Rattle.keeper.proofs.list_lost.Goals.{After-listed}

-- the numbers are those held
numbers : (c : After-listed) → c.front-numbers.result.now ≡ held (keeper_of c.args.state.now)
numbers c =
    c.front-numbers.ensures
    ∙ ap (λ (n : ℕ). take n c.args.state.now.numbers.now) c.held-2.ensures
    ∙ sym c.held.ensures.shows.numbers
    ∙ sym (numbers_shown c.held.result)
    ∙ ap held c.held.ensures.state

-- below the distance 0 nothing is lost
none : (k : Keeper) → runs_after k 0 ≡ k.runs
none k = rw (gaps_none 0 0 (above_base (modulus_of k.bits) k.base (held k)) (omega arith))

-- as many at the front as those at the front are
take_own : {A : Type 0} (n : ℕ) (l : List A) → take (length (take n l)) l ≡ take n l
take_own zero l = refl
take_own (suc n) [] = refl
take_own (suc n) (x ∷ l) = ap (λ l. x ∷ l) (take_own n l)

pub returns-then-lost-eq0 : goal.returns-then-lost-eq0
returns-then-lost-eq0 c =
    let s = c.args.state.now in
    let w = words_in s.words.now in
    let k = keeper_of s in
    let few : min c.args.lost.runs most_runs ≡ c.args.lost.runs = omega (arith, c.requires.few) in
    let same : runs_after k c.args.lost.limit ≡ k.runs = rw c.if-lost-eq0.true (none k) in
    let runs : take (min c.args.lost.runs most_runs) (ranges_of s.starts.now s.ends.now) ≡ runs_after k c.args.lost.limit =
    rw (few, c.requires.losing.runs_are, same) (take_own (listed_in w) (ranges_of s.starts.now s.ends.now)) in
    record {
      loans = (refl, refl, refl, refl, refl, refl);
      state = rw c.store_runs.ensures (runs_become {w = w} refl s.numbers.now s.pdcps.now s.marks.now s.starts.now s.ends.now _ _ c.args.lost.runs _ runs);
      plain = λ p. rw c.store_runs.ensures (runs_plain {w = w} refl s.marks.now c.args.lost.runs c.requires.few p);
    }

pub list_runs-requires : goal.list_runs-requires
list_runs-requires c =
    let n = numbers (goal.at.list_runs-requires c).After-listed in
    let w = c.held.ensures.shows.words in
    (rw (c.from.ensures, n, c.listed.ensures, w) c.requires.losing, omega (arith, c.listed.ensures), c.requires.few)

pub returns : goal.returns
returns c =
    let s = c.args.state.now in
    let n = numbers (goal.at.returns c).After-listed in
    let w = c.held.ensures.shows.words in
    let few : min c.args.lost.runs most_runs ≡ c.args.lost.runs = omega (arith, c.requires.few) in
    let runs : take (min c.args.lost.runs most_runs) (ranges_of c.list_runs.new.starts c.list_runs.new.ends) ≡ runs_after (keeper_of s) c.args.lost.limit =
    rw few (c.list_runs.ensures ∙ rw (c.from.ensures, n, c.listed.ensures, w)) in
    record {
      loans = (refl, refl, refl, refl, refl, refl);
      state = rw c.store_runs-2.ensures (runs_become {w = words_in s.words.now} refl s.numbers.now s.pdcps.now s.marks.now s.starts.now s.ends.now _ _ c.args.lost.runs _ runs);
      plain = λ p. rw c.store_runs-2.ensures (runs_plain {w = words_in s.words.now} refl s.marks.now c.args.lost.runs c.requires.few p);
    }
