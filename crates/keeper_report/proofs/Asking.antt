-- Whether there is anything to say, by what is read: the starts of runs, and the marks of records.
-- Assumes nothing.
use Rattle.std.proofs.Common.{◌≡◌, ◌==◌, true, false, List, [], ◌∷◌, ℕ, ◌<◌, length, get_or, ◌∙◌, refl, arith}
use borrow.Author.Tests.{eqb-true, eqb-false}
use Rattle.basics.specs.Basics.{is_set}
use Rattle.frame_layout.specs.Frames.{Range}
use Rattle.bearer.specs.Keeper.{Record, first_confirmed, news}
use Rattle.keeper_state.specs.declared.Held.{Held}
use Rattle.keeper_state.specs.State.{records_of}
use Rattle.keeper_state.specs.Lent.{state_shown}
use Rattle.keeper_state.proofs.Showing.{runs_shown}

-- there is where a run is listed
pub listed_news : (runs : List Range) (records : List Record) → 0 < length runs → news runs records ≡ true
listed_news [] records h = absurd (omega arith)
listed_news (run ∷ runs) records h = refl

-- where none is, the first record tells
pub first_news : (runs : List Range) (records : List Record) → length runs ≡ 0 → news runs records ≡ first_confirmed records
first_news [] records e = refl
first_news (run ∷ runs) records e = absurd (omega arith)

-- by the first mark: 0, where there is none
first_mark : (ns ps cs : List ℕ) → length ps ≡ length ns → length cs ≡ length ns → first_confirmed (records_of ns ps cs) ≡ is_set (get_or cs 0 0)
first_mark [] ps [] lp lc = refl
first_mark [] ps (c ∷ cs) lp lc = absurd (omega arith)
first_mark (n ∷ ns) [] cs lp lc = absurd (omega arith)
first_mark (n ∷ ns) (p ∷ ps) [] lp lc = absurd (omega arith)
first_mark (n ∷ ns) (p ∷ ps) (c ∷ cs) lp lc = refl

module _ (h : Held) where
  pub run_tells : (length h.starts.now == 0) ≡ false → news (state_shown h).runs (state_shown h).records ≡ true
  run_tells e =
      let some : 0 < length h.starts.now = omega (arith, eqb-false (length h.starts.now) 0 e) in
      listed_news (state_shown h).runs (state_shown h).records (omega (arith, runs_shown h))

  pub marked_news : (length h.starts.now == 0) ≡ true → news (state_shown h).runs (state_shown h).records ≡ is_set (get_or h.marks.now 0 0)
  marked_news e =
      first_news (state_shown h).runs (state_shown h).records (omega (arith, runs_shown h, eqb-true (length h.starts.now) 0 e))
      ∙ first_mark h.numbers.now h.pdcps.now h.marks.now h.pdcps_match h.marks_match
