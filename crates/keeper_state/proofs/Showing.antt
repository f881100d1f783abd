-- What is held and listed, lent to be read: the state that it is, and that state's lists.
-- Assumes nothing.
use mathlib.Core.Path.{◌≡◌, sym, ◌∙◌}
use Prim.Native.Nat.{ℕ, ◌<◌}
use native.Mathlib.Omega.{arith}
use lib.ListN.{length, get_or, take}
use lib.Seq.{take_all}
use Rattle.basics.specs.Basics.{is_set}
use Rattle.frame_layout.specs.Frames.{ranges_of, starts_of, ends_of}
use Rattle.frame_layout.proofs.Ranges.{ranges_take, starts_listed, ends_listed, ranges_count}
use Rattle.bearer.specs.Keeper.{no_record, held}
use Rattle.keeper_state.specs.declared.Words.{Words}
use Rattle.keeper_state.specs.declared.Held.{Held}
use Rattle.keeper_state.specs.State.{words_in, held_in, listed_in, records_of, state_of, Arrays, state_held}
use Rattle.keeper_state.specs.Lent.{state_shown}
use Rattle.keeper_state.proofs.Records.{records_take, record_at_lem, numbers_held, records_count}

-- the words, and as many of each array as they say, are the state in the arrays
pub shown : (a : Arrays) (w : Words) (n m : ℕ) → w ≡ words_in a.words → n ≡ held_in w → m ≡ listed_in w
    → state_of w (ranges_of (take m a.starts) (take m a.ends)) (records_of (take n a.numbers) (take n a.pdcps) (take n a.marks)) ≡ state_held a
shown a w n m words held listed = rw (← records_take n a.numbers a.pdcps a.marks, ← ranges_take m a.starts a.ends, held, listed, words)

module _ (h : Held) where
  -- its records have the numbers held
  pub numbers_shown : held (state_shown h) ≡ h.numbers.now
  numbers_shown =
      let all = take_all (length h.numbers.now) (records_of h.numbers.now h.pdcps.now h.marks.now) (omega (arith, records_count h.numbers.now h.pdcps.now h.marks.now)) in
      rw all at (numbers_held (length h.numbers.now) h.numbers.now h.pdcps.now h.marks.now (omega arith) (omega (arith, h.pdcps_match)) (omega (arith, h.marks_match)))
      ∙ take_all (length h.numbers.now) h.numbers.now (omega arith)

  -- and there are as many
  pub count_shown : length (state_shown h).records ≡ length h.numbers.now
  count_shown = omega (arith, records_count h.numbers.now h.pdcps.now h.marks.now, h.pdcps_match, h.marks_match)

  -- what stands at a place
  pub record_shown : (at : ℕ) → at < length h.numbers.now
      → get_or (state_shown h).records at no_record
      ≡ record { number = get_or h.numbers.now at 0; pdcp = get_or h.pdcps.now at 0; confirmed = is_set (get_or h.marks.now at 0) }
  record_shown at below =
      record_at_lem at h.numbers.now h.pdcps.now h.marks.now below (omega (arith, h.pdcps_match)) (omega (arith, h.marks_match))

  -- its runs have the starts listed
  pub starts_shown : starts_of (state_shown h).runs ≡ h.starts.now
  starts_shown =
      rw (sym (take_all (length h.starts.now) (ranges_of h.starts.now h.ends.now) (omega (arith, ranges_count h.starts.now h.ends.now))))
      (starts_listed (length h.starts.now) h.starts.now h.ends.now (omega arith) (omega (arith, h.ends_match)) ∙ take_all (length h.starts.now) h.starts.now (omega arith))

  -- and the ends
  pub ends_shown : ends_of (state_shown h).runs ≡ h.ends.now
  ends_shown =
      rw (sym (take_all (length h.ends.now) (ranges_of h.starts.now h.ends.now) (omega (arith, ranges_count h.starts.now h.ends.now))))
      (ends_listed (length h.ends.now) h.starts.now h.ends.now (omega (arith, h.ends_match)) (omega arith) ∙ take_all (length h.ends.now) h.ends.now (omega arith))

  -- and there are as many
  pub runs_shown : length (state_shown h).runs ≡ length h.starts.now
  runs_shown = omega (arith, ranges_count h.starts.now h.ends.now, h.ends_match)
