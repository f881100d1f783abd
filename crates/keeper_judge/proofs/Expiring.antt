-- The machine's judgement of an expiry, from the tests that the engine makes in the same order.
-- Assumes nothing.
use Rattle.std.proofs.Common.{◌≡◌, true, false, not, ℕ, ◌+◌, ◌%◌, ◌≤◌, ◌<◌, length, drop, ap, sym, ◌∙◌}
use borrow.Author.Tests.{le-ltb, lt-leb}
use Rattle.basics.specs.Basics.{◌and◌}
use Rattle.circle.specs.Circle.{forward}
use Rattle.circle.specs.Lengths.{modulus, modulus_of}
use Rattle.bearer.specs.Bearer.{refusing, most_runs}
use Rattle.bearer.specs.Losses.{before, ahead_of, is_beyond, offsets, lowest}
use Rattle.bearer.specs.Keeper.{Keeper, runs_after, base_after, mark_beyond, none_precedes, expire_below, expire}
use Rattle.keeper_state.specs.declared.Held.{Held}
use Rattle.keeper_state.specs.Lent.{state_shown}
use Rattle.keeper_state.proofs.Showing.{numbers_shown}
use Rattle.keeper_loss.specs.declared.Point.{Point}
use Rattle.keeper_loss.specs.Tally.{base_in}
use Rattle.keeper_judge.specs.declared.Losses.{Losses}
use Rattle.keeper_judge.specs.Judgements.{Loses, AcceptsExpiry}
use Rattle.keeper_judge.proofs.Given.{same_outcome}

-- ---- 19, 17

module _ (k : Keeper) (n : ℕ) (opened : k.closed ≡ false) (good : n < modulus_of k.bits) where
  pub beyond : mark_beyond k n ≡ true → expire k n ≡ refusing 19 k
  beyond e = rw (opened, lt-leb (modulus_of k.bits) n good, e)

  module _ (near : mark_beyond k n ≡ false) where
    pub none : none_precedes k n ≡ true → expire k n ≡ refusing 17 k
    none e = rw (opened, lt-leb (modulus_of k.bits) n good, near, e)

    pub below : none_precedes k n ≡ false → expire k n ≡ expire_below k (forward (modulus_of k.bits) k.base n)
    below e = rw (opened, lt-leb (modulus_of k.bits) n good, near, e)

-- ---- what is open below a distance

-- it is lost, with base behind it
pub expired : (k : Keeper) (d : ℕ) (lost : Losses) → lost.limit ≡ d → Loses lost k → (base : ℕ) → base ≡ base_after k d → AcceptsExpiry (record { base = base; lost = lost }) k (expire_below k d)
expired k d lost limit loses base is =
    let few : length (runs_after k d) ≤ most_runs = rw (← limit, ← loses.losing.runs_are) loses.few in
    record {
      loses = loses;
      outcome = rw (le-ltb most_runs (length (runs_after k d)) few) (same_outcome k (rw (← limit) (sym loses.losing.numbers_are)) (sym is) (rw limit));
    }

-- ---- what is held and listed, seen from base

module _ (h : Held) (b : Point) (is : b ≡ base_in h.words) where
  pub beyond_shown : (n : ℕ) → (not (before (modulus b.long) b.at n) and is_beyond (modulus b.long) b.at h.numbers.now n) ≡ mark_beyond (state_shown h) n
  beyond_shown n = rw (is, numbers_shown h)

  pub precedes_shown : (n : ℕ) → not (ahead_of (modulus b.long) b.at n) ≡ none_precedes (state_shown h) n
  precedes_shown n = rw is

  -- the base behind what is lost
  pub base_shown : (lost : Losses) (d : ℕ) → lost.limit ≡ d → Loses lost (state_shown h) → 0 < d
      → (b.at + lowest d (offsets (modulus b.long) b.at (drop lost.from h.numbers.now))) % modulus b.long ≡ base_after (state_shown h) d
  base_shown lost d limit loses some =
      rw (is, sym (ap (drop lost.from) (numbers_shown h)) ∙ loses.losing.reaches.from_is (rw limit some))
