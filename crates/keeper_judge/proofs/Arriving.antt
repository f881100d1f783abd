-- The machine's judgement of an arrival by its place, from the tests that the engine makes in the same order.
-- Assumes nothing.
use Rattle.std.specs.Prelude.{if◌then◌else◌}
use Rattle.std.proofs.Common.{◌≡◌, true, false, ℕ, ◌+◌, ◌/◌, max, ◌≤◌, ◌<◌, length, sym, ◌∙◌, arith}
use Rattle.std.proofs.Math.Dec.{ltb, leb}
use Rattle.std.proofs.Math.ListN.{length-map}
use mathlib.Core.Path.{ap₂}
use borrow.Author.Tests.{lt-ltb, le-ltb, lt-leb, le-leb}
use Rattle.circle.specs.Circle.{forward}
use Rattle.circle.specs.Lengths.{modulus, modulus_of, half}
use Rattle.bearer.specs.Bearer.{refusing, answering, most_runs, most_records}
use Rattle.bearer.specs.Losses.{ahead_of, bears_before, place_in, first_behind, size_of}
use Rattle.bearer.specs.Keeper.{Keeper, Record, held, floor, place_of, has_record, runs_after, given_up, limit_of, base_arrived, arrived_base, arrived, arrive_at, arrive_on}
use Rattle.bearer.proofs.Lists.Mapped.{front_within}
use Rattle.keeper_state.specs.declared.Held.{Held}
use Rattle.keeper_state.specs.Lent.{state_shown}
use Rattle.keeper_state.proofs.Showing.{numbers_shown, starts_shown}
use Rattle.keeper_loss.specs.declared.Point.{Point}
use Rattle.keeper_loss.specs.Tally.{base_in}
use Rattle.keeper_judge.specs.declared.Losses.{Losses}
use Rattle.keeper_judge.specs.Judgements.{Reaches, Loses, AcceptsArrival}
use Rattle.keeper_judge.proofs.Given.{same_outcome}

-- ---- 12, 13, 14, 15

-- by the place of a number and how far it is forward from base
module _ (k : Keeper) (n p d place : ℕ) (place_is : place ≡ place_of k n) (far : d ≡ forward (modulus_of k.bits) k.base n) where
  at_place : arrive_on k n p ≡ arrive_at k n p place d
  at_place = ap₂ (arrive_at k n p) (sym place_is) (sym far)

  pub again : has_record k n place ≡ true → arrive_on k n p ≡ refusing 12 k
  again e = at_place ∙ rw e

  module _ (new : has_record k n place ≡ false) where
    pub span : half k.bits ≤ floor k + d → arrive_on k n p ≡ refusing 13 k
    span e = at_place ∙ rw (new, le-leb (half k.bits) (floor k + d) e)

    module _ (near : floor k + d < half k.bits) where
      in_span : arrive_on k n p
          ≡ (if ltb most_runs (length (runs_after k (limit_of d))) then refusing 14 k else
          (if leb most_records (length k.records) then refusing 15 k else
          answering (size_of (given_up k (limit_of d))) (arrived k n p place d)))
      in_span = at_place ∙ rw (new, lt-leb (half k.bits) (floor k + d) near)

      pub many_runs : most_runs < length (runs_after k (limit_of d)) → arrive_on k n p ≡ refusing 14 k
      many_runs e = in_span ∙ rw (lt-ltb most_runs (length (runs_after k (limit_of d))) e)

      -- what it gives up
      module _ (lost : Losses) (limit : lost.limit ≡ limit_of d) (loses : Loses lost k) where
        few : length (runs_after k (limit_of d)) ≤ most_runs
        few = rw (← limit, ← loses.losing.runs_are) loses.few

        pub many_records : most_records ≤ length k.records → arrive_on k n p ≡ refusing 15 k
        many_records e = in_span ∙ rw (le-ltb most_runs (length (runs_after k (limit_of d))) few, le-leb most_records (length k.records) e)

        pub accepted : length k.records < most_records → (base : ℕ) → base ≡ arrived_base k place d → AcceptsArrival place (record { base = base; lost = lost }) k n p (arrive_on k n p)
        accepted e base is = record {
          within = omega (arith, place_is, front_within (ahead_of (modulus_of k.bits) n) (held k), length-map k.records (λ (r : Record). r.number));
          room = e;
          loses = loses;
          outcome =
              in_span
              ∙ rw (le-ltb most_runs (length (runs_after k (limit_of d))) few, lt-leb most_records (length k.records) e)
              (same_outcome k (rw (← limit) (sym loses.losing.numbers_are)) (sym is) (rw limit));
        }

-- ---- what is held and listed, seen from base

module _ (h : Held) (b : Point) (is : b ≡ base_in h.words) where
  pub place_shown : (n : ℕ) → place_in (modulus b.long) h.numbers.now n ≡ place_of (state_shown h) n
  place_shown n = rw (is, numbers_shown h)

  pub far_shown : (n : ℕ) → forward (modulus b.long) b.at n ≡ forward (modulus_of (state_shown h).bits) (state_shown h).base n
  far_shown n = rw is

  pub bears_shown : (n i : ℕ) → bears_before h.numbers.now n i ≡ has_record (state_shown h) n i
  bears_shown n i = rw (numbers_shown h)

  pub floor_shown : max (first_behind (modulus b.long) b.at h.starts.now) (first_behind (modulus b.long) b.at h.numbers.now) ≡ floor (state_shown h)
  floor_shown = rw (is, starts_shown h, numbers_shown h)

  pub half_shown : modulus b.long / 2 ≡ half (state_shown h).bits
  half_shown = rw is

  pub arrived_shown : (i d : ℕ) → base_arrived (modulus b.long) b.at h.numbers.now i d ≡ arrived_base (state_shown h) i d
  arrived_shown i d = rw (is, numbers_shown h)

  pub reaches_shown : (lost : Losses) → Loses lost (state_shown h) → Reaches lost (modulus b.long) b.at h.numbers.now
  reaches_shown lost loses = rw (is, ← numbers_shown h) loses.losing.reaches
