-- The machine's judgement of a confirm by where the number stands, from the tests that the engine makes in the same order.
-- Assumes nothing.
use Rattle.std.specs.Prelude.{if◌then◌else◌}
use Rattle.std.proofs.Common.{◌≡◌, Bool, true, false, List, Some, None, ℕ, ◌≤◌, ◌<◌, length, get_or, refl, ◌∙◌, ap, arith}
use Rattle.std.proofs.Math.Dec.{ltb}
use borrow.Author.Tests.{lt-ltb, lt-leb, le-leb, ltb-true, ltb-false}
use Rattle.basics.specs.Basics.{is_set}
use Rattle.frame_layout.specs.Frames.{Range}
use Rattle.bearer.specs.Bearer.{refusing}
use Rattle.bearer.specs.Losses.{before}
use Rattle.bearer.specs.Keeper.{Keeper, Record, no_record, index_of, confirm_at, confirm, ◌with_runs◌}
use Rattle.keeper_state.specs.declared.Held.{Held}
use Rattle.keeper_state.specs.State.{is_open, modulus_in}
use Rattle.keeper_state.specs.Lent.{state_shown}
use Rattle.keeper_state.proofs.Showing.{numbers_shown, count_shown, record_shown}
use Rattle.keeper_loss.specs.Tally.{found}
use Rattle.keeper_report.specs.Reports.{AcceptsConfirm}

-- ---- where a number stands

module _ (n : ℕ) (ns : List ℕ) where
  found_at : (at : ℕ) → found n ns ≡ Some at → (at ≡ index_of n ns) × (at < length ns)
  found_at at e = by_test (ltb (index_of n ns) (length ns)) refl e
    where
      by_test : (t : Bool) → ltb (index_of n ns) (length ns) ≡ t → (if t then Some (index_of n ns) else None) ≡ Some at → (at ≡ index_of n ns) × (at < length ns)
      by_test true e f =
          let is : at ≡ index_of n ns = cc in
          (is, omega (arith, ltb-true (index_of n ns) (length ns) e))
      by_test false e f = cc

  found_nowhere : found n ns ≡ None → length ns ≤ index_of n ns
  found_nowhere e = by_test (ltb (index_of n ns) (length ns)) refl e
    where
      by_test : (t : Bool) → ltb (index_of n ns) (length ns) ≡ t → (if t then Some (index_of n ns) else None) ≡ None → length ns ≤ index_of n ns
      by_test true e f = cc
      by_test false e f = ltb-false (index_of n ns) (length ns) e

-- ---- the judgement

module _ (h : Held) (runs : List Range) (n : ℕ) (opened : is_open h.words.opened ≡ true) (good : n < modulus_in h.words) where
  abbrev state : Keeper
  state = state_shown h with_runs runs

  pub nowhere : found n h.numbers.now ≡ None → confirm state n ≡ refusing 16 state
  nowhere e =
      let past = found_nowhere n h.numbers.now e in
      rw (opened, lt-ltb n (modulus_in h.words) good, numbers_shown h, le-leb (length h.numbers.now) (index_of n h.numbers.now) past)

  module _ (at : ℕ) (found : found n h.numbers.now ≡ Some at) where
    at_place : confirm state n ≡ confirm_at state n at
    at_place =
        let is = found_at n h.numbers.now at found in
        rw (opened, lt-ltb n (modulus_in h.words) good, numbers_shown h, ← is.0, lt-leb (length h.numbers.now) at is.1)

    mark : (get_or state.records at no_record).confirmed ≡ is_set (get_or h.marks.now at 0)
    mark = ap (λ (r : Record). r.confirmed) (record_shown h at (found_at n h.numbers.now at found).1)

    pub not_behind : before (modulus_in h.words) h.words.base n ≡ false → confirm state n ≡ refusing 16 state
    not_behind e = at_place ∙ rw e

    module _ (behind : before (modulus_in h.words) h.words.base n ≡ true) where
      pub marked_already : is_set (get_or h.marks.now at 0) ≡ true → confirm state n ≡ refusing 16 state
      marked_already e = at_place ∙ rw (behind, mark, e)

      pub marks : is_set (get_or h.marks.now at 0) ≡ false → AcceptsConfirm at state n
      marks e = record {
        within = omega (arith, count_shown h, (found_at n h.numbers.now at found).1);
        outcome = at_place ∙ rw (behind, mark, e);
      }
