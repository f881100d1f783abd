-- A confirm and a status, judged of words and of lists that show the runs and the records. The code's are of a `Held` today; the laws stand.
-- Assumes nothing.
use mathlib.Core.Path.{◌≡◌, refl, ◌∙◌, ap}
use mathlib.Core.Bool.{true, false}
use mathlib.Core.List.{List, [], ◌∷◌}
use Prim.Native.Nat.{ℕ, zero, suc, ◌≤◌, ◌<◌}
use native.Mathlib.Omega.{arith}
use lib.ListN.{length, get_or, drop, length-map}
use borrow.Author.Tests.{lt-ltb, lt-leb, le-leb}
use Rattle.frame_layout.specs.Frames.{Range, starts_of, most_ranges}
use Rattle.bearer.specs.Bearer.{refusing}
use Rattle.bearer.specs.Losses.{before}
use Rattle.bearer.specs.Keeper.{Keeper, Record, no_record, numbers_of, index_of, confirm_at, confirm, run_with, let_go, highest_of}
use Rattle.keeper_state.specs.declared.Words.{Words}
use Rattle.keeper_state.specs.State.{is_open, modulus_in, state_of, records_of}
use Rattle.keeper_state.proofs.Records.{record_at_lem}
use Rattle.keeper_report.specs.Reports.{AcceptsConfirm, gone_of}
use Rattle.keeper_report.proofs.Letting.{record_goes}

-- ---- a confirm

module _ (w : Words) (runs : List Range) (records : List Record) (n : ℕ) where
  abbrev state : Keeper
  state = state_of w runs records

  module _ (opened : is_open w.opened ≡ true) where
    -- by where it stands among the numbers held
    module _ (good : n < modulus_in w) (ns : List ℕ) (seen : numbers_of records ≡ ns) (at : ℕ) (at-is : at ≡ index_of n ns) where
      pub nowhere : length ns ≤ at → confirm state n ≡ refusing 16 state
      nowhere h = rw (opened, lt-ltb n (modulus_in w) good, seen, ← at-is, le-leb (length ns) at h)

      module _ (found : at < length ns) where
        at_place : confirm state n ≡ confirm_at state n at
        at_place = rw (opened, lt-ltb n (modulus_in w) good, seen, ← at-is, lt-leb (length ns) at found)

        module _ (past : before (modulus_in w) w.base n ≡ true) where
          pub marked_already : (get_or records at no_record).confirmed ≡ true → confirm state n ≡ refusing 16 state
          marked_already h = at_place ∙ rw (past, h)

          pub marks : (get_or records at no_record).confirmed ≡ false → AcceptsConfirm at state n
          marks h = record {
            within = omega (arith, length-map records (λ (r : Record). r.number), ap length seen);
            outcome = at_place ∙ rw (past, h);
          }

-- ---- a status

-- the highest that is reported when so many go, by the PDCP numbers of all
abbrev pub highest_at : ℕ → List ℕ → ℕ → ℕ
highest_at reported ps zero = reported
highest_at reported ps (suc i) = get_or ps i 0

module _ (ns ps cs : List ℕ) (lp : length ns ≡ length ps) (lc : length ns ≡ length cs) where
  -- the highest is the last one's that goes
  highest_is : (w : Words) (runs : List Range) (i : ℕ) → i ≤ length ns → highest_of (state_of w runs (records_of ns ps cs)) i ≡ highest_at w.reported ps i
  highest_is w runs zero h = refl
  highest_is w runs (suc i) h = ap (λ (r : Record). r.pdcp) (record_at_lem i ns ps cs (omega arith) (omega arith) (omega arith))

  -- what is counted is what the machine lets go
  pub gone_is : (w : Words) (runs : List Range) (ss : List ℕ) (count highest : ℕ) → starts_of runs ≡ ss
      → count ≤ length ns → run_with (record_goes (modulus_in w) (drop most_ranges ss)) (records_of ns ps cs) ≡ count → highest ≡ highest_at w.reported ps count
      → record { count = count; highest = highest } ≡ gone_of (state_of w runs (records_of ns ps cs))
  gone_is w runs ss count highest seen within all high =
      let left : starts_of (drop most_ranges runs) ≡ drop most_ranges ss = map_drop most_ranges runs ∙ ap (drop most_ranges) seen in
      let go : let_go (state_of w runs (records_of ns ps cs)) ≡ count =
      ap (λ (ss : List ℕ). run_with (record_goes (modulus_in w) ss) (records_of ns ps cs)) left ∙ all in
      rw (go, high, highest_is w runs count within)
    where
      map_drop : (i : ℕ) (rs : List Range) → starts_of (drop i rs) ≡ drop i (starts_of rs)
      map_drop zero rs = refl
      map_drop (suc i) [] = refl
      map_drop (suc i) (r ∷ rs) = map_drop i rs
