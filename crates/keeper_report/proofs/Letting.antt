-- The machine's judgement of a status, and what it lets go.
-- Assumes nothing.
use Rattle.std.specs.Prelude.{if◌then◌else◌}
use Rattle.std.proofs.Common.{◌≡◌, Bool, true, false, List, [], ◌∷◌, ℕ, zero, suc, ◌+◌, ◌-◌, ◌≤◌, ◌<◌, min, length, get_or, take, drop, cond, refl, sym, ◌∙◌, ap, arith}
use Rattle.std.specs.List.{zip, prefix_len, take_while, slice_get, drop-map}
use Rattle.std.specs.Option.{unwrap_or}
use native.Mathlib.Numerals.{add-one}
use lib.Seq.{drop-cons}
use Rattle.std.proofs.lemmas.List.{drop_min, length-take-le, get_or-take, get_or_default}
use Rattle.std.proofs.lemmas.List.Folds.{length-prefix_len}
use Rattle.std.proofs.lemmas.Option.{unwrap_or-slice_get}
use Rattle.std.proofs.Math.Dec.{ltb}
use Rattle.basics.specs.Basics.{◌and◌, is_set}
use Rattle.circle.specs.Lengths.{length_in, is_long, modulus}
use Rattle.frame_layout.specs.Frames.{Range, starts_of, most_ranges, write_status}
use Rattle.bearer.specs.Losses.{goes_before}
use Rattle.bearer.specs.Keeper.{Keeper, Record, no_record, run_with, may_go, let_go, highest_of, unreported, status_now, reported_as, status}
use Rattle.bearer.proofs.Lists.Elements.{run_within}
use Rattle.keeper_state.specs.declared.Held.{Held}
use Rattle.keeper_state.specs.State.{records_of}
use Rattle.keeper_state.specs.Lent.{state_shown}
use Rattle.keeper_state.proofs.Records.{record_of, record_at_lem, records_count}
use Rattle.keeper_state.proofs.Showing.{starts_shown, count_shown, record_shown}
use Rattle.keeper_report.specs.Reports.{gone_of, goes}

-- ---- 22, or as the writer answers

module _ (k : Keeper) (opened : k.closed ≡ false) (final : Bool) (desired minimum : ℕ) (d : List ℕ) where
  pub too_early : final and ltb most_ranges (length k.runs) ≡ true → status k desired minimum final d ≡ unreported 22 k d
  too_early e = rw (opened, e)

  pub written : final and ltb most_ranges (length k.runs) ≡ false → status k desired minimum final d ≡ reported_as k final (write_status (status_now k desired minimum final) d)
  written e = rw (opened, e)

-- ---- what is let go

-- what goes of numbers and marks goes of records
run_is : (M : ℕ) (ss ns ps cs : List ℕ) → length ps ≡ length ns → length cs ≡ length ns
    → prefix_len (goes M ss) (zip ns cs) ≡ run_with (λ (r : Record). goes_before M ss r.number r.confirmed) (records_of ns ps cs)
run_is M ss [] ps cs lp lc = refl
run_is M ss (n ∷ ns) [] cs lp lc = absurd (omega arith)
run_is M ss (n ∷ ns) (p ∷ ps) [] lp lc = absurd (omega arith)
run_is M ss (n ∷ ns) (p ∷ ps) (c ∷ cs) lp lc = by_test (goes_before M ss n (is_set c)) (run_is M ss ns ps cs (omega arith) (omega arith))
  where
    by_test : {i j : ℕ} (t : Bool) → i ≡ j → cond t (1 + i) 0 ≡ (if t then suc j else 0)
    by_test true e = omega arith
    by_test false e = refl

-- where no run is left out, marks alone say what goes
marks_run : (M : ℕ) (ss ns cs : List ℕ) → length ss ≡ 0 → length cs ≡ length ns → prefix_len is_set cs ≡ prefix_len (goes M ss) (zip ns cs)
marks_run M (s ∷ ss) ns cs none same = absurd (omega arith)
marks_run M [] [] [] none same = refl
marks_run M [] [] (c ∷ cs) none same = absurd (omega arith)
marks_run M [] (n ∷ ns) [] none same = absurd (omega arith)
marks_run M [] (n ∷ ns) (c ∷ cs) none same = ap (λ (i : ℕ). cond (is_set c) (1 + i) 0) (marks_run M [] ns cs refl (omega arith))

pub marks_say : (M : ℕ) (ss ns cs : List ℕ) → length ss ≡ 0 → length cs ≡ length ns
    → length (take_while is_set cs) ≡ length (take_while (goes M ss) (zip ns cs))
marks_say M ss ns cs none same =
    length-prefix_len is_set cs ∙ marks_run M ss ns cs none same ∙ sym (length-prefix_len (goes M ss) (zip ns cs))

module _ (h : Held) where
  -- the starts of the runs left out
  left_out : drop (min most_ranges (length h.starts.now)) h.starts.now ≡ starts_of (drop most_ranges (state_shown h).runs)
  left_out = drop_min most_ranges h.starts.now ∙ ap (drop most_ranges) (sym (starts_shown h)) ∙ drop-map (λ (r : Range). r.start) most_ranges (state_shown h).runs

  -- what goes is what the machine lets go
  pub goes_is : {long : Bool} {i : ℕ} → long ≡ is_long (length_in h.words.bits) → i ≡ min most_ranges (length h.starts.now)
      → length (take_while (goes (modulus long) (drop i h.starts.now)) (zip h.numbers.now h.marks.now)) ≡ let_go (state_shown h)
  goes_is {long} {i} e f =
      length-prefix_len (goes (modulus long) (drop i h.starts.now)) (zip h.numbers.now h.marks.now)
      ∙ run_is (modulus long) (drop i h.starts.now) h.numbers.now h.pdcps.now h.marks.now h.pdcps_match h.marks_match
      ∙ rw (e, f, left_out)

  -- no more than there are
  pub go_within : let_go (state_shown h) ≤ length h.numbers.now
  go_within = omega (arith, run_within (may_go (state_shown h) (drop most_ranges (state_shown h).runs)) (state_shown h).records, count_shown h)

  -- the highest is the last one's that goes
  pub highest_is : (i : ℕ) → i ≤ length h.numbers.now → unwrap_or (slice_get (take i h.pdcps.now) (length (take i h.pdcps.now) - 1)) h.words.reported ≡ highest_of (state_shown h) i
  highest_is zero w = refl
  highest_is (suc i) w =
      let count : length (take (suc i) h.pdcps.now) - 1 ≡ i = omega (arith, length-take-le (suc i) h.pdcps.now (omega (arith, h.pdcps_match))) in
      unwrap_or-slice_get (take (suc i) h.pdcps.now) (length (take (suc i) h.pdcps.now) - 1) h.words.reported
      ∙ rw count (get_or-take (suc i) h.pdcps.now i h.words.reported (omega arith))
      ∙ get_or_default h.pdcps.now i h.words.reported 0 (omega (arith, h.pdcps_match))
      ∙ sym (ap (λ (r : Record). r.pdcp) (record_shown h i (omega arith)))

  -- what is told of what goes
  pub gone_is : (count highest : ℕ) → count ≡ let_go (state_shown h) → highest ≡ unwrap_or (slice_get (take count h.pdcps.now) (length (take count h.pdcps.now) - 1)) h.words.reported
      → record { count = count; highest = highest } ≡ gone_of (state_shown h)
  gone_is count highest e f = rw (f, e, highest_is (let_go (state_shown h)) go_within)

-- ---- one record at a time. No code goes so today; the laws stand

-- a record that may go, by the starts of the runs left out
abbrev pub record_goes : ℕ → List ℕ → Record → Bool
record_goes M ss r = goes_before M ss r.number r.confirmed

-- of numbers, PDCP numbers and marks, as many of each
module _ (ns ps cs : List ℕ) (lp : length ns ≡ length ps) (lc : length ns ≡ length cs) where
  -- as many as there are numbers
  pub count_all : length (records_of ns ps cs) ≡ length ns
  count_all = omega (arith, records_count ns ps cs)

  module _ (M : ℕ) (ss : List ℕ) (i : ℕ) (h : i < length ns) where
    from_here : drop i (records_of ns ps cs) ≡ record_of (get_or ns i 0) (get_or ps i 0) (get_or cs i 0) ∷ drop (i + 1) (records_of ns ps cs)
    from_here = rw (drop-cons (records_of ns ps cs) i no_record (omega (arith, count_all)), record_at_lem i ns ps cs h (omega arith) (omega arith), add-one i)

    -- the record at place i stays, and so do those behind it
    pub go_stops : goes_before M ss (get_or ns i 0) (is_set (get_or cs i 0)) ≡ false → run_with (record_goes M ss) (drop i (records_of ns ps cs)) ≡ 0
    go_stops e = rw (from_here, e)

    -- it goes, and those behind it that go with it
    pub go_more : goes_before M ss (get_or ns i 0) (is_set (get_or cs i 0)) ≡ true
        → run_with (record_goes M ss) (drop i (records_of ns ps cs)) ≡ suc (run_with (record_goes M ss) (drop (i + 1) (records_of ns ps cs)))
    go_more e = rw (from_here, e)
