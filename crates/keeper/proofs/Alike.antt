-- Plain arrays that are read as one state are equal up to the slots past the counts: each word and each array is what the state says.
-- Assumes nothing.
use mathlib.Core.Path.{◌≡◌, refl, sym, ◌∙◌, ap}
use mathlib.Core.Bool.{not}
use mathlib.Core.List.{List, [], ◌∷◌, map}
use Prim.Native.Nat.{ℕ, zero, suc, ◌≤◌, ◌<◌}
use native.Mathlib.Omega.{arith}
use lib.ListN.{length, take, length-take}
use Rattle.basics.specs.Basics.{bit, is_set}
use Rattle.circle.specs.Lengths.{length_in}
use Rattle.circle.proofs.Forms.{length_read}
use Rattle.frame_layout.specs.Frames.{Range, ranges_of, starts_of, ends_of}
use Rattle.bearer.specs.Packets.{Each}
use Rattle.bearer.specs.Keeper.{Keeper, Record, numbers_of}
use Rattle.keeper_state.specs.declared.Words.{Words}
use Rattle.keeper_state.specs.State.{is_open, opened_word, held_in, listed_in, records_of}
use Rattle.keeper_state.proofs.Opened.{opened_own}
use Rattle.frame_layout.proofs.Ranges.{starts_listed, ends_listed, ranges_count}
use Rattle.keeper_state.proofs.Records.{numbers_held, records_count}
use Rattle.keeper.specs.View.{Arrays, state_held, words_in}
use Rattle.keeper.specs.Plain.{Plain, Sized, Alike}
use Rattle.keeper.proofs.Words.{six}

-- arrays are equal to themselves
pub alike_own : (a : Arrays) → Alike a a
alike_own a = record { words = refl; numbers = refl; pdcps = refl; marks = refl; starts = refl; ends = refl }

-- ---- flags

-- a number that is 0 or 1 is what it says
flag_own : (x : ℕ) → x < 2 → bit (is_set x) ≡ x
flag_own zero h = refl
flag_own (suc zero) h = refl
flag_own (suc (suc x)) h = absurd (omega arith)

-- and so are numbers that are
flags_own : (xs : List ℕ) → Each (λ (x : ℕ). x < 2) xs → map (λ (x : ℕ). bit (is_set x)) xs ≡ xs
flags_own [] ps = refl
flags_own (x ∷ xs) ps = ap (λ (y : ℕ). y ∷ map (λ (x : ℕ). bit (is_set x)) xs) (flag_own x ps.0) ∙ ap (λ (ys : List ℕ). x ∷ ys) (flags_own xs ps.1)

-- ---- the records

-- their PDCP numbers
abbrev pdcps_of : List Record → List ℕ
pdcps_of rs = map (λ (r : Record). r.pdcp) rs

-- their marks
abbrev marks_of : List Record → List ℕ
marks_of rs = map (λ (r : Record). bit r.confirmed) rs

-- both of the first n records, where there are so many of all three
fields_held : (n : ℕ) (ns ps cs : List ℕ) → n ≤ length ns → n ≤ length ps → n ≤ length cs
    → let rs = take n (records_of ns ps cs) in (pdcps_of rs ≡ take n ps) × (marks_of rs ≡ map (λ (x : ℕ). bit (is_set x)) (take n cs))
fields_held zero ns ps cs hn hp hc = (refl, refl)
fields_held (suc n) [] ps cs hn hp hc = absurd (omega arith)
fields_held (suc n) (x ∷ ns) [] cs hn hp hc = absurd (omega arith)
fields_held (suc n) (x ∷ ns) (y ∷ ps) [] hn hp hc = absurd (omega arith)
fields_held (suc n) (x ∷ ns) (y ∷ ps) (z ∷ cs) hn hp hc =
    let rest = fields_held n ns ps cs (omega arith) (omega arith) (omega arith) in
    (ap (λ (l : List ℕ). y ∷ l) rest.0, ap (λ (l : List ℕ). bit (is_set z) ∷ l) rest.1)

-- ---- what a state says

-- its words
abbrev words_said : Keeper → List ℕ
words_said k = k.bits ∷ k.base ∷ k.reported ∷ opened_word k.closed ∷ length k.runs ∷ length k.records ∷ []

-- plain arrays hold what their state says
module _ (a : Arrays) (sized : Sized a) (plain : Plain a.words a.marks) where
  abbrev w : Words
  w = words_in a.words

  abbrev k : Keeper
  k = state_held a

  -- what the words count is what is read
  records_counted : w.records ≡ held_in w
  records_counted = omega (arith, plain.records.within)

  runs_counted : w.runs ≡ listed_in w
  runs_counted = omega (arith, plain.runs)

  -- the arrays, up to the counts
  numbers_said : numbers_of k.records ≡ take w.records a.numbers
  numbers_said = numbers_held (held_in w) a.numbers a.pdcps a.marks (omega arith) (omega arith) (omega arith) ∙ ap (λ (n : ℕ). take n a.numbers) (sym records_counted)

  fields_said : (pdcps_of k.records ≡ take (held_in w) a.pdcps) × (marks_of k.records ≡ map (λ (x : ℕ). bit (is_set x)) (take (held_in w) a.marks))
  fields_said = fields_held (held_in w) a.numbers a.pdcps a.marks (omega arith) (omega arith) (omega arith)

  pdcps_said : pdcps_of k.records ≡ take w.records a.pdcps
  pdcps_said = fields_said.0 ∙ ap (λ (n : ℕ). take n a.pdcps) (sym records_counted)

  marks_said : marks_of k.records ≡ take w.records a.marks
  marks_said =
      fields_said.1
      ∙ ap (λ (n : ℕ). map (λ (x : ℕ). bit (is_set x)) (take n a.marks)) (sym records_counted)
      ∙ flags_own (take w.records a.marks) plain.records.flags

  starts_said : starts_of k.runs ≡ take w.runs a.starts
  starts_said = starts_listed (listed_in w) a.starts a.ends (omega arith) (omega arith) ∙ ap (λ (n : ℕ). take n a.starts) (sym runs_counted)

  ends_said : ends_of k.runs ≡ take w.runs a.ends
  ends_said = ends_listed (listed_in w) a.starts a.ends (omega arith) (omega arith) ∙ ap (λ (n : ℕ). take n a.ends) (sym runs_counted)

  -- the words
  words_said_lem : a.words ≡ words_said k
  words_said_lem =
      let bits : length_in w.bits ≡ w.bits = length_read w.bits plain.bits in
      let opened : opened_word (not (is_open w.opened)) ≡ w.opened = opened_own w.opened plain.opened in
      let runs : length k.runs ≡ w.runs = omega (arith, runs_counted, length-take (listed_in w) (ranges_of a.starts a.ends), ranges_count a.starts a.ends) in
      let records : length k.records ≡ w.records = omega (arith, records_counted, length-take (held_in w) (records_of a.numbers a.pdcps a.marks), records_count a.numbers a.pdcps a.marks) in
      six a.words sized.words ∙ cc

-- ---- two of them

module _ (a b : Arrays) (sized_a : Sized a) (sized_b : Sized b) (plain-a : Plain a.words a.marks) (plain-b : Plain b.words b.marks) (same : state_held a ≡ state_held b) where
  same_words : a.words ≡ b.words
  same_words = words_said_lem a sized_a plain-a ∙ ap words_said same ∙ sym (words_said_lem b sized_b plain-b)

  -- the first of an array in both, by what the state says of them
  same_front : (array : Arrays → List ℕ) (count : Words → ℕ) (said : Keeper → List ℕ)
      → said (state_held a) ≡ take (count (words_in a.words)) (array a) → said (state_held b) ≡ take (count (words_in b.words)) (array b)
      → take (count (words_in a.words)) (array a) ≡ take (count (words_in a.words)) (array b)
  same_front array count said p q = sym p ∙ ap said same ∙ q ∙ ap (λ (ws : List ℕ). take (count (words_in ws)) (array b)) (sym same_words)

  -- of an array of records
  same_held : (array : Arrays → List ℕ) (said : List Record → List ℕ)
      → said (state_held a).records ≡ take (words_in a.words).records (array a) → said (state_held b).records ≡ take (words_in b.words).records (array b)
      → take (words_in a.words).records (array a) ≡ take (words_in a.words).records (array b)
  same_held array said = same_front array (λ (w : Words). w.records) (λ (k : Keeper). said k.records)

  -- of an array of runs
  same_listed : (array : Arrays → List ℕ) (said : List Range → List ℕ)
      → said (state_held a).runs ≡ take (words_in a.words).runs (array a) → said (state_held b).runs ≡ take (words_in b.words).runs (array b)
      → take (words_in a.words).runs (array a) ≡ take (words_in a.words).runs (array b)
  same_listed array said = same_front array (λ (w : Words). w.runs) (λ (k : Keeper). said k.runs)

  pub same_arrays : Alike a b
  same_arrays = record {
    words = same_words;
    numbers = same_held (λ (x : Arrays). x.numbers) numbers_of (numbers_said a sized_a plain-a) (numbers_said b sized_b plain-b);
    pdcps = same_held (λ (x : Arrays). x.pdcps) pdcps_of (pdcps_said a sized_a plain-a) (pdcps_said b sized_b plain-b);
    marks = same_held (λ (x : Arrays). x.marks) marks_of (marks_said a sized_a plain-a) (marks_said b sized_b plain-b);
    starts = same_listed (λ (x : Arrays). x.starts) starts_of (starts_said a sized_a plain-a) (starts_said b sized_b plain-b);
    ends = same_listed (λ (x : Arrays). x.ends) ends_of (ends_said a sized_a plain-a) (ends_said b sized_b plain-b);
  }
