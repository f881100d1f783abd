-- What stands in arrays side by side, one element after another: as the code lists it, and as the state has it.
-- Assumes nothing.
use Rattle.std.proofs.Common.{◌≡◌, ℕ, zero, suc, ◌+◌, ◌≤◌, ◌<◌, List, [], ◌∷◌, ◌++◌, length, get_or, take, refl, ap, ◌∙◌, add-one, arith, length-take, take_all}
use native.Mathlib.Nat.{suc-add}
use lib.ListN.{get_or-map}
use lib.Seq.{take-suc}
use Rattle.basics.specs.Basics.{is_set}
use Rattle.bearer.specs.Keeper as secondary
use Rattle.frame_layout.specs.Frames as frames
use Rattle.std.specs.Prelude.{map, min}
use Rattle.std.proofs.Math.ListN.{length-map}
use Rattle.std.specs.List.{zip}
use Rattle.frame_layout.specs.Frames.{ranges_of}
use Rattle.frame_layout.specs.Types.{range_of}
use Rattle.frame_layout.specs.declared.Range.{Range}
use Rattle.lister_text.specs.Texts.{range_text}
use Rattle.keeper_state.specs.declared.Held.{Held}
use Rattle.keeper_state.specs.State.{Arrays, listed_in, held_in, records_of}
use Rattle.keeper_state.specs.Lent.{Shows, state_shown}
use Rattle.replay_states.specs.declared.Record.{Record}
use Rattle.ledger_entries.specs.declared.Entry.{Entry}
use Rattle.ledger_entries.specs.declared.Entries.{Entries}
use Rattle.ledger_entries.specs.View.{entry_in, entries_in, entries_of}
use Rattle.replay_states.specs.States.{held_text, record_text, entry_text, keeper_listed}

-- ---- runs

-- a start and an end
abbrev pub run_of : ℕ × ℕ → Range
run_of p = record { start = p.0; end = p.1 }

pub runs_listed : (ss es : List ℕ) → map (λ r. range_text (range_of r)) (map run_of (zip ss es)) ≡ map range_text (ranges_of ss es)
runs_listed [] es = refl
runs_listed (s ∷ ss) [] = refl
runs_listed (s ∷ ss) (e ∷ es) = rw (runs_listed ss es)

pub runs_few : (ss es : List ℕ) → length (map run_of (zip ss es)) ≤ length ss
runs_few [] es = omega arith
runs_few (s ∷ ss) [] = omega arith
runs_few (s ∷ ss) (e ∷ es) = omega (arith, runs_few ss es)

-- ---- records

-- a number, its PDCP number and the mark of confirmation
abbrev pub record_of : (ℕ × ℕ) × ℕ → Record
record_of p = record { number = p.0.0; pdcp = p.0.1; mark = p.1 }

pub records_listed : (ns ps cs : List ℕ) → map held_text (map record_of (zip (zip ns ps) cs)) ≡ map record_text (records_of ns ps cs)
records_listed [] ps cs = refl
records_listed (n ∷ ns) [] cs = refl
records_listed (n ∷ ns) (p ∷ ps) [] = refl
records_listed (n ∷ ns) (p ∷ ps) (c ∷ cs) = rw (records_listed ns ps cs)

pub records_few : (ns ps cs : List ℕ) → length (map record_of (zip (zip ns ps) cs)) ≤ length ns
records_few [] ps cs = omega arith
records_few (n ∷ ns) [] cs = omega arith
records_few (n ∷ ns) (p ∷ ps) [] = omega arith
records_few (n ∷ ns) (p ∷ ps) (c ∷ cs) = omega (arith, records_few ns ps cs)

-- ---- what is held and listed of arrays is listed whole

module _ {h : Held} {a : Arrays} (s : Shows h a) where
  runs_fit : length h.starts.now ≤ 256
  runs_fit = omega (arith, ap length s.starts ∙ length-take (listed_in h.words) a.starts)

  records_fit : length h.numbers.now ≤ 512
  records_fit = omega (arith, ap length s.numbers ∙ length-take (held_in h.words) a.numbers)

  pub listed_whole : keeper_listed h ≡ state_shown h
  listed_whole = rw (take_all 256 h.starts.now runs_fit, take_all 512 h.numbers.now records_fit)

-- ---- entries

pub entries_listed : (es : List Entry) → map (λ e. entry_text (entry_in e)) es ≡ map entry_text (map entry_in es)
entries_listed [] = refl
entries_listed (e ∷ es) = rw (entries_listed es)

pub entries_few : (es : List Entry) (s : Entries) → map entry_in es ≡ entries_of s → length es ≤ 512
entries_few es s e = omega (arith, simp length-map at (ap length e), length-take (min s.count 512) (map entry_in s.slots))

-- ---- one element more. No code goes so today; the laws stand

pub one_range : (ss es : List ℕ) (i : ℕ) → i < length ss → i < length es → take (i + 1) (ranges_of ss es) ≡ take i (ranges_of ss es) ++ (record { start = get_or ss i 0; end = get_or es i 0 } ∷ [])
one_range [] es i h g = absurd (let no : ⊥ = omega arith in no)
one_range (s ∷ ss) [] i h g = absurd (let no : ⊥ = omega arith in no)
one_range (s ∷ ss) (e ∷ es) zero h g = refl
one_range (s ∷ ss) (e ∷ es) (suc i) h g = rw (suc-add i 1) (ap (λ (rs : List frames.Range). record { start = s; end = e } ∷ rs) (one_range ss es i (omega arith) (omega arith)))

pub one_record : (ns ps cs : List ℕ) (i : ℕ) → i < length ns → i < length ps → i < length cs
    → take (i + 1) (records_of ns ps cs) ≡ take i (records_of ns ps cs) ++ (record { number = get_or ns i 0; pdcp = get_or ps i 0; confirmed = is_set (get_or cs i 0) } ∷ [])
one_record [] ps cs i h g k = absurd (let no : ⊥ = omega arith in no)
one_record (n ∷ ns) [] cs i h g k = absurd (let no : ⊥ = omega arith in no)
one_record (n ∷ ns) (p ∷ ps) [] i h g k = absurd (let no : ⊥ = omega arith in no)
one_record (n ∷ ns) (p ∷ ps) (c ∷ cs) zero h g k = refl
one_record (n ∷ ns) (p ∷ ps) (c ∷ cs) (suc i) h g k =
    rw (suc-add i 1) (ap (λ (rs : List secondary.Record). record { number = n; pdcp = p; confirmed = is_set c } ∷ rs) (one_record ns ps cs i (omega arith) (omega arith) (omega arith)))

pub one_entry : (es : List Entry) (i : ℕ) → i < length es → (d : Entry) → entries_in es (i + 1) ≡ entries_in es i ++ (entry_in (get_or es i d) ∷ [])
one_entry es i h d = rw (add-one i, ← get_or-map entry_in es i d) (take-suc (map entry_in es) i (entry_in d) (rw length-map h))
