-- What is given up below a distance, put together from what a pass over the numbers tells.
-- Assumes nothing.
use Rattle.std.proofs.Common.{◌≡◌, Bool, true, false, List, [], ◌∷◌, map, None, ℕ, zero, suc, ◌+◌, ◌-◌, ◌^◌, ◌<◌, length, drop, refl, sym, ◌∙◌, ap, arith}
use Rattle.std.proofs.Math.ListN.{length-map, length-drop}
use mir.Val.{bool_byte}
use Rattle.basics.specs.Basics.{bit}
use Rattle.circle.specs.Circle.{forward}
use Rattle.circle.specs.Lengths.{modulus}
use Rattle.frame_layout.specs.Frames.{Range, ends_of}
use Rattle.bearer.specs.Bearer.{After, answering}
use Rattle.bearer.specs.Keeper.{Keeper, held, ◌with_base◌, ◌with_runs◌, ◌with_records◌, Record}
use Rattle.bearer.specs.Losses.{Gap, gaps, offsets, from_base, lost_below, run_of, new_runs, runs_joined}
use Rattle.keeper_state.specs.declared.Held.{Held}
use Rattle.keeper_state.specs.State.{modulus_in}
use Rattle.keeper_state.specs.Lent.{state_shown}
use Rattle.keeper_state.proofs.Showing.{numbers_shown, ends_shown}
use Rattle.keeper_loss.specs.declared.GivenUp.{GivenUp}
use Rattle.keeper_loss.specs.declared.Point.{Point}
use Rattle.keeper_loss.specs.Tally.{first_from, told, base_in}
use Rattle.keeper_loss.proofs.Bounds.{gaps_none, gaps_count}
use Rattle.keeper_judge.specs.declared.Losses.{Losses}
use Rattle.keeper_judge.specs.Judgements.{first_adjoins, joins_from, Reaches, ReachesFrom, Losing}
use Rattle.keeper_judge.proofs.Joining.{count_with}

-- the numbers from `from` on leave the gaps that those at or past base leave
pub same_gaps : {from limit M base : ℕ} {ns : List ℕ} → ReachesFrom from limit M base ns → gaps 0 limit (offsets M base (drop from ns)) ≡ lost_below M base ns limit
same_gaps {from} {limit} {M} {base} {ns} h = by_limit limit h.from_is
  where
    by_limit : (l : ℕ) → (0 < l → drop from ns ≡ from_base M base ns) → gaps 0 l (offsets M base (drop from ns)) ≡ lost_below M base ns l
    by_limit zero e = gaps_none 0 0 (offsets M base (drop from ns)) (omega arith) ∙ sym (gaps_none 0 0 (offsets M base (from_base M base ns)) (omega arith))
    by_limit (suc l) e = rw (e (omega arith))

-- the first new run adjoins where the first gap starts
joins_first : (M base : ℕ) (es : List ℕ) (gs : List Gap) → joins_from M base es (first_from gs) ≡ first_adjoins M es (map (run_of M base) gs)
joins_first M base es [] = refl
joins_first M base es (g ∷ gs) = refl

-- a run fewer where the first new one joins
count_less : (n m : ℕ) (t : Bool) → n + bit t ≡ m → n ≡ m - bool_byte t
count_less n m true e = omega arith
count_less n m false e = omega arith

-- what is told of the gaps, when runs with these ends are listed
module _ (M base : ℕ) (ns es : List ℕ) (runs : List Range) (seen : ends_of runs ≡ es) (up : GivenUp) (l : ℕ) (tells : up ≡ told (lost_below M base ns l)) where
  new_count : length (new_runs M base ns l) ≡ up.gaps
  new_count = length-map (lost_below M base ns l) (run_of M base) ∙ sym (ap (λ (g : GivenUp). g.gaps) tells)

  listed_count : length runs ≡ length es
  listed_count = sym (length-map runs (λ (r : Range). r.end)) ∙ ap length seen

  joins_new : joins_from M base es up.first ≡ first_adjoins M (ends_of runs) (new_runs M base ns l)
  joins_new = rw (ap (λ (g : GivenUp). g.first) tells, ← seen) (joins_first M base (ends_of runs) (lost_below M base ns l))

  runs_new : (joins : Bool) → joins ≡ joins_from M base es up.first → length (runs_joined M runs (new_runs M base ns l)) ≡ length es + up.gaps - bool_byte joins
  runs_new joins e =
      count_less (length (runs_joined M runs (new_runs M base ns l))) (length es + up.gaps) joins
      (omega (arith, count_with M runs (new_runs M base ns l) joins (sym (e ∙ joins_new)), new_count, listed_count))

  losing_lem : (from : ℕ) → ReachesFrom from l M base ns → (joins : Bool) → joins ≡ joins_from M base es up.first
      → Losing (record { from = from; limit = l; numbers = up.numbers; runs = length es + up.gaps - bool_byte joins; joins = joins }) M base ns runs
  losing_lem from reach joins e = record {
    reaches = reach;
    numbers_are = ap (λ (g : GivenUp). g.numbers) tells;
    joins_is = e ∙ joins_new;
    runs_are = sym (runs_new joins e);
  }

-- ---- the same in two cases

-- nothing, when so many runs are listed
abbrev pub none_lost : ℕ → ℕ → ℕ → Losses
none_lost from limit listed = record { from = from; limit = limit; numbers = 0; runs = listed; joins = false }

-- nothing is told of no gap
no_gap : (gs : List Gap) (up : GivenUp) → up ≡ told gs → up.gaps ≡ 0 → (up.numbers ≡ 0) × (up.first ≡ None)
no_gap [] up tells e = rw tells (refl, refl)
no_gap (g ∷ gs) up tells e = absurd (omega (arith, ap (λ (u : GivenUp). u.gaps) tells))

-- no run more, and none joins
less_none : (n : ℕ) → n + 0 - bool_byte false ≡ n
less_none n = omega arith

-- a run fewer where the first new one joins, taken away
less_bit : (runs n : ℕ) (t : Bool) → runs + bit t ≡ n → runs ≡ n - bool_byte t
less_bit runs n true e = omega arith
less_bit runs n false e = omega arith

module _ (M base : ℕ) (ns : List ℕ) (runs : List Range) (up : GivenUp) (l : ℕ) (tells : up ≡ told (lost_below M base ns l)) where
  -- no gap: nothing is lost
  pub none_losing : (from : ℕ) → Reaches (none_lost from l (length (ends_of runs))) M base ns → up.gaps ≡ 0 → Losing (none_lost from l (length (ends_of runs))) M base ns runs
  none_losing from reach e =
      let none = no_gap (lost_below M base ns l) up tells e in
      let is : false ≡ joins_from M base (ends_of runs) up.first = rw none.1 in
      let few : length (ends_of runs) + up.gaps - bool_byte false ≡ length (ends_of runs) = rw e (less_none (length (ends_of runs))) in
      rw (none.0, few) at (losing_lem M base ns (ends_of runs) runs refl up l tells from reach false is)

  -- some: the first new run joins the last listed one or doesn't
  pub some_losing : (lost : Losses) → lost.limit ≡ l → Reaches lost M base ns → (up.gaps ≡ 0 → ⊥) → lost.numbers ≡ up.numbers
      → lost.joins ≡ joins_from M base (ends_of runs) up.first → lost.runs + bit lost.joins ≡ length (ends_of runs) + up.gaps
      → Losing lost M base ns runs
  some_losing lost limit reach some numbers joins count =
      let few : lost.runs ≡ length (ends_of runs) + up.gaps - bool_byte lost.joins = less_bit lost.runs (length (ends_of runs) + up.gaps) lost.joins count in
      let it = losing_lem M base ns (ends_of runs) runs refl up l tells lost.from (rw limit at reach) lost.joins joins in
      record {
        reaches = reach;
        numbers_are = rw limit (numbers ∙ it.numbers_are);
        joins_is = rw limit it.joins_is;
        runs_are = rw limit (few ∙ it.runs_are);
      }

-- ---- the same of what is held and listed, seen from base

-- what is told of its gaps
module _ (h : Held) (b : Point) (is : b ≡ base_in h.words) (from limit : ℕ) (up : GivenUp) (joins : Bool)
    (reach : ReachesFrom from limit (modulus b.long) b.at h.numbers.now) (tells : up ≡ told (gaps 0 limit (offsets (modulus b.long) b.at (drop from h.numbers.now))))
    (joins_is : joins ≡ joins_from (modulus b.long) b.at h.ends.now up.first) where
  -- so many gaps, and so many runs, fit a word
  pub gaps_fit : length h.numbers.now < 2 ^ 62 → up.gaps < 2 ^ 63
  gaps_fit few =
      omega (
        arith,
        ap (λ (g : GivenUp). g.gaps) tells,
        gaps_count 0 limit (offsets (modulus b.long) b.at (drop from h.numbers.now)),
        length-map (drop from h.numbers.now) (forward (modulus b.long) b.at),
        length-drop from h.numbers.now,
      )

  pub losing : Losing (record { from = from; limit = limit; numbers = up.numbers; runs = length h.ends.now + up.gaps - bool_byte joins; joins = joins })
      (modulus_in h.words) h.words.base (held (state_shown h)) (state_shown h).runs
  losing =
      rw (numbers_shown h)
      (losing_lem (modulus_in h.words) h.words.base h.numbers.now h.ends.now (state_shown h).runs (ends_shown h) up limit (rw is at (tells ∙ ap told (same_gaps reach))) from (rw is at reach) joins (rw is at joins_is))

-- an accepted arrival or expiry, by its parts
pub same_outcome : (k : Keeper) {c c' b b' : ℕ} {runs runs' : List Range} {records : List Record} → c ≡ c' → b ≡ b' → runs ≡ runs'
    → ◌≡◌ {A = After Keeper ℕ} (answering c (k with_base b with_runs runs with_records records)) (answering c' (k with_base b' with_runs runs' with_records records))
same_outcome k e f g = rw (e, f, g)
