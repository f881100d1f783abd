-- The ranges that are left where two lists are walked side by side.
-- Assumes nothing.
use Rattle.std.proofs.Common.{◌≡◌, ◌⊎◌, inl, inr, ℕ, ◌+◌, ◌≤◌, ◌<◌, List, [], ◌∷◌, length, get_or, drop, refl, ◌∙◌, arith}
use native.Mathlib.Numerals.{add-one}
use lib.ListN.{length-drop}
use lib.Seq.{drop-cons}
use Rattle.frame_layout.specs.Frames.{Range, ranges_of}
use Rattle.frame_layout.proofs.Ranges.{ranges_count}

none : (rs : List Range) → length rs ≡ 0 → rs ≡ []
none [] e = refl
none (r ∷ rs) e = absurd (omega (arith, e))

-- behind the last of either there are none
pub none_left : {X : Type 0} {P Q : X → Type 0} (ss es : List ℕ) → ((x : X) × ((length ss ≡ 0) × P x)) ⊎ ((x : X) × ((length es ≡ 0) × Q x)) → ranges_of ss es ≡ []
none_left ss es (inl e) = none _ (omega (arith, ranges_count ss es, e.1.0))
none_left ss es (inr e) = none _ (omega (arith, ranges_count ss es, e.1.0))

-- ---- the same by a place. No code goes so today; the laws stand

-- the ranges from place i on
abbrev pub ranges_on : List ℕ → List ℕ → ℕ → List Range
ranges_on ss es i = ranges_of (drop i ss) (drop i es)

-- the range at place i
abbrev pub range_at : List ℕ → List ℕ → ℕ → Range
range_at ss es i = record { start = get_or ss i 0; end = get_or es i 0 }

module _ (ss es : List ℕ) (i : ℕ) where
  -- those from a place on: the range there, and those behind it
  pub ranges_next : i < length (ranges_of ss es) → ranges_on ss es i ≡ range_at ss es i ∷ ranges_on ss es (i + 1)
  ranges_next h =
      let in-ss : i < length ss = omega (arith, ranges_count ss es) in
      let in-es : i < length es = omega (arith, ranges_count ss es) in
      rw (drop-cons ss i 0, drop-cons es i 0, add-one i)

  -- behind the last there are none
  pub ranges_end : length (ranges_of ss es) ≤ i → ranges_on ss es i ≡ []
  ranges_end h = none _ (ranges_count (drop i ss) (drop i es) ∙ simp length-drop (omega (arith, ranges_count ss es)))
