-- The ranges that a view shows: where the frame holds all of a status's ranges they are those, and the numbers of each are on the
-- circle of the frame's form.
-- Assumes nothing.
use mathlib.Core.Bool.{Bool, true, false}
use mathlib.Core.List.{List, [], ◌∷◌}
use Rattle.std.specs.Prelude.{Option, Some, None, if◌then◌else◌}
use mathlib.Core.Path.{◌≡◌, refl, ap, ◌∙◌}
use Prim.Native.Nat.{ℕ, zero, suc, ◌+◌, ◌-◌, ◌*◌, ◌^◌, ◌≤◌, ◌<◌}
use native.Mathlib.Omega.{arith}
use borrow.Author.Tests.{le-ltb}
use lib.Dec.{ltb, eqb-suc-zero}
use lib.ListN.{length}
use Rattle.circle.specs.Lengths.{modulus}
use Rattle.frame_layout.specs.Octets.{field}
use Rattle.frame_layout.specs.Frames.{Range, width, ranges_at}
use Rattle.frame_layout.specs.Trips.{AreOctets}
use Rattle.frame_layout.proofs.Octets.{field_below}
use Rattle.basics.proofs.Choices.{of_choice}
use Rattle.frame_layout.specs.Types.{range_of}
use Rattle.frame_reader.specs.declared.Cursor.{Cursor}
use Rattle.frame_reader.specs.declared.Step.{Step}
use Rattle.frame_reader.specs.Answers.{next_in, range_in}
use Rattle.frame_view.specs.Views.{ahead}
use Rattle.ledger_marks.specs.Walked.{walked}
use Rattle.frame_reader.proofs.Walk.{held_behind}

-- a range
abbrev pub range : ℕ → ℕ → Range
range s t = record { start = s; end = t }

-- the frame holds what is ahead: all of it is shown
pub all_met : (s : List ℕ) (long : Bool) (place left : ℕ) → place + left * (2 * width long) ≤ length s → ahead s (width long) place left ≡ ranges_at s (width long) place left
all_met s long place zero h = refl
all_met s long place (suc n) h =
    let behind = held_behind long place n (length s) h in
    let fits : place + 2 * width long ≤ length s = omega arith in
    rw (le-ltb (length s) (place + 2 * width long) fits) (ap (λ (rs : List Range). range (field s place (width long)) (field s (place + width long) (width long)) ∷ rs) (all_met s long (place + 2 * width long) n behind))

-- the numbers of ranges are on the circle of a form
abbrev pub OnCircle : Bool → List Range → Type 0
OnCircle long [] = Unit {0}
OnCircle long (r ∷ rs) = (r.start < modulus long) × (r.end < modulus long) × OnCircle long rs

-- those of a frame of the form are
pub shown_on_circle : (s : List ℕ) → AreOctets s → (long : Bool) (place left : ℕ) → OnCircle long (ahead s (width long) place left)
shown_on_circle s o long place zero = tt
shown_on_circle s o long place (suc n) =
    of_choice (OnCircle long) (ltb (length s) (place + 2 * width long)) [] _ (λ t. tt)
    (λ t. (in_width long (field_below s place (width long) o), in_width long (field_below s (place + width long) (width long) o), shown_on_circle s o long (place + 2 * width long) n))
  where
    in_width : (long : Bool) {n : ℕ} → n < 256 ^ width long → n < modulus long
    in_width true h = h
    in_width false h = h

-- ---- range by range, from one cursor to the next

-- the ranges ahead, by what was answered of the first of them
abbrev pub first_then : List ℕ → Option Step → List Range
first_then s None = []
first_then s (Some t) = range_of t.range ∷ walked s t.rest

-- where there is no room none is ahead
by_room : (s : List ℕ) (b : Bool) (x : Step) → (if b then [] else range_of x.range ∷ walked s x.rest) ≡ first_then s (if b then None else Some x)
by_room s true x = refl
by_room s false x = refl

-- what is ahead is what was answered, and what is ahead of the rest
shown_at : (s : List ℕ) (long : Bool) (place left : ℕ) → ahead s (width long) place left ≡ first_then s (next_in s (record { long = long; place = place; left = left }))
shown_at s long place zero = refl
shown_at s long place (suc n) =
    let less : suc n - 1 ≡ n = omega arith in
    rw (eqb-suc-zero n, less)
    (by_room s (ltb (length s) (place + 2 * width long)) (record { range = range_in s place (width long); rest = record { long = long; place = place + 2 * width long; left = n } }))

-- a range was answered: it is the first of those ahead, and the others are ahead of the cursor that came with it
pub met : (s : List ℕ) (c : Cursor) {t : Step} → next_in s c ≡ Some t → walked s c ≡ range_of t.range ∷ walked s t.rest
met s c e = shown_at s c.long c.place c.left ∙ ap (first_then s) e

-- that none is left was answered: none is ahead
pub met_none : (s : List ℕ) (c : Cursor) → next_in s c ≡ None → walked s c ≡ []
met_none s c e = shown_at s c.long c.place c.left ∙ ap (first_then s) e
