-- The walk over a status's ranges, for a caller's loop: from the cursor that `first_range` gives, `next_range` answers
-- the status's ranges one after another, and then that none is left.
-- Assumes nothing.
use Rattle.std.proofs.Common.{◌≡◌, ℕ, zero, suc, ◌+◌, ◌-◌, ◌*◌, ◌%◌, ◌≤◌, ◌<◌, Bool, true, false, List, [], ◌∷◌, Some, None, length, get_or, ltb, if◌then◌else◌, refl, sym, ◌∙◌, ap, arith}
use Rattle.std.proofs.lemmas.Bool.{le-ltb, ltb-false}
use Rattle.std.proofs.Math.Dec.{eqb-suc-zero}
use Rattle.frame_layout.specs.Octets.{field}
use Rattle.frame_layout.specs.Types.{range_of}
use Rattle.frame_layout.specs.Frames.{Range, Status, status_of, most_ranges, width, list_at, count_at, ranges_at, read_frame, listed_in, count_in}
use Rattle.frame_layout.specs.Trips.{AreOctets, GoodLength, Frame as Framed, status_frame, reading_of as meant}
use Rattle.circle.specs.Lengths.{modulus}
use Rattle.basics.proofs.Apart.{apart}
use Rattle.frame_layout.proofs.Octets.{field_below, length_ranges_at}
use Rattle.frame_layout.proofs.Read.{few_read, Read, as_data, as_status, frame_read}
use Rattle.frame_reader.specs.declared.Head.{Head}
use Rattle.frame_reader.specs.declared.Frame.TheVariants as frame
use Rattle.frame_reader.specs.declared.Cursor.{Cursor}
use Rattle.frame_reader.specs.declared.Step.{Step}
use Rattle.frame_reader.specs.Answers.{reading_of, cursor_of, range_in, next_in, ranges_from, Held, there}
use Rattle.frame_reader.proofs.Unique.{same_status}

-- a walk from a cursor on: each range that is answered, and that none is left behind the last
pub data Walk (s : List ℕ) : Cursor → List Range → Type 0 where
  ends : {c : Cursor} → next_in s c ≡ None → Walk s c []
  goes : {c : Cursor} {t : Step} {rs : List Range} → next_in s c ≡ Some t → Walk s t.rest rs → Walk s c (range_of t.range ∷ rs)

-- ---- a step, by what is left

-- the frame that holds the ranges holds those behind the first
pub held_behind : (long : Bool) (place n m : ℕ) → place + suc n * (2 * width long) ≤ m → place + 2 * width long + n * (2 * width long) ≤ m
held_behind true place n m h = omega arith
held_behind false place n m h = omega arith

-- a range is left, and the frame holds it: it is answered, with the cursor behind it
pub one_left : (s : List ℕ) (long : Bool) (place n : ℕ) → place + 2 * width long ≤ length s
    → next_in s (record { long = long; place = place; left = suc n })
    ≡ Some (record { range = range_in s place (width long); rest = record { long = long; place = place + 2 * width long; left = n } })
one_left s long place n h =
    let less : suc n - 1 ≡ n = omega arith in
    rw (eqb-suc-zero n, le-ltb (length s) (place + 2 * width long) h, less)

-- none is left
pub none_left : (s : List ℕ) (long : Bool) (place : ℕ) → next_in s (record { long = long; place = place; left = 0 }) ≡ None
none_left s long place = refl

walk_at : (s : List ℕ) (long : Bool) (place n : ℕ) → place + n * (2 * width long) ≤ length s
    → Walk s (record { long = long; place = place; left = n }) (ranges_at s (width long) place n)
walk_at s long place zero h = ends refl
walk_at s long place (suc n) h =
    let behind = held_behind long place n (length s) h in
    goes (one_left s long place n (omega arith)) (walk_at s long (place + 2 * width long) n behind)

-- from a cursor whose ranges the frame holds, the walk answers them all
pub walks : (s : List ℕ) (c : Cursor) → Held s c → Walk s c (ranges_from s c)
walks s c h = walk_at s c.long c.place c.left h

-- ---- a step, by what was answered

-- a range was answered: it is the first of those ahead, and the others are ahead of the cursor that came with it
pub record Went (s : List ℕ) (c : Cursor) (t : Step) : Type 0 where
  pub split : ranges_from s c ≡ range_of t.range ∷ ranges_from s t.rest
  pub fewer : t.rest.left + 1 ≡ c.left
  pub form : t.rest.long ≡ c.long
  pub inside : t.rest.place ≤ length s
  pub held : Held s c → Held s t.rest

by_test : (b : Bool) (x t : Step) → (if b then None else Some x) ≡ Some t → (b ≡ false) × (x ≡ t)
by_test true x t e = apart (cc)
by_test false x t e = (refl, cc)

went_at : (s : List ℕ) (long : Bool) (place left : ℕ) (t : Step) → next_in s (record { long = long; place = place; left = left }) ≡ Some t
    → Went s (record { long = long; place = place; left = left }) t
went_at s long place zero t e = apart (cc)
went_at s long place (suc n) t e =
    let less : suc n - 1 ≡ n = omega arith in
    let p = by_test (ltb (length s) (place + 2 * width long)) _ t (rw (eqb-suc-zero n, less) at e) in
    rw (← p.1) (record { split = refl; fewer = omega arith; form = refl; inside = ltb-false _ _ p.0; held = held_behind long place n (length s) })

-- a caller whose cursor is c learns this from the answer
pub went : (s : List ℕ) (c : Cursor) {t : Step} → next_in s c ≡ Some t → Went s c t
went s c {t} e = went_at s c.long c.place c.left t e

-- a field of a form's width is on its circle
on_circle : (s : List ℕ) (i : ℕ) (long : Bool) → AreOctets s → field s i (width long) < modulus long
on_circle s i true o = field_below s i 3 o
on_circle s i false o = field_below s i 2 o

within_at : (s : List ℕ) (long : Bool) (place left : ℕ) (t : Step) → AreOctets s → next_in s (record { long = long; place = place; left = left }) ≡ Some t
    → (t.range.start < modulus long) × (t.range.end < modulus long)
within_at s long place zero t o e = apart (cc)
within_at s long place (suc n) t o e =
    let p = by_test (ltb (length s) (place + 2 * width long)) _ t (rw (eqb-suc-zero n) at e) in
    rw (← p.1) (on_circle s place long o, on_circle s (place + width long) long o)

-- the numbers of a range that was answered are on the circle of the cursor's form
pub within : (s : List ℕ) (c : Cursor) {t : Step} → AreOctets s → next_in s c ≡ Some t → (t.range.start < modulus c.long) × (t.range.end < modulus c.long)
within s c {t} o e = within_at s c.long c.place c.left t o e

end_at : (s : List ℕ) (long : Bool) (place left : ℕ) → place + left * (2 * width long) ≤ length s
    → next_in s (record { long = long; place = place; left = left }) ≡ None → left ≡ 0
end_at s long place zero h e = refl
end_at s long place (suc n) h e =
    let behind = held_behind long place n (length s) h in
    let on = one_left s long place n (omega arith) in
    cc

-- that none is left was answered, and the frame holds what is ahead: nothing is
pub ended : (s : List ℕ) (c : Cursor) → Held s c → next_in s c ≡ None → ranges_from s c ≡ []
ended s c h e = rw (end_at s c.long c.place c.left h e)

-- the frame holds what is ahead, and it is no more than a frame carries: it is all there
pub all_there : (s : List ℕ) (c : Cursor) → c.left ≤ most_ranges → Held s c → ranges_from s c ≡ there s c
all_there s c h k = rw (le-ltb most_ranges c.left h, le-ltb (length s) (c.place + c.left * (2 * width c.long)) k)

-- ---- from a frame that is read as a status

-- without a list, no range stands in the frame, which is longer than its fixed part
list_held : (long listed : Bool) (n m : ℕ) → m % 4 ≡ 2
    → (if listed then list_at (width long) else count_at (width long)) + (if listed then n else 0) * (2 * width long) ≤ m
    → list_at (width long) + (if listed then n else 0) * (2 * width long) ≤ m
list_held long true n m w h = h
list_held true false n m w h = omega arith
list_held false false n m w h = omega arith

-- the cursor before a status's ranges
abbrev pub before : Status → Cursor
before st = record { long = st.long; place = list_at (width st.long); left = length st.ranges }

-- a status that was read stands in the frame, no more ranges than a frame carries, and they are ahead of that cursor
pub record Stands (s : List ℕ) (st : Status) : Type 0 where
  pub held : Held s (before st)
  pub few : length st.ranges ≤ most_ranges
  pub there : ranges_from s (before st) ≡ st.ranges

stands_read : (s : List ℕ) (st : Status) (f : Framed) → meant f ≡ status_of st → GoodLength (length s) → Read s f → Stands s st
stands_read s st f e g (as_data long t) = apart (cc)
stands_read s st f e g (as_status long t fits) =
    let w = width long in
    let count : length (ranges_at s w (list_at w) (count_in s w)) ≡ count_in s w = length_ranges_at s w (list_at w) (count_in s w) in
    rw (← same_status _ _ e) (record {
      held = rw count (list_held long (listed_in s) (get_or s (count_at w) 0) (length s) g.phase fits.list_in);
      few = rw count (few_read (listed_in s) (count_in s w) (get_or s (count_at w) 0) refl fits.count_in_lem);
      there = rw count;
    })

pub stands : (s : List ℕ) (st : Status) → read_frame s ≡ status_of st → Stands s st
stands s st e =
    let r = frame_read s (status_frame st) e in
    stands_read s st (status_frame st) refl r.0 r.1

-- the frame holds the ranges from the first cursor on
pub held_first : (s : List ℕ) (h : Head) → reading_of s (frame.Status h) ≡ read_frame s → Held s (cursor_of h)
held_first s h e = rw (length_ranges_at s (width h.long) (list_at (width h.long)) h.count) at (stands s _ (sym e)).held

-- the walk over a frame that is read as a status answers the status's ranges
pub whole_walk : (s : List ℕ) (h : Head) (st : Status) → reading_of s (frame.Status h) ≡ read_frame s → read_frame s ≡ status_of st
    → Walk s (cursor_of h) st.ranges
whole_walk s h st e f =
    let says : ranges_from s (cursor_of h) ≡ st.ranges = ap (λ (x : Status). x.ranges) (same_status _ _ (e ∙ f)) in
    rw (← says) (walks s (cursor_of h) (held_first s h e))
