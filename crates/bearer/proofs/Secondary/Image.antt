-- The secondary's machine on numbers does what the machine on packet indexes does (Index.antt), wherever all packets of the
-- state lie within half the circle of base: each call answers the same and leaves the image of the same state.
-- Assumes nothing.
use Rattle.std.specs.Prelude.{if◌then◌else◌}
use mathlib.Core.Path.{◌≡◌, refl, sym, ◌∙◌, ap}
use mathlib.Core.Bool.{Bool, true, false}
use mathlib.Core.Logic.{⊎_elim}
use Prim.Native.Nat.{ℕ, ◌+◌, ◌-◌, ◌≤◌, ◌<◌}
use native.Mathlib.Omega.{arith}
use native.Mathlib.Nat.{mod-lt}
use borrow.Author.Tests.{leb-false, lt-ltb, le-ltb}
use lib.Dec.{ltb, leb, eqb}
use lib.ListN.{length, length-map}
use Rattle.basics.specs.Basics.{done}
use Rattle.basics.proofs.Choices.{tested, contrary, chosen, choice, never_done}
use Rattle.basics.proofs.Lists.{map_inserted}
use Rattle.circle.specs.Circle.{forward}
use Rattle.circle.specs.Sides.{Side, same, ahead, behind, opposite, lies}
use Rattle.circle.specs.Lengths.{modulus_of, half, pdcps, pdcp_before}
use Rattle.bearer.specs.Bearer.{most_records, refusing, answering}
use Rattle.bearer.specs.Losses.{is_before, size_of}
use Rattle.bearer.specs.Keeper as K
use Rattle.bearer.specs.Keeper.{limit_of, ◌with_base◌, ◌with_runs◌, ◌with_records◌}
use Rattle.bearer.specs.Packets.{number_of}
use Rattle.bearer.specs.Account.{indexes}
use Rattle.bearer.specs.KeeperMeaning.{record_at}
use Rattle.bearer.proofs.Lists.Mapped.{front_within}
use Rattle.bearer.proofs.Lists.Numbers.{first_number, whole, positive, to_later, lies_is, before_is}
use Rattle.bearer.proofs.Secondary.Index.{Indexed, fresh_indexed, image, image_after, floor_i, place_i, new_held, arrived_i, arrive_i, expire_i}
use Rattle.bearer.proofs.Secondary.ImageState.{floor_is, place_is, given_up_is, runs_after_are, many_runs_are, base_after_is, arrived_base_is, has_is, has_at_place}
pub use Rattle.bearer.proofs.Secondary.ImageState.{InReach}

-- a fresh end is that of the machine on indexes
pub image_fresh : (L first f : ℕ) → first < modulus_of L → K.fresh_keeper L first f ≡ image L first (fresh_indexed (pdcp_before L f))
image_fresh L first f small = ap (λ (n : ℕ). K.fresh_keeper L n f) (first_number L first small)

-- ---- an arrival, by how it lies to base

-- one that doesn't lie before base goes on
pub goes_on : (k : K.Keeper) (n p : ℕ) (s : Side) → is_before s ≡ false → K.arrive_by k n p s ≡ K.arrive_on k n p
goes_on k n p same e = refl
goes_on k n p ahead e = refl
goes_on k n p behind e = absurd (contrary refl e)
goes_on k n p opposite e = absurd (contrary refl e)

-- and one that is accepted went on
pub went_on : (k : K.Keeper) (n p c : ℕ) (s : Side) → (K.arrive_by k n p s).answer ≡ done c → is_before s ≡ false
went_on k n p c same e = refl
went_on k n p c ahead e = refl
went_on k n p c behind e = never_done 11 c e
went_on k n p c opposite e = never_done 18 c e

-- what is refused of a packet before base: opposite, if it is half the circle behind it, or late
abbrev pub refused_before : ℕ → ℕ → ℕ → ℕ
refused_before h base i = if eqb (i + h) base then 18 else 11

module _ (L first : ℕ) (a : Indexed) where
  -- an open end, and numbers that are numbers: neither 9 nor 10
  not_refused_10 : (i pdcp : ℕ) → pdcp < pdcps L → a.closed ≡ false
      → K.arrive (image L first a) (number_of L first i) pdcp
      ≡ K.arrive_by (image L first a) (number_of L first i) pdcp (lies (modulus_of L) (number_of L first a.base) (number_of L first i))
  not_refused_10 i pdcp fits not-closed =
      rw (not-closed, lt-ltb (number_of L first i) (modulus_of L) (mod-lt (first + i) (positive L)), lt-ltb pdcp (pdcps L) fits)

  -- the arrival of a packet before base
  pub before_refused : (i pdcp : ℕ) → i < a.base → a.base ≤ i + half L → pdcp < pdcps L → a.closed ≡ false
      → K.arrive (image L first a) (number_of L first i) pdcp ≡ refusing (refused_before (half L) a.base i) (image L first a)
  before_refused i pdcp before near fits not-closed =
      not_refused_10 i pdcp fits not-closed
      ∙ ap (K.arrive_by (image L first a) (number_of L first i) pdcp)
      (lies_is (modulus_of L) first (positive L) (whole L) a.base i near (omega arith) ∙ chosen _ _ (lt-ltb i a.base before))
      ∙ by (eqb (i + half L) a.base)
    where
      by : (t : Bool) → K.arrive_by (image L first a) (number_of L first i) pdcp (if t then opposite else behind) ≡ refusing (if t then 18 else 11) (image L first a)
      by true = refl
      by false = refl

module _ (L first : ℕ) (a : Indexed) (reach : InReach L a) where
  -- an accepted arrival
  arrived_is : (pdcp d : ℕ) → d < half L
      → K.arrived (image L first a) (number_of L first (a.base + d)) pdcp (place_i a (a.base + d)) d ≡ image L first (arrived_i a pdcp (place_i a (a.base + d)) d)
  arrived_is pdcp d h =
      let runs = runs_after_are L first a reach (limit_of d) (omega arith) in
      let records = map_inserted (record_at L first) (place_i a (a.base + d)) (new_held (a.base + d) pdcp) a.records in
      λ i. image L first a with_base arrived_base_is L first a reach d i with_runs runs i with_records sym records i

  arrive_at_is : (pdcp d : ℕ) → d < half L
      → K.arrive_at (image L first a) (number_of L first (a.base + d)) pdcp (place_i a (a.base + d)) d
      ≡ image_after L first (arrive_i (half L) a pdcp (place_i a (a.base + d)) d)
  arrive_at_is pdcp d h =
      choice (image_after L first) (has_is L first a reach d p h within) refl
      (choice (image_after L first) (ap (λ (f : ℕ). leb (half L) (f + d)) (floor_is L first a reach)) refl
      (choice (image_after L first) (many_runs_are L first a reach (limit_of d) (omega arith)) refl
      (choice (image_after L first) (ap (leb most_records) (length-map a.records (record_at L first))) refl
      (λ i. answering (size_of (given_up_is L first a reach (limit_of d) i)) (arrived_is pdcp d h i)))))
    where
      p : ℕ
      p = place_i a (a.base + d)

      within : p ≤ length a.records
      within = rw length-map at (front_within (ltb (a.base + d)) (indexes a.records))

  -- ... at its own place: where that isn't the one of its index, the arrival is refused in any case
  module _ (d pdcp : ℕ) (h : d < half L) where
    -- the packet's number, and the call at that number's place
    abbrev number : ℕ
    number = number_of L first (a.base + d)

    abbrev AtPlace : Type 0
    AtPlace = K.arrive_at (image L first a) number pdcp (K.place_of (image L first a) number) d ≡ image_after L first (arrive_i (half L) a pdcp (place_i a (a.base + d)) d)

    too_long : leb (half L) (floor_i a + d) ≡ true → AtPlace
    too_long e =
        choice (image_after L first) (has_at_place L first a reach d h) refl
        (chosen _ _ (ap (λ (f : ℕ). leb (half L) (f + d)) (floor_is L first a reach) ∙ e) ∙ sym (ap (image_after L first) (chosen _ _ e)))

    in_span : leb (half L) (floor_i a + d) ≡ false → AtPlace
    in_span e =
        ap (λ (p : ℕ). K.arrive_at (image L first a) number pdcp p d) (place_is L first a reach d (leb-false (half L) (floor_i a + d) e))
        ∙ arrive_at_is pdcp d h

    image_arrive_at : AtPlace
    image_arrive_at = ⊎_elim too_long in_span (tested (leb (half L) (floor_i a + d)))

  -- ... and by its distance
  pub image_arrive_on : (d pdcp : ℕ) → d < half L
      → K.arrive_on (image L first a) (number_of L first (a.base + d)) pdcp ≡ image_after L first (arrive_i (half L) a pdcp (place_i a (a.base + d)) d)
  image_arrive_on d pdcp h =
      ap (K.arrive_at (image L first a) (number_of L first (a.base + d)) pdcp (K.place_of (image L first a) (number_of L first (a.base + d)))) distance
      ∙ image_arrive_at d pdcp h
    where
      distance : forward (modulus_of L) (number_of L first a.base) (number_of L first (a.base + d)) ≡ d
      distance = to_later (modulus_of L) first (positive L) a.base (a.base + d) (omega arith) (omega (arith, whole L)) ∙ (let e : a.base + d - a.base ≡ d = omega arith in e)

  -- the arrival of the packet d past base, less than half the circle on
  pub image_arrive : (d pdcp : ℕ) → d < half L → pdcp < pdcps L → a.closed ≡ false
      → K.arrive (image L first a) (number_of L first (a.base + d)) pdcp ≡ image_after L first (arrive_i (half L) a pdcp (place_i a (a.base + d)) d)
  image_arrive d pdcp h fits not-closed =
      not_refused_10 L first a (a.base + d) pdcp fits not-closed
      ∙ goes_on (image L first a) (number_of L first (a.base + d)) pdcp (lies (modulus_of L) (number_of L first a.base) (number_of L first (a.base + d)))
      (before_is (modulus_of L) first (positive L) (whole L) a.base (a.base + d) (omega arith) (omega arith) ∙ le-ltb (a.base + d) a.base (omega arith))
      ∙ image_arrive_on d pdcp h

  -- an expiry of what is open below a distance, at most half the circle on
  pub image_expire_below : (d : ℕ) → d ≤ half L → K.expire_below (image L first a) d ≡ image_after L first (expire_i a d)
  image_expire_below d h =
      choice (image_after L first) (many_runs_are L first a reach d h) refl
      (λ i. answering (size_of (given_up_is L first a reach d i))
      (image L first a with_base base_after_is L first a reach d i with_runs runs_after_are L first a reach d h i))
