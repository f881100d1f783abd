-- The state of the secondary's machine, seen from base: where all packets of the state lie within half the circle of base,
-- each distance, place, gap and run of specs/Keeper.antt is that of the machine on packet indexes (Index.antt).
-- Assumes nothing.
use mathlib.Core.Path.{◌≡◌, refl, sym, ◌∙◌, ap, ap₂}
use mathlib.Core.Bool.{Bool, true, false}
use mathlib.Core.List.{List, [], ◌∷◌, ◌++◌, map, map-map, map-append}
use Prim.Native.Nat.{ℕ, zero, suc, ◌+◌, ◌-◌, ◌%◌, ◌≤◌, ◌<◌, max}
use native.Mathlib.Omega.{arith}
use borrow.Author.Tests.{ltb-false, leb-true, lt-ltb, le-ltb}
use lib.Dec.{ltb, leb, eqb}
use lib.ListN.{length, get_or, drop, length-map}
use Rattle.basics.specs.Basics.{◌or◌}
use Rattle.basics.proofs.Choices.{eqb_alike, choice}
use Rattle.basics.proofs.Lists.{map_drop, get_d_within}
use Rattle.circle.specs.Circle.{forward}
use Rattle.circle.specs.Lengths.{modulus_of, half}
use Rattle.frame_layout.specs.Frames.{Range}
use Rattle.bearer.specs.Bearer.{window, most_runs}
use Rattle.bearer.specs.Losses.{Gap, first_behind, ahead_of, from_on, front_of, is_beyond, offsets, from_base, gaps, lowest, raised_base, run_of, joined, runs_joined}
use Rattle.bearer.specs.Keeper as K
use Rattle.bearer.specs.Keeper.{limit_of}
use Rattle.bearer.specs.Packets.{number_of, Rising, Each}
use Rattle.bearer.specs.Account.{Held, run_at, indexes}
use Rattle.bearer.specs.KeeperMeaning.{record_at}
use Rattle.bearer.proofs.Lists.Mapped.{each_so, each_both, each_drop, each_at, each_map, each_behind, front_within, map_alike, front_alike, Below, gaps_below}
use Rattle.bearer.proofs.Lists.Elements.{each_there, there_each, rising_head, ends_in, ends_in_lem, ends_past}
use Rattle.bearer.proofs.Lists.Numbers.{whole, positive, onward_is, to_later, same_packet, same_number, ahead_is, before_is, from_is, behind_is}
use Rattle.bearer.proofs.Secondary.Index.{Indexed, image, first_back, froms, floor_i, place_i, has_i, past_base, above_i, given_up_i, gap_at, joined_i, runs_joined_i, runs_after_i, base_after_i, raised_base_i, arrived_base_i, beyond_i}

-- All packets of a state lie within half the circle of base: none further behind, no record as far ahead. Records are in sending order. Runs
-- hold packets before base only, and only records before base are confirmed.
pub record InReach (L : ℕ) (a : Indexed) : Type 0 where
  pub rising : Rising (indexes a.records)
  pub floor_runs : Each (λ (g : Gap). a.base ≤ g.from + half L) a.runs
  pub floor_records : Each (λ (h : Held). a.base ≤ h.index + half L) a.records
  pub records_ahead : Each (λ (h : Held). h.index < a.base + half L) a.records
  pub runs_before : Each (λ (g : Gap). (g.from < g.to) × (g.to ≤ a.base)) a.runs
  pub confirmed_before : Each (λ (h : Held). h.confirmed ≡ true → h.index < a.base) a.records

-- a packet within half a circle of base
abbrev pub Near : ℕ → ℕ → ℕ → Type 0
Near h base j = (base ≤ j + h) × (j < base + h)

-- no two such packets have one number
pub one_packet : (L first base i j : ℕ) → Near (half L) base i → Near (half L) base j → number_of L first i ≡ number_of L first j → i ≡ j
one_packet L first base i j near-i near-j e = same_packet (modulus_of L) first (positive L) i j (omega (arith, whole L)) (omega (arith, whole L)) e

-- a run within half a circle before base
abbrev pub Listed : ℕ → ℕ → Gap → Type 0
Listed h base g = (base ≤ g.from + h) × (g.from < g.to) × (g.to ≤ base)

-- ---- the state's numbers are those of its packets

module _ (L first : ℕ) where
  held_are : (hs : List Held) → map (λ (r : K.Record). r.number) (map (record_at L first) hs) ≡ map (number_of L first) (indexes hs)
  held_are [] = refl
  held_are (h ∷ hs) = ap (λ (ns : List ℕ). number_of L first h.index ∷ ns) (held_are hs)

  starts_are : (gs : List Gap) → map (λ (r : Range). r.start) (map (run_at L first) gs) ≡ map (number_of L first) (froms gs)
  starts_are [] = refl
  starts_are (g ∷ gs) = ap (λ (ns : List ℕ). number_of L first g.from ∷ ns) (starts_are gs)

-- ---- lists of packets near base

module _ (L first base : ℕ) where
  first_behind_is : (js : List ℕ) → Each (Near (half L) base) js
      → first_behind (modulus_of L) (number_of L first base) (map (number_of L first) js) ≡ first_back base js
  first_behind_is [] near = refl
  first_behind_is (j ∷ js) near = behind_is (modulus_of L) first (positive L) (whole L) base j near.0.0 near.0.1

  -- no packet is further behind base than the first
  first_furthest : (js : List ℕ) → Rising js → Each (λ (j : ℕ). base ≤ j + first_back base js) js
  first_furthest [] r = tt
  first_furthest (j ∷ js) r = (omega arith, there_each (λ (i : ℕ). base ≤ i + (base - j)) js (λ i t. let l = rising_head j js r i t in omega arith))

  -- whether the packet d past base is beyond the last
  beyond_last_is : (d : ℕ) → d < half L → (js : List ℕ) → Each (Near (half L) base) js
      → is_beyond (modulus_of L) (number_of L first base) (map (number_of L first) js) (number_of L first (base + d)) ≡ beyond_i base js (base + d)
  beyond_last_is d h [] near = refl
  beyond_last_is d h (j ∷ []) near =
      rw (before_is (modulus_of L) first (positive L) (whole L) base j near.0.0 near.0.1) (by (ltb j base) refl)
    where
      by : (t : Bool) → ltb j base ≡ t → (t or ahead_of (modulus_of L) (number_of L first j) (number_of L first (base + d))) ≡ (t or ltb j (base + d))
      by true e = refl
      by false e = let from : base ≤ j = ltb-false j base e in ahead_is (modulus_of L) first (positive L) (whole L) j (base + d) (omega arith) (omega arith)
  beyond_last_is d h (j ∷ i ∷ is) near = beyond_last_is d h (i ∷ is) near.1

  -- where the last packets begin that all lie ahead of base
  front_ahead : (js : List ℕ) → Each (Near (half L) base) js → front_of (ahead_of (modulus_of L) (number_of L first base)) (map (number_of L first) js) ≡ front_of (ltb base) js
  front_ahead js near =
      front_alike (number_of L first) (ahead_of (modulus_of L) (number_of L first base)) (ltb base) js
      (each_so js (λ j n. ahead_is (modulus_of L) first (positive L) (whole L) base j n.0 n.1) near)

  -- ... or are base
  front_from : (js : List ℕ) → Each (Near (half L) base) js → front_of (from_on (modulus_of L) (number_of L first base)) (map (number_of L first) js) ≡ front_of (leb base) js
  front_from js near =
      front_alike (number_of L first) (from_on (modulus_of L) (number_of L first base)) (leb base) js
      (each_so js (λ j n. from_is (modulus_of L) first (positive L) (whole L) base j n.0 n.1) near)

  -- the distances of the last packets, all at or past base
  offsets_are : (m : ℕ) → base ≤ m → (js : List ℕ) → Each (Near (half L) base) js
      → offsets (modulus_of L) (number_of L first base) (drop (front_of (leb m) js) (map (number_of L first) js)) ≡ past_base base (drop (front_of (leb m) js) js)
  offsets_are m h js near =
      let k = front_of (leb m) js in
      ap (offsets (modulus_of L) (number_of L first base)) (map_drop (number_of L first) k js)
      ∙ map-map (forward (modulus_of L) (number_of L first base)) (number_of L first) (drop k js)
      ∙ map_alike (λ (j : ℕ). forward (modulus_of L) (number_of L first base) (number_of L first j)) (λ (j : ℕ). j - base) (drop k js)
      (each_so (drop k js)
      (λ j n. to_later (modulus_of L) first (positive L) base j (omega (arith, leb-true m j n.0)) (omega (arith, whole L)))
      (each_both (λ (j : ℕ). leb m j ≡ true) (Near (half L) base) (drop k js) (each_behind (leb m) js) (each_drop (Near (half L) base) k js near)))

-- ---- runs of packets before base, with a gap behind them

module _ (L first base : ℕ) where
  -- a gap past base as a run
  run_of_is : (l : ℕ) (g : Gap) → Below l g → run_of (modulus_of L) (number_of L first base) g ≡ run_at L first (gap_at base g)
  run_of_is l g b =
      let e : base + (g.to - 1) ≡ base + g.to - 1 = omega arith in
      λ i. record {
        start = onward_is (modulus_of L) first (positive L) base g.from i;
        end = (onward_is (modulus_of L) first (positive L) base (g.to - 1) ∙ ap (number_of L first) e) i;
      }

  runs_of_are : (l : ℕ) (gs : List Gap) → Each (Below l) gs → map (run_of (modulus_of L) (number_of L first base)) gs ≡ map (run_at L first) (map (gap_at base) gs)
  runs_of_are l gs bs =
      map_alike (run_of (modulus_of L) (number_of L first base)) (λ (g : Gap). run_at L first (gap_at base g)) gs (each_so gs (run_of_is l) bs)
      ∙ sym (map-map (run_at L first) (gap_at base) gs)

  -- a run that ends at or before a gap, and is less than a turn behind its start
  abbrev Adjoins : Gap → Gap → Type 0
  Adjoins r x = (x.from < x.to) × (x.to ≤ r.from) × (r.from + 1 < x.to + modulus_of L)

  joined_is : (r : Gap) (xs : List Gap) → Each (Adjoins r) xs → joined (modulus_of L) (map (run_at L first) xs) (run_at L first r) ≡ map (run_at L first) (joined_i xs r)
  joined_is r [] hs = refl
  joined_is r (x ∷ []) hs = choice (map (run_at L first)) same refl refl
    where
      same : eqb (forward (modulus_of L) (number_of L first (x.to - 1)) (number_of L first r.from)) 1 ≡ eqb x.to r.from
      same =
          rw (to_later (modulus_of L) first (positive L) (x.to - 1) r.from (omega arith) (omega arith))
          (eqb_alike (r.from - (x.to - 1)) 1 x.to r.from (omega arith) (omega arith))
  joined_is r (x ∷ y ∷ ys) hs = ap (λ (rs : List Range). run_at L first x ∷ rs) (joined_is r (y ∷ ys) hs.1)

  with_runs_is : (l : ℕ) → l ≤ half L → (xs gs : List Gap) → Each (Listed (half L) base) xs → Each (Below l) gs
      → runs_joined (modulus_of L) (map (run_at L first) xs) (map (run_of (modulus_of L) (number_of L first base)) gs) ≡ map (run_at L first) (runs_joined_i xs (map (gap_at base) gs))
  with_runs_is l h xs [] listed bs = refl
  with_runs_is l h xs (g ∷ gs) listed bs =
      ap₂ (λ (r : Range) (rs : List Range). joined (modulus_of L) (map (run_at L first) xs) r ++ rs) (run_of_is l g bs.0) (runs_of_are l gs bs.1)
      ∙ ap (λ (rs : List Range). rs ++ map (run_at L first) (map (gap_at base) gs)) (joined_is (gap_at base g) xs adjoin)
      ∙ sym (map-append (run_at L first) (joined_i xs (gap_at base g)) (map (gap_at base) gs))
    where
      adjoin : Each (Adjoins (gap_at base g)) xs
      adjoin = each_so xs (λ x n. (n.1, omega arith, omega (arith, whole L))) listed

-- ---- the state, seen from base

module _ (L first : ℕ) (a : Indexed) (reach : InReach L a) where
  pub near_held : Each (λ (h : Held). Near (half L) a.base h.index) a.records
  near_held =
      each_both (λ (h : Held). a.base ≤ h.index + half L) (λ (h : Held). h.index < a.base + half L) a.records reach.floor_records reach.records_ahead

  near_records : Each (Near (half L) a.base) (indexes a.records)
  near_records = each_map (Near (half L) a.base) (λ (h : Held). h.index) a.records near_held

  pub listed_runs : Each (Listed (half L) a.base) a.runs
  listed_runs =
      each_so a.runs (λ g n. (n.0, n.1.0, n.1.1))
      (each_both (λ (g : Gap). a.base ≤ g.from + half L) (λ (g : Gap). (g.from < g.to) × (g.to ≤ a.base)) a.runs reach.floor_runs reach.runs_before)

  near_runs : Each (Near (half L) a.base) (froms a.runs)
  near_runs = each_map (Near (half L) a.base) (λ (g : Gap). g.from) a.runs (each_so a.runs (λ g n. (n.0, omega arith)) listed_runs)

  pub floor_is : K.floor (image L first a) ≡ floor_i a
  floor_is =
      ap₂ max
      (ap (first_behind (modulus_of L) (number_of L first a.base)) (starts_are L first a.runs) ∙ first_behind_is L first a.base (froms a.runs) near_runs)
      (ap (first_behind (modulus_of L) (number_of L first a.base)) (held_are L first a.records) ∙ first_behind_is L first a.base (indexes a.records) near_records)

  -- where no packet is half the circle behind the packet d past base, its place is that of its index
  pub place_is : (d : ℕ) → floor_i a + d < half L → K.place_of (image L first a) (number_of L first (a.base + d)) ≡ place_i a (a.base + d)
  place_is d fits =
      ap (front_of (ahead_of (modulus_of L) (number_of L first (a.base + d)))) (held_are L first a.records)
      ∙ front_ahead L first (a.base + d) (indexes a.records) near_it
    where
      back : ℕ
      back = first_back a.base (indexes a.records)

      near_it : Each (Near (half L) (a.base + d)) (indexes a.records)
      near_it =
          each_so (indexes a.records) (λ j n. (omega arith, omega arith))
          (each_both (λ (j : ℕ). a.base ≤ j + back) (Near (half L) a.base) (indexes a.records) (first_furthest L first a.base (indexes a.records) reach.rising) near_records)

  above_is : K.above (image L first a) ≡ above_i a
  above_is =
      ap (λ (ns : List ℕ). offsets (modulus_of L) (number_of L first a.base) (from_base (modulus_of L) (number_of L first a.base) ns)) (held_are L first a.records)
      ∙ ap (λ (k : ℕ). offsets (modulus_of L) (number_of L first a.base) (drop k (map (number_of L first) (indexes a.records))))
      (front_from L first a.base (indexes a.records) near_records)
      ∙ offsets_are L first a.base a.base (omega arith) (indexes a.records) near_records

  pub given_up_is : (l : ℕ) → K.given_up (image L first a) l ≡ given_up_i a l
  given_up_is l = ap (gaps 0 l) above_is

  pub runs_after_are : (l : ℕ) → l ≤ half L → K.runs_after (image L first a) l ≡ map (run_at L first) (runs_after_i a l)
  runs_after_are l h =
      ap (λ (gs : List Gap). runs_joined (modulus_of L) (map (run_at L first) a.runs) (map (run_of (modulus_of L) (number_of L first a.base)) gs)) (given_up_is l)
      ∙ with_runs_is L first a.base l h a.runs (given_up_i a l) listed_runs (gaps_below 0 l (above_i a))

  pub base_after_is : (l : ℕ) → K.base_after (image L first a) l ≡ number_of L first (base_after_i a l)
  base_after_is l =
      ap (λ (os : List ℕ). (number_of L first a.base + lowest l os) % modulus_of L) above_is
      ∙ onward_is (modulus_of L) first (positive L) a.base (lowest l (above_i a))

  raised_base_is : (l top : ℕ) → raised_base (modulus_of L) (number_of L first a.base) (K.above (image L first a)) l top ≡ number_of L first (raised_base_i a l top)
  raised_base_is l top =
      ap (λ (os : List ℕ). (number_of L first a.base + lowest l (os ++ (top ∷ []))) % modulus_of L) above_is
      ∙ onward_is (modulus_of L) first (positive L) a.base (lowest l (above_i a ++ (top ∷ [])))

  pub has_is : (d p : ℕ) → d < half L → p ≤ length a.records → K.has_record (image L first a) (number_of L first (a.base + d)) p ≡ has_i a (a.base + d) p
  has_is d zero h within = refl
  has_is d (suc p) h within =
      let inside : p < length (indexes a.records) = rw length-map within in
      let j : ℕ = get_or (indexes a.records) p 0 in
      let near : Near (half L) a.base j = each_at (Near (half L) a.base) (indexes a.records) p 0 inside near_records in
      ap (λ (ns : List ℕ). eqb (get_or ns p 0) (number_of L first (a.base + d))) (held_are L first a.records)
      ∙ ap (λ (n : ℕ). eqb n (number_of L first (a.base + d))) (get_d_within (number_of L first) (indexes a.records) p 0 0 inside)
      ∙ same_number (modulus_of L) first (positive L) j (a.base + d) (omega (arith, whole L)) (omega (arith, whole L))

  -- whether it has a record is found at its place in any case
  pub has_at_place : (d : ℕ) → d < half L
      → K.has_record (image L first a) (number_of L first (a.base + d)) (K.place_of (image L first a) (number_of L first (a.base + d))) ≡ has_i a (a.base + d) (place_i a (a.base + d))
  has_at_place d h =
      has_is d (K.place_of (image L first a) n) h within
      ∙ ap (ends_in js i) place_found
      ∙ ends_in_lem is_ahead_lem js i reach.rising (ahead_packet i (omega arith, omega arith) ∙ le-ltb i i (omega arith))
      (λ j t l. ahead_packet j (let near = each_there (Near (half L) a.base) js near_records j t in (omega arith, omega arith)) ∙ lt-ltb i j l)
      ∙ sym (ends_past js i reach.rising)
    where
      i : ℕ
      i = a.base + d

      js : List ℕ
      js = indexes a.records

      n : ℕ
      n = number_of L first i

      -- a packet's number lies ahead of it
      is_ahead_lem : ℕ → Bool
      is_ahead_lem j = ahead_of (modulus_of L) n (number_of L first j)

      ahead_packet : (j : ℕ) → Near (half L) i j → is_ahead_lem j ≡ ltb i j
      ahead_packet j near = ahead_is (modulus_of L) first (positive L) (whole L) i j near.0 near.1

      place_found : K.place_of (image L first a) n ≡ front_of is_ahead_lem js
      place_found =
          ap (front_of (ahead_of (modulus_of L) n)) (held_are L first a.records)
          ∙ front_alike (number_of L first) (ahead_of (modulus_of L) n) is_ahead_lem js (there_each (λ (j : ℕ). is_ahead_lem j ≡ is_ahead_lem j) js (λ j t. refl))

      within : K.place_of (image L first a) n ≤ length a.records
      within = omega (arith, place_found, front_within is_ahead_lem js, length-map a.records (λ (x : Held). x.index))

  pub many_runs_are : (l : ℕ) → l ≤ half L → ltb most_runs (length (K.runs_after (image L first a) l)) ≡ ltb most_runs (length (runs_after_i a l))
  many_runs_are l h =
      ap (λ (rs : List Range). ltb most_runs (length rs)) (runs_after_are l h)
      ∙ ap (ltb most_runs) (length-map (runs_after_i a l) (run_at L first))

  -- the base after an arrival, whose place the machine on indexes gives
  pub arrived_base_is : (d : ℕ) → K.arrived_base (image L first a) (place_i a (a.base + d)) d ≡ number_of L first (arrived_base_i a (place_i a (a.base + d)) d)
  arrived_base_is d =
      choice (number_of L first) {t = eqb d 0} refl
      (ap (λ (ns : List ℕ). (number_of L first a.base + lowest 1 (offsets (modulus_of L) (number_of L first a.base) (drop (place_i a (a.base + d)) ns))) % modulus_of L) (held_are L first a.records)
      ∙ ap (λ (os : List ℕ). (number_of L first a.base + lowest 1 os) % modulus_of L) (offsets_are L first a.base (suc (a.base + d)) (omega arith) (indexes a.records) near_records)
      ∙ onward_is (modulus_of L) first (positive L) a.base (lowest 1 (past_base a.base (drop (place_i a (a.base + d)) (indexes a.records)))))
      (choice (number_of L first) {t = ltb d window} refl refl (raised_base_is (limit_of d) d))

  -- whether the packet d past base is beyond the last record
  pub beyond_is : (d : ℕ) → d < half L
      → is_beyond (modulus_of L) (number_of L first a.base) (K.held (image L first a)) (number_of L first (a.base + d)) ≡ beyond_i a.base (indexes a.records) (a.base + d)
  beyond_is d h =
      ap (λ (ns : List ℕ). is_beyond (modulus_of L) (number_of L first a.base) ns (number_of L first (a.base + d))) (held_are L first a.records)
      ∙ beyond_last_is L first a.base d h (indexes a.records) near_records
