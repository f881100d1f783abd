-- The secondary's machine on numbers does what the machine on packet indexes does (Index.antt), wherever all packets of the
-- state lie within half the circle of base: confirm and status; and the numbers that runs hold, packet by packet.
-- Assumes nothing.
use Rattle.std.specs.Prelude.{if◌then◌else◌}
use mathlib.Core.Path.{◌≡◌, refl, sym, ◌∙◌, ap}
use mathlib.Core.Bool.{Bool, true, false, not}
use mathlib.Core.List.{List, [], ◌∷◌, map, map-map}
use Prim.Native.Nat.{ℕ, zero, suc, ◌+◌, ◌≤◌, ◌<◌}
use native.Mathlib.Omega.{arith}
use borrow.Author.Tests.{ltb-true, leb-false, eqb-true, not-false}
use lib.Dec.{ltb, leb, eqb}
use lib.ListN.{length, get_or, take, drop, set, length-map}
use Rattle.basics.specs.Basics.{◌and◌, done}
use Rattle.basics.proofs.Choices.{or_false}
use Rattle.basics.proofs.Lists.{map_take, map_drop, map_set, get_d_within}
use Rattle.circle.specs.Lengths.{modulus_of, half}
use Rattle.frame_layout.specs.Frames.{Range, most_ranges}
use Rattle.bearer.specs.Losses.{Gap, before}
use Rattle.bearer.specs.Keeper as K
use Rattle.bearer.specs.Keeper.{◌with_reported◌, ◌with_closed◌, ◌with_runs◌, ◌with_records◌}
use Rattle.bearer.specs.Packets.{number_of, in_ranges, Each}
use Rattle.bearer.specs.Account.{Held, run_at, packets_of}
use Rattle.bearer.specs.KeeperMeaning.{record_at}
use Rattle.bearer.proofs.Lists.Mapped.{each_so, each_both, each_drop, each_take, each_at, run_with_alike}
use Rattle.bearer.proofs.Lists.RunNumbers.{Short, runs_expand}
use Rattle.bearer.proofs.Lists.Numbers.{whole, positive, before_is}
use Rattle.bearer.proofs.Answers.Accepted.{same_state, not_refused}
use Rattle.bearer.proofs.Secondary.Index.{Indexed, image, no_held, confirmed_i, may_go_i, let_go_i, delivered_i, highest_i, reported_i}
use Rattle.bearer.proofs.Secondary.ImageState.{InReach, Listed, listed_runs}

-- ---- confirm

-- where a number first stands, it stands
pub index_of_at : (n : ℕ) (ms : List ℕ) → K.index_of n ms < length ms → get_or ms (K.index_of n ms) 0 ≡ n
index_of_at n [] h = absurd (omega arith)
index_of_at n (m ∷ ms) h = by (eqb m n) refl h (index_of_at n ms)
  where
    by : (t : Bool) → eqb m n ≡ t → (if t then 0 else suc (K.index_of n ms)) < suc (length ms) → (K.index_of n ms < length ms → get_or ms (K.index_of n ms) 0 ≡ n)
        → get_or (m ∷ ms) (if t then 0 else suc (K.index_of n ms)) 0 ≡ n
    by true e g rest = eqb-true m n e
    by false e g rest = rest (omega arith)

-- what an accepted confirm of n did: it confirmed the record of a packet before base that bears n
pub record Confirms (L first : ℕ) (a : Indexed) (n : ℕ) : Type 0 where
  pub place : ℕ
  pub within : place < length a.records
  pub bears : number_of L first (get_or a.records place no_held).index ≡ n
  pub before : (get_or a.records place no_held).index < a.base
  pub state_is : (K.confirm (image L first a) n).state ≡ image L first (confirmed_i a place)

module _ (L first : ℕ) (a : Indexed) (reach : InReach L a) where
  -- the record at a place is that of the packet there
  pub record_at_lem : (p : ℕ) → p < length a.records → get_or (map (record_at L first) a.records) p K.no_record ≡ record_at L first (get_or a.records p no_held)
  record_at_lem p h = get_d_within (record_at L first) a.records p K.no_record no_held h

  pub held_at : (p : ℕ) → p < length a.records → get_or (K.held (image L first a)) p 0 ≡ number_of L first (get_or a.records p no_held).index
  held_at p h =
      ap (λ (ns : List ℕ). get_or ns p 0) (map-map (λ (r : K.Record). r.number) (record_at L first) a.records)
      ∙ get_d_within (λ (x : Held). number_of L first x.index) a.records p 0 no_held h

  confirmed_is : (p : ℕ) → p < length a.records
      → set (map (record_at L first) a.records) p (K.delivered (get_or (map (record_at L first) a.records) p K.no_record)) ≡ map (record_at L first) (confirmed_i a p).records
  confirmed_is p h =
      ap (λ (r : K.Record). set (map (record_at L first) a.records) p (K.delivered r)) (record_at_lem p h)
      ∙ map_set (record_at L first) a.records p (delivered_i (get_or a.records p no_held))

  before_at : (n p : ℕ) → p < length a.records → number_of L first (get_or a.records p no_held).index ≡ n
      → before (modulus_of L) (number_of L first a.base) n ≡ true → (get_or a.records p no_held).index < a.base
  before_at n p h bears e =
      let i : ℕ = (get_or a.records p no_held).index in
      let lo : a.base ≤ i + half L = each_at (λ (x : Held). a.base ≤ x.index + half L) a.records p no_held h reach.floor_records in
      let hi : i < a.base + half L = each_at (λ (x : Held). x.index < a.base + half L) a.records p no_held h reach.records_ahead in
      ltb-true i a.base
      (sym (before_is (modulus_of L) first (positive L) (whole L) a.base i lo hi) ∙ ap (before (modulus_of L) (number_of L first a.base)) bears ∙ e)

  pub image_confirm : (n : ℕ) → (K.confirm (image L first a) n).answer ≡ done tt → Confirms L first a n
  image_confirm n e =
      let k = image L first a in
      let p = K.index_of n (K.held k) in
      let t9 = not_refused a.closed 9 k _ tt e in
      let t10 = not_refused (not (ltb n (modulus_of L))) _ k _ tt t9.1 in
      let t16 = not_refused (leb (length (K.held k)) p) _ k _ tt t10.1 in
      let last = not_refused (K.not_now k n p) _ k _ tt t16.1 in
      let lies_before = not-false (before (modulus_of L) k.base n) (or_false (not (before (modulus_of L) k.base n)) _ last.0).0 in
      let found : p < length (K.held k) = leb-false (length (K.held k)) p t16.0 in
      let within : p < length a.records = simp length-map at found in
      let bears : number_of L first (get_or a.records p no_held).index ≡ n = sym (held_at p within) ∙ index_of_at n (K.held k) found in
      record {
        place = p;
        within = within;
        bears = bears;
        before = before_at n p within bears lies_before;
        state_is =
            same_state (t9.2 ∙ t10.2 ∙ t16.2 ∙ last.2)
            ∙ ap (λ (rs : List K.Record). k with_records rs) (confirmed_is p within);
      }

-- ---- status

-- the same highest, state and ranges
pub record SameStatus (L first : ℕ) (a : Indexed) : Type 0 where
  pub highest : K.highest_of (image L first a) (K.let_go (image L first a)) ≡ highest_i a (let_go_i a)
  pub state_is : (final : Bool) → K.reported_state (image L first a) final ≡ image L first (reported_i a final)
  pub ranges : (desired minimum : ℕ) (final : Bool) → (K.status_now (image L first a) desired minimum final).ranges ≡ map (run_at L first) (take most_ranges a.runs)

pdcp_at : (L first : ℕ) (hs : List Held) (p : ℕ) → (get_or (map (record_at L first) hs) p K.no_record).pdcp ≡ (get_or hs p no_held).pdcp
pdcp_at L first [] p = refl
pdcp_at L first (h ∷ hs) zero = refl
pdcp_at L first (h ∷ hs) (suc p) = pdcp_at L first hs p

module _ (L first : ℕ) (a : Indexed) (reach : InReach L a) where
  -- a record goes by its index
  may_go_is : (gs : List Gap) → Each (Listed (half L) a.base) gs
      → (h : Held) → (a.base ≤ h.index + half L) × (h.confirmed ≡ true → h.index < a.base)
      → K.may_go (image L first a) (map (run_at L first) gs) (record_at L first h) ≡ may_go_i gs h
  may_go_is [] near h c = refl
  may_go_is (x ∷ xs) near h c = by h.confirmed c.1
    where
      by : (t : Bool) → (t ≡ true → h.index < a.base)
          → (t and before (modulus_of L) (number_of L first x.from) (number_of L first h.index)) ≡ (t and ltb h.index x.from)
      by true inside = let l = inside refl in before_is (modulus_of L) first (positive L) (whole L) x.from h.index (omega arith) (omega arith)
      by false inside = refl

  let_go_is : K.let_go (image L first a) ≡ let_go_i a
  let_go_is =
      let gs = drop most_ranges a.runs in
      ap (λ (rs : List Range). K.run_with (K.may_go (image L first a) rs) (map (record_at L first) a.records)) (map_drop (run_at L first) most_ranges a.runs)
      ∙ run_with_alike (record_at L first) (K.may_go (image L first a) (map (run_at L first) gs)) (may_go_i gs) a.records
      (each_so a.records (may_go_is gs (each_drop (Listed (half L) a.base) most_ranges a.runs (listed_runs L first a reach)))
      (each_both (λ (h : Held). a.base ≤ h.index + half L) (λ (h : Held). h.confirmed ≡ true → h.index < a.base) a.records reach.floor_records reach.confirmed_before))

  highest_is : (n : ℕ) → K.highest_of (image L first a) n ≡ highest_i a n
  highest_is zero = refl
  highest_is (suc p) = pdcp_at L first a.records p

  pub image_status : SameStatus L first a
  image_status = record {
    highest = highest;
    state_is = λ final i. image L first a with_reported highest i with_closed final with_runs map_drop (run_at L first) most_ranges a.runs i with_records records i;
    ranges = λ desired minimum final. map_take (run_at L first) most_ranges a.runs;
  }
    where
      highest : K.highest_of (image L first a) (K.let_go (image L first a)) ≡ highest_i a (let_go_i a)
      highest = ap (K.highest_of (image L first a)) let_go_is ∙ highest_is (let_go_i a)

      records : drop (K.let_go (image L first a)) (image L first a).records ≡ map (record_at L first) (drop (let_go_i a) a.records)
      records = ap (λ (n : ℕ). drop n (map (record_at L first) a.records)) let_go_is ∙ map_drop (record_at L first) (let_go_i a) a.records

-- ---- the numbers in runs

module _ (L first : ℕ) (a : Indexed) (reach : InReach L a) where
  short_runs : Each (Short L) a.runs
  short_runs = each_so a.runs (λ g n. (n.1, omega (arith, whole L))) (listed_runs L first a reach)

  -- the listed numbers are those of the listed packets
  pub image_listed : in_ranges L (image L first a).runs ≡ map (number_of L first) (packets_of a.runs)
  image_listed = runs_expand L first a.runs short_runs

  -- and so are those that a status carries
  pub image_carried : (desired minimum : ℕ) (final : Bool)
      → in_ranges L (K.status_now (image L first a) desired minimum final).ranges ≡ map (number_of L first) (packets_of (take most_ranges a.runs))
  image_carried desired minimum final =
      ap (in_ranges L) ((image_status L first a reach).ranges desired minimum final)
      ∙ runs_expand L first (take most_ranges a.runs) (each_take (Short L) most_ranges a.runs short_runs)
