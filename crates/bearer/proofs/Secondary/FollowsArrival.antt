-- An accepted arrival does what the written rule says: the packet is received, each open packet 256 or more below it is lost,
-- and the state follows these fates.
-- Assumes nothing.
use mathlib.Core.Path.{◌≡◌, refl, sym, ◌∙◌, ap}
use mathlib.Core.Bool.{true, false}
use mathlib.Core.List.{List, [], ◌∷◌, ◌++◌, map}
use mathlib.Core.Logic.{◌⊎◌, inl, inr, ⊎_elim}
use Prim.Native.Nat.{ℕ, suc, ◌+◌, ◌-◌, ◌≤◌, ◌<◌}
use native.Mathlib.Omega.{arith}
use borrow.Author.Tests.{ltb-true, ltb-false, leb-false, eqb-true, eqb-false}
use lib.Dec.{ltb, leb, eqb}
use lib.ListN.{length, drop}
use Rattle.basics.specs.Basics.{done}
use Rattle.basics.proofs.Choices.{tested, refuted, contrary}
use Rattle.basics.proofs.Lists.{inserted, map_inserted, length_inserted}
use Rattle.bearer.specs.Bearer.{window, most_runs, most_records}
use Rattle.bearer.specs.Losses.{size_of, lowest}
use Rattle.bearer.specs.Keeper.{limit_of}
use Rattle.bearer.specs.Rule.{Fates, is_in, is_open, declare, receive, arrival}
use Rattle.bearer.specs.Packets.{In, Rising}
use Rattle.bearer.specs.Account.{Held, packets_of, runs_in, indexes}
use Rattle.bearer.proofs.Lists.Mapped.{each_so}
use Rattle.bearer.proofs.Lists.Elements.{in_head, in_tail, in_cons, in_left, in_right, in_one, in_last, in_drop, rising_head, rising_append, rising_drop, from_front, behind_front, each_inserted, in_inserted, inserted_in, rising_inserted, in_first}
use Rattle.bearer.proofs.Answers.Accepted.{not_refused}
use Rattle.bearer.proofs.Secondary.Index.{Indexed, froms, first_back, floor_i, place_i, past_base, runs_after_i, raised_base_i, given_up_i, gap_at, new_held, arrived_base_i, arrived_i, has_i, arrive_i}
use Rattle.bearer.proofs.Secondary.Open.{open_is, open_unreceived}
use Rattle.bearer.proofs.Secondary.Gaps.{lowest_shift}
use Rattle.bearer.proofs.Secondary.Runs.{maximal_rising}
use Rattle.bearer.proofs.Secondary.Follows.{marks, mark_record, in_marks, Follows, follows_has, record_received, record_near, recorded, not_lost, floor_marks}
use Rattle.bearer.proofs.Secondary.GivenUp.{lost_count, above, Receives, Advances, Records, advances, above_rising, in_above, above_in, raised_base_lowest, declared, step_listed, follows_step}

-- base is no further past an element than past the first
first_back_lem : (b : ℕ) (xs : List ℕ) → Rising xs → (f : ℕ) → In f xs → b ≤ f + first_back b xs
first_back_lem b [] r f t = absurd (contrary t refl)
first_back_lem b (x ∷ xs) r f t = ⊎_elim (λ q. omega arith) (λ u. omega (arith, rising_head x xs r f u)) (in_cons f x xs t)

-- the packets received once the arrival is
abbrev got : Indexed → Fates → ℕ → List ℕ
got a r d = (a.base + d) ∷ r.received

module _ {h : ℕ} {a : Indexed} {r : Fates} {told : ℕ} (F : Follows h a r told) (d : ℕ) (fits : floor_i a + d < h) where
  -- the arrival is less than half the circle past floor
  near_floor : (f : ℕ) → In f (marks a) → a.base + d < f + h
  near_floor f t =
      ⊎_elim (λ q. omega arith)
      (⊎_elim (λ u. omega (arith, first_back_lem a.base (froms a.runs) (maximal_rising a.runs F.runs.maximal) f u))
      (λ u. omega (arith, first_back_lem a.base (indexes a.records) F.records.rising f u)))
      (in_marks a f t)

  arrival_receives : Receives a r (got a r d) (limit_of d) (suc (a.base + d) - window)
  arrival_receives = record {
    still = λ j t. in_tail j (a.base + d) r.received t;
    kept = λ j t. ⊎_elim (λ q. not_lost F j (omega arith)) (F.fates.not_both j) (in_cons j (a.base + d) r.received t);
    here = λ j g k t. ⊎_elim (λ q. absurd (omega arith)) (F.records.from_base_on j g) (in_cons j (a.base + d) r.received t);
    bound = omega arith;
  }

  -- the packet is base: base moves past the records that adjoin it
  at_base : d ≡ 0 → Advances h a (got a r d) (limit_of d)
      (a.base + lowest 1 (past_base a.base (drop (place_i a (a.base + d)) (indexes a.records))))
  at_base z =
      rw (lowest_shift a.base 1 (drop (place_i a (a.base + d)) (indexes a.records)) (λ j t. omega (arith, from_front (suc (a.base + d)) (indexes a.records) j t)))
      (advances (a.base + 1) (drop (place_i a (a.base + d)) (indexes a.records))
      (rising_drop (place_i a (a.base + d)) (indexes a.records) F.records.rising)
      (omega arith)
      (λ j g k. let q : j ≡ a.base + d = omega arith in in_first j (a.base + d) r.received q)
      (λ j t. in_tail j (a.base + d) r.received (record_received F j (in_drop j (place_i a (a.base + d)) (indexes a.records) t)))
      (λ j g t. ⊎_elim (λ q. absurd (omega arith)) (λ u. behind_front (suc (a.base + d)) (indexes a.records) F.records.rising j (omega arith) (F.records.from_base_on j (omega arith) u)) (in_cons j (a.base + d) r.received t))
      (λ f t. omega (arith, near_floor f t))
      (λ j f t u. F.span j f (in_drop j (place_i a (a.base + d)) (indexes a.records) t) u))

  -- base is not given up: it stays
  base_stays : (d ≡ 0 → ⊥) → d < window → Advances h a (got a r d) (limit_of d) a.base
  base_stays nz near = record {
    past = omega arith;
    between = λ j g k. absurd (omega arith);
    free =
        refuted (is_in a.base (got a r d))
        (λ t. ⊎_elim (λ q. nz (omega arith)) (λ u. contrary u (open_unreceived r a.base F.fates.lowest.open_itself)) (in_cons a.base (a.base + d) r.received t));
    reach = floor_marks F;
  }

  -- base is given up: it moves past the records that adjoin the limit
  base_goes : window ≤ d → Advances h a (got a r d) (limit_of d) (raised_base_i a (limit_of d) d)
  base_goes far =
      rw (raised_base_lowest F (limit_of d) d)
      (advances (a.base + limit_of d) (above a ++ ((a.base + d) ∷ []))
      (rising_append (a.base + d) (above a) ((a.base + d) ∷ []) (above_rising F) tt
      (λ j t. omega (arith, record_near F j (above_in F j t))) (λ j t. omega (arith, in_one j (a.base + d) t)))
      (omega arith)
      (λ j g k. absurd (omega arith))
      (λ j t. ⊎_elim (λ u. in_tail j (a.base + d) r.received (record_received F j (above_in F j u))) (λ q. in_first j (a.base + d) r.received q) (in_last j (above a) (a.base + d) t))
      (λ j g t. ⊎_elim (λ q. rw q (in_right (a.base + d) (above a) ((a.base + d) ∷ []) (in_head (a.base + d) [])))
      (λ u. in_left j (above a) ((a.base + d) ∷ []) (in_above F j (omega arith) (F.records.from_base_on j (omega arith) u)))
      (in_cons j (a.base + d) r.received t))
      (λ f t. omega (arith, near_floor f t))
      (λ j f t u. ⊎_elim (λ v. F.span j f (above_in F j v) u) (λ q. omega (arith, near_floor f u)) (in_last j (above a) (a.base + d) t)))

  arrival_advances : Advances h a (got a r d) (limit_of d) (arrived_base_i a (place_i a (a.base + d)) d)
  arrival_advances =
      ⊎_elim (λ e. rw e (at_base (eqb-true d 0 e)))
      (λ e. rw e (⊎_elim (λ f. rw f (base_stays (eqb-false d 0 e) (ltb-true d window f))) (λ f. rw f (base_goes (ltb-false d window f))) (tested (ltb d window))))
      (tested (eqb d 0))

  arrival_records : is_in (a.base + d) r.received ≡ false → (pdcp : ℕ) → length a.records < most_records
      → Records h a (got a r d) (limit_of d) (arrived_i a pdcp (place_i a (a.base + d)) d).records
  arrival_records new pdcp room = record {
    rising = rw indexes_are (rising_inserted (a.base + d) (indexes a.records) F.records.rising (recorded F (a.base + d) (omega arith) ∙ new));
    received =
        each_inserted (λ (y : Held). In y.index (got a r d)) p x a.records (in_head (a.base + d) r.received)
        (each_so a.records (λ y t. in_tail y.index (a.base + d) r.received t) F.records.received);
    every = λ j g t.
        rw indexes_are
        (inserted_in j p (a.base + d) (indexes a.records) (⊎_elim (λ q. inl q) (λ u. inr (F.records.from_base_on j g u)) (in_cons j (a.base + d) r.received t)));
    confirmed = each_inserted (λ (y : Held). y.confirmed ≡ true → y.index < a.base) p x a.records (λ e. absurd (contrary e refl)) F.records.confirmed_before;
    near =
        each_inserted (λ (y : Held). y.index < a.base + limit_of d + window) p x a.records (omega arith)
        (each_so a.records (λ y k. omega arith) F.records.within_window);
    most = rw (length_inserted p x a.records) room;
    marked = λ j t. ⊎_elim (λ q. inr (omega arith)) (λ u. inl (mark_record a j u)) (in_indexes j t);
    span = λ j f t u. ⊎_elim (λ q. omega (arith, near_floor f u)) (λ v. F.span j f v u) (in_indexes j t);
  }
    where
      p : ℕ
      p = place_i a (a.base + d)

      x : Held
      x = new_held (a.base + d) pdcp

      indexes_are : indexes (inserted p x a.records) ≡ inserted p (a.base + d) (indexes a.records)
      indexes_are = map_inserted (λ (y : Held). y.index) p x a.records

      in_indexes : (j : ℕ) → In j (indexes (inserted p x a.records)) → (j ≡ a.base + d) ⊎ In j (indexes a.records)
      in_indexes j t = in_inserted j p (a.base + d) (indexes a.records) (rw indexes_are at t)

-- ---- the arrival

-- a packet that is received or lost already stays what it is
pub arrival_closed : (r : Fates) (i : ℕ) → is_open r i ≡ false → arrival r i ≡ r
arrival_closed r i o = rw o

arrival_open : (r : Fates) (i : ℕ) → is_open r i ≡ true → arrival r i ≡ declare (receive r i) (suc i - window)
arrival_open r i o = rw o

module _ {h : ℕ} {a : Indexed} {r : Fates} {told : ℕ} (F : Follows h a r told) (d : ℕ) (new : is_in (a.base + d) r.received ≡ false)
    (fits : floor_i a + d < h) where
  -- the packet was open
  arrival_is : arrival r (a.base + d) ≡ declare (receive r (a.base + d)) (suc (a.base + d) - window)
  arrival_is = arrival_open r (a.base + d) (open_is r (a.base + d) new (not_lost F (a.base + d) (omega arith)))

  -- what becomes lost, and how many
  pub arrival_lost : (arrival r (a.base + d)).lost ≡ r.lost ++ packets_of (map (gap_at a.base) (given_up_i a (limit_of d)))
  arrival_lost = ap (λ (x : Fates). x.lost) arrival_is ∙ ap (λ (ls : List ℕ). r.lost ++ ls) (declared F (arrival_receives F d fits) (arrival_advances F d fits))

  pub arrival_count : length (arrival r (a.base + d)).lost ≡ length r.lost + size_of (given_up_i a (limit_of d))
  arrival_count = rw arrival_lost (lost_count a.base r.lost (given_up_i a (limit_of d)))

  -- the runs that would be listed
  pub arrival_listed : runs_in (drop told (arrival r (a.base + d)).lost) ≡ runs_after_i a (limit_of d)
  arrival_listed = ap (λ (x : Fates). runs_in (drop told x.lost)) arrival_is ∙ step_listed F (arrival_receives F d fits) (arrival_advances F d fits)

  pub follows_arrive : (pdcp : ℕ) → length (runs_after_i a (limit_of d)) ≤ most_runs → length a.records < most_records
      → Follows h (arrived_i a pdcp (place_i a (a.base + d)) d) (arrival r (a.base + d)) told
  follows_arrive pdcp few room =
      rw arrival_is (follows_step F (arrival_receives F d fits) (arrival_advances F d fits) (arrival_records F d fits new pdcp room) few)

-- ---- by the machine's answer

-- an arrival that the machine accepts
pub record ArriveDone (h : ℕ) (a : Indexed) (pdcp p d c : ℕ) : Type 0 where
  pub new : has_i a (a.base + d) p ≡ false
  pub fits : floor_i a + d < h
  pub few : length (runs_after_i a (limit_of d)) ≤ most_runs
  pub room : length a.records < most_records
  pub count : size_of (given_up_i a (limit_of d)) ≡ c
  pub state : (arrive_i h a pdcp p d).state ≡ arrived_i a pdcp p d

pub arrive_done : (h : ℕ) (a : Indexed) (pdcp p d c : ℕ) → (arrive_i h a pdcp p d).answer ≡ done c → ArriveDone h a pdcp p d c
arrive_done h a pdcp p d c e =
    let x = not_refused (has_i a (a.base + d) p) 12 a _ c e in
    let y = not_refused (leb h (floor_i a + d)) 13 a _ c x.1 in
    let z = not_refused (ltb most_runs (length (runs_after_i a (limit_of d)))) 14 a _ c y.1 in
    let w = not_refused (leb most_records (length a.records)) 15 a _ c z.1 in
    record {
      new = x.0;
      fits = leb-false h (floor_i a + d) y.0;
      few = ltb-false most_runs (length (runs_after_i a (limit_of d))) z.0;
      room = leb-false most_records (length a.records) w.0;
      count = (let q = w.1 in cc);
      state = rw (x.0, y.0, z.0, w.0);
    }

-- an accepted arrival does what the rule says, and answers how many became lost
pub follows_arrived : {h : ℕ} {a : Indexed} {r : Fates} {told : ℕ} → Follows h a r told → (pdcp d c : ℕ) → (arrive_i h a pdcp (place_i a (a.base + d)) d).answer ≡ done c
    → ((arrive_i h a pdcp (place_i a (a.base + d)) d).state ≡ arrived_i a pdcp (place_i a (a.base + d)) d)
    × Follows h (arrived_i a pdcp (place_i a (a.base + d)) d) (arrival r (a.base + d)) told
    × (length (arrival r (a.base + d)).lost ≡ length r.lost + c)
follows_arrived {h} {a} F pdcp d c e =
    let x = arrive_done h a pdcp (place_i a (a.base + d)) d c e in
    let new = sym (follows_has F d) ∙ x.new in
    (x.state, follows_arrive F d new x.fits pdcp x.few x.room, rw (← x.count) (arrival_count F d new x.fits))
