-- The secondary's machine on packet indexes (Index.antt) follows the written rule (specs/Rule.antt): `Follows` says what a state has
-- to do with the packets' fates, and each step of the machine keeps it. No arithmetic on a circle is used here.
-- Assumes nothing.
use mathlib.Core.Path.{◌≡◌, refl, ◌∙◌}
use mathlib.Core.Bool.{true, false}
use mathlib.Core.List.{List, ◌∷◌, ◌++◌}
use mathlib.Core.Logic.{◌⊎◌, inl, inr, ⊎_elim}
use Prim.Native.Nat.{ℕ, ◌+◌, ◌≤◌, ◌<◌}
use native.Mathlib.Omega.{arith}
use lib.ListN.{length, drop}
use Rattle.basics.proofs.Choices.{refuted, contrary, same_test}
use Rattle.bearer.specs.Bearer.{window, most_runs, most_records}
use Rattle.bearer.specs.Losses.{Gap}
use Rattle.bearer.specs.Rule.{Fates, all_open, is_in, Lowest}
use Rattle.bearer.specs.Packets.{In, Rising, Each}
use Rattle.bearer.specs.Account.{Held, packets_of, Maximal, indexes}
use Rattle.bearer.proofs.Lists.Elements.{in_head, in_tail, in_cons, in_left, in_right, in_append, each_in, ends_past}
use Rattle.bearer.proofs.Secondary.Index.{Indexed, fresh_indexed, froms, place_i, has_i}

-- floor is the earliest of these: base, the starts of the listed runs and the packets with records
abbrev pub marks : Indexed → List ℕ
marks a = a.base ∷ (froms a.runs ++ indexes a.records)

pub mark_base : (a : Indexed) → In a.base (marks a)
mark_base a = in_head a.base (froms a.runs ++ indexes a.records)

pub mark_run : (a : Indexed) (f : ℕ) → In f (froms a.runs) → In f (marks a)
mark_run a f t = in_tail f a.base (froms a.runs ++ indexes a.records) (in_left f (froms a.runs) (indexes a.records) t)

pub mark_record : (a : Indexed) (f : ℕ) → In f (indexes a.records) → In f (marks a)
mark_record a f t = in_tail f a.base (froms a.runs ++ indexes a.records) (in_right f (froms a.runs) (indexes a.records) t)

pub in_marks : (a : Indexed) (f : ℕ) → In f (marks a) → (f ≡ a.base) ⊎ (In f (froms a.runs) ⊎ In f (indexes a.records))
in_marks a f t =
    ⊎_elim (λ q. inl q) (λ u. inr (in_append f (froms a.runs) (indexes a.records) u)) (in_cons f a.base (froms a.runs ++ indexes a.records) t)

-- What a state means, in parts that a step hands on whole where it doesn't change what they speak of: r is what became of each packet by our
-- rule, told of the lost were reported, and h is half the circle.

-- base, and the fates of the packets
pub record FollowsFates (base : ℕ) (r : Fates) : Type 0 where
  -- "Base is the lowest open number."
  pub lowest : Lowest r base
  -- "Each number from the first on is open, received or lost", never two of them
  pub not_both : (i : ℕ) → In i r.received → is_in i r.lost ≡ false
  -- the lost were declared in sending order, each once, and lie before base
  pub lost_rising : Rising r.lost
  pub lost_before : (i : ℕ) → In i r.lost → i < base

-- the listed runs
pub record FollowsRuns (h base told : ℕ) (lost : List ℕ) (gs : List Gap) : Type 0 where
  -- "Listed runs are the maximal runs of lost, unreported numbers, in sending order. Adjacent numbers join."
  pub hold : packets_of gs ≡ drop told lost
  pub told_most : told ≤ length lost
  pub maximal : Maximal gs
  pub before : Each (λ (g : Gap). g.to ≤ base) gs
  -- the store's limit
  pub most : length gs ≤ most_runs
  -- floor to base is at most half the circle
  pub floor : Each (λ (g : Gap). base ≤ g.from + h) gs

-- the records
pub record FollowsRecords (h base : ℕ) (got : List ℕ) (hs : List Held) : Type 0 where
  -- records are in sending order and distinct, each of a received packet; each received packet from base on has one
  pub rising : Rising (indexes hs)
  pub received : Each (λ (x : Held). In x.index got) hs
  pub from_base_on : (i : ℕ) → base ≤ i → In i got → In i (indexes hs)
  -- only records before base are confirmed
  pub confirmed_before : Each (λ (x : Held). x.confirmed ≡ true → x.index < base) hs
  -- no packet with a record is 256 or more past base
  pub within_window : Each (λ (x : Held). x.index < base + window) hs
  -- the store's limit
  pub most : length hs ≤ most_records
  -- floor to base is at most half the circle
  pub floor : Each (λ (x : Held). base ≤ x.index + h) hs

-- all of it
pub record Follows (h : ℕ) (a : Indexed) (r : Fates) (told : ℕ) : Type 0 where
  pub fates : FollowsFates a.base r
  pub runs : FollowsRuns h a.base told r.lost a.runs
  pub records : FollowsRecords h a.base r.received a.records
  -- floor to any record is less than half the circle
  pub span : (j f : ℕ) → In j (indexes a.records) → In f (marks a) → j < f + h

-- ---- what a state tells

module _ {h : ℕ} {a : Indexed} {r : Fates} {told : ℕ} (F : Follows h a r told) where
  pub record_received : (j : ℕ) → In j (indexes a.records) → In j r.received
  record_received = each_in (λ (x : Held). x.index) (λ (j : ℕ). In j r.received) a.records F.records.received

  pub record_near : (j : ℕ) → In j (indexes a.records) → j < a.base + window
  record_near = each_in (λ (x : Held). x.index) (λ (j : ℕ). j < a.base + window) a.records F.records.within_window

  -- from base on, the received packets are those with records
  pub recorded : (j : ℕ) → a.base ≤ j → is_in j (indexes a.records) ≡ is_in j r.received
  recorded j l = same_test (is_in j (indexes a.records)) (is_in j r.received) (record_received j) (F.records.from_base_on j l)

  -- from base on, no packet is lost
  pub not_lost : (j : ℕ) → a.base ≤ j → is_in j r.lost ≡ false
  not_lost j l = refuted (is_in j r.lost) (λ t. omega (arith, F.fates.lost_before j t))

  -- floor to base is at most half the circle
  pub floor_marks : (f : ℕ) → In f (marks a) → a.base ≤ f + h
  floor_marks f t =
      ⊎_elim (λ q. omega arith)
      (⊎_elim (each_in (λ (g : Gap). g.from) (λ (j : ℕ). a.base ≤ j + h) a.runs F.runs.floor f)
      (each_in (λ (x : Held). x.index) (λ (j : ℕ). a.base ≤ j + h) a.records F.records.floor f))
      (in_marks a f t)

-- ---- an arrival has a record just where its packet was received

pub follows_has : {h : ℕ} {a : Indexed} {r : Fates} {told : ℕ} → Follows h a r told → (d : ℕ)
    → has_i a (a.base + d) (place_i a (a.base + d)) ≡ is_in (a.base + d) r.received
follows_has {a = a} F d = ends_past (indexes a.records) (a.base + d) F.records.rising ∙ recorded F (a.base + d) (omega arith)

-- ---- a fresh end

pub follows_start : (h reported : ℕ) → Follows h (fresh_indexed reported) all_open 0
follows_start h reported = record {
  fates = record {
    lowest = record { open_itself = refl; none_below = λ j l. absurd (omega arith) };
    not_both = λ i t. refl;
    lost_rising = tt;
    lost_before = λ i t. absurd (contrary t refl);
  };
  runs = record { hold = refl; told_most = omega arith; maximal = tt; before = tt; most = omega arith; floor = tt };
  records = record { rising = tt; received = tt; from_base_on = λ i l t. t; confirmed_before = tt; within_window = tt; most = omega arith; floor = tt };
  span = λ j f t u. absurd (contrary t refl);
}
