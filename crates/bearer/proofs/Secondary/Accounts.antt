-- An account (specs/Account.antt) as a state of the machine on packet indexes (Index.antt): its listed runs are those of every state that follows
-- its fates, and what the machine's steps do to the records is what the account's rule says.
-- Assumes nothing.
use mathlib.Core.Path.{◌≡◌, refl, sym, ◌∙◌, ap}
use mathlib.Core.Bool.{true}
use mathlib.Core.List.{List, [], ◌∷◌, map}
use mathlib.Core.Logic.{⊎_elim}
use Prim.Native.Nat.{ℕ, zero, suc, ◌≤◌, ◌<◌}
use native.Mathlib.Omega.{arith}
use borrow.Author.Tests.{ltb-true, eq-eqb, ne_eqb}
use lib.Dec.{ltb}
use lib.ListN.{length, get_or, take, set}
use Rattle.basics.specs.Basics.{◌and◌}
use Rattle.basics.proofs.Choices.{tested, and_yes}
use Rattle.basics.proofs.Lists.{inserted}
use Rattle.bearer.specs.Losses.{Gap}
use Rattle.bearer.specs.Keeper.{run_with}
use Rattle.bearer.specs.Rule.{Fates}
use Rattle.bearer.specs.Packets.{Rising, Each}
use Rattle.bearer.specs.Account.{Held, Account, indexes, runs_in, untold, listed, recorded, delivered_if, before_first, going_of, left_out, last_pdcp, highest_now}
use Rattle.bearer.proofs.Lists.Mapped.{each_at}
use Rattle.bearer.proofs.Lists.Elements.{in_each, rising_head, rising_first, rising_tail, front, front_zero, run_within}
use Rattle.bearer.proofs.Secondary.Index.{Indexed, no_held, delivered_i, may_go_i, let_go_i, highest_i}
use Rattle.bearer.proofs.Secondary.RunsIn.{runs_of_packets}
use Rattle.bearer.proofs.Secondary.Follows.{Follows}

-- the state of an account whose lowest open packet is base
abbrev pub indexed_of : ℕ → Account → Indexed
indexed_of base a = record {
  base = base;
  reported = a.reported;
  closed = a.final;
  runs = listed a;
  records = a.records;
}

-- ---- the listed runs

-- a state that follows the fates lists the runs of the lost, unreported packets
runs_are : {h : ℕ} {x : Indexed} {r : Fates} {told : ℕ} → Follows h x r told → x.runs ≡ runs_in (untold told r)
runs_are {x = x} F = sym (ap runs_in (sym F.runs.hold) ∙ runs_of_packets x.runs F.runs.maximal)

-- one with the account's records, reported highest and end is the account's
pub indexed_is : {h : ℕ} {x : Indexed} (a : Account) → Follows h x a.fates a.told
    → x.records ≡ a.records → x.reported ≡ a.reported → x.closed ≡ a.final → x ≡ indexed_of x.base a
indexed_is {x = x} a F records reported closed = λ i. record {
  base = x.base;
  reported = reported i;
  closed = closed i;
  runs = runs_are F i;
  records = records i;
}

-- ---- the records

-- an arrival's record stands where its packet belongs
pub recorded_is : (h : Held) (hs : List Held) → Rising (indexes hs) → inserted (front (suc h.index) (indexes hs)) h hs ≡ recorded h hs
recorded_is h [] r = refl
recorded_is h (x ∷ xs) r =
    let past : ltb h.index x.index ≡ true → front (suc h.index) (indexes (x ∷ xs)) ≡ 0 =
    λ t. front_zero (suc h.index) (indexes (x ∷ xs)) (λ i u. let l = rising_first x.index (indexes xs) r i u in omega (arith, ltb-true h.index x.index t)) in
    ⊎_elim (λ t. rw (past t, t)) (λ t. rw t (ap (λ (ys : List Held). x ∷ ys) (recorded_is h xs (rising_tail x.index (indexes xs) r))))
    (tested (ltb h.index x.index))

-- the records behind the first are of packets past it
pub past_first : (x : Held) (xs : List Held) → Rising (indexes (x ∷ xs)) → Each (λ (h : Held). x.index < h.index) xs
past_first x xs r = in_each (λ (h : Held). h.index) (λ (j : ℕ). x.index < j) xs (rising_head x.index (indexes xs) r)

-- records past a packet stay as they are when it is delivered
untouched : (i : ℕ) (hs : List Held) → Each (λ (h : Held). i < h.index) hs → map (delivered_if i) hs ≡ hs
untouched i [] past = refl
untouched i (h ∷ hs) past = rw (ne_eqb h.index i (λ q. omega arith), untouched i hs past.1)

-- the record at a place is the only one of its packet
pub delivered_is : (hs : List Held) (p : ℕ) → Rising (indexes hs) → p < length hs
    → set hs p (delivered_i (get_or hs p no_held)) ≡ map (delivered_if (get_or hs p no_held).index) hs
delivered_is [] p r l = absurd (omega arith)
delivered_is (x ∷ xs) zero r l =
    rw (eq-eqb x.index x.index refl, untouched x.index xs (past_first x xs r))
delivered_is (x ∷ xs) (suc p) r l =
    let before : x.index < (get_or xs p no_held).index = each_at (λ (h : Held). x.index < h.index) xs p no_held (omega arith) (past_first x xs r) in
    rw (ne_eqb x.index (get_or xs p no_held).index (λ q. omega arith), delivered_is xs p (rising_tail x.index (indexes xs) r) (omega arith))

-- ---- status

may_go_is : (left : List Gap) (h : Held) → may_go_i left h ≡ (h.confirmed and before_first left h.index)
may_go_is [] h = sym (and_yes h.confirmed)
may_go_is (g ∷ gs) h = refl

-- as many records go
pub going_is : (left : List Gap) (hs : List Held) → run_with (may_go_i left) hs ≡ going_of left hs
going_is left [] = refl
going_is left (h ∷ hs) = rw (may_go_is left h, going_is left hs)

last_pdcp_lem : (hs : List Held) (n p : ℕ) → n < length hs → (get_or hs n no_held).pdcp ≡ last_pdcp p (take (suc n) hs)
last_pdcp_lem [] n p h = absurd (omega arith)
last_pdcp_lem (x ∷ hs) zero p h = refl
last_pdcp_lem (x ∷ hs) (suc n) p h = last_pdcp_lem hs n x.pdcp (omega arith)

-- the last of them has the status' highest
pub highest_is : (base : ℕ) (a : Account) → highest_i (indexed_of base a) (let_go_i (indexed_of base a)) ≡ highest_now a
highest_is base a = by (let_go_i (indexed_of base a)) (run_within (may_go_i (left_out a)) a.records) ∙ rw (going_is (left_out a) a.records)
  where
    by : (n : ℕ) → n ≤ length a.records → highest_i (indexed_of base a) n ≡ last_pdcp a.reported (take n a.records)
    by zero h = refl
    by (suc n) h = last_pdcp_lem a.records n a.reported h
