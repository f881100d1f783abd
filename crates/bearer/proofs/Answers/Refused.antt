-- A refused call changes nothing: of each machine, whatever its state (a refused status: Reported.antt).
-- Assumes nothing.
use Rattle.std.specs.Prelude.{if◌then◌else◌}
use mathlib.Core.Path.{refl}
use mathlib.Core.Bool.{Bool, true, false, not}
use mathlib.Core.List.{List, [], ◌∷◌}
use mathlib.Core.Option.{Option, none, some}
use Prim.Native.Nat.{ℕ, ◌+◌, ◌/◌}
use lib.Dec.{eqb, leb, ltb}
use lib.ListN.{length, take, drop}
use Rattle.basics.specs.Basics.{◌and◌, ◌or◌, alike}
use Rattle.basics.proofs.Choices.{contrary}
use Rattle.circle.specs.Circle.{forward}
use Rattle.circle.specs.Sides.{Side, same, ahead, behind, opposite, lies}
use Rattle.circle.specs.Lengths.{is_long, pdcps, modulus_of}
use Rattle.frame_layout.specs.Frames.{Status, Reading, data_of, status_of, refuse, read_frame}
use Rattle.bearer.specs.Bearer.{After, Keeps, refusing, answering, most_runs, most_records, most_entries}
use Rattle.bearer.specs.Keeper as K
use Rattle.bearer.specs.Ledger as G

-- a choice of two calls that keep
pub either_keeps : {S A : Type 0} (s : S) (b : Bool) (x y : After S A) → Keeps s x → Keeps s y → Keeps s (if b then x else y)
either_keeps s true x y p q = p
either_keeps s false x y p q = q

-- a refusal keeps
pub refusal_keeps : {S : Type 0} (A : Type 0) (s : S) (n : ℕ) → Keeps {A = A} s (refusing n s)
refusal_keeps A s n = record { same = λ e. refl }

-- an answer is no refusal
pub answer_keeps : {S A : Type 0} (s t : S) (a : A) → Keeps s (answering a t)
answer_keeps s t a = record { same = λ e. absurd (contrary refl e) }

-- ---- the master

pub send_keeps : {A : Type 0} (l : G.Ledger A) (p z : ℕ) (a : A) → Keeps l (G.send l p z a)
send_keeps l p z a =
    either_keeps l l.closed _ _ (refusal_keeps _ l _)
    (either_keeps l (not (ltb p (pdcps l.bits))) _ _ (refusal_keeps _ l _)
    (either_keeps l (not (G.is_size z)) _ _ (refusal_keeps _ l _)
    (either_keeps l (not (G.is_in_order l p)) _ _ (refusal_keeps _ l _)
    (either_keeps l (leb most_entries (length l.entries)) _ _ (refusal_keeps _ l _) (answer_keeps l (G.sent_state l p z a) l.next)))))

marked_keeps : {A : Type 0} (l : G.Ledger A) (s : Status) (m : Option (G.Passed A)) → Keeps l (G.accept_marked l s m)
marked_keeps l s none = refusal_keeps _ l _
marked_keeps l s (some m) =
    either_keeps l (not (eqb s.highest l.highest or G.waits_for s.highest m.entries)) _ _ (refusal_keeps _ l _) (answer_keeps l _ _)

reading_keeps : {A : Type 0} (l : G.Ledger A) (r : Reading) → Keeps l (G.accept_reading l r)
reading_keeps l (data_of long n) = refusal_keeps _ l _
reading_keeps l (status_of s) =
    either_keeps l (not (alike s.long (is_long l.bits))) _ _ (refusal_keeps _ l _)
    (either_keeps l (leb (pdcps l.bits) s.highest) _ _ (refusal_keeps _ l _) (marked_keeps l s (G.marking l s)))
reading_keeps l (refuse n) = refusal_keeps _ l _

pub accept_keeps : {A : Type 0} (l : G.Ledger A) (o : List ℕ) → Keeps l (G.accept l o)
accept_keeps l o = either_keeps l l.closed _ _ (refusal_keeps _ l _) (reading_keeps l (read_frame o))

take_from_keeps : {A : Type 0} (l : G.Ledger A) (front rest : List (G.Entry A)) → Keeps l (G.take_from l front rest)
take_from_keeps l front [] = refusal_keeps _ l _
take_from_keeps l front (e ∷ es) = answer_keeps l _ _

pub take_keeps : {A : Type 0} (l : G.Ledger A) → Keeps l (G.take_oldest l)
take_keeps l = take_from_keeps l (take (G.take_at l.closed l.entries) l.entries) (drop (G.take_at l.closed l.entries) l.entries)

-- ---- the secondary

arrive_at_keeps : (k : K.Keeper) (n p i d : ℕ) → Keeps k (K.arrive_at k n p i d)
arrive_at_keeps k n p i d =
    either_keeps k (K.has_record k n i) _ _ (refusal_keeps _ k _)
    (either_keeps k (leb (modulus_of k.bits / 2) (K.floor k + d)) _ _ (refusal_keeps _ k _)
    (either_keeps k (ltb most_runs (length (K.runs_after k (K.limit_of d)))) _ _ (refusal_keeps _ k _)
    (either_keeps k (leb most_records (length k.records)) _ _ (refusal_keeps _ k _) (answer_keeps k _ _))))

arrive_on_keeps : (k : K.Keeper) (n p : ℕ) → Keeps k (K.arrive_on k n p)
arrive_on_keeps k n p = arrive_at_keeps k n p (K.place_of k n) (forward (modulus_of k.bits) k.base n)

arrive_by_keeps : (k : K.Keeper) (n p : ℕ) (s : Side) → Keeps k (K.arrive_by k n p s)
arrive_by_keeps k n p same = arrive_on_keeps k n p
arrive_by_keeps k n p ahead = arrive_on_keeps k n p
arrive_by_keeps k n p behind = refusal_keeps _ k _
arrive_by_keeps k n p opposite = refusal_keeps _ k _

pub arrive_keeps : (k : K.Keeper) (n p : ℕ) → Keeps k (K.arrive k n p)
arrive_keeps k n p =
    either_keeps k k.closed _ _ (refusal_keeps _ k _)
    (either_keeps k (not (ltb n (modulus_of k.bits) and ltb p (pdcps k.bits))) _ _ (refusal_keeps _ k _)
    (arrive_by_keeps k n p (lies (modulus_of k.bits) k.base n)))

expire_below_keeps : (k : K.Keeper) (d : ℕ) → Keeps k (K.expire_below k d)
expire_below_keeps k d =
    either_keeps k (ltb most_runs (length (K.runs_after k d))) _ _ (refusal_keeps _ k _) (answer_keeps k _ _)

pub expire_keeps : (k : K.Keeper) (n : ℕ) → Keeps k (K.expire k n)
expire_keeps k n =
    either_keeps k k.closed _ _ (refusal_keeps _ k _)
    (either_keeps k (leb (modulus_of k.bits) n) _ _ (refusal_keeps _ k _)
    (either_keeps k (K.mark_beyond k n) _ _ (refusal_keeps _ k _)
    (either_keeps k (K.none_precedes k n) _ _ (refusal_keeps _ k _) (expire_below_keeps k _))))

confirm_at_keeps : (k : K.Keeper) (n i : ℕ) → Keeps k (K.confirm_at k n i)
confirm_at_keeps k n i =
    either_keeps k (K.not_now k n i) _ _ (refusal_keeps _ k _) (answer_keeps k _ _)

pub confirm_keeps : (k : K.Keeper) (n : ℕ) → Keeps k (K.confirm k n)
confirm_keeps k n =
    either_keeps k k.closed _ _ (refusal_keeps _ k _)
    (either_keeps k (not (ltb n (modulus_of k.bits))) _ _ (refusal_keeps _ k _)
    (either_keeps k (leb (length (K.held k)) (K.index_of n (K.held k))) _ _ (refusal_keeps _ k _) (confirm_at_keeps k n (K.index_of n (K.held k)))))
