-- What holds of the sizes in every ledger that calls reach: each entry bears its packet's, which is within its limits; so the sizes of those that
-- wait are the packets', and added up they stay small. That sum is the one which is kept: each call raises or lowers it by what it changes.
-- Assumes nothing.
use Rattle.std.specs.Prelude.{if◌then◌else◌}
use mathlib.Core.Path.{◌≡◌, refl, sym, ◌∙◌, ap, ap₂}
use mathlib.Core.Bool.{Bool, true, false}
use mathlib.Core.List.{List, [], ◌∷◌, ◌++◌}
use Prim.Native.Nat.{ℕ, ◌+◌, ◌*◌, ◌-◌, ◌≤◌, ◌<◌}
use native.Mathlib.Omega.{arith}
use lib.ListN.{length, get_or, length-append, get_or-append}
use lib.Seq.{get_or-append_seam}
use Rattle.bearer.specs.Bearer.{most_entries, most_size}
use Rattle.bearer.specs.Ledger.{Entry, Ledger, new_entry, raised, waits, waiting_sizes, lowered, room}
use Rattle.bearer.specs.Packets.{packets, Each}
use Rattle.bearer.specs.LedgerMeaning.{Books, waiting_in, sizes_of, octets_of, room_by, TurnedLost, turned_end, turns, as_it_was, FreedThrough, goes, later, is_lost, freed_end, FreedBy, frees_none, frees_through}
use Rattle.bearer.proofs.Lists.Mapped.{each_so, each_append}
use Rattle.bearer.proofs.Master.Applied.{each_turned}
use Rattle.bearer.proofs.Master.Sums.{sizes_append, sizes_without}

-- an entry bears its packet's size, which is within its limits
pub record SizedAs (sizes : List ℕ) (e : Entry ℕ) : Type 0 where
  pub size_is : e.size ≡ get_or sizes e.label 0
  pub within : (1 ≤ e.size) × (e.size ≤ most_size)
  pub was_sent : e.label < length sizes

-- ---- the calls

-- a send puts its own behind the others
pub sized_sends : (sizes : List ℕ) (es : List (Entry ℕ)) (n p z : ℕ) → (1 ≤ z) × (z ≤ most_size) → Each (SizedAs sizes) es
    → Each (SizedAs (sizes ++ (z ∷ []))) (es ++ (new_entry n p z (length sizes) ∷ []))
sized_sends sizes es n p z limits a =
    let more = length-append sizes (z ∷ []) in
    each_append (SizedAs (sizes ++ (z ∷ []))) es (new_entry n p z (length sizes) ∷ [])
    (each_so es (λ e k.
    record { size_is = k.size_is ∙ sym (get_or-append sizes (z ∷ []) 0 e.label k.was_sent); within = k.within; was_sent = omega (arith, more, k.was_sent) })
    a)
    (record { size_is = sym (get_or-append_seam sizes z [] 0); within = limits; was_sent = omega (arith, more) }, tt)

-- an entry that becomes lost keeps its own
pub sized_turned : (sizes : List ℕ) {ns : List ℕ} {es ds : List (Entry ℕ)} → TurnedLost ns es ds → Each (SizedAs sizes) es → Each (SizedAs sizes) ds
sized_turned sizes = each_turned _ (λ e k. record { size_is = k.size_is; within = k.within; was_sent = k.was_sent })

-- what is freed leaves the others alone
each_freed : (P : Entry ℕ → Type 0) {g : ℕ} {es ds : List (Entry ℕ)} → FreedThrough g es ds → Each P es → Each P ds
each_freed P freed_end a = tt
each_freed P (goes e w o t) a = each_freed P t a.1
each_freed P (later e w o t) a = (a.0, each_freed P t a.1)
each_freed P (is_lost e w t) a = (a.0, each_freed P t a.1)

pub sized_freed : (sizes : List ℕ) {sent : List ℕ} {H h : ℕ} {es ds : List (Entry ℕ)} → FreedBy sent H h es ds → Each (SizedAs sizes) es → Each (SizedAs sizes) ds
sized_freed sizes (frees_none q same) a = rw same a
sized_freed sizes (frees_through g w q t) a = each_freed _ t a

-- ---- what waits, added up

-- the sizes of the waiting entries are those of the waiting packets
pub sizes_of_waiting : (b : Books) (es : List (Entry ℕ)) → Each (SizedAs b.sizes) es → waiting_sizes es ≡ octets_of b (packets (waiting_in es))
sizes_of_waiting b [] a = refl
sizes_of_waiting b (e ∷ es) a = go (waits e) (sizes_of_waiting b es a.1)
  where
    go : (w : Bool) → waiting_sizes es ≡ octets_of b (packets (waiting_in es))
        → (if w then e.size + waiting_sizes es else waiting_sizes es) ≡ octets_of b (packets (if w then e ∷ waiting_in es else waiting_in es))
    go true r = ap₂ ◌+◌ a.0.size_is r
    go false r = r

-- and as many times the largest size at most
pub sizes_few : (sizes : List ℕ) (es : List (Entry ℕ)) → Each (SizedAs sizes) es → waiting_sizes es ≤ length es * most_size
sizes_few sizes [] a = omega arith
sizes_few sizes (e ∷ es) a = go (waits e) (sizes_few sizes es a.1) a.0.within.1
  where
    go : (w : Bool) → waiting_sizes es ≤ length es * most_size → e.size ≤ most_size → (if w then e.size + waiting_sizes es else waiting_sizes es) ≤ length (e ∷ es) * most_size
    go true r s = omega arith
    go false r s = omega arith

-- as the rule adds them up
pub sizes_of_entries : {A : Type 0} (es : List (Entry A)) → waiting_sizes es ≡ sizes_of (waiting_in es)
sizes_of_entries [] = refl
sizes_of_entries (e ∷ es) = go (waits e) (sizes_of_entries es)
  where
    go : (w : Bool) → waiting_sizes es ≡ sizes_of (waiting_in es) → (if w then e.size + waiting_sizes es else waiting_sizes es) ≡ sizes_of (if w then e ∷ waiting_in es else waiting_in es)
    go true r = ap (λ (n : ℕ). e.size + n) r
    go false r = r

-- room is what the books say
pub room_by_lem : (l : Ledger ℕ) (b : Books) → l.desired ≡ b.desired → (b.heard ≡ false → b.desired ≡ 0) → Each (SizedAs b.sizes) l.entries
    → room l ≡ room_by b (packets (waiting_in l.entries))
room_by_lem l b desired unheard a =
    ap₂ ◌-◌ desired (sizes_of_waiting b l.entries a) ∙ go b.heard unheard
  where
    octets : ℕ
    octets = octets_of b (packets (waiting_in l.entries))

    go : (h : Bool) → (h ≡ false → b.desired ≡ 0) → b.desired - octets ≡ (if h then b.desired - octets else 0)
    go true u = refl
    go false u = let z = u refl in omega arith

-- ---- the sum that is kept

-- a send raises it to that over its entries: these stay few enough
pub sum_raised : (sizes : List ℕ) (es : List (Entry ℕ)) (n p z a octets : ℕ) → length es < most_entries → z ≤ most_size → Each (SizedAs sizes) es → octets ≡ waiting_sizes es
    → raised octets z ≡ waiting_sizes (es ++ (new_entry n p z a ∷ []))
sum_raised sizes es n p z a octets room fits sized is =
    let all = sizes_append es (new_entry n p z a ∷ []) in
    let few = sizes_few sizes es sized in
    omega (arith, all, few, is)

-- where no more waits than did, it is lowered to that over the entries
pub sum_lowered : (es ds : List (Entry ℕ)) (octets : ℕ) → waiting_sizes ds ≤ waiting_sizes es → octets ≡ waiting_sizes es → lowered octets es ds ≡ waiting_sizes ds
sum_lowered es ds octets less is = omega arith

-- what turns lost waits no longer
turned_less : {ns : List ℕ} {es ds : List (Entry ℕ)} → TurnedLost ns es ds → waiting_sizes ds ≤ waiting_sizes es
turned_less turned_end = omega arith
turned_less (turns {es = es} {ds = ds} e w t) = let r = turned_less t in rw w (omega (arith, r))
turned_less (as_it_was {es = es} {ds = ds} e t) = go (waits e) (turned_less t)
  where
    go : (w : Bool) → waiting_sizes ds ≤ waiting_sizes es → (if w then e.size + waiting_sizes ds else waiting_sizes ds) ≤ (if w then e.size + waiting_sizes es else waiting_sizes es)
    go true r = omega (arith, r)
    go false r = r

-- nor does what is freed
through_less : {g : ℕ} {es ds : List (Entry ℕ)} → FreedThrough g es ds → waiting_sizes ds ≤ waiting_sizes es
through_less freed_end = omega arith
through_less (goes e w o t) = let r = through_less t in rw w (omega (arith, r))
through_less (later e w o t) = let r = through_less t in rw w (omega (arith, r))
through_less (is_lost e w t) = rw w (through_less t)

-- so a status leaves no more waiting
pub status_less : {ns sent : List ℕ} {H h : ℕ} {es ms ds : List (Entry ℕ)} → TurnedLost ns es ms → FreedBy sent H h ms ds → waiting_sizes ds ≤ waiting_sizes es
status_less t (frees_none q same) = rw same (turned_less t)
status_less t (frees_through g w q f) = let a = turned_less t in let b = through_less f in omega (arith, a, b)

-- nor does a take
pub take_less : (front : List (Entry ℕ)) (gone : Entry ℕ) (back : List (Entry ℕ)) → waiting_sizes (front ++ back) ≤ waiting_sizes (front ++ (gone ∷ back))
take_less front gone back = omega (arith, sizes_without front gone back)
