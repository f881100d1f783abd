-- The PDCP numbers of an account that calls reach are PDCP numbers of its bearer, so the writer refuses no status but for want of room.
-- Assumes nothing.
use mathlib.Core.Path.{◌≡◌, sym, ◌∙◌, ap}
use mathlib.Core.Bool.{Bool, true}
use mathlib.Core.List.{List, [], ◌∷◌}
use mathlib.Core.Logic.{⊎_elim}
use Prim.Native.Nat.{ℕ, ◌≤◌, ◌<◌}
use native.Mathlib.Omega.{arith}
use native.Mathlib.Nat.{mod-lt}
use borrow.Author.Tests.{le-ltb}
use lib.Dec.{ltb, eqb}
use lib.Pow.{pow_pos}
use lib.ListN.{length, take, length-map, length-take}
use Rattle.basics.specs.Basics.{all}
use Rattle.basics.proofs.Choices.{tested}
use Rattle.circle.specs.Lengths.{is_length, pdcps}
use Rattle.frame_layout.specs.Frames.{Status, most_ranges, most_highest, in_form, status_octets, place, write_status}
use Rattle.bearer.specs.Keeper as K
use Rattle.bearer.specs.Packets.{Each}
use Rattle.bearer.specs.Account.{Held, Account, run_at, listed, carried, going_of, left_out, last_pdcp, highest_now, recorded, delivered_if, account_status}
use Rattle.bearer.specs.KeeperMeaning.{Reached, opened as opens, arrived, expired, confirmed, reported, packet_at}
use Rattle.bearer.proofs.Lists.Mapped.{each_so, each_take, each_drop, each_map}
use Rattle.bearer.proofs.Lists.Lengths.{roomy}
use Rattle.bearer.proofs.Answers.Accepted.{opened}
use Rattle.bearer.proofs.Secondary.Index.{new_held}
use Rattle.bearer.proofs.Lists.RunNumbers.{runs_fit}
use Rattle.bearer.proofs.Secondary.Accounts.{indexed_of}
use Rattle.bearer.proofs.Secondary.KeeperMeans.{arrives, indexed, status_is}

-- ---- the PDCP numbers of an account

-- a record with a PDCP number of the bearer
abbrev Fits : ℕ → Held → Type 0
Fits L h = h.pdcp < pdcps L

-- L is one of document 01's, and the PDCP numbers of an account are its bearer's
pub record Fit (L : ℕ) (a : Account) : Type 0 where
  pub length_ok : is_length L ≡ true
  pub highest : a.reported < pdcps L
  pub records : Each (Fits L) a.records

-- a record among others that fit
recorded_fits : (L : ℕ) (h : Held) (hs : List Held) → Fits L h → Each (Fits L) hs → Each (Fits L) (recorded h hs)
recorded_fits L h [] fits each = (fits, tt)
recorded_fits L h (x ∷ xs) fits each =
    ⊎_elim (λ t. rw t (fits, each)) (λ t. rw t (each.0, recorded_fits L h xs fits each.1)) (tested (ltb h.index x.index))

-- a record that is delivered keeps its PDCP number
delivered_fits : (L i : ℕ) (h : Held) → Fits L h → Fits L (delivered_if i h)
delivered_fits L i h fits = ⊎_elim (λ t. rw t fits) (λ t. rw t fits) (tested (eqb h.index i))

last_fits : (L p : ℕ) (hs : List Held) → p < pdcps L → Each (Fits L) hs → last_pdcp p hs < pdcps L
last_fits L p [] fits each = fits
last_fits L p (h ∷ hs) fits each = last_fits L h.pdcp hs each.0 each.1

-- and so is a status' highest
highest_fits : (L : ℕ) (a : Account) → Fit L a → highest_now a < pdcps L
highest_fits L a fit =
    let n = going_of (left_out a) a.records in
    last_fits L a.reported (take n a.records) fit.highest (each_take (Fits L) n a.records fit.records)

-- every account that calls reach is such
reached_fit : (L first f : ℕ) {k : K.Keeper} {a : Account} → Reached L first f k a → Fit L a
reached_fit L first f (opens {k = k} e) = record { length_ok = (opened L first f (K.fresh_keeper L first f) k e).ok; highest = mod-lt _ (pow_pos L); records = tt }
reached_fit L first f (arrived {a = a} n p c base x low e) =
    let i = indexed L first f x in
    let fit = reached_fit L first f x in
    let h = arrives L first (indexed_of i.base a) n p c (ap (λ (y : K.Keeper). (K.arrive y n p).answer) (sym i.state_is) ∙ e) in
    record {
      length_ok = fit.length_ok;
      highest = fit.highest;
      records = recorded_fits L (new_held (packet_at L first base n) p) a.records h.fits fit.records;
    }
reached_fit L first f (expired n c x e) = let fit = reached_fit L first f x in record { length_ok = fit.length_ok; highest = fit.highest; records = fit.records }
reached_fit L first f (confirmed {a = a} n i x has bears e) =
    let fit = reached_fit L first f x in
    record {
      length_ok = fit.length_ok;
      highest = fit.highest;
      records = each_map (Fits L) (delivered_if i) a.records (each_so a.records (delivered_fits L i) fit.records);
    }
reached_fit L first f (reported {a = a} d m final buffer c x e) =
    let fit = reached_fit L first f x in
    record {
      length_ok = fit.length_ok;
      highest = highest_fits L a fit;
      records = each_drop (Fits L) (going_of (left_out a) a.records) a.records fit.records;
    }

-- ---- the writer

-- a writer of what its type can carry refuses only for want of room
writes : (s : Status) → s.highest ≤ most_highest s.long → length s.ranges ≤ most_ranges → all (in_form s.long) s.ranges ≡ true
    → (d : List ℕ) → write_status s d ≡ place (status_octets s) d
writes s h few fit d = rw (le-ltb (most_highest s.long) s.highest h, le-ltb most_ranges (length s.ranges) few, fit)

-- a status of a state that calls reach is written if there is room
pub statuses_fit : (L first f : ℕ) {k : K.Keeper} {a : Account} → Reached L first f k a → (d m : ℕ) (final : Bool) (buffer : List ℕ)
    → write_status (K.status_now k d m final) buffer ≡ place (status_octets (account_status L first a d m final)) buffer
statuses_fit L first f {a = a} x d m final buffer =
    let fit = reached_fit L first f x in
    let few : length (account_status L first a d m final).ranges ≤ most_ranges = rw (length-map (carried a) (run_at L first), length-take most_ranges (listed a)) (omega arith) in
    ap (λ (s : Status). write_status s buffer) (status_is (indexed L first f x) d m final)
    ∙ writes (account_status L first a d m final) (omega (arith, (roomy L fit.length_ok).bears_all, highest_fits L a fit)) few (runs_fit L first (carried a)) buffer
