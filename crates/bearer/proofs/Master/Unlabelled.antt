-- Ledgers without labels, as the engine holds them: after any calls each is one that accepted calls reach, without its labels (Labels.antt), and so
-- its sum is that over its entries.
-- Assumes nothing.
use Rattle.std.specs.Prelude.{if◌then◌else◌}
use mathlib.Core.Path.{◌≡◌, refl, sym, ◌∙◌, ap}
use mathlib.Core.Bool.{Bool, true, false, not}
use Prim.Native.Nat.{ℕ, ◌-◌}
use lib.Dec.{ltb}
use lib.ListN.{length}
use Rattle.basics.specs.Basics.{◌and◌, Outcome, done, refused, is_done}
use Rattle.basics.proofs.Choices.{never_done}
use Rattle.circle.specs.Lengths.{is_length, modulus_of, pdcps}
use Rattle.bearer.specs.Bearer.{After, Keeps}
use Rattle.bearer.specs.Ledger.{Ledger, fresh_ledger, open_ledger, send, accept, take_oldest, waiting_sizes}
use Rattle.bearer.specs.LedgerMeaning.{Books, begun, sending, accepting, taking, LedgerReached, opened as opens, sends, accepts, takes, is_opened, after_send, after_accept, after_take, Unlabelled, CallsMean, SumsKept, RoomWithoutEntries}
use Rattle.bearer.proofs.Answers.Accepted.{opened}
use Rattle.bearer.proofs.Answers.Refused.{send_keeps, accept_keeps, take_keeps}
use Rattle.bearer.proofs.Master.Labels.{relabelled, outcome_as, send_as, accept_as, take_as, waiting_sizes_as}
use Rattle.bearer.proofs.Master.Sizes.{sizes_of_entries}
use Rattle.bearer.proofs.Master.AcceptsAny.{passes}
use Rattle.bearer.proofs.Master.LedgerMeans.{sound}

-- the label is forgotten
abbrev forgotten : ℕ → Unit {0}
forgotten i = tt

-- ---- each call

-- what is done with labels is done without them
open_as : (L first f : ℕ) (l : Ledger Unit) → open_ledger L first f ≡ done l → open_ledger {A = ℕ} L first f ≡ done (fresh_ledger L first f)
open_as L first f l = by (not (is_length L)) (not (ltb first (modulus_of L) and ltb f (pdcps L)))
  where
    by : (s t : Bool) → (if s then refused 7 else (if t then refused 10 else done (fresh_ledger L first f))) ≡ done l
        → (if s then refused 7 else (if t then refused 10 else done (fresh_ledger {A = ℕ} L first f))) ≡ done (fresh_ledger L first f)
    by true t e = never_done 7 l e
    by false true e = never_done 10 l e
    by false false e = refl

-- a call does without labels what it does with them: refused, it leaves what was there, and accepted, what was reached by one call more
after : {L first f : ℕ} {l : Ledger Unit} (u : Unlabelled L first f l) {C : Type 0} (x : After (Ledger Unit) C) (y : After (Ledger ℕ) C) → x ≡ outcome_as forgotten y → Keeps u.labelled y
    → ((c : C) → y.answer ≡ done c → (b : Books) × LedgerReached L first f y.state b) → Unlabelled L first f x.state
after {L} {first} {f} u {C} x y is keeps goes = by y.answer refl
  where
    state_is : x.state ≡ relabelled forgotten y.state
    state_is = ap (λ (z : After (Ledger Unit) C). z.state) is

    by : (o : Outcome C) → y.answer ≡ o → Unlabelled L first f x.state
    by (done c) e = let r = goes c e in record { labelled = y.state; books = r.0; reached = r.1; same = state_is }
    by (refused n) e = record { labelled = u.labelled; books = u.books; reached = u.reached; same = state_is ∙ ap (relabelled forgotten) (keeps.same (ap is_done e)) }

-- every ledger without labels that calls reach
pub calls_mean : CallsMean
calls_mean L first f l (is_opened e) =
    record { labelled = fresh_ledger L first f; books = begun L f; reached = opens (open_as L first f l e); same = sym (opened L first f (fresh_ledger L first f) l e).is }
calls_mean L first f _ (after_send {l} p z r) =
    let u = calls_mean L first f l r in
    let a = length u.books.sent in
    let is = ap (λ (k : Ledger Unit). send k p z tt) u.same ∙ send_as forgotten u.labelled p z a in
    after u (send l p z tt) (send u.labelled p z a) is (send_keeps u.labelled p z a) (λ n e. (sending u.books p z, sends p z n u.reached e))
calls_mean L first f _ (after_accept {l} o r) =
    let u = calls_mean L first f l r in
    let is = ap (λ (k : Ledger Unit). accept k o) u.same ∙ accept_as forgotten u.labelled o in
    after u (accept l o) (accept u.labelled o) is (accept_keeps u.labelled o)
    (λ a e. let p = passes u.labelled o a e in (accepting u.books p.frame a.freed, accepts o p.frame a u.reached p.read e))
calls_mean L first f _ (after_take {l} r) =
    let u = calls_mean L first f l r in
    let is = ap take_oldest u.same ∙ take_as forgotten u.labelled in
    after u (take_oldest l) (take_oldest u.labelled) is (take_keeps u.labelled) (λ t e. (taking u.books, takes t u.reached e))

-- ---- the sum

-- it is that over the entries, and so asking for room answers room
pub sums_kept : SumsKept
sums_kept L first f l r =
    let u = calls_mean L first f l r in
    let sum : l.octets ≡ waiting_sizes l.entries = rw u.same ((sound u.reached).summed ∙ sym (waiting_sizes_as forgotten u.labelled.entries)) in
    (sum ∙ sizes_of_entries l.entries, ap (λ (n : ℕ). l.desired - n) sum)

-- and looks at no entry
pub room_without_entries : RoomWithoutEntries
room_without_entries A B l es = refl
