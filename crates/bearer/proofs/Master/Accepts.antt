-- The master takes a status whose ranges name waiting packets in sending order and whose highest is the one last accepted or that of a
-- waiting packet which the ranges leave out: it accepts, and frees exactly the waiting packets through the highest's that the ranges
-- leave out.
-- Assumes nothing.
use Rattle.std.specs.Prelude.{if◌then◌else◌}
use mathlib.Core.Path.{◌≡◌, refl, sym, ◌∙◌, ap}
use mathlib.Core.Bool.{Bool, true, false, not}
use mathlib.Core.List.{List, [], ◌∷◌, map}
use mathlib.Core.Option.{some}
use Prim.Native.Nat.{ℕ, suc, ◌≤◌, ◌<◌}
use native.Mathlib.Omega.{arith}
use borrow.Author.Tests.{eq-eqb, ne_eqb, lt-leb}
use lib.Dec.{eqb, leb}
use lib.ListN.{length}
use Rattle.basics.specs.Basics.{alike, is_done}
use Rattle.basics.proofs.Choices.{contrary, and_true, otherwise}
use Rattle.circle.specs.Lengths.{is_length, is_long, pdcps}
use Rattle.frame_layout.specs.Frames.{Status, status_of, read_frame}
use Rattle.bearer.specs.Bearer.{After}
use Rattle.bearer.specs.Losses.{Gap}
use Rattle.bearer.specs.Ledger.{Entry, Ledger, Passed, Accepted, waits, as_lost, marking, accept, accept_reading, accept_marked}
use Rattle.bearer.specs.Rule.{is_in}
use Rattle.bearer.specs.Packets.{packets, In, Each}
use Rattle.bearer.specs.World.{without}
use Rattle.bearer.specs.Account.{run_at, packets_of}
use Rattle.bearer.specs.LedgerMeaning.{TurnedLost, turned_end, turns, as_it_was}
use Rattle.bearer.proofs.Master.Marks.{is_named, Names, marked, waiting_of, waiting_held, mark_finds}
use Rattle.bearer.proofs.Master.Pdcps.{pdcp_of}
use Rattle.bearer.proofs.Master.Frees.{left_over, Bears, frees, some_bears, marked_waits, marked_keeps, left_waits, left_keeps, left_out_lem, goes_out, in_without, without_in}
use Rattle.bearer.proofs.Master.Sound.{Master, waiting_sent, oldest_of, in_step}
use Rattle.bearer.proofs.Master.Applied.{bears_one, packets_turned, waited, entries_turned, master_stays, master_moves}

alike_self : (b : Bool) → alike b b ≡ true
alike_self true = refl
alike_self false = refl

-- the numbers of the waiting entries of these packets
abbrev pub numbers_named : List ℕ → List (Entry ℕ) → List ℕ
numbers_named xs [] = []
numbers_named xs (e ∷ es) = if is_named xs e then e.number ∷ numbers_named xs es else numbers_named xs es

-- these entries turn lost
pub marked_turned : (xs : List ℕ) (es : List (Entry ℕ)) → TurnedLost (numbers_named xs es) es (marked xs es)
marked_turned xs [] = turned_end
marked_turned xs (e ∷ es) = go (is_named xs e) refl (marked_turned xs es)
  where
    go : (b : Bool) → is_named xs e ≡ b → TurnedLost (numbers_named xs es) es (marked xs es)
        → TurnedLost (if b then e.number ∷ numbers_named xs es else numbers_named xs es) (e ∷ es) ((if b then as_lost e else e) ∷ marked xs es)
    go true n t = turns e (and_true (waits e) (is_in e.label xs) n).0 t
    go false n t = as_it_was e t

-- ---- the two passes of an accepted status

-- the highest stays, or moves to a waiting packet that the ranges leave out
pub data Highest (sent : List ℕ) (l : Ledger ℕ) (xs : List ℕ) (h cut : ℕ) : ℕ → Type 0 where
  stays : h ≡ l.highest → Highest sent l xs h cut cut
  moves_to : (g : ℕ) → In g (waiting_of l.entries) → is_in g xs ≡ false → h ≡ pdcp_of sent g → Highest sent l xs h cut (suc g)

-- what the master has done with such a status
pub record Took (L first cut : ℕ) (sent xs : List ℕ) (l : Ledger ℕ) (s : Status) (a : After (Ledger ℕ) Accepted) : Type 0 where
  pub accepted : is_done a.answer ≡ true
  pub master : Master L first cut sent a.state
  pub closed_by : a.state.closed ≡ s.final
  pub highest_is : a.state.highest ≡ s.highest
  pub waits_on : (x : ℕ) → In x (waiting_of a.state.entries) → In x (waiting_of l.entries) × (is_in x xs ≡ false) × (cut ≤ x)
  pub waits_still : (x : ℕ) → In x (waiting_of l.entries) → is_in x xs ≡ false → cut ≤ x → In x (waiting_of a.state.entries)
  pub freed_only : (x : ℕ) → In x (without (packets l.entries) (packets a.state.entries)) → In x (waiting_of l.entries) × (is_in x xs ≡ false) × (x < cut)
  pub freed_all : (x : ℕ) → In x (waiting_of l.entries) → is_in x xs ≡ false → x < cut → In x (without (packets l.entries) (packets a.state.entries))

module _ {L first cut : ℕ} {sent : List ℕ} {l : Ledger ℕ} (ok : is_length L ≡ true) (m : Master L first cut sent l) (s : Status) (gs : List Gap) (n : Names gs l.entries) where
  -- the entries when the ranges are applied
  abbrev applied : List (Entry ℕ)
  applied = marked (packets_of gs) l.entries

  applied_turned : TurnedLost (numbers_named (packets_of gs) l.entries) l.entries applied
  applied_turned = marked_turned (packets_of gs) l.entries

  abbrev passed : Passed ℕ
  passed = record { entries = applied; count = length (packets_of gs) }

  -- the highest stays: nothing is freed
  took_stays : s.highest ≡ l.highest → Took L first cut sent (packets_of gs) l s (accept_marked l s (some passed))
  took_stays e =
      rw (eq-eqb s.highest l.highest e) (record {
        accepted = refl;
        master = master_stays m s applied_turned e;
        closed_by = refl;
        highest_is = refl;
        waits_on = λ x p.
            let q = marked_waits x (packets_of gs) l.entries p in
            (q.0, q.1, (waiting_sent x l.entries m.entries_are q.0).0);
        waits_still = λ x p q h. marked_keeps x (packets_of gs) l.entries p q;
        freed_only = λ x p.
            let q = in_without x (packets l.entries) (packets applied) p in
            absurd (contrary q.0 (rw (packets_turned applied_turned) at q.1));
        freed_all = λ x p q h. absurd (let k = (waiting_sent x l.entries m.entries_are p).0 in omega arith);
      })

  -- the highest moves to packet g: what waits through g is freed
  took_moves : (g : ℕ) → In g (waiting_of l.entries) → is_in g (packets_of gs) ≡ false → s.highest ≡ pdcp_of sent g
      → Took L first (suc g) sent (packets_of gs) l s (accept_marked l s (some passed))
  took_moves g w out e =
      let still : In g (waiting_of applied) = marked_keeps g (packets_of gs) l.entries w out in
      let held = entries_turned applied_turned m.entries_are in
      let bears : Each (Bears s.highest g) applied = rw e (bears_one m g w applied held (waited applied_turned)) in
      let other : eqb s.highest l.highest ≡ false = ne_eqb s.highest l.highest (λ q. m.ordered.not_highest g w (sym e ∙ q)) in
      rw (other, some_bears s.highest g applied still bears, frees s.highest g applied held.rising still bears) (record {
        accepted = refl;
        master = master_moves m s applied_turned g still e;
        closed_by = refl;
        highest_is = refl;
        waits_on = λ x p.
            let q = left_waits x g applied p in
            let r = marked_waits x (packets_of gs) l.entries q.0 in
            (r.0, r.1, q.1);
        waits_still = λ x p q h. left_keeps x g applied (marked_keeps x (packets_of gs) l.entries p q) h;
        freed_only = λ x p.
            let q = in_without x (packets l.entries) (packets (left_over g applied)) p in
            let r = left_out_lem x g applied (rw (packets_turned applied_turned) q.0) q.1 in
            let t = marked_waits x (packets_of gs) l.entries r.0 in
            (t.0, t.1, (let k = r.1 in omega arith));
        freed_all = λ x p q h.
            without_in x (packets l.entries) (packets (left_over g applied)) (waiting_held x l.entries p)
            (goes_out x g applied held.rising (marked_keeps x (packets_of gs) l.entries p q) (omega arith));
      })

  -- the master takes the status
  pub takes : (cut' : ℕ) (o : List ℕ) → l.closed ≡ false → read_frame o ≡ status_of s → s.long ≡ is_long L → s.highest < pdcps L
      → s.ranges ≡ map (run_at L first) gs → Highest sent l (packets_of gs) s.highest cut cut' → Took L first cut' sent (packets_of gs) l s (accept l o)
  takes cut' o open_end read form fits ranges h =
      let same : alike s.long (is_long l.bits) ≡ true = rw (form, m.bits_are) (alike_self (is_long L)) in
      let below : leb (pdcps l.bits) s.highest ≡ false = rw m.bits_are (lt-leb (pdcps L) s.highest fits) in
      let finds : marking l s ≡ some passed = rw (m.bits_are, ranges) (mark_finds L first (oldest_of (waiting_of l.entries)) l.entries gs (in_step ok m) n) in
      let is : accept l o ≡ accept_marked l s (some passed) =
      otherwise _ _ open_end ∙ ap (accept_reading l) read ∙ otherwise _ _ (ap not same) ∙ otherwise _ _ below
      ∙ ap (accept_marked l s) finds
      in
      rw is (by cut' h)
    where
      by : (c : ℕ) → Highest sent l (packets_of gs) s.highest cut c → Took L first c sent (packets_of gs) l s (accept_marked l s (some passed))
      by c (stays e) = took_stays e
      by c (moves_to g w out e) = took_moves g w out e
