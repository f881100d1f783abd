-- What any accepted status did, whoever made it: what it passed, whom its highest names, and whom that frees.
-- Assumes nothing.
use mathlib.Core.Path.{◌≡◌, refl, sym, ◌∙◌, ap}
use mathlib.Core.Bool.{true, false, not, not-not}
use mathlib.Core.List.{List, [], ◌∷◌}
use mathlib.Core.Option.{Option, none, some}
use mathlib.Core.Logic.{◌⊎◌, inl, inr, ⊎_elim}
use Prim.Native.Nat.{ℕ, suc, ◌+◌}
use native.Mathlib.Omega.{arith}
use borrow.Author.Tests.{eqb-true, ne_eqb, leb-true, leb-false}
use lib.Dec.{leb, eqb}
use lib.ListN.{length}
use Rattle.basics.specs.Basics.{◌and◌, ◌or◌, alike, done}
use Rattle.basics.proofs.Choices.{tested, contrary, and_true, done_one, otherwise, or_true}
use Rattle.circle.specs.Lengths.{is_long, pdcps}
use Rattle.frame_layout.specs.Frames.{Status, Reading, data_of, status_of, refuse, read_frame}
use Rattle.bearer.specs.Ledger.{Entry, Ledger, Passed, Accepted, waits, mark_lost, waits_for, free_through, freed, accepted_state, accept_marked, accept_reading, accept}
use Rattle.bearer.specs.Packets.{In, Each}
use Rattle.bearer.specs.LedgerMeaning.{TurnedLost, FreedThrough, freed_end, goes, later, is_lost, FreedBy, frees_none, frees_through}
use Rattle.bearer.proofs.Lists.Mapped.{each_so}
use Rattle.bearer.proofs.Answers.Accepted.{same_state, not_refused}
use Rattle.bearer.proofs.Master.Marks.{waiting_of}
use Rattle.bearer.proofs.Master.Pdcps.{pdcp_of}
use Rattle.bearer.proofs.Master.Frees.{left_over, Bears, frees, waiting_first, waiting_rest}
use Rattle.bearer.proofs.Master.Sound.{Entries, Master}
use Rattle.bearer.proofs.Master.Applied.{bears_one, waited, entries_turned, master_stays, master_moves}

-- what an accepted status has passed
pub record Passes (l : Ledger ℕ) (o : List ℕ) (a : Accepted) : Type 0 where
  pub frame : Status
  pub read : read_frame o ≡ status_of frame
  pub pass : Passed ℕ
  pub found : mark_lost l.bits l.entries frame.ranges ≡ some pass
  pub named : eqb frame.highest l.highest or waits_for frame.highest pass.entries ≡ true
  pub freed_is : a.freed ≡ (freed l frame.highest pass.entries).count
  pub lost_is : a.lost ≡ pass.count
  pub final_is : a.final ≡ frame.final
  pub state_is : (accept l o).state ≡ accepted_state l frame (freed l frame.highest pass.entries).entries

pub passes : (l : Ledger ℕ) (o : List ℕ) (a : Accepted) → (accept l o).answer ≡ done a → Passes l o a
passes l o a e = let shut = not_refused l.closed _ l _ a e in by (read_frame o) refl shut.1 (otherwise _ _ shut.0)
  where
    by : (r : Reading) → read_frame o ≡ r → (accept_reading l r).answer ≡ done a → accept l o ≡ accept_reading l r → Passes l o a
    by (data_of long n) q e s = absurd (let z : ◌≡◌ {A = ℕ} 0 1 = cc in omega arith)
    by (refuse n) q e s = absurd (let z : ◌≡◌ {A = ℕ} 0 1 = cc in omega arith)
    by (status_of f) q e s =
        let form = not_refused (not (alike f.long (is_long l.bits))) _ l _ a e in
        let fits = not_refused (leb (pdcps l.bits) f.highest) _ l _ a form.1 in
        marked f q (mark_lost l.bits l.entries f.ranges) refl fits.1 (s ∙ otherwise _ _ form.0 ∙ otherwise _ _ fits.0)
      where
        marked : (f : Status) → read_frame o ≡ status_of f → (x : Option (Passed ℕ)) → mark_lost l.bits l.entries f.ranges ≡ x → (accept_marked l f x).answer ≡ done a
            → accept l o ≡ accept_marked l f x → Passes l o a
        marked f q none w e s = absurd (let z : ◌≡◌ {A = ℕ} 0 1 = cc in omega arith)
        marked f q (some m) w e s =
            let t = not_refused (not (eqb f.highest l.highest or waits_for f.highest m.entries)) _ l _ a e in
            record {
              frame = f;
              read = q;
              pass = m;
              found = w;
              named = sym (not-not _) ∙ ap not t.0;
              freed_is = ap (λ (x : Accepted). x.freed) (sym (done_one _ a t.1));
              lost_is = ap (λ (x : Accepted). x.lost) (sym (done_one _ a t.1));
              final_is = ap (λ (x : Accepted). x.final) (sym (done_one _ a t.1));
              state_is = same_state (s ∙ otherwise _ _ t.0);
            }

-- ---- what it frees

-- how many were freed is how many entries left
through_count : (h : ℕ) (es : List (Entry ℕ)) → (free_through h es).count + length (free_through h es).entries ≡ length es
through_count h [] = refl
through_count h (e ∷ es) = go (tested (waits e)) (tested (eqb e.pdcp h)) (through_count h es)
  where
    go : (waits e ≡ true) ⊎ (waits e ≡ false) → (eqb e.pdcp h ≡ true) ⊎ (eqb e.pdcp h ≡ false) → (free_through h es).count + length (free_through h es).entries ≡ length es
        → (free_through h (e ∷ es)).count + length (free_through h (e ∷ es)).entries ≡ suc (length es)
    go (inl w) (inl t) r = rw (w, t) (omega arith)
    go (inl w) (inr t) r = rw (w, t) (omega arith)
    go (inr w) t r = rw w (omega arith)

pub freed_count : (l : Ledger ℕ) (h : ℕ) (es : List (Entry ℕ)) → (freed l h es).count + length (freed l h es).entries ≡ length es
freed_count l h es = ⊎_elim (λ t. rw t (omega arith)) (λ t. rw t (through_count h es)) (tested (eqb h l.highest))

-- the packet that waits for a PDCP number
pub record Waiter (sent : List ℕ) (h : ℕ) (es : List (Entry ℕ)) : Type 0 where
  pub packet : ℕ
  pub waiting : In packet (waiting_of es)
  pub pdcp_is : h ≡ pdcp_of sent packet

pub waiter : (sent : List ℕ) (h : ℕ) (es : List (Entry ℕ)) → Each (λ (e : Entry ℕ). e.pdcp ≡ pdcp_of sent e.label) es → waits_for h es ≡ true → Waiter sent h es
waiter sent h [] a t = absurd (contrary t refl)
waiter sent h (e ∷ es) a t =
    ⊎_elim
    (λ q.
    let b = and_true (waits e) (eqb e.pdcp h) q in
    record { packet = e.label; waiting = waiting_first e es b.0; pdcp_is = sym (eqb-true e.pdcp h b.1) ∙ a.0 })
    (λ q. let w = waiter sent h es a.1 q in record { packet = w.packet; waiting = waiting_rest w.packet e es w.waiting; pdcp_is = w.pdcp_is })
    (or_true (waits e and eqb e.pdcp h) (waits_for h es) t)

-- what the pass leaves is all but the waiting entries through a packet
left_through : (g : ℕ) (es : List (Entry ℕ)) → FreedThrough g es (left_over g es)
left_through g [] = freed_end
left_through g (e ∷ es) = go (tested (waits e)) (tested (leb e.label g)) (left_through g es)
  where
    go : (waits e ≡ true) ⊎ (waits e ≡ false) → (leb e.label g ≡ true) ⊎ (leb e.label g ≡ false) → FreedThrough g es (left_over g es) → FreedThrough g (e ∷ es) (left_over g (e ∷ es))
    go (inl w) (inl t) r = rw (w, t) (goes e w (leb-true e.label g t) r)
    go (inl w) (inr t) r = rw (w, t) (later e w (leb-false e.label g t) r)
    go (inr w) t r = rw w (is_lost e w r)

-- the ledger is sound again, and the highest has freed as it says
pub record Frees (L first : ℕ) (sent : List ℕ) (l : Ledger ℕ) (s : Status) (es : List (Entry ℕ)) : Type 0 where
  pub cut : ℕ
  pub master : Master L first cut sent (accepted_state l s (freed l s.highest es).entries)
  pub freed_by : FreedBy sent l.highest s.highest es (freed l s.highest es).entries

pub frees_by : {L first cut : ℕ} {sent : List ℕ} {l : Ledger ℕ} → Master L first cut sent l → (s : Status) {ns : List ℕ} {es : List (Entry ℕ)} → TurnedLost ns l.entries es
    → eqb s.highest l.highest or waits_for s.highest es ≡ true → Frees L first sent l s es
frees_by {L} {first} {cut} {sent} {l} m s {ns} {es} t named =
    ⊎_elim same (λ q. let w = waiter sent s.highest es (each_so es (λ e k. k.pdcp_is) held.sent_as_lem) q in moved w.packet w.waiting w.pdcp_is)
    (or_true (eqb s.highest l.highest) (waits_for s.highest es) named)
  where
    held : Entries L first cut sent es
    held = entries_turned t m.entries_are

    same : eqb s.highest l.highest ≡ true → Frees L first sent l s es
    same b =
        let e : s.highest ≡ l.highest = eqb-true s.highest l.highest b in
        record { cut = cut; master = rw b (master_stays m s t e); freed_by = rw b (frees_none e refl) }

    moved : (g : ℕ) → In g (waiting_of es) → s.highest ≡ pdcp_of sent g → Frees L first sent l s es
    moved g w e =
        let bears : Each (Bears s.highest g) es = rw e (bears_one m g (waited t g w) es held (waited t)) in
        let other : eqb s.highest l.highest ≡ false = ne_eqb s.highest l.highest (λ q. m.ordered.not_highest g (waited t g w) (sym e ∙ q)) in
        let left : (freed l s.highest es).entries ≡ left_over g es = rw other (frees s.highest g es held.rising w bears) in
        record {
          cut = suc g;
          master = rw left (master_moves m s t g w e);
          freed_by = rw left (frees_through g w e (left_through g es));
        }
