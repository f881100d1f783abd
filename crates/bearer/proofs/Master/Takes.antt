-- What a take does to the master's ledger, by packets: nothing, or one entry leaves, a lost one while the end is open.
-- Assumes nothing.
use Rattle.std.specs.Prelude.{if◌then◌else◌}
use mathlib.Core.Path.{◌≡◌, refl, sym, ◌∙◌, ap}
use mathlib.Core.Bool.{Bool, true, false, not}
use mathlib.Core.List.{List, [], ◌∷◌, ◌++◌}
use mathlib.Core.Logic.{◌⊎◌, inl, inr, ⊎_elim}
use Prim.Native.Nat.{ℕ, ◌≤◌}
use native.Mathlib.Omega.{arith}
use borrow.Author.Tests.{not-true}
use lib.ListN.{length, take, drop, take-append-drop}
use Rattle.basics.specs.Basics.{◌or◌}
use Rattle.basics.proofs.Choices.{tested, contrary, or_true}
use Rattle.bearer.specs.Ledger.{Entry, Ledger, waits, waiting_at, holding, place_without, take_at, take_from, take_oldest}
use Rattle.bearer.specs.Packets.{packets, In}
use Rattle.bearer.specs.LedgerMeaning.{waiting_in}
use Rattle.bearer.proofs.Lists.Elements.{in_left, in_right, in_append}
use Rattle.bearer.proofs.Master.Marks.{waiting_of}
use Rattle.bearer.proofs.Master.Pdcps.{fewer}
use Rattle.bearer.proofs.Master.Frees.{waiting_rest}
use Rattle.bearer.proofs.Master.Oldest.{found_from, oldest_without}
use Rattle.bearer.proofs.Master.Sound.{Master, entries_without, waiting_append}

-- one entry left: the end is closed, or the entry was lost
pub record Left (l t : Ledger ℕ) : Type 0 where
  pub front : List (Entry ℕ)
  pub gone : Entry ℕ
  pub back : List (Entry ℕ)
  pub were : l.entries ≡ front ++ (gone ∷ back)
  pub are : t ≡ holding l (place_without (length front) l.oldest) (front ++ back)
  pub why : (l.closed ≡ true) ⊎ (waits gone ≡ false)

-- what stands first from the place of a take on may be taken
taken_why : (c : Bool) (es : List (Entry ℕ)) (e : Entry ℕ) (b : List (Entry ℕ)) → drop (take_at c es) es ≡ e ∷ b → (c ≡ true) ⊎ (waits e ≡ false)
taken_why c [] e b q = absurd (let z : ◌≡◌ {A = ℕ} 0 1 = ap (λ (l : List (Entry ℕ)). elim l [ [] ↦ 0 | x ∷ xs ↦ 1 ]) q in omega arith)
taken_why c (x ∷ es) e b q = go (tested (c or not (waits x))) (taken_why c es e b)
  where
    first : List (Entry ℕ) → Entry ℕ
    first l = elim l [ [] ↦ e | y ∷ ys ↦ y ]

    go : (c or not (waits x) ≡ true) ⊎ (c or not (waits x) ≡ false) → (drop (take_at c es) es ≡ e ∷ b → (c ≡ true) ⊎ (waits e ≡ false)) → (c ≡ true) ⊎ (waits e ≡ false)
    go (inl t) rest =
        let here : x ≡ e = ap first (rw t at q) in
        ⊎_elim inl (λ n. inr (rw (← here) (not-true (waits x) n))) (or_true c (not (waits x)) t)
    go (inr t) rest = rest (rw t at q)

-- a take changes nothing, or one entry leaves
pub take_cases : (l : Ledger ℕ) → ((take_oldest l).state ≡ l) ⊎ Left l (take_oldest l).state
take_cases l = go (drop (take_at l.closed l.entries) l.entries) refl
  where
    i : ℕ
    i = take_at l.closed l.entries

    go : (rest : List (Entry ℕ)) → drop (take_at l.closed l.entries) l.entries ≡ rest → ((take_oldest l).state ≡ l) ⊎ Left l (take_oldest l).state
    go [] q = inl (ap (λ (r : List (Entry ℕ)). (take_from l (take (take_at l.closed l.entries) l.entries) r).state) q)
    go (e ∷ b) q =
        inr (record {
          front = take (take_at l.closed l.entries) l.entries;
          gone = e;
          back = b;
          were = sym (take-append-drop (take_at l.closed l.entries) l.entries) ∙ ap (λ (r : List (Entry ℕ)). take (take_at l.closed l.entries) l.entries ++ r) q;
          are = ap (λ (r : List (Entry ℕ)). (take_from l (take (take_at l.closed l.entries) l.entries) r).state) q;
          why = taken_why l.closed l.entries e b q;
        })

-- who waits without the entry waited
waited_without : (a : List (Entry ℕ)) (e : Entry ℕ) (b : List (Entry ℕ)) (x : ℕ) → In x (waiting_of (a ++ b)) → In x (waiting_of (a ++ (e ∷ b)))
waited_without a e b x p =
    rw (waiting_append a (e ∷ b))
    (⊎_elim (in_left x (waiting_of a) (waiting_of (e ∷ b))) (λ q. in_right x (waiting_of a) (waiting_of (e ∷ b)) (waiting_rest x e b q)) (in_append x (waiting_of a) (waiting_of b) (rw (waiting_append a b) at p)))

-- the ledger is as sound without the entry
pub master_left : {L first cut : ℕ} {sent : List ℕ} {l t : Ledger ℕ} → Master L first cut sent l → Left l t → Master L first cut sent t
master_left {l = l} m s =
    let place : place_without (length s.front) l.oldest ≤ waiting_at (s.front ++ s.back) =
    rw (m.oldest_is, s.were) (oldest_without s.front s.gone s.back)
    in
    rw s.are (record {
      bits_are = m.bits_are;
      next_is = m.next_is;
      cut_sent = m.cut_sent;
      oldest_is = found_from _ (s.front ++ s.back) place;
      entries_are = entries_without s.front s.gone s.back (rw s.were at m.entries_are);
      ordered = fewer m.ordered {ws' = waiting_of (s.front ++ s.back)} (λ x p. rw s.were (waited_without s.front s.gone s.back x p));
    })

-- while the end is open, who waits still waits
pub waiting_left : {l t : Ledger ℕ} → Left l t → l.closed ≡ false → waiting_of t.entries ≡ waiting_of l.entries
waiting_left {l} s o =
    let lost : waits s.gone ≡ false = ⊎_elim (λ c. absurd (contrary c o)) (λ w. w) s.why in
    let was : waiting_of l.entries ≡ waiting_of s.front ++ waiting_of s.back =
    ap waiting_of s.were ∙ waiting_append s.front (s.gone ∷ s.back) ∙ ap (λ (b : Bool). waiting_of s.front ++ packets (if b then s.gone ∷ waiting_in s.back else waiting_in s.back)) lost
    in
    ap (λ (x : Ledger ℕ). waiting_of x.entries) s.are ∙ waiting_append s.front s.back ∙ sym was
