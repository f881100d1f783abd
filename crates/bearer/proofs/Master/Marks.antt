-- The master's pass over a status's ranges, by packets: ranges whose numbers are those of waiting packets in sending order turn exactly
-- these into lost ones. A lost entry is never taken for a waiting one of its number: the pass looks at waiting entries alone, and these
-- lie less than a turn apart.
-- Assumes nothing.
use Rattle.std.specs.Prelude.{if◌then◌else◌}
use mathlib.Core.Path.{◌≡◌, refl, sym, ◌∙◌, ap}
use mathlib.Core.Bool.{Bool, true, false}
use mathlib.Core.List.{List, [], ◌∷◌, map}
use mathlib.Core.Option.{some}
use mathlib.Core.Logic.{◌⊎◌, inl, inr, ⊎_elim}
use Prim.Native.Nat.{ℕ, ◌+◌, ◌-◌, ◌%◌, ◌≤◌, ◌<◌}
use native.Mathlib.Omega.{arith}
use native.Mathlib.Nat.{mod-lt}
use native.Mathlib.Numerals.{add-one}
use borrow.Author.Tests.{eq-eqb, ne_eqb, eqb-true, eqb-false}
use lib.Dec.{eqb}
use lib.ListN.{length}
use Rattle.basics.specs.Basics.{◌and◌}
use Rattle.basics.proofs.Choices.{tested, contrary, and_no}
use Rattle.circle.specs.Lengths.{modulus_of}
use Rattle.frame_layout.specs.Frames.{Range}
use Rattle.bearer.specs.Losses.{Gap}
use Rattle.bearer.specs.Ledger.{Entry, Passed, waits, bears, as_lost, after_number, mark_lost}
use Rattle.bearer.specs.Rule.{is_in}
use Rattle.bearer.specs.Packets.{number_of, packets, Rising, In, Each, in_ranges}
use Rattle.bearer.specs.Account.{run_at, packets_from, packets_of}
use Rattle.bearer.specs.LedgerMeaning.{waiting_in}
use Rattle.bearer.proofs.Lists.Elements.{in_head, in_tail, in_cons, in_right, rising_tail, rising_head, rising_first, in_none, not_in, rising_once}
use Rattle.bearer.proofs.Lists.Rows.{run_in}
use Rattle.bearer.proofs.Lists.Mapped.{each_so, each_map}
use Rattle.bearer.proofs.Lists.Numbers.{positive, same_packet}
use Rattle.bearer.proofs.Lists.RunNumbers.{Short, runs_expand}
use Rattle.bearer.proofs.Master.Turned.{first_number}

-- an entry waits and its packet is one of these
abbrev pub is_named : List ℕ → Entry ℕ → Bool
is_named xs e = waits e and is_in e.label xs

-- the entries with the waiting ones of these packets lost
abbrev pub marked : List ℕ → List (Entry ℕ) → List (Entry ℕ)
marked xs [] = []
marked xs (e ∷ es) = (if is_named xs e then as_lost e else e) ∷ marked xs es

-- the packets of waiting entries
abbrev pub waiting_of : List (Entry ℕ) → List ℕ
waiting_of es = packets (waiting_in es)

-- ---- passing over packets that are not there

marked_none : (es : List (Entry ℕ)) → marked [] es ≡ es
marked_none [] = refl
marked_none (e ∷ es) = rw (and_no (waits e), marked_none es)

-- a packet that no entry bears may be left out
marked_rest : (x : ℕ) (xs : List ℕ) (es : List (Entry ℕ)) → is_in x (packets es) ≡ false → marked (x ∷ xs) es ≡ marked xs es
marked_rest x xs [] h = refl
marked_rest x xs (e ∷ es) h =
    let apart : eqb e.label x ≡ false = ne_eqb e.label x (λ q. contrary (in_here q) h) in
    let rest : is_in x (packets es) ≡ false = not_in x (packets es) (λ p. contrary (in_tail x e.label (packets es) p) h) in
    rw (apart, marked_rest x xs es rest)
  where
    in_here : e.label ≡ x → In x (e.label ∷ packets es)
    in_here q = rw (eq-eqb x e.label (sym q))

-- ---- the pass

-- entries as the master's ledger holds them: in sending order, each with its packet's number, the waiting ones within a turn from lo
pub record InStep (L first lo : ℕ) (es : List (Entry ℕ)) : Type 0 where
  pub rising : Rising (packets es)
  pub numbered : Each (λ (e : Entry ℕ). e.number ≡ number_of L first e.label) es
  pub near : Each (λ (e : Entry ℕ). waits e ≡ true → (lo ≤ e.label) × (e.label < lo + modulus_of L)) es

-- what waits among a first entry and the rest is the first's packet, or waits among the rest
pub waiting_cases : (x : ℕ) (e : Entry ℕ) (es : List (Entry ℕ)) → In x (waiting_of (e ∷ es)) → ((waits e ≡ true) × (x ≡ e.label)) ⊎ In x (waiting_of es)
waiting_cases x e es h = go (waits e) refl h
  where
    go : (b : Bool) → waits e ≡ b → In x (packets (if b then e ∷ waiting_in es else waiting_in es)) → ((waits e ≡ true) × (x ≡ e.label)) ⊎ In x (waiting_of es)
    go true w h = ⊎_elim (λ q. inl (w, q)) inr (in_cons x e.label (waiting_of es) h)
    go false w h = inr h

-- what waits is held
pub waiting_held : (x : ℕ) (es : List (Entry ℕ)) → In x (waiting_of es) → In x (packets es)
waiting_held x [] h = h
waiting_held x (e ∷ es) h =
    ⊎_elim (λ w. rw (eq-eqb x e.label w.1)) (λ p. in_tail x e.label (packets es) (waiting_held x es p)) (waiting_cases x e es h)

pub instep_rest : (L first lo : ℕ) (e : Entry ℕ) (es : List (Entry ℕ)) → InStep L first lo (e ∷ es) → InStep L first lo es
instep_rest L first lo e es s = record { rising = rising_tail e.label (packets es) s.rising; numbered = s.numbered.1; near = s.near.1 }

-- a waiting packet lies within a turn from lo
pub waiting_near : (L first lo x : ℕ) (es : List (Entry ℕ)) → InStep L first lo es → In x (waiting_of es) → (lo ≤ x) × (x < lo + modulus_of L)
waiting_near L first lo x [] s h = absurd (in_none h)
waiting_near L first lo x (e ∷ es) s h =
    ⊎_elim (λ w. rw w.1 (s.near.0 w.0)) (λ p. waiting_near L first lo x es (instep_rest L first lo e es s) p) (waiting_cases x e es h)

-- packets that wait, in sending order and each once
pub record Picked (is : List ℕ) (es : List (Entry ℕ)) : Type 0 where
  pub in_order : Rising is
  pub all_wait : (x : ℕ) → In x is → In x (waiting_of es)

-- what a pass that finds them makes of entries: the packets are lost, and counted
abbrev pub passed : List ℕ → List (Entry ℕ) → Passed ℕ
passed is es = record { entries = marked is es; count = length is }

-- where the first entry is the first of them, the others wait behind it
picked_rest : (i : ℕ) (is : List ℕ) (e : Entry ℕ) (es : List (Entry ℕ)) → Picked (i ∷ is) (e ∷ es) → i ≡ e.label → Picked is es
picked_rest i is e es p q = record {
  in_order = rising_tail i is p.in_order;
  all_wait = λ x h.
      let past : i < x = rising_head i is p.in_order x h in
      ⊎_elim (λ w. absurd (omega (arith, past, q, w.1))) (λ t. t) (waiting_cases x e es (p.all_wait x (in_tail x i is h)));
}

-- where it isn't, all of them wait behind it
picked_behind : (i : ℕ) (is : List ℕ) (e : Entry ℕ) (es : List (Entry ℕ)) → Rising (packets (e ∷ es)) → Picked (i ∷ is) (e ∷ es)
    → ((waits e ≡ true) × (i ≡ e.label) → ⊥) → Picked (i ∷ is) es
picked_behind i is e es r p apart =
    let behind : In i (waiting_of es) = ⊎_elim (λ w. absurd (apart w)) (λ t. t) (waiting_cases i e es (p.all_wait i (in_head i is))) in
    let past : e.label < i = rising_head e.label (packets es) r i (waiting_held i es behind) in
    record {
      in_order = p.in_order;
      all_wait = λ x h.
          let from : i ≤ x = rising_first i is p.in_order x h in
          ⊎_elim (λ w. absurd (omega (arith, past, from, w.1))) (λ t. t) (waiting_cases x e es (p.all_wait x h));
    }

module _ (L first lo : ℕ) where
  -- an entry waits and bears the packet, or not
  either : (e : Entry ℕ) (x : ℕ) → ((waits e ≡ true) × (x ≡ e.label)) ⊎ ((waits e ≡ true) × (x ≡ e.label) → ⊥)
  either e x = go (tested (waits e)) (tested (eqb x e.label))
    where
      go : (waits e ≡ true) ⊎ (waits e ≡ false) → (eqb x e.label ≡ true) ⊎ (eqb x e.label ≡ false)
          → ((waits e ≡ true) × (x ≡ e.label)) ⊎ ((waits e ≡ true) × (x ≡ e.label) → ⊥)
      go (inl w) (inl q) = inl (w, eqb-true x e.label q)
      go (inl w) (inr q) = inr (λ p. eqb-false x e.label q p.1)
      go (inr w) q = inr (λ p. contrary p.0 w)

  -- the first entry is the first packet
  hit : (e : Entry ℕ) (es : List (Entry ℕ)) (r : Range) (rs : List Range) (i : ℕ) (is : List ℕ) → InStep L first lo (e ∷ es) → (waits e ≡ true) × (i ≡ e.label)
      → number_of L first i ≡ r.start → mark_lost L es (after_number L r rs) ≡ some (passed is es) → mark_lost L (e ∷ es) (r ∷ rs) ≡ some (passed (i ∷ is) (e ∷ es))
  hit e es r rs i is s h n rest =
      let found : bears e r.start ≡ true = rw h.0 (eq-eqb e.number r.start (s.numbered.0 ∙ ap (number_of L first) (sym h.1) ∙ n)) in
      let gone : is_in i (packets es) ≡ false = rw h.1 (rising_once e.label (packets es) s.rising) in
      rw (found, rest) (rw (h.0, eq-eqb e.label i (sym h.1), marked_rest i is es gone)
      (ap (λ (c : ℕ). some (record { entries = as_lost e ∷ marked is es; count = c })) (add-one (length is))))

  -- the first entry is none of the packets
  miss : (e : Entry ℕ) (es : List (Entry ℕ)) (r : Range) (rs : List Range) (i : ℕ) (is : List ℕ) → InStep L first lo (e ∷ es) → ((waits e ≡ true) × (i ≡ e.label) → ⊥)
      → Picked (i ∷ is) es → number_of L first i ≡ r.start → mark_lost L es (r ∷ rs) ≡ some (passed (i ∷ is) es) → mark_lost L (e ∷ es) (r ∷ rs) ≡ some (passed (i ∷ is) (e ∷ es))
  miss e es r rs i is s apart p n rest =
      let other : bears e r.start ≡ false = not_found (tested (waits e)) in
      let unnamed : is_named (i ∷ is) e ≡ false = not_named (tested (waits e)) in
      rw (other, rest, unnamed)
    where
      not_found : (waits e ≡ true) ⊎ (waits e ≡ false) → bears e r.start ≡ false
      not_found (inr w) = rw w
      not_found (inl w) = rw w (ne_eqb e.number r.start (λ q.
          let here = s.near.0 w in
          let there = waiting_near L first lo i es (instep_rest L first lo e es s) (p.all_wait i (in_head i is)) in
          apart (w, same_packet (modulus_of L) first (positive L) i e.label (omega (arith, here.0, there.1)) (omega (arith, here.1, there.0)) (n ∙ sym q ∙ s.numbered.0))))

      not_named : (waits e ≡ true) ⊎ (waits e ≡ false) → is_named (i ∷ is) e ≡ false
      not_named (inr w) = rw w
      not_named (inl w) = rw w (not_in e.label (i ∷ is) (λ h.
          let k : e.label < e.label = rising_head e.label (packets es) s.rising e.label (waiting_held e.label es (p.all_wait e.label h)) in
          omega arith))

  -- what is left of ranges ends where they did
  ends_rest : (P : ℕ → Type 0) (r : Range) (rs : List Range) → Each (λ (t : Range). P t.end) (r ∷ rs) → Each (λ (t : Range). P t.end) (after_number L r rs)
  ends_rest P r rs a = go (eqb r.start r.end)
    where
      go : (b : Bool) → Each (λ (t : Range). P t.end) (if b then rs else (record { start = (r.start + 1) % modulus_of L; end = r.end } ∷ rs))
      go true = a.1
      go false = a

  -- ranges have a number, no packets have none
  some_number : (r : Range) (rs : List Range) → [] ≡ in_ranges L (r ∷ rs) → ⊥
  some_number r rs q = let z : ◌≡◌ {A = ℕ} 0 1 = cc in omega arith

  -- the pass finds packets whose numbers are the ranges', on the circle
  pub pass_finds : (es : List (Entry ℕ)) (rs : List Range) (is : List ℕ) → InStep L first lo es → Picked is es → Each (λ (r : Range). r.end < modulus_of L) rs
      → map (number_of L first) is ≡ in_ranges L rs → mark_lost L es rs ≡ some (passed is es)
  pass_finds [] [] [] s p a q = refl
  pass_finds [] rs (i ∷ is) s p a q = absurd (in_none (p.all_wait i (in_head i is)))
  pass_finds [] (r ∷ rs) [] s p a q = absurd (some_number r rs q)
  pass_finds (e ∷ es) [] [] s p a q = ap (λ (l : List (Entry ℕ)). some (record { entries = l; count = 0 })) (sym (marked_none (e ∷ es)))
  pass_finds (e ∷ es) [] (i ∷ is) s p a q = absurd (let z : ◌≡◌ {A = ℕ} 0 1 = cc in omega arith)
  pass_finds (e ∷ es) (r ∷ rs) [] s p a q = absurd (some_number r rs q)
  pass_finds (e ∷ es) (r ∷ rs) (i ∷ is) s p a q =
      let start : number_of L first i ≡ r.start = cc in
      let whole = first_number L r rs (rw (← start) (mod-lt (first + i) (positive L))) a.0 in
      let others : map (number_of L first) is ≡ in_ranges L (after_number L r rs) = let h = q ∙ whole in cc in
      let step = instep_rest L first lo e es s in
      ⊎_elim
      (λ h.
      let left = ends_rest (λ (n : ℕ). n < modulus_of L) r rs a in
      hit e es r rs i is s h start (pass_finds es (after_number L r rs) is step (picked_rest i is e es p h.1) left others))
      (λ h.
      let behind = picked_behind i is e es s.rising p h in
      miss e es r rs i is s h behind start (pass_finds es (r ∷ rs) (i ∷ is) step behind a q))
      (either e i)

-- ---- ranges that name runs of packets

-- runs of waiting packets, in sending order and each once
pub record Names (gs : List Gap) (es : List (Entry ℕ)) : Type 0 where
  pub proper : Each (λ (g : Gap). g.from < g.to) gs
  pub in_order : Rising (packets_of gs)
  pub all_wait : (x : ℕ) → In x (packets_of gs) → In x (waiting_of es)

module _ (L first lo : ℕ) where
  -- the first packet of a run and the last lie less than a turn apart
  runs_short : (gs : List Gap) (es : List (Entry ℕ)) → InStep L first lo es → Each (λ (g : Gap). g.from < g.to) gs → ((x : ℕ) → In x (packets_of gs) → In x (waiting_of es))
      → Each (Short L) gs
  runs_short [] es s o w = tt
  runs_short (g ∷ gs) es s o w =
      let a : (lo ≤ g.from) × (g.from < lo + modulus_of L) = waiting_near L first lo g.from es s (w g.from (run_in g gs g.from (omega arith) o.0)) in
      let b : (lo ≤ g.to - 1) × (g.to - 1 < lo + modulus_of L) = waiting_near L first lo (g.to - 1) es s (w (g.to - 1) (run_in g gs (g.to - 1) (omega (arith, o.0)) (omega (arith, o.0)))) in
      ((o.0, omega (arith, a.0, b.1, o.0)), runs_short gs es s o.1 (λ x h. w x (in_right x (packets_from g.from (g.to - g.from)) (packets_of gs) h)))

  -- the pass finds their packets
  pub mark_finds : (es : List (Entry ℕ)) (gs : List Gap) → InStep L first lo es → Names gs es → mark_lost L es (map (run_at L first) gs) ≡ some (passed (packets_of gs) es)
  mark_finds es gs s n =
      pass_finds L first lo es (map (run_at L first) gs) (packets_of gs) s (record { in_order = n.in_order; all_wait = n.all_wait })
      (each_map (λ (r : Range). r.end < modulus_of L) (run_at L first) gs (each_so gs (λ g h. mod-lt (first + (g.to - 1)) (positive L)) n.proper))
      (sym (runs_expand L first gs (runs_short gs es s n.proper n.all_wait)))
