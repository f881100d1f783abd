-- What the master's two passes leave, by packets: the named waiting packets are lost, then every waiting packet through the highest's is
-- freed; nothing else changes.
-- Assumes nothing.
use Rattle.std.specs.Prelude.{if◌then◌else◌}
use mathlib.Core.Path.{◌≡◌, refl, sym, ◌∙◌}
use mathlib.Core.Bool.{Bool, true, false}
use mathlib.Core.List.{List, [], ◌∷◌}
use mathlib.Core.Logic.{◌⊎◌, inl, inr, ⊎_elim}
use Prim.Native.Nat.{ℕ, ◌≤◌, ◌<◌}
use native.Mathlib.Omega.{arith}
use borrow.Author.Tests.{eq-eqb, eqb-true, eqb-false, le-leb, lt-leb, leb-true, leb-false}
use lib.Dec.{eqb, leb}
use Rattle.basics.specs.Basics.{◌and◌}
use Rattle.basics.proofs.Choices.{tested, contrary, or_left, or_right}
use Rattle.bearer.specs.Ledger.{Entry, waits, as_lost, waits_for, free_through}
use Rattle.bearer.specs.Rule.{is_in}
use Rattle.bearer.specs.Packets.{packets, Rising, In, Each}
use Rattle.bearer.specs.World.{without}
use Rattle.bearer.specs.LedgerMeaning.{waiting_in}
use Rattle.bearer.proofs.Lists.Elements.{in_head, in_tail, in_cons, rising_tail, rising_head, rising_cons, in_none, not_in, in_first}
use Rattle.bearer.proofs.Master.Marks.{is_named, marked, waiting_of, waiting_cases, waiting_held}

-- an entry waits, and its packet isn't past g
abbrev pub goes : ℕ → Entry ℕ → Bool
goes g e = waits e and leb e.label g

-- the entries without those
abbrev pub left_over : ℕ → List (Entry ℕ) → List (Entry ℕ)
left_over g [] = []
left_over g (e ∷ es) = if goes g e then left_over g es else (e ∷ left_over g es)

-- of the waiting entries the one of packet g, and no other, bears the PDCP number h
abbrev pub Bears : ℕ → ℕ → Entry ℕ → Type 0
Bears h g e = waits e ≡ true → (e.pdcp ≡ h → e.label ≡ g) × (e.label ≡ g → e.pdcp ≡ h)

-- ---- freeing

-- packets past g all stay
left_all : (g : ℕ) (es : List (Entry ℕ)) → ((x : ℕ) → In x (packets es) → g < x) → left_over g es ≡ es
left_all g [] h = refl
left_all g (e ∷ es) h =
    let past : goes g e ≡ false = stays (tested (waits e)) in
    rw (past, left_all g es (λ x p. h x (in_tail x e.label (packets es) p)))
  where
    stays : (waits e ≡ true) ⊎ (waits e ≡ false) → goes g e ≡ false
    stays (inl w) = rw w (lt-leb e.label g (h e.label (in_head e.label (packets es))))
    stays (inr w) = rw w

-- the pass frees every waiting entry through packet g
pub frees : (h g : ℕ) (es : List (Entry ℕ)) → Rising (packets es) → In g (waiting_of es) → Each (Bears h g) es → (free_through h es).entries ≡ left_over g es
frees h g [] r p b = absurd (in_none p)
frees h g (e ∷ es) r p b = go (tested (waits e)) (tested (eqb e.pdcp h)) (λ q. frees h g es (rising_tail e.label (packets es) r) q b.1)
  where
    go : (waits e ≡ true) ⊎ (waits e ≡ false) → (eqb e.pdcp h ≡ true) ⊎ (eqb e.pdcp h ≡ false)
        → (In g (waiting_of es) → (free_through h es).entries ≡ left_over g es) → (free_through h (e ∷ es)).entries ≡ left_over g (e ∷ es)
    go (inr w) t rest =
        let behind : In g (waiting_of es) = ⊎_elim (λ q. absurd (contrary q.0 w)) (λ q. q) (waiting_cases g e es p) in
        rw (w, rest behind)
    go (inl w) (inl t) rest =
        let here : e.label ≡ g = (b.0 w).0 (eqb-true e.pdcp h t) in
        rw (w, t, le-leb e.label g (omega (arith, here))) (sym (left_all g es (λ x q. let k = rising_head e.label (packets es) r x q in omega (arith, here))))
    go (inl w) (inr t) rest =
        let behind : In g (waiting_of es) = ⊎_elim (λ q. absurd (eqb-false e.pdcp h t ((b.0 w).1 (sym q.1)))) (λ q. q) (waiting_cases g e es p) in
        let k = rising_head e.label (packets es) r g (waiting_held g es behind) in
        rw (w, t, le-leb e.label g (omega arith), rest behind)

-- and there is such an entry
pub some_bears : (h g : ℕ) (es : List (Entry ℕ)) → In g (waiting_of es) → Each (Bears h g) es → waits_for h es ≡ true
some_bears h g [] p b = absurd (in_none p)
some_bears h g (e ∷ es) p b =
    ⊎_elim
    (λ q. or_left (waits e and eqb e.pdcp h) (waits_for h es) (rw q.0 (eq-eqb e.pdcp h ((b.0 q.0).1 (sym q.1)))))
    (λ q. or_right (waits e and eqb e.pdcp h) (waits_for h es) (some_bears h g es q b.1))
    (waiting_cases g e es p)

-- ---- what is left

-- what held of every entry holds of every one left
pub each_left : (P : Entry ℕ → Type 0) (g : ℕ) (es : List (Entry ℕ)) → Each P es → Each P (left_over g es)
each_left P g [] a = tt
each_left P g (e ∷ es) a = go (goes g e) (each_left P g es a.1)
  where
    go : (b : Bool) → Each P (left_over g es) → Each P (if b then left_over g es else (e ∷ left_over g es))
    go true r = r
    go false r = (a.0, r)

-- what is left was there
pub left_there : (x g : ℕ) (es : List (Entry ℕ)) → In x (packets (left_over g es)) → In x (packets es)
left_there x g [] p = p
left_there x g (e ∷ es) p = go (goes g e) p (left_there x g es)
  where
    go : (b : Bool) → In x (packets (if b then left_over g es else (e ∷ left_over g es))) → (In x (packets (left_over g es)) → In x (packets es)) → In x (packets (e ∷ es))
    go true p f = in_tail x e.label (packets es) (f p)
    go false p f = ⊎_elim (λ q. rw (eq-eqb x e.label q)) (λ q. in_tail x e.label (packets es) (f q)) (in_cons x e.label (packets (left_over g es)) p)

-- what is left is in sending order
pub left_rising : (g : ℕ) (es : List (Entry ℕ)) → Rising (packets es) → Rising (packets (left_over g es))
left_rising g [] r = tt
left_rising g (e ∷ es) r = go (goes g e) (left_rising g es (rising_tail e.label (packets es) r))
  where
    go : (b : Bool) → Rising (packets (left_over g es)) → Rising (packets (if b then left_over g es else (e ∷ left_over g es)))
    go true s = s
    go false s = rising_cons e.label (packets (left_over g es)) (λ y q. rising_head e.label (packets es) r y (left_there y g es q)) s

-- ---- who waits, and who left

-- of a first entry and the rest
pub waiting_first : (e : Entry ℕ) (es : List (Entry ℕ)) → waits e ≡ true → In e.label (waiting_of (e ∷ es))
waiting_first e es w = rw w (in_head e.label (waiting_of es))

pub waiting_rest : (x : ℕ) (e : Entry ℕ) (es : List (Entry ℕ)) → In x (waiting_of es) → In x (waiting_of (e ∷ es))
waiting_rest x e es h = go (waits e)
  where
    go : (b : Bool) → In x (packets (if b then e ∷ waiting_in es else waiting_in es))
    go true = in_tail x e.label (waiting_of es) h
    go false = h

-- what waits is in sending order
pub waiting_rising : (es : List (Entry ℕ)) → Rising (packets es) → Rising (waiting_of es)
waiting_rising [] r = tt
waiting_rising (e ∷ es) r = go (waits e) (waiting_rising es (rising_tail e.label (packets es) r))
  where
    go : (b : Bool) → Rising (waiting_of es) → Rising (packets (if b then e ∷ waiting_in es else waiting_in es))
    go true s = rising_cons e.label (waiting_of es) (λ y h. rising_head e.label (packets es) r y (waiting_held y es h)) s
    go false s = s

-- a fact of every entry, by packets that wait
pub each_waiting : (P : Entry ℕ → Type 0) (es : List (Entry ℕ)) → ((e : Entry ℕ) → waits e ≡ true → In e.label (waiting_of es) → P e) → Each (λ (e : Entry ℕ). waits e ≡ true → P e) es
each_waiting P [] f = tt
each_waiting P (e ∷ es) f = ((λ w. f e w (waiting_first e es w)), each_waiting P es (λ d w p. f d w (waiting_rest d.label e es p)))

-- after the marking wait those who waited and were not named
pub marked_waits : (x : ℕ) (xs : List ℕ) (es : List (Entry ℕ)) → In x (waiting_of (marked xs es)) → In x (waiting_of es) × (is_in x xs ≡ false)
marked_waits x xs [] p = absurd (in_none p)
marked_waits x xs (e ∷ es) p = go (tested (waits e)) (tested (is_in e.label xs)) (λ q. let r = marked_waits x xs es q in (waiting_rest x e es r.0, r.1))
  where
    go : (waits e ≡ true) ⊎ (waits e ≡ false) → (is_in e.label xs ≡ true) ⊎ (is_in e.label xs ≡ false)
        → (In x (waiting_of (marked xs es)) → In x (waiting_of (e ∷ es)) × (is_in x xs ≡ false)) → In x (waiting_of (e ∷ es)) × (is_in x xs ≡ false)
    go (inl w) (inl n) rest = rest (rw (w, n) at p)
    go (inl w) (inr n) rest =
        ⊎_elim (λ q. (rw q.1 (waiting_first e es w), rw q.1 n)) rest (waiting_cases x e (marked xs es) (rw (w, n) at p))
    go (inr w) n rest = rest (rw w at (rw w at p))

pub marked_keeps : (x : ℕ) (xs : List ℕ) (es : List (Entry ℕ)) → In x (waiting_of es) → is_in x xs ≡ false → In x (waiting_of (marked xs es))
marked_keeps x xs [] p n = absurd (in_none p)
marked_keeps x xs (e ∷ es) p n =
    ⊎_elim
    (λ q.
    let out : is_in e.label xs ≡ false = rw (← q.1) n in
    rw (q.0, out) (rw q.0 (rw (eq-eqb x e.label q.1))))
    (λ q. waiting_rest x (if is_named xs e then as_lost e else e) (marked xs es) (marked_keeps x xs es q n))
    (waiting_cases x e es p)

-- after the freeing wait those who waited and are past g
pub left_waits : (x g : ℕ) (es : List (Entry ℕ)) → In x (waiting_of (left_over g es)) → In x (waiting_of es) × (g < x)
left_waits x g [] p = absurd (in_none p)
left_waits x g (e ∷ es) p = go (tested (waits e)) (tested (leb e.label g)) (λ q. let r = left_waits x g es q in (waiting_rest x e es r.0, r.1))
  where
    go : (waits e ≡ true) ⊎ (waits e ≡ false) → (leb e.label g ≡ true) ⊎ (leb e.label g ≡ false)
        → (In x (waiting_of (left_over g es)) → In x (waiting_of (e ∷ es)) × (g < x)) → In x (waiting_of (e ∷ es)) × (g < x)
    go (inl w) (inl n) rest = rest (rw (w, n) at p)
    go (inl w) (inr n) rest =
        ⊎_elim (λ q. (rw q.1 (waiting_first e es w), rw q.1 (leb-false e.label g n))) rest (waiting_cases x e (left_over g es) (rw (w, n) at p))
    go (inr w) n rest = rest (rw w at (rw w at p))

pub left_keeps : (x g : ℕ) (es : List (Entry ℕ)) → In x (waiting_of es) → g < x → In x (waiting_of (left_over g es))
left_keeps x g [] p h = absurd (in_none p)
left_keeps x g (e ∷ es) p h = go (tested (goes g e)) (λ q. left_keeps x g es q h)
  where
    go : (goes g e ≡ true) ⊎ (goes g e ≡ false) → (In x (waiting_of es) → In x (waiting_of (left_over g es))) → In x (waiting_of (left_over g (e ∷ es)))
    go (inl t) rest =
        rw t (⊎_elim (λ q. absurd (contrary t (rw q.0 (lt-leb e.label g (omega (arith, h, q.1)))))) rest (waiting_cases x e es p))
    go (inr t) rest =
        rw t (⊎_elim (λ q. rw q.1 (waiting_first e (left_over g es) q.0)) (λ q. waiting_rest x e (left_over g es) (rest q)) (waiting_cases x e es p))

-- who left had waited, and wasn't past g
pub left_out_lem : (x g : ℕ) (es : List (Entry ℕ)) → In x (packets es) → is_in x (packets (left_over g es)) ≡ false → In x (waiting_of es) × (x ≤ g)
left_out_lem x g [] p n = absurd (in_none p)
left_out_lem x g (e ∷ es) p n = go (tested (waits e)) (tested (leb e.label g)) (λ q m. let r = left_out_lem x g es q m in (waiting_rest x e es r.0, r.1))
  where
    stays : (b : Bool) → goes g e ≡ b → b ≡ false → (In x (packets es) → is_in x (packets (left_over g es)) ≡ false → In x (waiting_of (e ∷ es)) × (x ≤ g)) → In x (waiting_of (e ∷ es)) × (x ≤ g)
    stays b s f rest =
        let m : is_in x (e.label ∷ packets (left_over g es)) ≡ false = rw (s ∙ f) at n in
        ⊎_elim (λ q. absurd (contrary (or_left (eqb x e.label) (is_in x (packets (left_over g es))) (eq-eqb x e.label q)) m))
        (λ q. rest q (not_in x (packets (left_over g es)) (λ r. contrary (in_tail x e.label (packets (left_over g es)) r) m)))
        (in_cons x e.label (packets es) p)

    go : (waits e ≡ true) ⊎ (waits e ≡ false) → (leb e.label g ≡ true) ⊎ (leb e.label g ≡ false)
        → (In x (packets es) → is_in x (packets (left_over g es)) ≡ false → In x (waiting_of (e ∷ es)) × (x ≤ g)) → In x (waiting_of (e ∷ es)) × (x ≤ g)
    go (inl w) (inl t) rest =
        ⊎_elim (λ q. (rw q (waiting_first e es w), rw q (leb-true e.label g t))) (λ q. rest q (rw (w, t) at n)) (in_cons x e.label (packets es) p)
    go (inl w) (inr t) rest = stays false (rw w t) refl rest
    go (inr w) t rest = stays false (rw w) refl rest

pub goes_out : (x g : ℕ) (es : List (Entry ℕ)) → Rising (packets es) → In x (waiting_of es) → x ≤ g → is_in x (packets (left_over g es)) ≡ false
goes_out x g [] r p h = refl
goes_out x g (e ∷ es) r p h = not_in x (packets (left_over g (e ∷ es))) (λ q. go (waiting_cases x e es p) q (λ s. goes_out x g es (rising_tail e.label (packets es) r) s h))
  where
    go : ((waits e ≡ true) × (x ≡ e.label)) ⊎ In x (waiting_of es) → In x (packets (left_over g (e ∷ es))) → (In x (waiting_of es) → is_in x (packets (left_over g es)) ≡ false) → ⊥
    go (inl w) q rest =
        let there : In x (packets (left_over g es)) = rw (w.0, le-leb e.label g (omega (arith, h, w.1))) at q in
        let k = rising_head e.label (packets es) r x (left_there x g es there) in
        omega (arith, w.1)
    go (inr s) q rest =
        let k = rising_head e.label (packets es) r x (waiting_held x es s) in
        let out = rest s in
        part (goes g e) q k out
      where
        part : (b : Bool) → In x (packets (if b then left_over g es else (e ∷ left_over g es))) → e.label < x → is_in x (packets (left_over g es)) ≡ false → ⊥
        part true q k out = contrary q out
        part false q k out = ⊎_elim (λ t. omega (arith, k, t)) (λ t. contrary t out) (in_cons x e.label (packets (left_over g es)) q)

-- packets of one list that another lacks
pub in_without : (x : ℕ) (a b : List ℕ) → In x (without a b) → In x a × (is_in x b ≡ false)
in_without x [] b p = absurd (in_none p)
in_without x (y ∷ a) b p = go (tested (is_in y b)) (λ q. let r = in_without x a b q in (in_tail x y a r.0, r.1))
  where
    go : (is_in y b ≡ true) ⊎ (is_in y b ≡ false) → (In x (without a b) → In x (y ∷ a) × (is_in x b ≡ false)) → In x (y ∷ a) × (is_in x b ≡ false)
    go (inl t) rest = rest (rw t at p)
    go (inr t) rest = ⊎_elim (λ q. (in_first x y a q, rw q t)) rest (in_cons x y (without a b) (rw t at p))

pub without_in : (x : ℕ) (a b : List ℕ) → In x a → is_in x b ≡ false → In x (without a b)
without_in x [] b p n = p
without_in x (y ∷ a) b p n = go (tested (is_in y b)) (in_cons x y a p) (λ q. without_in x a b q n)
  where
    go : (is_in y b ≡ true) ⊎ (is_in y b ≡ false) → (x ≡ y) ⊎ In x a → (In x a → In x (without a b)) → In x (without (y ∷ a) b)
    go (inl t) (inl q) rest = absurd (contrary t (rw (← q) n))
    go (inl t) (inr q) rest = rw t (rest q)
    go (inr t) (inl q) rest = rw t (rw (eq-eqb x y q))
    go (inr t) (inr q) rest = rw t (in_tail x y (without a b) (rest q))
