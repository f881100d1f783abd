-- Rule 35 keeps PDCP numbers in order: seen from any packet that waits, those sent after it lie ever farther forward, all within half the
-- PDCP numbers; and none that waits has the PDCP number last accepted. Once over the count P of PDCP numbers.
-- Assumes nothing.
use mathlib.Core.Path.{◌≡◌, sym, ◌∙◌, ap}
use mathlib.Core.List.{List, [], ◌∷◌, ◌++◌}
use mathlib.Core.Logic.{⊎_elim}
use Prim.Native.Nat.{ℕ, zero, suc, ◌+◌, ◌-◌, ◌/◌, ◌≤◌, ◌<◌}
use native.Mathlib.Omega.{arith}
use lib.ListN.{length, get_or, length-append, get_or-append}
use lib.Seq.{get_or-append_seam}
use Rattle.basics.proofs.Choices.{order}
use Rattle.circle.specs.Circle.{forward, forward_self, forward_rest}
use Rattle.bearer.specs.Packets.{In}
use Rattle.bearer.proofs.Lists.Elements.{in_last}

-- the PDCP number of a packet
abbrev pub pdcp_of : List ℕ → ℕ → ℕ
pdcp_of sent i = get_or sent i 0

-- forward from a packet's PDCP number to another's
abbrev pub between : ℕ → List ℕ → ℕ → ℕ → ℕ
between P sent o i = forward P (pdcp_of sent o) (pdcp_of sent i)

-- what rule 35 asks of a PDCP number, seen from a packet
abbrev pub Follows : ℕ → ℕ → List ℕ → ℕ → ℕ → Type 0
Follows P last sent p x = (forward P (pdcp_of sent x) last < forward P (pdcp_of sent x) p) × (forward P (pdcp_of sent x) p < P / 2)

-- H is the highest last accepted, last the PDCP number last sent, and ws are the packets that wait
pub record Ordered (P H last : ℕ) (ws sent : List ℕ) : Type 0 where
  pub below : (i : ℕ) → i < length sent → pdcp_of sent i < P
  pub up : (o i j : ℕ) → In o ws → o ≤ i → i < j → j < length sent → between P sent o i < between P sent o j
  pub near : (o i : ℕ) → In o ws → o ≤ i → i < length sent → between P sent o i < P / 2
  pub not_highest : (o : ℕ) → In o ws → pdcp_of sent o ≡ H → ⊥
  pub last_is : 0 < length sent → last ≡ pdcp_of sent (length sent - 1)

module _ {P H last : ℕ} {ws sent : List ℕ} (o : Ordered P H last ws sent) where
  -- PDCP numbers go ahead at least as fast as packets
  pub faster : (x d : ℕ) → In x ws → x + d < length sent → d ≤ between P sent x (x + d)
  faster x zero w h = omega arith
  faster x (suc d) w h =
      let before = faster x d w (omega arith) in
      let step = o.up x (x + d) (x + suc d) w (omega arith) (omega arith) h in
      omega arith

  -- so at most half the PDCP numbers were sent from a waiting packet on
  pub few : (x : ℕ) → In x ws → length sent ≤ x + P / 2
  few x w =
      ⊎_elim
      (λ (h : x < length sent).
      let d = length sent - 1 - x in
      let far = faster x d w (omega arith) in
      let near = o.near x (x + d) w (omega arith) (omega arith) in
      omega arith)
      (λ (h : length sent ≤ x). omega arith)
      (order x (length sent))

  -- a packet sent behind a waiting one has another PDCP number
  apart : (x y : ℕ) → In x ws → x < y → y < length sent → pdcp_of sent y ≡ pdcp_of sent x → ⊥
  apart x y w h k e =
      let far = o.up x x y w (omega arith) h k in
      let same : between P sent x y ≡ between P sent x x = ap (forward P (pdcp_of sent x)) e in
      omega arith

  -- two waiting packets with one PDCP number are one packet
  pub one_pdcp : (x y : ℕ) → In x ws → In y ws → x < length sent → y < length sent → pdcp_of sent x ≡ pdcp_of sent y → x ≡ y
  one_pdcp x y wx wy hx hy e =
      ⊎_elim (λ (h : x < y). absurd (apart x y wx h hy (sym e)))
      (λ (h : y ≤ x). ⊎_elim (λ (g : y < x). absurd (apart y x wy g hx e)) (λ (g : x ≤ y). omega arith) (order y x))
      (order x y)

  -- fewer wait
  pub fewer : {ws' : List ℕ} → ((x : ℕ) → In x ws' → In x ws) → Ordered P H last ws' sent
  fewer f = record {
    below = o.below;
    up = λ x i j w. o.up x i j (f x w);
    near = λ x i w. o.near x i (f x w);
    not_highest = λ x w. o.not_highest x (f x w);
    last_is = o.last_is;
  }

  -- the highest moves to a packet that waited, and only some of those sent behind it wait on
  pub moves : {ws' : List ℕ} (g : ℕ) → In g ws → ((x : ℕ) → In x ws' → In x ws × (g < x) × (x < length sent)) → Ordered P (pdcp_of sent g) last ws' sent
  moves {ws'} g w f =
      let left : Ordered P H last ws' sent = fewer (λ x v. (f x v).0) in
      record {
        below = o.below;
        up = left.up;
        near = left.near;
        not_highest = λ x v. apart g x w (f x v).1 (f x v).2;
        last_is = o.last_is;
      }

  -- seen from a waiting packet, none sent since lies past the last sent
  to_last : (x i : ℕ) → In x ws → x ≤ i → i < length sent → between P sent x i ≤ forward P (pdcp_of sent x) last
  to_last x i w h k =
      let end : forward P (pdcp_of sent x) last ≡ between P sent x (length sent - 1) = ap (forward P (pdcp_of sent x)) (o.last_is (omega arith)) in
      ⊎_elim
      (λ (l : i < length sent - 1). let u = o.up x i (length sent - 1) w h l (omega arith) in omega arith)
      (λ (l : length sent - 1 ≤ i). let same : between P sent x i ≡ between P sent x (length sent - 1) = ap (between P sent x) (let e : i ≡ length sent - 1 = omega arith in e) in omega arith)
      (order i (length sent - 1))

  -- what holds of it seen from a waiting packet holds seen from every later one that waits
  pub follows_each : 0 < P → (p q x : ℕ) → p < P → In q ws → q ≤ x → x < length sent → Follows P last sent p q → Follows P last sent p x
  follows_each pos p q x hp wq h k r =
      let here = to_last q x wq h k in
      let end : last < P = rw (o.last_is (omega arith)) (o.below (length sent - 1) (omega arith)) in
      let a = forward_rest P pos (pdcp_of sent q) (pdcp_of sent x) last (o.below x k) end here in
      let b = forward_rest P pos (pdcp_of sent q) (pdcp_of sent x) p (o.below x k) hp (let s = r.0 in omega arith) in
      let s = r.0 in
      let t = r.1 in
      (omega arith, omega arith)

  -- a packet is sent by rule 35
  pub sends : 0 < P / 2 → ((x : ℕ) → In x ws → x < length sent) → (p : ℕ) → p < P → (p ≡ H → ⊥) → ((x : ℕ) → In x ws → Follows P last sent p x)
      → Ordered P H p (ws ++ (length sent ∷ [])) (sent ++ (p ∷ []))
  sends pos were p hp other follows =
      let n = length sent in
      let sent' = sent ++ (p ∷ []) in
      let more : length sent' ≡ suc n = length-append sent (p ∷ []) ∙ (let e : n + 1 ≡ suc n = omega arith in e) in
      let old : (i : ℕ) → i < n → pdcp_of sent' i ≡ pdcp_of sent i = λ i h. get_or-append sent (p ∷ []) 0 i h in
      let new : (i : ℕ) → n ≤ i → i < length sent' → pdcp_of sent' i ≡ p = λ i h k. ap (pdcp_of sent') (let e : i ≡ n = omega (arith, more, k) in e) ∙ get_or-append_seam sent p [] 0 in
      let to-old : (x i : ℕ) → x < n → i < n → between P sent' x i ≡ between P sent x i = λ x i h k. ap (λ (a : ℕ). forward P a (pdcp_of sent' i)) (old x h) ∙ ap (forward P (pdcp_of sent x)) (old i k) in
      let to-new : (x i : ℕ) → x < n → n ≤ i → i < length sent' → between P sent' x i ≡ forward P (pdcp_of sent x) p = λ x i h k l. ap (λ (a : ℕ). forward P a (pdcp_of sent' i)) (old x h) ∙ ap (forward P (pdcp_of sent x)) (new i k l) in
      record {
        below = λ i h. ⊎_elim (λ (k : i < n). rw (old i k) (o.below i k)) (λ (k : n ≤ i). rw (new i k h) hp) (order i n);
        up = λ x i j w a b c.
            ⊎_elim
            (λ v.
            let hx = were x v in
            let from = to-old x i hx (omega (arith, more, b, c)) in
            ⊎_elim
            (λ (k : j < n). let u = o.up x i j v a b k in let to = to-old x j hx k in omega arith)
            (λ (k : n ≤ j).
            let end = to_last x i v a (omega (arith, more, b, c)) in
            let past = (follows x v).0 in
            let to = to-new x j hx k c in
            omega arith)
            (order j n))
            (λ v. absurd (omega (arith, more, a, b, c, v)))
            (in_last x ws n w);
        near = λ x i w a b.
            ⊎_elim
            (λ v.
            let hx = were x v in
            ⊎_elim
            (λ (k : i < n). let u = o.near x i v a k in let to = to-old x i hx k in omega arith)
            (λ (k : n ≤ i). let u = (follows x v).1 in let to = to-new x i hx k b in omega arith)
            (order i n))
            (λ v.
            let from : pdcp_of sent' x ≡ p = new x (omega arith) (omega (arith, a, b)) in
            let none : between P sent' x i ≡ 0 = ap (λ (q : ℕ). forward P q (pdcp_of sent' i)) from ∙ ap (forward P p) (new i (omega arith) b) ∙ forward_self P (omega arith) p in
            omega arith)
            (in_last x ws n w);
        not_highest = λ x w e.
            ⊎_elim (λ v. o.not_highest x v (sym (old x (were x v)) ∙ e)) (λ v. other (sym (new x (omega arith) (omega (arith, more, v))) ∙ e)) (in_last x ws n w);
        last_is = λ h. sym (new (length sent' - 1) (omega (arith, more)) (omega arith));
      }
