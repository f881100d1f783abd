-- Numbers on a circle of M: how far it is forward from one to another, and the laws of it, once over M. Document 01:
-- "Forward from a to b" means (b - a) modulo M, or modulo 2^L for PDCP numbers.
-- Assumes nothing.
use Rattle.std.specs.Prelude.{◌≡◌, ℕ, zero, suc, ◌+◌, ◌-◌, ◌%◌, ◌<◌, ◌≤◌, ◌≢◌, refl}
use Rattle.std.proofs.Common.{sym, ◌∙◌, ap, arith}
use native.Mathlib.Nat.{mod-eq_of_lt, mod-lt, mod-mod, add-mod-mod, mod-add-mod, add-mod_right, add_assoc, add_comm}

-- forward from a to b: (b - a) modulo M, worked without going below zero
abbrev pub forward : ℕ → ℕ → ℕ → ℕ
forward M a b = (b % M + (M - a % M)) % M

module _ (M : ℕ) (pos : 0 < M) where
  -- a distance is below M
  pub forward_below : (a b : ℕ) → forward M a b < M
  forward_below a b = mod-lt (b % M + (M - a % M)) pos

  -- a distance doesn't see whole turns of the number that it starts from
  pub forward_from_lem : (a b : ℕ) → forward M (a % M) b ≡ forward M a b
  forward_from_lem a b = rw (mod-mod a M)

  -- nor of the one that it goes to
  pub forward_to : (a b : ℕ) → forward M a (b % M) ≡ forward M a b
  forward_to a b = rw (mod-mod b M)

  -- d steps on from a is at distance d, whole turns left out
  pub forward_on : (a d : ℕ) → forward M a (a + d) ≡ d % M
  forward_on a d =
      let r = a % M in
      let below : r < M = mod-lt a pos in
      mod-add-mod (a + d) M (M - r)
      ∙ ap (λ (x : ℕ). x % M) (add_assoc a d (M - r) ∙ ap (λ (x : ℕ). a + x) (add_comm d (M - r)) ∙ sym (add_assoc a (M - r) d))
      ∙ sym (mod-add-mod (a + (M - r)) M d)
      ∙ ap (λ (x : ℕ). (x + d) % M) (sym (mod-add-mod a M (M - r)) ∙ ap (λ (x : ℕ). x % M) (let e : r + (M - r) ≡ M = omega arith in e) ∙ mod_self)
      ∙ ap (λ (x : ℕ). x % M) (let e : 0 + d ≡ d = omega arith in e)
    where
      mod_self : M % M ≡ 0
      mod_self = native.Mathlib.Nat.mod_self M

  -- forward over less than a turn
  pub forward_short : (a d : ℕ) → d < M → forward M a (a + d) ≡ d
  forward_short a d h = forward_on a d ∙ mod-eq_of_lt h

  -- forward from a number to one that lies d behind it: the rest of the turn
  pub back_on : (a d : ℕ) → d ≤ M → forward M (a + d) a ≡ (M - d) % M
  back_on a d h =
      let e : a + d + (M - d) ≡ a + M = omega arith in
      sym (forward_to (a + d) a)
      ∙ ap (λ (x : ℕ). forward M (a + d) x) (sym (add-mod_right a M) ∙ ap (λ (x : ℕ). x % M) (sym e))
      ∙ forward_to (a + d) (a + d + (M - d))
      ∙ forward_on (a + d) (M - d)

  -- ... which is less than a turn where d is some way
  pub forward_back : (a d : ℕ) → 0 < d → d < M → forward M (a + d) a ≡ M - d
  forward_back a d h g = back_on a d (omega arith) ∙ mod-eq_of_lt (omega arith)

  -- a, and its distance to b: b again, whole turns left out
  pub lands_on : (a b : ℕ) → (a + forward M a b) % M ≡ b % M
  lands_on a b =
      let r = a % M in
      let below : r < M = mod-lt a pos in
      add-mod-mod a (b % M + (M - r)) M
      ∙ sym (mod-add-mod a M (b % M + (M - r)))
      ∙ ap (λ (x : ℕ). x % M) (let e : r + (b % M + (M - r)) ≡ b % M + M = omega arith in e)
      ∙ add-mod_right (b % M) M
      ∙ mod-mod b M

  -- ... which is b, if that is a number of the circle
  pub forward_lands : (a b : ℕ) → b < M → (a + forward M a b) % M ≡ b
  forward_lands a b h = lands_on a b ∙ mod-eq_of_lt h

  -- the way back is the rest of the turn
  pub forward_reverse : (a b : ℕ) → forward M b a ≡ (M - forward M a b) % M
  forward_reverse a b =
      let far = forward_below a b in
      sym (forward_from_lem b a)
      ∙ ap (λ (n : ℕ). forward M n a) (sym (lands_on a b))
      ∙ forward_from_lem (a + forward M a b) a
      ∙ back_on a (forward M a b) (omega arith)

  -- both moved by d, with whole turns left out, are as far apart as before
  pub forward_moved : (a b d : ℕ) → forward M ((a + d) % M) ((b + d) % M) ≡ forward M a b
  forward_moved a b d =
      let f = forward M a b in
      let there : (b + d) % M ≡ (a + d + f) % M = sym (mod-add-mod b M d) ∙ ap (λ (n : ℕ). (n + d) % M) (sym (lands_on a b)) ∙ mod-add-mod (a + f) M d ∙ ap (λ (n : ℕ). n % M) (let e : a + f + d ≡ a + d + f = omega arith in e) in
      forward_from_lem (a + d) ((b + d) % M)
      ∙ ap (forward M (a + d)) there
      ∙ forward_to (a + d) (a + d + f)
      ∙ forward_short (a + d) f (forward_below a b)

  -- no distance from a number to itself
  pub forward_self : (a : ℕ) → forward M a a ≡ 0
  forward_self a = ap (forward M a) (let e : a ≡ a + 0 = omega arith in e) ∙ forward_short a 0 pos

  -- and a number at no distance is the same
  pub forward_none : (a b : ℕ) → a < M → b < M → forward M a b ≡ 0 → a ≡ b
  forward_none a b ha hb e =
      sym (mod-eq_of_lt ha)
      ∙ ap (λ (n : ℕ). n % M) (let z : a ≡ a + 0 = omega arith in z)
      ∙ ap (λ (d : ℕ). (a + d) % M) (sym e)
      ∙ forward_lands a b hb

  -- forward from a to c is forward from a to b and then from b to c, where b isn't past c
  pub forward_rest : (a b c : ℕ) → b < M → c < M → forward M a b ≤ forward M a c → forward M b c ≡ forward M a c - forward M a b
  forward_rest a b c hb hc h =
      let x = forward M a b in
      let y = forward M a c in
      let far : y < M = forward_below a c in
      sym (ap (λ (n : ℕ). forward M n c) (forward_lands a b hb))
      ∙ sym (ap (forward M ((a + x) % M)) (forward_lands a c hc))
      ∙ forward_from_lem (a + x) ((a + y) % M)
      ∙ forward_to (a + x) (a + y)
      ∙ ap (forward M (a + x)) (let e : a + y ≡ a + x + (y - x) = omega arith in e)
      ∙ forward_short (a + x) (y - x) (omega arith)

  -- a number's successor is one nearer to any other number
  pub one_nearer : (a b : ℕ) → a < M → b < M → (a ≢ b) → forward M a b ≡ suc (forward M ((a + 1) % M) b)
  one_nearer a b ha hb apart =
      let next : forward M a ((a + 1) % M) ≡ 1 = forward_to a (a + 1) ∙ forward_short a 1 (omega arith) in
      let some_way : 0 < forward M a b = by (forward M a b) refl in
      let rest = forward_rest a ((a + 1) % M) b (mod-lt (a + 1) pos) hb (omega arith) in
      omega arith
    where
      by : (d : ℕ) → forward M a b ≡ d → 0 < forward M a b
      by zero e = absurd (apart (forward_none a b ha hb e))
      by (suc d) e = omega arith
