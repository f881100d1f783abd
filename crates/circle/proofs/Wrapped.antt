-- A wrapping difference of 32 bits, reduced to k bits, is the distance on the circle of 2^k: once over k.
-- Assumes nothing.
use Rattle.std.proofs.Common.{◌≡◌, ℕ, ◌+◌, ◌-◌, ◌*◌, ◌%◌, ◌^◌, ◌<◌, ◌≤◌, sym, ap, ◌∙◌, mod-eq_of_lt, add_comm, arith, pow_pos}
use lib.Bits.{bit_and, and_mask}
use lib.Pow.{pow-lt, mod-mod-pow}
use Rattle.circle.specs.Circle.{forward, forward_on}

-- a difference that wrapped, reduced to k bits
pub wrapped : (k a b d : ℕ) → k ≤ 32 → (d + a) % 2 ^ 32 ≡ b → d % 2 ^ k ≡ forward (2 ^ k) a b
wrapped k a b d h e =
    let whole : (32 - k) + k ≡ 32 = omega arith in
    let turn : (d + a) % 2 ^ 32 % 2 ^ k ≡ (d + a) % 2 ^ k = ap (λ (n : ℕ). (d + a) % 2 ^ n % 2 ^ k) (sym whole) ∙ mod-mod-pow (d + a) (32 - k) k in
    let same : (a + d) % 2 ^ k ≡ b % 2 ^ k = ap (λ (n : ℕ). n % 2 ^ k) (add_comm a d) ∙ sym turn ∙ ap (λ (n : ℕ). n % 2 ^ k) e in
    sym (forward_on (2 ^ k) (pow_pos k) a d) ∙ ap (λ (n : ℕ). (n + (2 ^ k - a % 2 ^ k)) % 2 ^ k) same

-- the mask's power of two, as a shift makes it
pub shifted : (k : ℕ) → k < 32 → 1 * 2 ^ k % 2 ^ 32 ≡ 2 ^ k
shifted k h = ap (λ (n : ℕ). n % 2 ^ 32) (let e : 1 * 2 ^ k ≡ 2 ^ k = omega arith in e) ∙ mod-eq_of_lt (pow-lt h)

-- the masked difference is the distance
pub masked : (k a b d : ℕ) → k < 32 → (d + a) % 2 ^ 32 ≡ b → bit_and d (1 * 2 ^ k % 2 ^ 32 - 1) ≡ forward (2 ^ k) a b
masked k a b d h e = ap (λ (n : ℕ). bit_and d (n - 1)) (shifted k h) ∙ and_mask d k ∙ wrapped k a b d (omega arith) e
