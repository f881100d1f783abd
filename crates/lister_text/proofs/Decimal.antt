-- A number in decimal, digit by digit, and how many digits it has.
-- Assumes nothing.
use Rattle.std.proofs.Common.{◌≡◌, ℕ, zero, suc, ◌+◌, ◌*◌, ◌/◌, ◌%◌, ◌^◌, ◌<◌, ◌≤◌, List, [], ◌∷◌, ◌++◌, length, ap, sym, ◌∙◌, pow-suc, arith, length-append, le-ltb, lt-ltb}
use native.Mathlib.Nat.{one-le-pow}
use Prim.Native.Char.{code}
use Rattle.std.specs.Fmt.{decimal as standard}
use Rattle.std.proofs.lemmas.Fmt.{decimal_by_steps}
use Rattle.lister_text.specs.Texts.{digits_in, decimal}
use Rattle.lister_text.proofs.Cases.{below_or}

-- digits that are enough are all of them
enough : (j k n : ℕ) → n < j → n < k → digits_in j n ≡ digits_in k n
enough zero k n h g = absurd (let no : ⊥ = omega arith in no)
enough (suc j) zero n h g = absurd (let no : ⊥ = omega arith in no)
enough (suc j) (suc k) n h g =
    below_or n 10
    (λ b. rw (lt-ltb n 10 b))
    (λ b. rw (le-ltb n 10 b) (ap (λ (ds : List ℕ). ds ++ ((code "0" + n % 10) ∷ [])) (enough j k (n / 10) (omega arith) (omega arith))))

-- a number below 10 is one digit
pub decimal_one : (n : ℕ) → n < 10 → decimal n ≡ (code "0" + n) ∷ []
unfolding decimal
decimal_one n h = rw (lt-ltb n 10 h)

-- any other is the digits of its tenth, and the last
pub decimal_more : (n : ℕ) → 10 ≤ n → decimal n ≡ decimal (n / 10) ++ ((code "0" + n % 10) ∷ [])
unfolding decimal
decimal_more n h = rw (le-ltb n 10 h) (ap (λ (ds : List ℕ). ds ++ ((code "0" + n % 10) ∷ [])) (enough n (suc (n / 10)) (n / 10) (omega arith) (omega arith)))

-- and one digit more than its tenth
pub length_more : (n : ℕ) → 10 ≤ n → length (decimal n) ≡ length (decimal (n / 10)) + 1
length_more n h = ap length (decimal_more n h) ∙ length-append (decimal (n / 10)) ((code "0" + n % 10) ∷ [])

-- a number has a digit
pub decimal_some : (n : ℕ) → 0 < length (decimal n)
decimal_some n = below_or n 10 (λ b. rw (decimal_one n b) (omega arith)) (λ b. omega (arith, length_more n b))

-- from 10 ^ k to 10 ^ suc k it has suc k digits
pub length_decimal : (k n : ℕ) → 10 ^ k ≤ n → n < 10 ^ suc k → length (decimal n) ≡ suc k
length_decimal zero n l h = ap length (decimal_one n h)
length_decimal (suc k) n l h =
    let p : 10 ^ suc k ≡ 10 ^ k * 10 = pow-suc 10 k in
    let q : 10 ^ suc (suc k) ≡ 10 ^ suc k * 10 = pow-suc 10 (suc k) in
    let some : 1 ≤ 10 ^ k = one-le-pow k 10 (omega arith) in
    omega (arith, length_more n (omega arith), length_decimal k (n / 10) (omega arith) (omega arith))

-- below 10 ^ suc k it has at most suc k
pub decimal_most : (k n : ℕ) → n < 10 ^ suc k → length (decimal n) ≤ suc k
decimal_most zero n h = rw (decimal_one n h) (omega arith)
decimal_most (suc k) n h =
    let q : 10 ^ suc (suc k) ≡ 10 ^ suc k * 10 = pow-suc 10 (suc k) in
    below_or n 10 (λ b. rw (decimal_one n b) (omega arith)) (λ b. omega (arith, length_more n b, decimal_most k (n / 10) (omega arith)))

-- std's digits of a number are it in decimal
pub standard_decimal : (n : ℕ) → n < 2 ^ 64 → standard n ≡ decimal n
standard_decimal =
    decimal_by_steps
    (λ (n : ℕ) (ds : List ℕ). ds ≡ decimal n)
    (λ n h. sym (decimal_one n h))
    (λ n ds h e. ap (λ (front : List ℕ). front ++ ((code "0" + n % 10) ∷ [])) e ∙ sym (decimal_more n h))
