-- Turns one after another: the first of those that are left, and those behind it.
-- Assumes nothing.
use Rattle.std.proofs.Common.{◌≡◌, ℕ, suc, ◌+◌, ◌-◌, ◌%◌, ◌^◌, ◌<◌, sym, ap, ◌∙◌, add-one, arith}
use native.Mathlib.Nat.{sub-suc, suc-pred-eq_of_pos, sub-pos_iff_lt}
use Rattle.basics.specs.Basics.{Outcome}
use Rattle.bearer.specs.Bearer.{After}
use Rattle.bearer.specs.Ledger.{Ledger}
use Rattle.ledger.specs.View.{beside}
use Rattle.ledger_probe.specs.Rig.{Turn, worth, left, total}

-- the turns that are left are one more than those behind it
one_more : (n i : ℕ) → i < n → n - i ≡ suc (n - (i + 1))
one_more n i lt = sym (ap (λ (k : ℕ). suc (n - k)) (add-one i) ∙ ap suc (sub-suc n i) ∙ suc-pred-eq_of_pos (sub-pos_iff_lt.1 lt))

module _ {A : Type 0} (turn : Turn A) (n : ℕ) where
  -- turn i was made, and left this
  module _ {a : Outcome A} {l after : Ledger Unit} {i : ℕ} (made : beside a after ≡ turn i l) (more : i < n) where
    pub left_more : left turn after (i + 1) (n - (i + 1)) ≡ left turn l i (n - i)
    left_more =
        ap (λ (s : After (Ledger Unit) A). left turn s.state (i + 1) (n - (i + 1))) made
        ∙ sym (ap (left turn l i) (one_more n i more))

    total_more : (value : A → ℕ) → worth value a + total value turn after (i + 1) (n - (i + 1)) ≡ total value turn l i (n - i)
    total_more value =
        ap (λ (s : After (Ledger Unit) A). worth value s.answer + total value turn s.state (i + 1) (n - (i + 1))) made
        ∙ sym (ap (total value turn l i) (one_more n i more))

    -- a sum with its answer, and with what the turns behind it add
    pub sum_more : (value : A → ℕ) (sum next : ℕ) → next ≡ (sum + worth value a) % 2 ^ 32
        → (next + total value turn after (i + 1) (n - (i + 1))) % 2 ^ 32 ≡ (sum + total value turn l i (n - i)) % 2 ^ 32
    sum_more value sum next e = omega (arith, total_more value)
