-- The laws of the four answers, once over M: each says what holds and nothing else holds, both numbers may be moved alike, and the way back
-- over an even M.
-- Assumes nothing.
use Rattle.std.specs.Prelude.{◌≡◌, ℕ, ◌+◌, ◌-◌, ◌/◌, ◌%◌, ◌<◌, Bool, true, false, ◌==◌, nat_lt, refl, if◌then◌else◌}
use Rattle.std.proofs.Common.{◌∙◌, ap, arith, mod-eq_of_lt, ltb-true, ltb-false, eqb-true, lt-ltb, le-ltb, eq-eqb, ne_eqb}
use Rattle.std.proofs.Math.Nat.{mod_self}
use Rattle.std.proofs.lemmas.Bool.{eqb-false}
use Rattle.circle.specs.Circle.{forward, forward_below, forward_reverse, forward_moved}
use Rattle.circle.specs.Sides.{Side, same, ahead, behind, opposite, side_by, lies, Told, turned}

-- ---- what each answer says

-- what is answered holds
pub side_told : (h d : ℕ) → Told h d (side_by h d)
side_told h d = by (d == 0) (nat_lt d h) (d == h) refl refl refl
  where
    by : (none short half : Bool) → (d == 0) ≡ none → nat_lt d h ≡ short → (d == h) ≡ half
        → Told h d (if none then same else (if short then ahead else (if half then opposite else behind)))
    by true short half e f g = eqb-true d 0 e
    by false true half e f g = let some-way = eqb-false d 0 e in let near = ltb-true d h f in (omega arith, near)
    by false false true e f g = eqb-true d h g
    by false false false e f g = let apart = eqb-false d h g in let far = ltb-false d h f in omega arith

-- and nothing else holds, where half the circle is some way: exactly one does
pub told_one : (h d : ℕ) → 0 < h → (s : Side) → Told h d s → side_by h d ≡ s
told_one h d some same t = rw (eq-eqb d 0 t)
told_one h d some ahead t = rw (ne_eqb d 0 (λ e. omega arith), lt-ltb d h t.1)
told_one h d some behind t = rw (ne_eqb d 0 (λ e. omega arith), le-ltb d h (omega arith), ne_eqb d h (λ e. omega arith))
told_one h d some opposite t = rw (ne_eqb d 0 (λ e. omega arith), le-ltb d h (omega arith), eq-eqb d h t)

-- ---- on a circle

module _ (M : ℕ) (pos : 0 < M) where
  -- what is answered holds of the distance from a to b
  pub lies_told : (a b : ℕ) → Told (M / 2) (forward M a b) (lies M a b)
  lies_told a b = side_told (M / 2) (forward M a b)

  -- both moved by the same distance lie as before
  pub lies_moved : (a b d : ℕ) → lies M ((a + d) % M) ((b + d) % M) ≡ lies M a b
  lies_moved a b d = ap (side_by (M / 2)) (forward_moved M pos a b d)

  module _ (even : M / 2 + M / 2 ≡ M) where
    -- and of the four that alone
    pub lies_one : (a b : ℕ) (s : Side) → Told (M / 2) (forward M a b) s → lies M a b ≡ s
    lies_one a b = told_one (M / 2) (forward M a b) (omega arith)

    -- ahead one way is behind the other; the same and opposite are their own reverse
    pub lies_back : (a b : ℕ) → lies M b a ≡ turned (lies M a b)
    lies_back a b = lies_one b a (turned (lies M a b)) (back (lies M a b) (lies_told a b))
      where
        far : forward M a b < M
        far = forward_below M pos a b

        -- the way back, where there is a way
        rest : 0 < forward M a b → forward M b a ≡ M - forward M a b
        rest h = forward_reverse M pos a b ∙ mod-eq_of_lt (omega arith)

        back : (s : Side) → Told (M / 2) (forward M a b) s → Told (M / 2) (forward M b a) (turned s)
        back same t = forward_reverse M pos a b ∙ ap (λ (d : ℕ). d % M) (let whole : M - forward M a b ≡ M = omega arith in whole) ∙ mod_self M
        back ahead t = omega (arith, rest t.0)
        back behind t = let way = rest (omega arith) in (omega (arith, far), omega arith)
        back opposite t = omega (arith, rest (omega arith))
