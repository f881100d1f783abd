-- The numbers in runs, packet by packet.
-- Assumes nothing.
use mathlib.Core.Path.{◌≡◌, refl, sym, ◌∙◌, ap, ap₂}
use mathlib.Core.Bool.{true}
use mathlib.Core.List.{List, [], ◌∷◌, ◌++◌, map, map-append}
use Prim.Native.Nat.{ℕ, zero, suc, ◌+◌, ◌-◌, ◌≤◌, ◌<◌}
use native.Mathlib.Omega.{arith}
use native.Mathlib.Nat.{mod-lt}
use borrow.Author.Tests.{lt-ltb}
use Rattle.basics.specs.Basics.{all}
use Rattle.circle.specs.Lengths.{is_long, modulus_of}
use Rattle.frame_layout.specs.Frames.{in_form}
use Rattle.bearer.specs.Losses.{Gap}
use Rattle.bearer.specs.Packets.{number_of, numbers_from, in_range, in_ranges, Each}
use Rattle.bearer.specs.Account.{run_at, packets_from, packets_of}
use Rattle.bearer.proofs.Lists.Numbers.{positive, onward_is, to_later}

-- numbers from a packet's on are those of the packets from it on
numbers_from_are : (L first i c : ℕ) → numbers_from L (number_of L first i) c ≡ map (number_of L first) (packets_from i c)
numbers_from_are L first i zero = refl
numbers_from_are L first i (suc c) =
    let next : i + 1 ≡ suc i = omega arith in
    ap (λ (ns : List ℕ). number_of L first i ∷ ns)
    (ap (λ (n : ℕ). numbers_from L n c) (onward_is (modulus_of L) first (positive L) i 1 ∙ ap (number_of L first) next) ∙ numbers_from_are L first (suc i) c)

-- runs of packets are ranges of the form
pub runs_fit : (L first : ℕ) (gs : List Gap) → all (in_form (is_long L)) (map (run_at L first) gs) ≡ true
runs_fit L first [] = refl
runs_fit L first (g ∷ gs) =
    rw (lt-ltb (number_of L first g.from) (modulus_of L) (mod-lt (first + g.from) (positive L)), lt-ltb (number_of L first (g.to - 1)) (modulus_of L) (mod-lt (first + (g.to - 1)) (positive L)), runs_fit L first gs)

-- a run whose numbers are all different
abbrev pub Short : ℕ → Gap → Type 0
Short L g = (g.from < g.to) × (g.to - g.from ≤ modulus_of L)

module _ (L first : ℕ) where
  -- its numbers are those of its packets
  pub run_expand : (g : Gap) → g.from < g.to → g.to - g.from ≤ modulus_of L
      → in_range L (run_at L first g) ≡ map (number_of L first) (packets_from g.from (g.to - g.from))
  run_expand g holds short =
      ap (numbers_from L (number_of L first g.from)) (ap suc (to_later (modulus_of L) first (positive L) g.from (g.to - 1) (omega arith) (omega arith)) ∙ count)
      ∙ numbers_from_are L first g.from (g.to - g.from)
    where
      count : suc (g.to - 1 - g.from) ≡ g.to - g.from
      count = omega arith

  pub runs_expand : (gs : List Gap) → Each (Short L) gs
      → in_ranges L (map (run_at L first) gs) ≡ map (number_of L first) (packets_of gs)
  runs_expand [] hs = refl
  runs_expand (g ∷ gs) hs =
      ap₂ ◌++◌ (run_expand g hs.0.0 hs.0.1) (runs_expand gs hs.1)
      ∙ sym (map-append (number_of L first) (packets_from g.from (g.to - g.from)) (packets_of gs))
