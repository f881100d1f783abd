-- Octets in hexadecimal, one after another.
-- Assumes nothing.
use mathlib.Core.Path.{◌≡◌, refl, ◌∙◌, ap}
use mathlib.Core.List.{List, [], ◌∷◌, ◌++◌}
use Prim.Native.Nat.{ℕ, ◌+◌, ◌/◌, ◌%◌, ◌<◌}
use native.Mathlib.Numerals.{add-one}
use lib.ListN.{length, get_or, take}
use lib.Seq.{take-suc}
use Rattle.replay_answers.specs.Answers.{hex_digit, hex_text}

hex_append : (os ps : List ℕ) → hex_text (os ++ ps) ≡ hex_text os ++ hex_text ps
hex_append [] ps = refl
hex_append (o ∷ os) ps = ap (λ (t : List ℕ). hex_digit (o / 16) ∷ hex_digit (o % 16) ∷ t) (hex_append os ps)

-- one octet more
pub hex_more : (os : List ℕ) (i : ℕ) → i < length os → hex_text (take (i + 1) os) ≡ hex_text (take i os) ++ hex_text (get_or os i 0 ∷ [])
hex_more os i h = rw (add-one i) (ap hex_text (take-suc os i 0 h) ∙ hex_append (take i os) (get_or os i 0 ∷ []))
