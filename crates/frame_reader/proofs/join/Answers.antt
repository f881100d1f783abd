-- `join`: the octets stand behind zeros, so the number in four is that of the field. Assumes nothing.
use Rattle.std.proofs.Common.{◌≡◌, ℕ, zero, suc, ◌+◌, ◌-◌, ◌≤◌, List, [], ◌∷◌, length, take, drop, get_or, refl, ap, ◌∙◌, arith}
use Rattle.std.proofs.Math.Seq.{drop-cons}
use Rattle.std.specs.Int.{w32, from_be_bytes}
use borrow.Rule.Slice.PartMut.{put_mid}
use Rattle.frame_layout.specs.Octets.{field}
use Rattle.frame_reader.proofs.join.Goals as goal

-- n octets one after another, from k behind place i on
abbrev run : List ℕ → ℕ → ℕ → ℕ → List ℕ
run s i k zero = []
run s i k (suc n) = get_or s (i + k) 0 ∷ run s i (k + 1) n

-- they are what stands there
run_there : (s : List ℕ) (i k n : ℕ) → i + k + n ≤ length s → take n (drop (i + k) s) ≡ run s i k n
run_there s i k zero h = refl
run_there s i k (suc n) h =
    let behind : suc (i + k) ≡ i + (k + 1) = omega arith in
    ap (take (suc n)) (drop-cons s (i + k) 0 (omega arith)) ∙ rw (behind, run_there s i (k + 1) n (omega arith))

-- behind zeros, they are the field's number
whole : (s : List ℕ) (i n : ℕ) → n ≤ 4 → from_be_bytes w32 (put_mid (4 - n) (4 - (4 - n)) (0 ∷ 0 ∷ 0 ∷ 0 ∷ []) (run s i 0 n)) ≡ field s i n
whole s i zero h = refl
whole s i (suc zero) h = omega arith
whole s i (suc (suc zero)) h = omega arith
whole s i (suc (suc (suc zero))) h = omega arith
whole s i (suc (suc (suc (suc zero)))) h = omega arith
whole s i (suc (suc (suc (suc (suc n))))) h = absurd (omega arith)

pub returns : goal.returns
returns g c =
    let n = g.row.N in
    let a = c.args in
    let here : a.i + 0 ≡ a.i = omega arith in
    let taken : a.i + n - a.i ≡ n = omega arith in
    let there : take n (drop a.i a.frame.now) ≡ run a.frame.now a.i 0 n = rw here at (run_there a.frame.now a.i 0 n (omega arith)) in
    c.from_be_bytes.ensures ∙ rw (c.copy_from_slice.ensures.after, taken, there) (whole a.frame.now a.i n c.requires.0)
