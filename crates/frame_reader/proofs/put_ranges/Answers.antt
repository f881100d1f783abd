-- `put_ranges`: one range is laid in a turn, and the others behind it. Assumes nothing.
use Rattle.std.proofs.Common.{◌≡◌, ℕ, suc, ◌+◌, ◌-◌, ◌*◌, ◌<◌, List, ◌∷◌, set, ◌∙◌, add-one, arith}
use Rattle.std.proofs.lemmas.List.Edits.{sets}
use Rattle.frame_layout.specs.Octets.{field}
use Rattle.frame_layout.specs.Frames.{Range, starts_of, ends_of, width, ranges_at}
use Rattle.frame_reader.proofs.put_ranges.Goals as goal

-- the next of those that are left, and the others
split : (s : List ℕ) (w place i count : ℕ) → i < count
    → ranges_at s w (place + i * (2 * w)) (count - i)
    ≡ record { start = field s (place + i * (2 * w)) w; end = field s (place + i * (2 * w) + w) w } ∷ ranges_at s w (place + (i + 1) * (2 * w)) (count - (i + 1))
split s w place i count h =
    let e : count - i ≡ suc (count - (i + 1)) = omega arith in
    let on : place + i * (2 * w) + 2 * w ≡ place + (i + 1) * (2 * w) = omega arith in
    rw (e, on)

-- one is laid, and the others behind it
one_laid : (i : ℕ) {rs ts : List Range} {r : Range} → rs ≡ r ∷ ts
    → ((l : List ℕ) → sets (set l i r.start) (i + 1) (starts_of ts) ≡ sets l i (starts_of rs)) × ((l : List ℕ) → sets (set l i r.end) (i + 1) (ends_of ts) ≡ sets l i (ends_of rs))
one_laid i e = (λ l. rw (e, add-one i), λ l. rw (e, add-one i))

pub loop-i-preserved : goal.loop-i-preserved
loop-i-preserved c =
    let p = c.loop-i in
    let a = c.args in
    let on = one_laid p.i (split a.frame.now (width a.at.long) a.at.place p.i a.at.left (omega arith)) in
    rw (c.range_at-range.ensures, c.width-size.ensures.0) (record {
      starts_laid = on.0 p.starts ∙ rw c.width-size.ensures.0 at p.invariant.starts_laid;
      ends_laid = on.1 p.ends ∙ rw c.width-size.ensures.0 at p.invariant.ends_laid;
    })
