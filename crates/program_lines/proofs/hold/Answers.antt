-- `hold`: what is copied behind the held octets, up to the buffer's end, is what is held of both. Assumes nothing.
use Rattle.std.proofs.Common.{◌≡◌, ℕ, ◌+◌, ◌-◌, min, List, ◌++◌, length, take, refl, sym, ap, ap₂, ◌∙◌, arith, length-take-le, take_all}
use Rattle.std.proofs.lemmas.Slice.{take-put_mid}
use lib.Seq.{take-append-add}
use Rattle.lister_text.proofs.Cases.{below_or}
use Rattle.program_lines.specs.Feeding.{Holds}
use Rattle.program_lines.proofs.Feeds.{take_held}
use Rattle.program_lines.proofs.hold.Goals as goal

-- in a buffer of m octets
module _ (line part : List ℕ) (m held at n : ℕ) (size : length line ≡ m) (from : at ≡ min held m) (fits : n ≡ min (length part) (m - at)) where
  -- the part that there is room for
  fitting_part : take n part ≡ take (m - at) part
  fitting_part =
      below_or (m - at) (length part)
      (λ h. ap (λ (k : ℕ). take k part) (let e : n ≡ m - at = omega arith in e))
      (λ h. take_all n part (omega arith) ∙ sym (take_all (m - at) part h))

  held_front : take at line ≡ take held line
  held_front = ap (λ (k : ℕ). take k line) (from ∙ ap (min held) (sym size)) ∙ take_held held line

  -- behind the held octets is what is held of both
  holds : Holds m (take held line) part (take at line ++ take n part)
  holds =
      let whole : length (take at line) + (m - at) ≡ m = omega (arith, length-take-le at line (omega arith)) in
      ap (λ (p : List ℕ). take at line ++ p) fitting_part
      ∙ sym (take-append-add (take at line) part (m - at))
      ∙ ap₂ (λ (k : ℕ) (l : List ℕ). take k (l ++ part)) whole held_front

pub returns-clause-front : goal.returns-clause-front
returns-clause-front c =
    let line = c.args.line.now in
    let part = c.args.part.now in
    let at = c.min-at.result in
    let n = c.min-n.result in
    let copied = c.copy_from_slice.ensures.after in
    take-put_mid at (at + n - at) line c.copy_from_slice.new.self (at + n) (rw copied (omega (arith, length-take-le n part (omega arith)))) (omega arith)
    ∙ rw copied (holds line part (length line) c.args.held at n refl c.min-at.ensures c.min-n.ensures)
