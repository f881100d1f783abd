-- `Output::text`: a text that is copied to a place is laid there. Assumes nothing.
use Rattle.std.proofs.Common.{◌≡◌, ℕ, ◌+◌, ◌-◌, List, ◌++◌, length, take, drop, sym, refl, ap, ◌∙◌, arith, leb-true, drop-drop, append_assoc}
use borrow.Rule.Slice.PartMut.{put_mid}
use Rattle.std.proofs.lemmas.List.Edits.{sets, sets-eq}
use Rattle.basics.specs.Laid.{Room}
use Rattle.lister_text.proofs.Output.text.Goals as goal

-- octets copied to a place are stored there
copied : (d t : List ℕ) (at : ℕ) → Room d at (length t) → put_mid at (at + length t - at) d t ≡ sets d at t
copied d t at room =
    let few : at + length t - at ≡ length t = omega arith in
    rw (few, sets-eq t d at room) (ap (λ (r : List ℕ). take at d ++ (t ++ r)) (drop-drop (length t) at d) ∙ sym (append_assoc (take at d) t (drop (at + length t) d)))

pub returns-then-fits : goal.returns-then-fits
returns-then-fits c =
    let d = c.args.self.now.octets.now in
    let t = c.args.text.now in
    let at = c.args.self.now.at in
    let fits = sym (c.if-fits.true) ∙ c.fits.ensures in
    let room : Room d at (length t) = leb-true _ _ (sym fits) in
    record { loan = refl; laid = rw (sym fits) (record { behind = refl; buffer = rw c.copy_from_slice.ensures.after (copied d t at room) }) }
