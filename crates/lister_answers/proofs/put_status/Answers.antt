-- `put_status`: the fields before the ranges, the ranges, and the line's end. Assumes nothing.
use Rattle.std.proofs.Common.{◌≡◌, ℕ, Bool, true, false, List, [], ◌∷◌, refl, ap, ◌∙◌, Bor}
use mir.Val.{bool_byte}
use Rattle.basics.specs.Basics.{bit}
use Rattle.frame_reader.specs.Answers.{cursor_of}
use Rattle.lister_text.specs.Texts.{line_feed}
use Rattle.lister_text.proofs.Laying.{puts_text, puts_then}
use Rattle.lister_answers.proofs.Ahead.{view_shows}
use Rattle.lister_answers.proofs.Texts.{status_text}
use Rattle.lister_answers.proofs.put_status.Goals as goal

-- Final as a number
final_bit : (b : Bool) → bool_byte b ≡ bit b
final_bit true = refl
final_bit false = refl

pub returns : goal.returns
returns c =
    let kind = c.from-2.ensures ∙ c.from.ensures ∙ c.status_type.ensures in
    let fields = rw (kind, c.from-3.ensures ∙ final_bit c.args.head.last) at c.put_fields.ensures in
    let shown = view_shows c.view_of.result c.args.frame.now (cursor_of c.args.head) (ap (λ (s : Bor (List ℕ)). s.now) c.view_of.ensures.0) c.view_of.ensures.1 c.requires in
    rw status_text (puts_then fields (puts_then (rw shown at c.put_ranges.ensures) (puts_text (line_feed ∷ []) c.octet.ensures)))
