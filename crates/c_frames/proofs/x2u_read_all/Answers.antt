-- `x2u_read_all`: the answer to what was seen, its fields, and of a status its ranges. Assumes nothing.
use Rattle.std.proofs.Common.{◌≡◌, ℕ, List, Result, Ok, get_or, refl, sym, ◌∙◌, ap}
use Rattle.std.proofs.lemmas.List.Edits.{sets}
use Rattle.refusal.specs.Numbers as numbers
use Rattle.frame_layout.specs.Frames.{Range, starts_of, ends_of, read_frame}
use Rattle.refusal.specs.declared.Refusal.{Refusal}
use Rattle.frame_layout.specs.declared.FrameType.{FrameType}
use Rattle.frame_layout.specs.Types.{number_of}
use Rattle.c_calls.specs.Boundary.{leaves, said, type_of, itself, ranges_in}
use Rattle.c_calls.specs.Looks.{kind_of, before_first}
use Rattle.c_calls.proofs.Answers.{left_as, said_as}
use Rattle.c_calls.proofs.Statuses.{there_from, listed_type, refused_none, type_said}
use Rattle.c_frames.proofs.x2u_read_all.Goals as goal
use Rattle.c_frames.proofs.x2u_read_all.Goals.{in-Ok+in-Some, in-Ok+in_default-before_first, in_default}

-- what stands in both arrays once the ranges are put, and that what was seen is answered
record Put (ss es : List ℕ) (rs : List Range) (ss' es' : List ℕ) (seen told : Result FrameType Refusal) : Type 0 where
  starts : ss' ≡ sets ss 0 (starts_of rs)
  ends : es' ≡ sets es 0 (ends_of rs)
  same : told ≡ seen

pub returns : goal.returns
returns c =
    let a = c.args in
    let m = c.match-seen in
    let s = a.frame.now in
    let r = read_frame s in
    let saw = c.look-seen.ensures in
    let kind : (t : Result FrameType Refusal) → c.look-seen.result ≡ t → numbers.answer_of number_of t ≡ kind_of r = λ t e. ap (numbers.answer_of number_of) (sym e) ∙ saw.0 in
    let there : (k : FrameType) → c.look-seen.result ≡ Ok k → there_from s (before_first k (get_or c.look-seen.new.fields 5 0)) ≡ ranges_in r = λ k e.
    ap (λ (l : List ℕ). there_from s (before_first k (get_or l 5 0))) saw.1 ∙ listed_type s a.fields.now r k refl (kind (Ok k) e) in
    let put : Put a.starts.now a.ends.now (ranges_in r) m.starts m.ends c.look-seen.result m.seen = elim m.branch [
      | in-Ok+in-Some w ↦
          let all = ap (there_from s) w.in-Some.ensures ∙ there w.in-Ok.kind w.in-Ok.is in
          record {
            starts = w.starts-is ∙ w.put_ranges.ensures.0 ∙ ap (λ (rs : List Range). sets a.starts.now 0 (starts_of rs)) all;
            ends = w.ends-is ∙ w.put_ranges.ensures.1 ∙ ap (λ (rs : List Range). sets a.ends.now 0 (ends_of rs)) all;
            same = w.seen-is ∙ sym w.in-Ok.is;
          }
      | in-Ok+in_default-before_first w ↦
          let none = ap (there_from s) w.in_default-before_first.ensures ∙ there w.in-Ok.kind w.in-Ok.is in
          record {
            starts = w.starts-is ∙ ap (λ (rs : List Range). sets a.starts.now 0 (starts_of rs)) none;
            ends = w.ends-is ∙ ap (λ (rs : List Range). sets a.ends.now 0 (ends_of rs)) none;
            same = w.seen-is ∙ sym w.in-Ok.is;
          }
      | in_default w ↦
          let none = sym (refused_none r _ (kind _ w.in_default.is)) in
          record {
            starts = w.starts-is ∙ ap (λ (rs : List Range). sets a.starts.now 0 (starts_of rs)) none;
            ends = w.ends-is ∙ ap (λ (rs : List Range). sets a.ends.now 0 (ends_of rs)) none;
            same = w.seen-is;
          }
    ] in
    left_as c.answer.type_inv (c.answer.ensures ∙ ap (said number_of) put.same ∙ said_as number_of itself c.look-seen.result saw.0 ∙ type_said r)
    (λ i. leaves (type_of r) (saw.1 i, put.starts i, put.ends i))
