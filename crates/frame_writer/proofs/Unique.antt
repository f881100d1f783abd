-- Two outcomes that a contract of this crate allows are equal: a contract gives what a call leaves, and that gives the
-- answer and the buffer.
-- Assumes nothing.
use Rattle.std.proofs.Common.{◌≡◌, ℕ, List, Result, Ok, Err, sym, ◌∙◌, ap}
use Rattle.refusal.specs.declared.Refusal.{Refusal}
use Rattle.refusal.specs.Numbers.{number_of, answer_of}
use Rattle.refusal.proofs.Numbers.{numbered, told}
use Rattle.frame_layout.specs.Frames.{Written}
use Rattle.frame_writer.specs.Answers.{left}

-- no two answers mean the same
pub outcome_injective : (r s : Result ℕ Refusal) → answer_of (λ n. n) r ≡ answer_of (λ n. n) s → r ≡ s
outcome_injective (Ok m) (Ok n) e = cc
outcome_injective (Ok m) (Err q) e = cc
outcome_injective (Err r) (Ok n) e = cc
outcome_injective (Err r) (Err q) e =
    let same : number_of r ≡ number_of q = cc in
    let alike : r ≡ q = sym (told r) ∙ ap numbered same ∙ told q in
    ap Err alike

pub unique : (w : Written) (r s : Result ℕ Refusal) (d e : List ℕ) → left r d ≡ w → left s e ≡ w → (r ≡ s) × (d ≡ e)
unique w r s d e p q =
    let same = p ∙ sym q in
    (outcome_injective r s (ap (λ (v : Written). v.answer) same), ap (λ (v : Written). v.buffer) same)
