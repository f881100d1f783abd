-- `octet_at`: a digit's value is at most 256, so that the sum fits; and it is an octet where both are digits. Assumes nothing.
use borrow.Author.Tests.{lt-leb}
use Rattle.std.proofs.Common.{◌≡◌, ℕ, ◌+◌, ◌<◌, ◌≤◌, Some, None, get_or, refl, arith, le-leb, ◌∙◌, if◌then◌else◌}
use Rattle.std.specs.Prelude.{nat_le, Result, Ok, Err, OkIff}
use Rattle.std.specs.Result.{result_ok}
use Rattle.lister_text.specs.Hexadecimal.{digit_of}
use Rattle.lister_text.proofs.Cases.{below_or}
use Rattle.lister_text.proofs.Hex.{digit_most, octet_told}
use Rattle.lister_text.proofs.octet_at.Goals as goal

-- what a digit answers is at most 256
most : (r c : ℕ) → r ≡ digit_of c → r ≤ 256
most r c e = omega (arith, digit_most c)

pub overflow_mul-digit : goal.overflow_mul-digit
overflow_mul-digit c = omega (arith, most _ _ c.digit.ensures)

pub overflow_add-digit : goal.overflow_add-digit
overflow_add-digit c = omega (arith, most _ _ c.digit.ensures, most _ _ c.digit-2.ensures)

-- what fits an octet is one
fits : {E : Type 0} (r : Result ℕ E) (n : ℕ) → OkIff r (n < 256) n → result_ok r ≡ (if nat_le n 255 then Some n else None)
fits (Ok x) n (h, e) = rw (le-leb n 255 (omega (arith, h)), e) refl
fits (Err e) n over = below_or n 256 (λ h. absurd (over h)) (λ h. rw (lt-leb n 255 (omega (arith, h))))

pub returns : goal.returns
returns c =
    let line = c.args.line.now in
    c.ok.ensures.value ∙ fits _ _ c.try_from.ensures ∙ rw (c.digit.ensures, c.digit-2.ensures) (octet_told (get_or line c.args.i 0) (get_or line (c.args.i + 1) 0))
