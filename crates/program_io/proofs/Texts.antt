-- How long what is said of a failure is, and that it is laid whole part by part.
-- Assumes nothing.
use Rattle.std.proofs.Common.{◌≡◌, ℕ, ◌^◌, ◌<◌, ◌≤◌, List, ◌++◌, length, arith, length-append}
use Rattle.basics.specs.Laid.{Laid}
use Rattle.basics.proofs.Laying.{laid_then, laid_length}
use Rattle.lister_text.specs.Texts.{ascii, decimal, fitting}
use Rattle.lister_text.proofs.Laying.{laid_fitting}
use Rattle.lister_text.proofs.Decimal.{decimal_most}
use Rattle.program_io.specs.Failures.{most_word, answered, failed, failing}

-- how many lines were answered takes at most 62 octets
pub answered_most : (name : List ℕ) (lines : ℕ) → length name ≤ most_word → lines < 2 ^ 64 → length (answered name lines) ≤ 62
answered_most name lines few fits =
    omega (arith, length-append (name ++ ascii ": lines answered: ") (decimal lines), length-append name (ascii ": lines answered: "), decimal_most 19 lines (omega arith))

-- what failed at most 51
failed_most : (what : List ℕ) (error : ℕ) → length what ≤ most_word → error < 2 ^ 32 → length (failed what error) ≤ 51
failed_most what error few fits =
    omega (arith, length-append (ascii "; " ++ what ++ ascii " failed, error ") (decimal error), length-append (ascii "; " ++ what) (ascii " failed, error "), length-append (ascii "; ") what, decimal_most 9 error (omega arith))

pub failing_most : (name what : List ℕ) (lines error : ℕ) → length name ≤ most_word → length what ≤ most_word → lines < 2 ^ 64 → error < 2 ^ 32 → length (failing name what lines error) ≤ 113
failing_most name what lines error few small fits low =
    omega (arith, length-append (answered name lines) (failed what error), answered_most name lines few fits, failed_most what error small low)

-- ---- part by part

-- its three parts, laid where they fit, are laid whole
pub answered_laid : {d e f g : List ℕ} {i j k : ℕ} (name : List ℕ) (lines : ℕ) → length d ≡ 128 → length name ≤ most_word → lines < 2 ^ 64
    → Laid d 0 (fitting d 0 name) i e → Laid e i (fitting e i (ascii ": lines answered: ")) j f → Laid f j (fitting f j (decimal lines)) k g
    → Laid d 0 (answered name lines) k g
answered_laid {d} {e} {f} {g} {i} {j} {k} name lines size few fits l m n =
    let a = laid_fitting name (omega arith) l in
    let b = laid_fitting (ascii ": lines answered: ") (omega (arith, a.behind, laid_length a)) m in
    let c = laid_fitting (decimal lines) (omega (arith, a.behind, laid_length a, b.behind, laid_length b, decimal_most 19 lines (omega arith))) n in
    laid_then (laid_then a b) c

-- and so are the four of what failed
pub failed_laid : {d e f g h : List ℕ} {at i j k l : ℕ} (what : List ℕ) (error : ℕ) → length d ≡ 128 → at ≤ 62 → length what ≤ most_word → error < 2 ^ 32
    → Laid d at (fitting d at (ascii "; ")) i e → Laid e i (fitting e i what) j f → Laid f j (fitting f j (ascii " failed, error ")) k g → Laid g k (fitting g k (decimal error)) l h
    → Laid d at (failed what error) l h
failed_laid what error size near few fits p q r t =
    let a = laid_fitting (ascii "; ") (omega arith) p in
    let b = laid_fitting what (omega (arith, a.behind, laid_length a)) q in
    let c = laid_fitting (ascii " failed, error ") (omega (arith, a.behind, laid_length a, b.behind, laid_length b)) r in
    let e = laid_fitting (decimal error) (omega (arith, a.behind, b.behind, c.behind, laid_length a, laid_length b, laid_length c, decimal_most 9 error (omega arith))) t in
    laid_then (laid_then (laid_then a b) c) e
