-- `decode`: each turn stores the octet of the next pair. Assumes nothing.
use Rattle.std.proofs.Common.{◌≡◌, ℕ, ◌+◌, ◌*◌, ◌<◌, Some, List, length, get_or, drop, set, sym, refl, ◌∙◌, arith}
use Rattle.basics.specs.Basics.{all}
use Rattle.basics.proofs.Laying.{laid_octet, laid_none, Still, still_on}
use Rattle.lister_text.specs.Hexadecimal.{is_digit, octet_said, octets_in}
use Rattle.lister_text.proofs.Hex.{octets_said, digits_said, pair_at}
use Rattle.lister_text.proofs.decode.Goals as goal

-- pair k of a line says an octet
module _ (line : List ℕ) (k x : ℕ) (h : 2 * k + 1 < length line) (said : Some x ≡ octet_said (get_or line (2 * k) 0) (get_or line (2 * k + 1) 0)) where
  place : 2 * k + 2 ≡ 2 * (k + 1)
  place = omega arith

  -- which is stored
  still_pair : {d e : List ℕ} → Still d 0 (octets_in line) e k (octets_in (drop (2 * k) line)) → Still d 0 (octets_in line) (set e k x) (k + 1) (octets_in (drop (2 * (k + 1)) line))
  still_pair {d} {e} s =
      rw (← place) (still_on (rw (pair_at line (2 * k) h, octets_said _ _ (drop (2 * k + 2) line) said) at s) (laid_octet refl (laid_none (set e k x) refl)))

  -- and both characters are digits
  digits_on : all is_digit (drop (2 * k) line) ≡ all is_digit line → all is_digit (drop (2 * (k + 1)) line) ≡ all is_digit line
  digits_on e = rw (← place) (sym (digits_said _ _ (drop (2 * k + 2) line) said) ∙ (rw (pair_at line (2 * k) h) at e))

pub loop-k-preserved : goal.loop-k-preserved
loop-k-preserved c =
    let l = c.loop-k in
    let line = c.args.line.now in
    let within : 2 * l.k + 1 < length line = omega arith in
    let said = c.in_ok-frame.ensures in
    (still_pair line l.k _ within said l.invariant.0, digits_on line l.k _ within said l.invariant.1)
