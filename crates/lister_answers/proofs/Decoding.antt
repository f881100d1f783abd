-- What a decoded line leaves: the front of the frame's buffer is the frame, and the answer to the line is the frame's.
-- Assumes nothing.
use Rattle.std.specs.Prelude.{Some, None, if◌then◌else◌}
use mathlib.Core.Path.{◌≡◌, refl, sym, ◌∙◌, ap}
use mathlib.Core.Bool.{Bool, true, false, not}
use mathlib.Core.List.{List}
use Prim.Native.Nat.{ℕ, ◌+◌, ◌%◌, ◌≤◌}
use native.Mathlib.Omega.{arith}
use borrow.Author.Tests.{ltb-false}
use lib.Dec.{ltb, eqb}
use lib.ListN.{length, take, drop}
use lib.Seq.{sets, sets-eq, length-sets, take-append_seam}
use Rattle.basics.specs.Basics.{all}
use Rattle.frame_layout.specs.Frames.{most_octets, read_frame}
use Rattle.basics.proofs.Choices.{or_false}
use Rattle.lister_text.specs.Texts.{ascii}
use Rattle.lister_text.specs.Hexadecimal.{is_digit, octets_in, bad_count, most_digits, unreadable, decoded_of, decoded_into}
use Rattle.lister_answers.specs.Answers.{answer_to, line_of}
use Rattle.lister_text.proofs.Hex.{octets_half}

pick_octets : (b : Bool) (k n : ℕ) → (if b then None else Some k) ≡ Some n → (b ≡ false) × (n ≡ k)
pick_octets true k n e = (cc, cc)
pick_octets false k n e = (refl, cc)

pick_none : (b : Bool) (k : ℕ) → (if b then None else Some k) ≡ None → b ≡ true
pick_none true k e = refl
pick_none false k e = cc

module _ (l : List ℕ) where
  -- a line that says n octets can be read, and n is their number
  pub says_octets : (n : ℕ) → decoded_of l ≡ Some n → (unreadable l ≡ false) × (n ≡ length (octets_in l))
  says_octets n e = pick_octets (unreadable l) (length (octets_in l)) n e

  -- its count of characters is right
  count_right : unreadable l ≡ false → bad_count (length l) ≡ false
  count_right e = (or_false (bad_count (length l)) (not (all is_digit l)) e).0

  -- so that a frame's buffer holds them
  pub octets_fit : unreadable l ≡ false → length (octets_in l) ≤ most_octets
  octets_fit e =
      let p = or_false (ltb most_digits (length l)) (not (eqb (length l % 2) 0)) (count_right e) in
      omega (arith, ltb-false most_digits (length l) p.0, octets_half l)

  -- and has them at its front
  pub front_octets : (frame left : List ℕ) → left ≡ decoded_into l frame → length left ≡ most_octets → unreadable l ≡ false → take (length (octets_in l)) left ≡ octets_in l
  front_octets frame left is size e =
      let xs = octets_in l in
      let laid : left ≡ sets frame 0 xs = rw (count_right e) at is in
      let same : length frame ≡ most_octets = sym (length-sets frame 0 xs) ∙ sym (ap length laid) ∙ size in
      ap (take (length xs)) (laid ∙ sets-eq xs frame 0 (omega (arith, octets_fit e))) ∙ take-append_seam xs (drop (0 + length xs) frame)

  -- the answer to it is the frame's
  pub line_read : unreadable l ≡ false → line_of l ≡ answer_to (read_frame (octets_in l))
  unfolding line_of
  line_read e = rw e

  -- and to any other `unreadable`
  pub line_unread : decoded_of l ≡ None → line_of l ≡ ascii "unreadable\n"
  unfolding line_of
  line_unread e = rw (pick_none (unreadable l) (length (octets_in l)) e)
