-- The line of every other answer is one line.
-- Assumes nothing.
use mathlib.Core.Path.{◌≡◌, refl}
use mathlib.Core.Bool.{true, false}
use mathlib.Core.List.{List, [], ◌∷◌}
use Prim.Native.Nat.{ℕ, ◌+◌, ◌-◌, ◌/◌, ◌%◌}
use Prim.Native.Char.{code}
use native.Mathlib.Omega.{arith}
use borrow.Author.Tests.{lt-ltb, le-ltb}
use lib.Dec.{eqb}
use Rattle.basics.specs.Basics.{bit, all}
use Rattle.lister_text.specs.Texts.{line_feed, unended, IsLine}
use Rattle.lister_text.proofs.Cases.{below_or}
use Rattle.lister_text.proofs.LineFeeds.{printed, unended_cons, unended_decimal}
use Rattle.replay_states.specs.Lines.{line_with}
use Rattle.replay_states.proofs.OneLine.{line_with_lem}
use Rattle.replay_answers.specs.declared.Answer.{Answer}
use Rattle.replay_answers.specs.declared.Answer.TheVariants.{Ok, Unopened, Unreadable, Lost, Sent, Freed, Taken, Room, Refused}
use Rattle.replay_answers.specs.Answers.{answer_fields, refused_fields, hex_digit, hex_text, frame_fields}

-- no field of an answer has a line feed
answer_plain : (a : Answer) → all unended (answer_fields a) ≡ true
answer_plain Ok = refl
answer_plain Unopened = refl
answer_plain Unreadable = refl
answer_plain (Lost count) = rw (unended_decimal count)
answer_plain (Sent number) = rw (unended_decimal number)
answer_plain (Freed freed lost last) = rw (unended_decimal freed, unended_decimal lost, unended_decimal (bit last))
answer_plain (Taken number pdcp size) = rw (unended_decimal number, unended_decimal pdcp, unended_decimal size)
answer_plain (Room octets) = rw (unended_decimal octets)
answer_plain (Refused number) = rw (unended_decimal number)

-- nor has hexadecimal
digit_plain : (n : ℕ) → eqb (hex_digit n) line_feed ≡ false
digit_plain n = below_or n 10 (λ b. rw (lt-ltb n 10 b) (printed (code "0" + n) (omega arith))) (λ b. rw (le-ltb n 10 b) (printed (code "a" + (n - 10)) (omega arith)))

hex_plain : (os : List ℕ) → unended (hex_text os) ≡ true
hex_plain [] = refl
hex_plain (o ∷ os) = unended_cons (hex_digit (o / 16)) (hex_digit (o % 16) ∷ hex_text os) (digit_plain (o / 16)) (unended_cons (hex_digit (o % 16)) (hex_text os) (digit_plain (o % 16)) (hex_plain os))

-- ---- lines

pub answer_line : (a : Answer) → IsLine (line_with (answer_fields a))
answer_line a = line_with_lem (answer_fields a) (answer_plain a)

pub refused_line : (n : ℕ) → IsLine (line_with (refused_fields n))
refused_line n = line_with_lem (refused_fields n) (rw (unended_decimal n))

pub frame_line : (octets : List ℕ) → IsLine (line_with (frame_fields octets))
frame_line octets = line_with_lem (frame_fields octets) (rw (hex_plain octets))
