-- Document 01's sample of the lister, and lines at its edges, as one table, and one statement: each holds.
-- Assumes nothing.
use mathlib.Core.Path.{◌≡◌, refl, ◌∙◌, ap}
use mathlib.Core.List.{List, [], ◌∷◌, ◌++◌}
use Prim.Native.Nat.{ℕ}
use Prim.Native.Char.{code}
use Prim.Native.String.{String}
use native.Mathlib.Omega.{arith}
use Rattle.lister_text.specs.Texts.{ascii, decimal}
use Rattle.lister_text.specs.Hexadecimal.{digit_of}
use Rattle.lister_answers.specs.Answers.{answer_to, line_of}
use Rattle.lister_lines.specs.Listing.{listing}
use Rattle.lister_text.proofs.Decimal.{decimal_one, decimal_more}

-- an input and its listing
pub record Case : Type 0 where
  pub input : String
  pub output : String

abbrev pub Holds : Case → Type 0
Holds c = listing (ascii c.input) ≡ ascii c.output

-- every case of a table holds
abbrev pub AllHold : List Case → Type 0
AllHold [] = Unit
AllHold (c ∷ cs) = Holds c × AllHold cs

abbrev pub cases : List Case
cases =
    record {
      input = "001234000000\n110078000100000000100001000700090000\n400000000000\n";
      output = "0\t4660\n1\t120\t65536\t4096\t0\t7-9\nrefused\t2\n";
    }
    -- no line, an empty line, and a last line without its end
    ∷ record { input = ""; output = "" }
    ∷ record { input = "\n\n3000AbCd0000"; output = "refused\t1\nrefused\t1\n3\t43981\n" }
    -- an odd count, a carriage return, a blank and a NUL
    ∷ record { input = "0\n00123400000\r\n 00123400000\n00123400000\0"; output = "unreadable\nunreadable\nunreadable\nunreadable\n" }
    -- two ranges; Final and no list
    ∷ record { input = "1300010000000a000003e80200070009fffe00010000\n"; output = "1\t1\t10\t1000\t1\t7-9,65534-1\n" }
    ∷ record { input = "2203FFFF00000000000000000000\n"; output = "2\t262143\t0\t0\t1\tnone\n" }
    ∷ []

-- the greatest highest PDCP number in decimal, from its tenth: computing goes by a number's size
tenth : decimal 26214 ≡ ascii "26214"
unfolding decimal
tenth = refl

greatest : decimal 262143 ≡ ascii "262143"
greatest = decimal_more 262143 (omega arith) ∙ ap (λ (t : List ℕ). t ++ (code "3" ∷ [])) tenth

-- so the last case is proved from it, and each other by computing it
last_case : Holds (record { input = "2203FFFF00000000000000000000\n"; output = "2\t262143\t0\t0\t1\tnone\n" })
unfolding digit_of answer_to line_of
last_case = simp (greatest, decimal_one 0 (omega arith), decimal_one 1 (omega arith), decimal_one 2 (omega arith))

pub all_hold : AllHold cases
unfolding digit_of decimal answer_to line_of
all_hold = (refl, (refl, (refl, (refl, (refl, (last_case, tt))))))
