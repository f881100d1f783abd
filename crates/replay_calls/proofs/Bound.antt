-- No line over 2,043 octets is a call: a word, a number and a frame each have a longest.
-- Assumes nothing.
use mathlib.Core.Path.{◌≡◌, refl, sym, ◌∙◌, ap}
use mathlib.Core.Bool.{false}
use mathlib.Core.List.{List, [], ◌∷◌}
use Rattle.std.specs.Prelude.{Option, Some, None}
use Prim.Native.Nat.{ℕ, suc, ◌+◌, ◌*◌, ◌≤◌, ◌<◌}
use native.Mathlib.Omega.{arith}
use lib.Dec.{eqb}
use lib.ListN.{length, drop}
use borrow.Author.Tests.{lt-ltb, lt-leb}
use Rattle.lister_text.specs.Texts.{ascii, tab}
use Rattle.lister_text.specs.Hexadecimal.{digit_of}
use Rattle.lister_text.proofs.Cases.{true_or, below_or}
use Rattle.lister_text.proofs.Holding.{front_answers}
use Rattle.replay_calls.specs.Calls.{fields_in, first_field, tabbed_fields, number_of, before, numbers_of, call_with, accept_of, call_by, call_in, read_call}
use Rattle.replay_calls.specs.Bound.{most_line, TooLong, FrontTells, LongestCalls}
use Rattle.replay_calls.proofs.Fields.{fields_split}
use Rattle.replay_calls.proofs.Numbers.{unread_long}
use Rattle.replay_calls.proofs.Several.{few_enough}
use Rattle.std.specs.Str.{bytes_eq}
use Rattle.std.proofs.lemmas.Slice.Eq.{bytes_eq-Decides}

-- ---- fields

-- the octets of fields that each have a tab before them
abbrev size : List (List ℕ) → ℕ
size [] = 0
size (f ∷ fs) = suc (length f + size fs)

-- a line's fields have its octets, and one tab more
fields_size : (l : List ℕ) → size (fields_in l) ≡ suc (length l)
fields_size [] = refl
fields_size (c ∷ cs) =
    true_or (eqb c tab)
    (λ e. rw e (omega (arith, fields_size cs)))
    (λ e. rw (e, fields_split cs) (omega (arith, rw (fields_split cs) at (fields_size cs))))

-- ---- a word

-- a longer text is another one
not_same : (k l : List ℕ) → length l < length k → bytes_eq k l ≡ false
not_same k l h = true_or (bytes_eq k l) (λ e. absurd (let no : ⊥ = omega (arith, ap length ((bytes_eq-Decides k l).0 e)) in no)) (λ e. e)

-- no word has more than seven octets
word_most : (w : List ℕ) (o : Option (List ℕ)) → 7 < length w → call_with w o ≡ None
word_most w None h = refl
word_most w (Some []) h =
    rw
    (not_same w (ascii "take") (omega arith), not_same w (ascii "room") (omega arith), not_same w (ascii "keeper") (omega arith), not_same w (ascii "ledger") (omega arith))
word_most w (Some (a ∷ [])) h = rw (not_same w (ascii "expire") (omega arith), not_same w (ascii "confirm") (omega arith))
word_most w (Some (a ∷ b ∷ [])) h = rw (not_same w (ascii "arrive") (omega arith), not_same w (ascii "send") (omega arith))
word_most w (Some (a ∷ b ∷ c ∷ [])) h = rw (not_same w (ascii "open") (omega arith))
word_most w (Some (a ∷ b ∷ c ∷ d ∷ [])) h = rw (not_same w (ascii "status") (omega arith))
word_most w (Some (a ∷ b ∷ c ∷ d ∷ e ∷ ns)) h = refl

-- ---- numbers

-- a number has at most ten digits
number_most : (f : List ℕ) (n : ℕ) → number_of f ≡ Some n → length f ≤ 10
number_most f n e =
    below_or 10 (length f) (λ h. let no : ◌≡◌ {A = ℕ} 0 1 = cc (unread_long f h) in omega arith) (λ h. h)

-- so each has at most eleven octets with its tab
numbers_most : (fs : List (List ℕ)) (ns : List ℕ) → numbers_of fs ≡ Some ns → size fs ≤ 11 * length ns
numbers_most [] ns e = omega arith
numbers_most (f ∷ fs) ns e = by (number_of f) (numbers_of fs) refl (numbers_most fs) e
  where
    by : (m : Option ℕ) (o : Option (List ℕ)) → number_of f ≡ m → ((ms : List ℕ) → o ≡ Some ms → size fs ≤ 11 * length ms) → before m o ≡ Some ns
        → size (f ∷ fs) ≤ 11 * length ns
    by None o p behind q = let no : ◌≡◌ {A = ℕ} 0 1 = cc in omega arith
    by (Some n) None p behind q = let no : ◌≡◌ {A = ℕ} 0 1 = cc in omega arith
    by (Some n) (Some ms) p behind q =
        let is : n ∷ ms ≡ ns = cc in
        omega (arith, number_most f n p, behind ms refl, ap length is)

-- no call has more than four
numbers_few : (w ns : List ℕ) → 4 < length ns → call_with w (Some ns) ≡ None
numbers_few w ns h = sym (few_enough w (Some ns)) ∙ rw (lt-leb (length ns) 4 h)

-- ---- calls

-- a call with numbers: a word of seven octets, and four times eleven
numbered_most : (w : List ℕ) (fs : List (List ℕ)) → 51 < length w + size fs → call_with w (numbers_of fs) ≡ None
numbered_most w fs h = by (numbers_of fs) refl
  where
    by : (o : Option (List ℕ)) → numbers_of fs ≡ o → call_with w o ≡ None
    by None e = refl
    by (Some ns) e = below_or 4 (length ns) (numbers_few w ns) (λ few. word_most w (Some ns) (omega (arith, numbers_most fs ns e)))

-- accept: a tab, and the digits of the longest frame
accept_most : (fs : List (List ℕ)) → 2037 < size fs → accept_of fs ≡ None
accept_most [] h = refl
accept_most (f ∷ []) h = rw (lt-ltb 2036 (length f) (omega arith))
accept_most (f ∷ g ∷ fs) h = refl

-- either
call_most : (w : List ℕ) (fs : List (List ℕ)) → most_line < length w + size fs → call_by w fs ≡ None
call_most w fs h =
    true_or (bytes_eq w (ascii "accept"))
    (λ e. rw e (accept_most fs (omega (arith, ap length ((bytes_eq-Decides w (ascii "accept")).0 e)))))
    (λ e. rw e (numbered_most w fs (omega arith)))

pub too_long : TooLong
unfolding read_call
too_long l h =
    let parts = fields_split l in
    ap call_in parts ∙ call_most (first_field l) (tabbed_fields (drop (length (first_field l)) l)) (omega (arith, rw parts at (fields_size l)))

pub front_tells : FrontTells
front_tells = front_answers read_call None most_line too_long

-- the bound is met
pub longest_calls : LongestCalls
unfolding read_call digit_of
longest_calls = (refl, refl)
