-- Line feeds among octets: how many a line has, and that texts have none.
-- Assumes nothing.
use Rattle.std.proofs.Common.{◌≡◌, ℕ, zero, suc, ◌+◌, ◌/◌, ◌%◌, ◌<◌, Bool, true, false, not, eqb, List, [], ◌∷◌, ◌++◌, map, sym, refl, true≢false, arith, le-ltb, lt-ltb, ne_eqb}
use Prim.Native.Char.{code}
use Rattle.basics.specs.Basics.{bit, all}
use Rattle.basics.proofs.Choices.{and_true}
use Rattle.frame_layout.specs.Frames.{Range}
use Rattle.lister_text.specs.Texts.{line_feed, line_feeds, unended, IsLine, tab, comma, dash, digits_in, decimal, parted, joined, range_text, ranges_text}
use Rattle.lister_text.proofs.Cases.{below_or}

-- ---- how many there are

-- no is 0
bit_not : (b : Bool) → not b ≡ true → bit b ≡ 0
bit_not true e = absurd (true≢false (sym e))
bit_not false e = refl

-- texts without any have none
pub feeds_none : (t : List ℕ) → unended t ≡ true → line_feeds t ≡ 0
feeds_none [] u = refl
feeds_none (c ∷ cs) u =
    let b = and_true (not (eqb c line_feed)) (unended cs) u in
    omega (arith, feeds_none cs b.1, bit_not (eqb c line_feed) b.0)

-- a line and octets behind it have one more than those
pub feeds_line : (t more : List ℕ) → unended t ≡ true → line_feeds (t ++ (line_feed ∷ more)) ≡ suc (line_feeds more)
feeds_line [] more u = omega arith
feeds_line (c ∷ cs) more u =
    let b = and_true (not (eqb c line_feed)) (unended cs) u in
    omega (arith, feeds_line cs more b.1, bit_not (eqb c line_feed) b.0)

-- ---- texts without any

-- two texts
pub unended_append : (s t : List ℕ) → unended s ≡ true → unended t ≡ true → unended (s ++ t) ≡ true
unended_append [] t u v = v
unended_append (c ∷ cs) t u v = let b = and_true (not (eqb c line_feed)) (unended cs) u in rw b.0 (unended_append cs t b.1 v)

-- a character that isn't one, and a text behind it
pub unended_cons : (c : ℕ) (t : List ℕ) → eqb c line_feed ≡ false → unended t ≡ true → unended (c ∷ t) ≡ true
unended_cons c t e u = rw e u

-- every character that is printed isn't one
pub printed : (c : ℕ) → line_feed < c → eqb c line_feed ≡ false
printed c h = ne_eqb c line_feed (λ e. absurd (let no : ⊥ = omega (arith, e) in no))

-- digits
unended_digits : (k n : ℕ) → unended (digits_in k n) ≡ true
unended_digits zero n = refl
unended_digits (suc k) n =
    below_or n 10
    (λ b. rw (lt-ltb n 10 b) (unended_cons (code "0" + n) [] (printed (code "0" + n) (omega arith)) refl))
    (λ b.
    rw (le-ltb n 10 b)
    (unended_append (digits_in k (n / 10)) ((code "0" + n % 10) ∷ []) (unended_digits k (n / 10)) (unended_cons (code "0" + n % 10) [] (printed (code "0" + n % 10) (omega arith)) refl)))

-- a number in decimal
pub unended_decimal : (n : ℕ) → unended (decimal n) ≡ true
unfolding decimal
unended_decimal n = unended_digits (suc n) n

-- parts with another mark between each two
pub unended_parted : (mark : ℕ) (ts : List (List ℕ)) → eqb mark line_feed ≡ false → all unended ts ≡ true → unended (parted mark ts) ≡ true
unended_parted mark [] e u = refl
unended_parted mark (t ∷ []) e u = (and_true (unended t) true u).0
unended_parted mark (t ∷ s ∷ ts) e u =
    let b = and_true (unended t) (all unended (s ∷ ts)) u in
    unended_append t (mark ∷ parted mark (s ∷ ts)) b.0 (unended_cons mark (parted mark (s ∷ ts)) e (unended_parted mark (s ∷ ts) e b.1))

-- texts joined by commas
pub unended_joined : (ts : List (List ℕ)) → all unended ts ≡ true → unended (joined ts) ≡ true
unended_joined [] u = refl
unended_joined (t ∷ ts) u = unended_parted comma (t ∷ ts) refl u

-- ranges so joined
all_ranges : (rs : List Range) → all unended (map range_text rs) ≡ true
all_ranges [] = refl
all_ranges (r ∷ rs) =
    rw (unended_append (decimal r.start) (dash ∷ decimal r.end) (unended_decimal r.start) (unended_cons dash (decimal r.end) refl (unended_decimal r.end))) (all_ranges rs)

pub unended_ranges : (rs : List Range) → unended (ranges_text rs) ≡ true
unended_ranges rs = unended_joined (map range_text rs) (all_ranges rs)

-- ---- lines

-- fields without any, parted by tabs, and a line feed: a line
pub fields_line : (fields : List (List ℕ)) → all unended fields ≡ true → IsLine (parted tab fields ++ (line_feed ∷ []))
fields_line fields u = record { text = parted tab fields; ended = refl; once = unended_parted tab fields refl u }
