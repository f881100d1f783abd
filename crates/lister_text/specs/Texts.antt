-- Texts, as lists of the octets of their characters: what they are made of, a number in decimal, parts with marks between them, a text
-- that is laid where it fits, and where a line ends.
-- Assumes nothing.
use Rattle.std.specs.Prelude.{◌≡◌, ℕ, zero, suc, ◌+◌, ◌/◌, ◌%◌, ◌<◌, Bool, true, not, List, [], ◌∷◌, ◌++◌, map, length, take, ◌==◌, nat_le, nat_lt, slice_index, Option, Some, None, if◌then◌else◌}
use Prim.Native.Char.{code}
use Prim.Native.String.{String}
use Prim.Native.String as string
use Rattle.basics.specs.Basics.{bit, all}
use Rattle.frame_layout.specs.Frames.{Range}

-- ---- characters

-- the octets of a text in ASCII
abbrev pub ascii : String → List ℕ
ascii string.[] = []
ascii (string.◌∷◌ c s) = code c ∷ ascii s

-- what ends a line
abbrev pub line_feed : ℕ
line_feed = code "\n"

-- what parts fields
abbrev pub tab : ℕ
tab = code "\t"

-- what parts ranges
abbrev pub comma : ℕ
comma = code ","

-- what parts a range's start from its end
abbrev pub dash : ℕ
dash = code "-"

-- ---- texts

-- the last k decimal digits of a number, or all if there are fewer
abbrev pub digits_in : ℕ → ℕ → List ℕ
digits_in zero n = []
digits_in (suc k) n = if nat_lt n 10 then (code "0" + n) ∷ [] else digits_in k (n / 10) ++ ((code "0" + n % 10) ∷ [])

-- a number in decimal: n has no more than n + 1 digits
unfoldable pub decimal : ℕ → List ℕ
decimal n = digits_in (suc n) n

-- parts with a mark between each two
abbrev pub parted : ℕ → List (List ℕ) → List ℕ
parted mark [] = []
parted mark (p ∷ []) = p
parted mark (p ∷ q ∷ ps) = p ++ mark ∷ parted mark (q ∷ ps)

-- a range as start-end
abbrev pub range_text : Range → List ℕ
range_text r = decimal r.start ++ dash ∷ decimal r.end

-- texts joined by commas, or `none`
abbrev pub joined : List (List ℕ) → List ℕ
joined [] = ascii "none"
joined (t ∷ ts) = parted comma (t ∷ ts)

-- ranges so joined
abbrev pub ranges_text : List Range → List ℕ
ranges_text rs = joined (map range_text rs)

-- a text at a place of a buffer where it fits, and else nothing
abbrev pub fitting : List ℕ → ℕ → List ℕ → List ℕ
fitting d at t = if nat_le (at + length t) (length d) then t else []

-- ---- lines

-- a character in front of the first of texts
abbrev pub onto : ℕ → List (List ℕ) → List (List ℕ)
onto c [] = (c ∷ []) ∷ []
onto c (l ∷ ls) = (c ∷ l) ∷ ls

-- no line feed is among octets
abbrev pub unended : List ℕ → Bool
unended l = all (λ (c : ℕ). not (c == line_feed)) l

-- how many line feeds there are among octets
abbrev pub line_feeds : List ℕ → ℕ
line_feeds [] = 0
line_feeds (c ∷ cs) = bit (c == line_feed) + line_feeds cs

-- octets are a line: a line feed stands at their end, and no other among them
pub record IsLine (t : List ℕ) : Type 0 where
  pub text : List ℕ
  pub ended : t ≡ text ++ (line_feed ∷ [])
  pub once : unended text ≡ true

-- the first line feed of a block stands at a place
pub record FeedAt (block : List ℕ) (i : ℕ) : Type 0 where
  pub within : i < length block
  pub before : unended (take i block) ≡ true
  pub there : slice_index block i ≡ line_feed

-- where a line ends: at the first line feed of a block, or not within it
abbrev pub LineEnd : List ℕ → Option ℕ → Type 0
LineEnd block (Some i) = FeedAt block i
LineEnd block None = unended block ≡ true
