-- The lister's texts as they are laid, one part after another.
-- Assumes nothing.
use mathlib.Core.Path.{◌≡◌, sym, ap}
use mathlib.Core.Bool.{Bool}
use mathlib.Core.List.{List, [], ◌∷◌, ◌++◌, append_assoc, append-nil}
use Prim.Native.Nat.{ℕ}
use Rattle.basics.specs.Basics.{bit}
use Rattle.frame_layout.specs.Frames.{data_type, status_type, Range, Status, data_of, status_of, refuse}
use Rattle.lister_text.specs.Texts.{ascii, line_feed, tab, comma, dash, decimal, range_text, ranges_text}
use Rattle.lister_answers.specs.Answers.{answer_to}
use Rattle.lister_answers.specs.Parts.{marked, tabbed}

-- ranges, each with a comma before it
abbrev pub more_text : List Range → List ℕ
more_text [] = []
more_text (r ∷ rs) = comma ∷ (range_text r ++ more_text rs)

-- a range: its start with a dash, and its end
pub range_text_lem : (r : Range) → range_text r ≡ marked r.start dash ++ decimal r.end
range_text_lem r = simp append_assoc

-- ranges: the first, and the others each with a comma
pub ranges_text_lem : (r : Range) (rs : List Range) → ranges_text (r ∷ rs) ≡ range_text r ++ more_text rs
ranges_text_lem r [] = sym (append-nil (range_text r))
ranges_text_lem r (q ∷ rs) = ap (λ (t : List ℕ). range_text r ++ (comma ∷ t)) (ranges_text_lem q rs)

pub data_text : (long : Bool) (n : ℕ) → answer_to (data_of long n) ≡ marked (data_type long) tab ++ marked n line_feed
unfolding answer_to
data_text long n = simp append_assoc

pub refused_text : (n : ℕ) → answer_to (refuse n) ≡ ascii "refused\t" ++ marked n line_feed
unfolding answer_to
refused_text n = simp append_assoc

pub status_text : (s : Status)
    → answer_to (status_of s)
    ≡ tabbed (status_type s.long ∷ s.highest ∷ s.desired ∷ s.minimum ∷ bit s.final ∷ []) ++ (ranges_text s.ranges ++ (line_feed ∷ []))
unfolding answer_to
status_text s = simp append_assoc
