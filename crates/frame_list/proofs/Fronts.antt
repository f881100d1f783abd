-- What the writer is shown of a list is written as the list is: its numbers where a status carries it, and a list that no status carries is refused alike.
-- Assumes nothing.
use Rattle.std.proofs.Common.{◌≡◌, ℕ, ◌+◌, ◌<◌, Bool, true, false, List, [], ◌∷◌, length, take, map, set, get_or, min, ltb, if◌then◌else◌, length-take, refl, sym, ap, ◌∙◌, add-one, arith}
use Rattle.std.proofs.lemmas.Bool.{lt-ltb, ltb-false, ltb-true}
use Rattle.std.proofs.Math.Seq.{take-length, take-suc, take-suc-set}
use Rattle.std.proofs.lemmas.List.{length-map, map-append}
use Rattle.frame_layout.specs.Frames.{most_ranges, most_highest, unwritten, ranges_of, write_status}
use Rattle.frame_layout.specs.Frames as frames
use Rattle.frame_layout.specs.declared.Range.{Range}
use Rattle.frame_layout.specs.Types.{range_of, ranges_in}
use Rattle.frame_writer.specs.declared.Head.{Head}
use Rattle.frame_writer.specs.Answers.{head_status}

-- the numbers of i ranges are copied, and the next one's behind them
pub copied : (f : Range → ℕ) (rs : List Range) (xs : List ℕ) (i : ℕ) {x : ℕ} → i < length rs → i < length xs → x ≡ f (get_or rs i (record { start = 0; end = 0 }))
    → take i xs ≡ map f (take i rs) → take (i + 1) (set xs i x) ≡ map f (take (i + 1) rs)
copied f rs xs i {x} there held same before =
    rw (add-one i) (take-suc-set xs i x held ∙ rw (before, same) (sym (map-append f (take i rs) (get_or rs i (record { start = 0; end = 0 }) ∷ [])))
    ∙ ap (map f) (sym (take-suc rs i (record { start = 0; end = 0 }) there)))

-- the starts and the ends of a list make its ranges
ranges_joined : (rs : List Range) → ranges_of (map (λ r. r.start) rs) (map (λ r. r.end) rs) ≡ ranges_in rs
ranges_joined [] = refl
ranges_joined (r ∷ rs) = ap (λ (l : List frames.Range). range_of r ∷ l) (ranges_joined rs)

module _ (h : Head) (rs : List Range) (d : List ℕ) where
  -- a list that no status carries is refused whatever its ranges are
  too_many : (l : List frames.Range) → most_ranges < length l
      → write_status (head_status h l) d ≡ (if ltb (most_highest h.long) h.highest then unwritten 4 d else unwritten 5 d)
  too_many l more = rw (lt-ltb most_ranges (length l) more)

  -- the ranges at the front of the list, by whether a status carries it
  same_by : (b : Bool) (n : ℕ) → n ≡ min (length rs) 163 → ltb most_ranges (length rs) ≡ b
      → write_status (head_status h (ranges_in (take n rs))) d ≡ write_status (head_status h (ranges_in rs)) d
  same_by true n e more =
      let many : most_ranges < length rs = ltb-true most_ranges (length rs) more in
      let all : most_ranges < length (ranges_in rs) = rw (length-map rs range_of) many in
      let front : most_ranges < length (ranges_in (take n rs)) = simp (length-map, length-take) (omega arith) in
      too_many _ front ∙ sym (too_many _ all)
  same_by false n e few =
      let whole : n ≡ length rs = omega (arith, e, ltb-false most_ranges (length rs) few) in
      let all : take n rs ≡ rs = rw whole (take-length rs) in
      ap (λ (l : List Range). write_status (head_status h (ranges_in l)) d) all

  -- what the writer is shown is written as the list is
  pub same_written : (n : ℕ) {ss es : List ℕ} → n ≡ min (length rs) 163 → ss ≡ map (λ r. r.start) (take n rs) → es ≡ map (λ r. r.end) (take n rs)
      → write_status (head_status h (ranges_of ss es)) d ≡ write_status (head_status h (ranges_in rs)) d
  same_written n {ss} {es} e starts ends =
      let joined : ranges_of ss es ≡ ranges_in (take n rs) = rw (starts, ends) (ranges_joined (take n rs)) in
      ap (λ (l : List frames.Range). write_status (head_status h l) d) joined ∙ same_by (ltb most_ranges (length rs)) n e refl
