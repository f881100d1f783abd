-- A status frame: each refusal is the layout's, in its order, and what is laid otherwise is the frame.
-- Assumes nothing.
use Rattle.std.proofs.Common.{◌≡◌, ℕ, ◌≤◌, ◌<◌, true, false, List, length, min, sym, ap, ◌∙◌, arith}
use Rattle.std.proofs.lemmas.Bool.{lt-ltb, le-ltb}
use Rattle.basics.specs.Basics.{all}
use Rattle.basics.proofs.Laying.{laid_room}
use Rattle.frame_layout.specs.Frames.{Status, most_highest, most_ranges, in_form, ranges_of, padding, padded, status_fields, place, write_status}
use Rattle.frame_layout.proofs.Ranges.{ranges_count}
use Rattle.frame_writer.specs.Answers.{head_status}
use Rattle.frame_writer.specs.Lengths.{status_length}
use Rattle.frame_writer.proofs.Lengths.{length_status}
use Rattle.frame_writer.proofs.Placed.{placed, unplaced}
use Rattle.frame_writer.proofs.write_status.Goals as goal

-- the count is that of the ranges
count_said : (ss es : List ℕ) (count : ℕ) → count ≡ min (length ss) (length es) → count ≡ length (ranges_of ss es)
count_said ss es count e = e ∙ sym (ranges_count ss es)

module _ (s : Status) where
  -- the length that the code works out is that of the fields
  fields_length : (count long : ℕ) → count ≡ length s.ranges → long ≡ status_length s.long count → length (status_fields s) ≡ long
  fields_length count long said e = length_status s ∙ sym (e ∙ ap (status_length s.long) said)

  -- only room can be missing
  judged : (d : List ℕ) → s.highest ≤ most_highest s.long → length s.ranges ≤ most_ranges → all (in_form s.long) s.ranges ≡ true
      → place (padded (status_fields s)) d ≡ write_status s d
  judged d within few fit = rw (le-ltb (most_highest s.long) s.highest within, le-ltb most_ranges (length s.ranges) few, fit)

pub returns-then-count-gt-MOST_RANGES : goal.returns-then-count-gt-MOST_RANGES
returns-then-count-gt-MOST_RANGES c =
    let s = head_status c.args.head (ranges_of c.args.starts.now c.args.ends.now) in
    let said = count_said c.args.starts.now c.args.ends.now _ c.min-count.ensures in
    let within : s.highest ≤ most_highest s.long = omega arith in
    let above : most_ranges < length s.ranges = omega arith in
    rw (le-ltb (most_highest s.long) s.highest within, lt-ltb most_ranges (length s.ranges) above)

pub returns-then-not-all_in_form : goal.returns-then-not-all_in_form
returns-then-not-all_in_form c =
    let s = head_status c.args.head (ranges_of c.args.starts.now c.args.ends.now) in
    let said = count_said c.args.starts.now c.args.ends.now _ c.min-count.ensures in
    let within : s.highest ≤ most_highest s.long = omega arith in
    let few : length s.ranges ≤ most_ranges = omega arith in
    let out : all (in_form s.long) s.ranges ≡ false = sym c.if-not-all_in_form.ensures in
    rw (le-ltb (most_highest s.long) s.highest within, le-ltb most_ranges (length s.ranges) few, out)

pub returns-then-dst-length : goal.returns-then-dst-length
returns-then-dst-length c =
    let s = head_status c.args.head (ranges_of c.args.starts.now c.args.ends.now) in
    let said = count_said c.args.starts.now c.args.ends.now _ c.min-count.ensures in
    let fields : length (status_fields s) ≡ c.status_length-length.result = fields_length s _ _ said c.status_length-length.ensures.0 in
    unplaced (status_fields s) c.args.dst.now (c.padding-zeros.ensures ∙ ap padding (sym fields)) (omega arith)
    ∙ judged s c.args.dst.now (omega arith) (omega arith) (sym c.if-not-all_in_form.ensures)

pub put_status-at-requires : goal.put_status-at-requires
put_status-at-requires c =
    let s = head_status c.args.head (ranges_of c.args.starts.now c.args.ends.now) in
    let said = count_said c.args.starts.now c.args.ends.now _ c.min-count.ensures in
    let fields : length (status_fields s) ≡ c.status_length-length.result = fields_length s _ _ said c.status_length-length.ensures.0 in
    (omega arith, omega arith)

pub put_zeros-end-requires : goal.put_zeros-end-requires
put_zeros-end-requires c =
    let s = head_status c.args.head (ranges_of c.args.starts.now c.args.ends.now) in
    let said = count_said c.args.starts.now c.args.ends.now _ c.min-count.ensures in
    let fields : length (status_fields s) ≡ c.status_length-length.result = fields_length s _ _ said c.status_length-length.ensures.0 in
    (omega arith, laid_room _ c.put_status-at.ensures (omega arith))

pub returns : goal.returns
returns c =
    let s = head_status c.args.head (ranges_of c.args.starts.now c.args.ends.now) in
    let said = count_said c.args.starts.now c.args.ends.now _ c.min-count.ensures in
    let fields : length (status_fields s) ≡ c.status_length-length.result = fields_length s _ _ said c.status_length-length.ensures.0 in
    placed (status_fields s) c.args.dst.now (c.padding-zeros.ensures ∙ ap padding (sym fields)) (omega arith) c.put_status-at.ensures c.put_zeros-end.ensures
    ∙ judged s c.args.dst.now (omega arith) (omega arith) (sym c.if-not-all_in_form.ensures)
