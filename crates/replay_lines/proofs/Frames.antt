-- What an earlier line left in a frame's buffer changes nothing of what a line plays.
-- Assumes nothing.
use Rattle.std.specs.Prelude.{if◌then◌else◌, Option, Some, None}
use Rattle.std.specs.Str.{bytes_eq}
use mathlib.Core.Path.{◌≡◌, refl, sym, ◌∙◌, ap}
use mathlib.Core.Bool.{Bool, true, false, not}
use mathlib.Core.List.{List, [], ◌∷◌}
use Prim.Native.Nat.{ℕ, ◌+◌, ◌≤◌}
use native.Mathlib.Omega.{arith}
use lib.Dec.{ltb}
use lib.ListN.{length, take, drop}
use lib.Seq.{sets, length-sets, sets-eq, take_at}
use borrow.Author.Tests.{ltb-false}
use Rattle.basics.specs.Basics.{◌or◌, all}
use Rattle.basics.proofs.Choices.{or_false}
use Rattle.bearer.specs.Ledger as master
use Rattle.frame_layout.specs.Frames.{most_octets}
use Rattle.lister_text.specs.Texts.{ascii}
use Rattle.lister_text.specs.Hexadecimal.{most_digits, is_digit, bad_count, octets_in, decoded_of, decoded_into}
use Rattle.lister_text.proofs.Cases.{true_or}
use Rattle.lister_text.proofs.Hex.{octets_half}
use Rattle.replay_calls.specs.Calls.{most_room, first_field, tabbed_fields, numbers_of, call_with, framed, accept_of, read_call, decoded_behind, frame_after}
use Rattle.replay_calls.specs.declared.Call.{Call}
use Rattle.replay_calls.specs.declared.Call.TheVariants.{Ledger}
use Rattle.replay_calls.specs.declared.LedgerCall.TheVariants.{Accept}
use Rattle.replay_calls.proofs.Accept.{accept_some}
use Rattle.replay_calls.proofs.Fields.{fields_split}
use Rattle.replay_answers.specs.declared.Answer as A
use Rattle.replay_ends.specs.Steps.{answered, following, freed_answer}
use Rattle.replay_ends.specs.Playing.{Ends, ends_with_ledger, in_place, play}

-- the buffer keeps its length
pub length_frame : (l frame : List ℕ) → length (frame_after l frame) ≡ length frame
length_frame l frame = by (bytes_eq (first_field l) (ascii "accept")) (drop (length (first_field l)) l)
  where
    into : (b : Bool) (cs : List ℕ) → length (if b then frame else sets frame 0 cs) ≡ length frame
    into true cs = refl
    into false cs = length-sets frame 0 cs

    by : (b : Bool) (behind : List ℕ) → length (if b then decoded_behind behind frame else frame) ≡ length frame
    by true [] = refl
    by true (t ∷ cs) = into (bad_count (length cs)) (octets_in cs)
    by false behind = refl

module _ (e : Ends) (f g : List ℕ) (f-size : length f ≡ most_octets) (g-size : length g ≡ most_octets) where
  -- a call, if a line says one, leaves the same with either
  abbrev Alike : Option Call → List ℕ → List ℕ → Type 0
  Alike c x y = play e c x ≡ play e c y

  -- no call with numbers looks at it
  numbers_alike : (w : List ℕ) (ns : Option (List ℕ)) → Alike (call_with w ns) f g
  numbers_alike w None = refl
  numbers_alike w (Some []) =
      true_or (bytes_eq w (ascii "take")) (λ h. rw h) (λ h.
      rw h (true_or (bytes_eq w (ascii "room")) (λ i. rw i) (λ i.
      rw i (true_or (bytes_eq w (ascii "keeper")) (λ j. rw j) (λ j.
      rw j (true_or (bytes_eq w (ascii "ledger")) (λ k. rw k) (λ k. rw k)))))))
  numbers_alike w (Some (a ∷ [])) = true_or (bytes_eq w (ascii "expire")) (λ h. rw h) (λ h. rw h (true_or (bytes_eq w (ascii "confirm")) (λ i. rw i) (λ i. rw i)))
  numbers_alike w (Some (a ∷ b ∷ [])) = true_or (bytes_eq w (ascii "arrive")) (λ h. rw h) (λ h. rw h (true_or (bytes_eq w (ascii "send")) (λ i. rw i) (λ i. rw i)))
  numbers_alike w (Some (a ∷ b ∷ c ∷ [])) = true_or (bytes_eq w (ascii "open")) (λ h. rw h) (λ h. rw h)
  numbers_alike w (Some (a ∷ b ∷ c ∷ d ∷ [])) =
      true_or (bytes_eq w (ascii "status")) (λ h. rw h (true_or (ltb 1 c or ltb most_room d) (λ i. rw i) (λ i. rw i))) (λ h. rw h)
  numbers_alike w (Some (a ∷ b ∷ c ∷ d ∷ h ∷ ns)) = refl

  -- an accept looks at the octets that were decoded
  octets_front : (d os : List ℕ) → length os ≤ length d → take (length os) (sets d 0 os) ≡ os
  octets_front d os h = ap (take (length os)) (sets-eq os d 0 (omega arith)) ∙ take_at os (drop (0 + length os) d) (length os) refl

  octets_fit : (cs : List ℕ) → bad_count (length cs) ≡ false → length (octets_in cs) ≤ most_octets
  octets_fit cs ok = omega (arith, octets_half cs, ltb-false most_digits (length cs) (or_false (ltb most_digits (length cs)) _ ok).0)

  accepts_alike : (n : ℕ) (x y : List ℕ) → take n x ≡ take n y → Alike (Some (Ledger (Accept n))) x y
  accepts_alike n x y h =
      ap (λ (o : List ℕ). if not e.opened then answered e A.TheVariants.Unopened else in_place (ends_with_ledger e) (following freed_answer (master.accept e.ledger o))) h

  decoded_alike : (cs : List ℕ) → Alike (framed (decoded_of cs)) (decoded_into cs f) (decoded_into cs g)
  decoded_alike cs = by (bad_count (length cs)) refl (all is_digit cs) refl
    where
      by : (b : Bool) → bad_count (length cs) ≡ b → (d : Bool) → all is_digit cs ≡ d → Alike (framed (decoded_of cs)) (decoded_into cs f) (decoded_into cs g)
      by true bad d digits = rw bad
      by false ok false digits = rw (ok, digits)
      by false ok true digits =
          let os = octets_in cs in
          rw (ok, digits)
          (accepts_alike (length os) (sets f 0 os) (sets g 0 os) (octets_front f os (omega (arith, octets_fit cs ok)) ∙ sym (octets_front g os (omega (arith, octets_fit cs ok)))))

  accept_alike : (behind : List ℕ) → Alike (accept_of (tabbed_fields behind)) (decoded_behind behind f) (decoded_behind behind g)
  accept_alike [] = refl
  accept_alike (t ∷ cs) = rw (accept_some (t ∷ cs) f (omega arith)).0 (decoded_alike cs)

  -- so what an earlier line left in it changes nothing
  pub frames_alike : (l : List ℕ) → Alike (read_call l) (frame_after l f) (frame_after l g)
  unfolding read_call
  frames_alike l = rw (fields_split l) (by (bytes_eq (first_field l) (ascii "accept")))
    where
      behind : List ℕ
      behind = drop (length (first_field l)) l

      by : (b : Bool)
          → Alike (if b then accept_of (tabbed_fields behind) else call_with (first_field l) (numbers_of (tabbed_fields behind))) (if b then decoded_behind behind f else f) (if b then decoded_behind behind g else g)
      by true = accept_alike behind
      by false = numbers_alike (first_field l) (numbers_of (tabbed_fields behind))
