-- An input that is fed in blocks of any sizes, into an output of any room before each call, says what its lines are answered.
-- Assumes nothing.
use mathlib.Core.Path.{◌≡◌, refl, sym, ◌∙◌, ap, ap₂}
use mathlib.Core.Bool.{true}
use mathlib.Core.List.{List, [], ◌∷◌, ◌++◌, append_assoc, append-nil}
use Prim.Native.Nat.{ℕ, ◌-◌}
use lib.Dec.{eqb}
use lib.ListN.{length}
use lib.Seq.{append_snoc}
use Rattle.lister_text.specs.Texts.{line_feed, onto}
use Rattle.lister_text.proofs.Cases.{true_or}
use Rattle.program_lines.specs.Lines.{Answering, lines_of, answers}
use Rattle.program_lines.specs.Feeding.{most_held, kept, FrontTells, room_for, feeding, last_of, told, Calls, CallsAnswer, none, call}
use Rattle.program_lines.proofs.Feeds.{take_more}

-- an unfinished line before lines: it goes before the first
abbrev before : List ℕ → List (List ℕ) → List (List ℕ)
before [] [] = []
before (c ∷ l) [] = (c ∷ l) ∷ []
before line (l ∷ ls) = (line ++ l) ∷ ls

before_none : (ls : List (List ℕ)) → before [] ls ≡ ls
before_none [] = refl
before_none (l ∷ ls) = refl

before_onto : (line : List ℕ) (c : ℕ) (ls : List (List ℕ)) → before (line ++ (c ∷ [])) ls ≡ before line (onto c ls)
before_onto [] c [] = refl
before_onto (x ∷ l) c [] = refl
before_onto [] c (l ∷ ls) = refl
before_onto (x ∷ k) c (l ∷ ls) = ap (λ (t : List ℕ). (x ∷ t) ∷ ls) (append_snoc k c l)

module _ {S : Type 0} (p : Answering S) (tells : FrontTells p) where
  -- ---- feeding without a limit of room

  told_lines : (s : S) (line input : List ℕ) → told p s (kept p line) input ≡ answers p s (before line (lines_of input))
  told_lines s [] [] = refl
  told_lines s (x ∷ l) [] = tells.answer s (x ∷ l) ∙ sym (append-nil (p.answer s (x ∷ l)))
  told_lines s line (c ∷ cs) =
      true_or (eqb c line_feed)
      (λ e.
      rw e
      (ap₂ ◌++◌ (tells.answer s line ∙ ap (p.answer s) (sym (append-nil line)))
      (ap (λ (t : S). told p t [] cs) (tells.next s line ∙ ap (p.next s) (sym (append-nil line)))
      ∙ told_lines (p.next s (line ++ [])) [] cs
      ∙ ap (answers p (p.next s (line ++ []))) (before_none (lines_of cs)))))
      (λ e.
      rw e
      (ap (λ (l : List ℕ). told p s l cs) (take_more (most_held p) line (c ∷ []))
      ∙ told_lines s (line ++ (c ∷ [])) cs
      ∙ ap (answers p s) (before_onto line c (lines_of cs))))

  -- from the first line on, it is the answers to the input's lines
  pub told_answers : (s : S) (input : List ℕ) → told p s [] input ≡ answers p s (lines_of input)
  told_answers s input = told_lines s [] input ∙ ap (answers p s) (before_none (lines_of input))

  -- ---- calls

  -- a call takes a part of a block, and what it says comes before what is said to the rest
  pub told_fed : (room : ℕ) (s : S) (line block later : List ℕ)
      → let f = feeding p room s line block in
      told p s line (block ++ later) ≡ f.said ++ told p f.state f.line (f.rest ++ later)
  told_fed room s line [] later = refl
  told_fed room s line (c ∷ cs) later =
      true_or (room_for p room)
      (λ r.
      true_or (eqb c line_feed)
      (λ e.
      rw (r, e)
      (ap (λ (t : List ℕ). p.answer s line ++ t) (told_fed (room - length (p.answer s line)) (p.next s line) [] cs later)
      ∙ sym (append_assoc (p.answer s line) _ _)))
      (λ e. rw (r, e) (told_fed room s (kept p (line ++ (c ∷ []))) cs later)))
      (λ r. rw r)

  calls_told : {s s' : S} {line input t last : List ℕ} → Calls p s line input t s' last → t ++ last_of p s' last ≡ told p s line input
  calls_told none = refl
  calls_told (call room s line block later {t} {s'} {last} cs) =
      append_assoc (feeding p room s line block).said t (last_of p s' last)
      ∙ ap (λ (u : List ℕ). (feeding p room s line block).said ++ u) (calls_told cs)
      ∙ sym (told_fed room s line block later)

  -- Whatever the blocks and the rooms were, what was said and the last line's answer are the answers to the input's lines.
  pub calls_answer : CallsAnswer p
  calls_answer s s' input t last cs = calls_told cs ∙ told_answers s input

-- ---- a last line

-- the line feed that it lacks; an empty one is none
abbrev pub ending : List ℕ → List ℕ
ending [] = []
ending (c ∷ cs) = line_feed ∷ []

-- fed that, it is answered as a last line is
module _ {S : Type 0} (p : Answering S) where
  pub last_said : (room : ℕ) (s : S) (last : List ℕ) → room_for p room ≡ true → (feeding p room s last (ending last)).said ≡ last_of p s last
  last_said room s [] r = refl
  last_said room s (c ∷ cs) r = rw r (append-nil (p.answer s (c ∷ cs)))
