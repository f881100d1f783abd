-- A front of the answers has as many line feeds as it has whole answers, of every program whose answers are lines.
-- Assumes nothing.
use mathlib.Core.Path.{◌≡◌, refl, sym, ◌∙◌, ap}
use mathlib.Core.Bool.{true, not}
use mathlib.Core.List.{List, [], ◌∷◌, ◌++◌, append_assoc}
use Prim.Native.Nat.{ℕ, suc}
use native.Mathlib.Omega.{arith}
use lib.Dec.{eqb}
use lib.ListN.{length, get_or, take, drop}
use Rattle.basics.proofs.Choices.{and_true}
use Rattle.lister_text.specs.Texts.{line_feed, unended, line_feeds}
use Rattle.lister_text.proofs.LineFeeds.{feeds_none, feeds_line}
use Rattle.program_lines.specs.Lines.{Answering, answers, AnswersAreLines, AnswersWhole, FrontsTell, LinesCount}

-- where a front of a line and more ends: within the line, or behind it
data Cut (text more t rest : List ℕ) : Type 0 where
  within : unended t ≡ true → Cut text more t rest
  behind : (later : List ℕ) → t ≡ text ++ (line_feed ∷ later) → later ++ rest ≡ more → Cut text more t rest

-- one character more of the line in front
cut_cons : {text more t rest : List ℕ} (c : ℕ) → not (eqb c line_feed) ≡ true → Cut text more t rest → Cut (c ∷ text) more (c ∷ t) rest
cut_cons c other (within u) = within (rw other u)
cut_cons c other (behind later e f) = behind later (ap (λ (l : List ℕ). c ∷ l) e) f

cut : (text more t rest : List ℕ) → unended text ≡ true → t ++ rest ≡ text ++ (line_feed ∷ more) → Cut text more t rest
cut text more [] rest u e = within refl
cut [] more (x ∷ t) rest u e = behind t (ap (λ (c : ℕ). c ∷ t) (ap (λ (l : List ℕ). get_or l 0 0) e)) (ap (drop 1) e)
cut (c ∷ text) more (x ∷ t) rest u e =
    let b = and_true (not (eqb c line_feed)) (unended text) u in
    rw (ap (λ (l : List ℕ). get_or l 0 0) e) (cut_cons c b.0 (cut text more t rest b.1 (ap (drop 1) e)))

module _ {S : Type 0} (p : Answering S) (lines : AnswersAreLines p) where
  -- a front within the first answer
  first_part : (s : S) (ls : List (List ℕ)) (t : List ℕ) → unended t ≡ true → AnswersWhole p s ls t
  first_part s ls t u = record { part = t; whole = rw (feeds_none t u); none = u }

  -- a line and octets behind it, as text and the line feed before them
  line_then : (s : S) (l later : List ℕ) → p.answer s l ++ later ≡ (lines s l).text ++ (line_feed ∷ later)
  line_then s l later = ap (λ (t : List ℕ). t ++ later) (lines s l).ended ∙ append_assoc (lines s l).text (line_feed ∷ []) later

  -- the first answer, and a front of the others
  one_more : (s : S) (l : List ℕ) (ls : List (List ℕ)) (later : List ℕ) → AnswersWhole p (p.next s l) ls later → AnswersWhole p s (l ∷ ls) (p.answer s l ++ later)
  one_more s l ls later w =
      let count : line_feeds (p.answer s l ++ later) ≡ suc (line_feeds later) = ap line_feeds (line_then s l later) ∙ feeds_line (lines s l).text later (lines s l).once in
      record {
        part = w.part;
        whole = rw count (ap (λ (t : List ℕ). p.answer s l ++ t) w.whole ∙ sym (append_assoc (p.answer s l) (answers p (p.next s l) (take (line_feeds later) ls)) w.part));
        none = w.none;
      }

  -- a front of one answer and the others, by where it ends
  by_cut : (s : S) (l : List ℕ) (ls : List (List ℕ)) (t rest : List ℕ) → Cut (lines s l).text (answers p (p.next s l) ls) t rest
      → ((later : List ℕ) → later ++ rest ≡ answers p (p.next s l) ls → AnswersWhole p (p.next s l) ls later) → AnswersWhole p s (l ∷ ls) t
  by_cut s l ls t rest (within u) others = first_part s (l ∷ ls) t u
  by_cut s l ls t rest (behind later same more) others = rw (same ∙ sym (line_then s l later)) (one_more s l ls later (others later more))

  fronts_tell : FrontsTell p
  fronts_tell s [] [] rest e = first_part s [] [] refl
  fronts_tell s [] (x ∷ t) rest e = absurd (let no : ⊥ = omega (arith, ap length e) in no)
  fronts_tell s (l ∷ ls) t rest e =
      by_cut s l ls t rest (cut (lines s l).text (answers p (p.next s l) ls) t rest (lines s l).once (e ∙ line_then s l (answers p (p.next s l) ls)))
      (λ later more. fronts_tell (p.next s l) ls later rest more)

  pub lines_count : LinesCount p
  lines_count = (lines, fronts_tell)
