-- Feeding a block line by line, and what a call can rely on: it takes something, and its answers fit.
-- Assumes nothing.
use mathlib.Core.Path.{◌≡◌, refl, sym, ◌∙◌, ap, ap₂}
use mathlib.Core.Bool.{true, false, not}
use mathlib.Core.List.{List, [], ◌∷◌, ◌++◌, append-nil}
use Prim.Native.Nat.{ℕ, zero, suc, ◌+◌, ◌-◌, ◌≤◌, ◌<◌, min}
use native.Mathlib.Nat.{add-zero, add_assoc}
use native.Mathlib.Numerals.{add-one}
use native.Mathlib.Omega.{arith}
use lib.Dec.{eqb}
use lib.ListN.{length, take, drop, length-append, length-take, length-drop}
use lib.Seq.{sets, append_snoc, take_all, length-take-le, split_at}
use borrow.Author.Tests.{leb-true, le-leb, not-true}
use Rattle.basics.proofs.Choices.{and_true}
use Rattle.basics.specs.Laid.{Laid}
use Rattle.basics.proofs.Laying.{laid_length, sets_append}
use Rattle.lister_text.specs.Texts.{line_feed, unended, FeedAt}
use Rattle.lister_text.proofs.Cases.{true_or, below_or}
use Rattle.program_lines.specs.Lines.{Answering}
use Rattle.program_lines.specs.Feeding.{most_held, kept, FrontTells, room_for, Feeding, saying, feeding, last_of, Left, leaving}

-- ---- what is held

-- what is held of a line and more is what is held of both
pub take_more : (m : ℕ) (a b : List ℕ) → take m (take m a ++ b) ≡ take m (a ++ b)
take_more zero a b = refl
take_more (suc m) [] b = refl
take_more (suc m) (x ∷ a) b = ap (λ (t : List ℕ). x ∷ t) (take_more m a b)

-- a count past a list's end takes the whole of it
pub take_held : (n : ℕ) (l : List ℕ) → take (min n (length l)) l ≡ take n l
take_held n l =
    below_or n (length l)
    (λ h. ap (λ (k : ℕ). take k l) (let e : min n (length l) ≡ n = omega arith in e))
    (λ h. take_all (min n (length l)) l (omega arith) ∙ sym (take_all n l h))

-- ---- what a call leaves

-- an answer said first is laid first
pub leaving_saying : {S : Type 0} (n : ℕ) (out : List ℕ) (at : ℕ) (t : List ℕ) (f : Feeding S) → leaving n out at (saying t f) ≡ leaving n (sets out at t) (at + length t) f
leaving_saying n out at t f = λ i. record {
  taken = n - length f.rest;
  held = length f.line;
  line = f.line;
  state = f.state;
  at = (ap (λ (k : ℕ). at + k) (length-append t f.said) ∙ sym (add_assoc at (length t) (length f.said))) i;
  out = sym (sets_append out t f.said at) i;
}

-- a feeding that stops at a place of a block leaves what the code answers
pub stops_at : {S : Type 0} (block line out : List ℕ) (s : S) (taken held at : ℕ) → taken ≤ length block → held ≤ length line
    → ◌≡◌ {A = Left S} (record { taken = taken; held = held; line = take held line; state = s; at = at; out = out })
    (leaving (length block) out at (record { said = []; state = s; line = take held line; rest = drop taken block }))
stops_at block line out s taken held at h g =
    let left : taken ≡ length block - length (drop taken block) = omega (arith, length-drop taken block) in
    λ i. record {
      taken = left i;
      held = sym (length-take-le held line g) i;
      line = take held line;
      state = s;
      at = sym (add-zero at) i;
      out = out;
    }

module _ {S : Type 0} (p : Answering S) where
  -- ---- one line

  -- without room nothing is taken
  pub fed_full : (room : ℕ) (s : S) (line block : List ℕ) → room_for p room ≡ false → feeding p room s line block ≡ record { said = []; state = s; line = line; rest = block }
  fed_full room s line [] r = refl
  fed_full room s line (c ∷ cs) r = rw r

  -- with room, octets without a line feed go behind the unfinished line
  pub fed_plain : (room : ℕ) (s : S) (line l rest : List ℕ) → room_for p room ≡ true → length line ≤ most_held p → unended l ≡ true
      → feeding p room s line (l ++ rest) ≡ feeding p room s (kept p (line ++ l)) rest
  fed_plain room s line [] rest r h u = ap (λ (k : List ℕ). feeding p room s k rest) (sym (take_all (most_held p) line h) ∙ ap (kept p) (sym (append-nil line)))
  fed_plain room s line (c ∷ cs) rest r h u =
      let b = and_true (not (eqb c line_feed)) (unended cs) u in
      rw (r, not-true (eqb c line_feed) b.0)
      (fed_plain room s (kept p (line ++ (c ∷ []))) cs rest r (omega (arith, length-take (most_held p) (line ++ (c ∷ [])))) b.1
      ∙ ap (λ (k : List ℕ). feeding p room s k rest) (take_more (most_held p) (line ++ (c ∷ [])) cs ∙ ap (kept p) (append_snoc line c cs)))

  -- and a line feed ends the line
  pub fed_line : FrontTells p → (room : ℕ) (s : S) (line l rest : List ℕ) → room_for p room ≡ true → length line ≤ most_held p → unended l ≡ true
      → let whole = line ++ l in
      feeding p room s line (l ++ (line_feed ∷ rest)) ≡ saying (p.answer s whole) (feeding p (room - length (p.answer s whole)) (p.next s whole) [] rest)
  fed_line tells room s line l rest r h u =
      fed_plain room s line l (line_feed ∷ rest) r h u
      ∙ rw r (ap₂ (λ (t : List ℕ) (u : S). saying t (feeding p (room - length t) u [] rest)) (tells.answer s (line ++ l)) (tells.next s (line ++ l)))

  -- ---- one line of a block, into an output that has room for any answer

  module _ (block line out : List ℕ) (s : S) (at : ℕ) (few : length line ≤ most_held p) (room : room_for p (length out - at) ≡ true) where
    -- no line feed: the block is held
    pub holds_on : unended block ≡ true → (n : ℕ)
        → leaving n out at (feeding p (length out - at) s line block) ≡ leaving n out at (feeding p (length out - at) s (kept p (line ++ block)) [])
    holds_on plain n =
        ap (λ (b : List ℕ). leaving n out at (feeding p (length out - at) s line b)) (sym (append-nil block)) ∙ ap (leaving n out at) (fed_plain (length out - at) s line block [] room few plain)

    -- a line feed: the answer to the line that it ends is laid
    pub answers_on : FrontTells p → {end : ℕ} → FeedAt block end → {out' : List ℕ} {at' : ℕ} (s' : S) → s' ≡ p.next s (line ++ take end block)
        → Laid out at (p.answer s (line ++ take end block)) at' out' → (n : ℕ)
        → leaving n out at (feeding p (length out - at) s line block) ≡ leaving n out' at' (feeding p (length out' - at') s' [] (drop (end + 1) block))
    answers_on tells {end} ends {out'} {at'} s' next said n =
        let t = p.answer s (line ++ take end block) in
        let rest = drop (end + 1) block in
        let cut : block ≡ take end block ++ (line_feed ∷ rest)
        = split_at block end 0 ends.within ∙ ap₂ (λ (c k : ℕ). take end block ++ (c ∷ drop k block)) ends.there (sym (add-one end)) in
        let left : length out' - at' ≡ length out - at - length t = omega (arith, laid_length said, said.behind) in
        ap (λ (b : List ℕ). leaving n out at (feeding p (length out - at) s line b)) cut
        ∙ ap (leaving n out at) (fed_line tells (length out - at) s line (take end block) rest room few ends.before)
        ∙ leaving_saying n out at t (feeding p (length out - at - length t) (p.next s (line ++ take end block)) [] rest)
        ∙ sym (ap₂ (λ (k : ℕ) (u : S). leaving n out' at' (feeding p k u [] rest)) left next
        ∙ ap₂ (λ (o : List ℕ) (a : ℕ). leaving n o a (feeding p (length out - at - length t) (p.next s (line ++ take end block)) [] rest)) said.buffer said.behind)

  -- ---- what a call can rely on

  -- no more is left than there was
  rest_most : (room : ℕ) (s : S) (line block : List ℕ) → length (feeding p room s line block).rest ≤ length block
  rest_most room s line [] = omega arith
  rest_most room s line (c ∷ cs) =
      true_or (room_for p room)
      (λ r.
      true_or (eqb c line_feed)
      (λ e. rw (r, e) (omega (arith, rest_most (room - length (p.answer s line)) (p.next s line) [] cs)))
      (λ e. rw (r, e) (omega (arith, rest_most room s (kept p (line ++ (c ∷ []))) cs))))
      (λ r. rw r (omega arith))

  -- and with room, less
  rest_less : (room : ℕ) (s : S) (line block : List ℕ) → room_for p room ≡ true → 0 < length block → length (feeding p room s line block).rest < length block
  rest_less room s line [] r h = absurd (omega arith)
  rest_less room s line (c ∷ cs) r h =
      true_or (eqb c line_feed)
      (λ e. rw (r, e) (omega (arith, rest_most (room - length (p.answer s line)) (p.next s line) [] cs)))
      (λ e. rw (r, e) (omega (arith, rest_most room s (kept p (line ++ (c ∷ []))) cs)))

  -- what is left is the block's end: what a caller feeds next
  pub rest_end : (room : ℕ) (s : S) (line block : List ℕ) → let rest = (feeding p room s line block).rest in drop (length block - length rest) block ≡ rest
  rest_end room s line [] = refl
  rest_end room s line (c ∷ cs) =
      true_or (room_for p room)
      (λ r.
      true_or (eqb c line_feed)
      (λ e.
      let after = (feeding p (room - length (p.answer s line)) (p.next s line) [] cs).rest in
      rw (r, e) (one_more after (rest_most (room - length (p.answer s line)) (p.next s line) [] cs) (rest_end (room - length (p.answer s line)) (p.next s line) [] cs)))
      (λ e.
      let after = (feeding p room s (kept p (line ++ (c ∷ []))) cs).rest in
      rw (r, e) (one_more after (rest_most room s (kept p (line ++ (c ∷ []))) cs) (rest_end room s (kept p (line ++ (c ∷ []))) cs))))
      (λ r. rw r (ap (λ (k : ℕ). drop k (c ∷ cs)) (let none : length (c ∷ cs) - length (c ∷ cs) ≡ 0 = omega arith in none)))
    where
      one_more : (rest : List ℕ) → length rest ≤ length cs → drop (length cs - length rest) cs ≡ rest → drop (length (c ∷ cs) - length rest) (c ∷ cs) ≡ rest
      one_more rest h e = ap (λ (k : ℕ). drop k (c ∷ cs)) (let more : length (c ∷ cs) - length rest ≡ suc (length cs - length rest) = omega arith in more) ∙ e

  -- the answers fit into the room, where none is longer than said
  pub said_fits : ((s : S) (l : List ℕ) → length (p.answer s l) ≤ p.most_text) → (room : ℕ) (s : S) (line block : List ℕ)
      → length (feeding p room s line block).said ≤ room
  said_fits most room s line [] = omega arith
  said_fits most room s line (c ∷ cs) =
      true_or (room_for p room)
      (λ r.
      true_or (eqb c line_feed)
      (λ e.
      let t = p.answer s line in
      let after = (feeding p (room - length t) (p.next s line) [] cs).said in
      rw (r, e) (omega (arith, length-append t after, said_fits most (room - length t) (p.next s line) [] cs, most s line, leb-true p.most_text room r)))
      (λ e. rw (r, e) (said_fits most room s (kept p (line ++ (c ∷ []))) cs)))
      (λ r. rw r (omega arith))

  -- and a last line's is no longer than any
  pub last_most : ((s : S) (l : List ℕ) → length (p.answer s l) ≤ p.most_text) → (s : S) (l : List ℕ) → length (last_of p s l) ≤ p.most_text
  last_most most s [] = omega arith
  last_most most s (c ∷ cs) = most s (c ∷ cs)

  -- what a caller learns: with room and octets, some are taken, and no more than there are
  pub takes_some : (block line out : List ℕ) (s : S) (at : ℕ) {w : Left S} → w ≡ leaving (length block) out at (feeding p (length out - at) s line block)
      → at + p.most_text ≤ length out → 0 < length block → (0 < w.taken) × (w.taken ≤ length block)
  takes_some block line out s at is room some =
      let taken = ap (λ (x : Left S). x.taken) is in
      let less = rest_less (length out - at) s line block (le-leb p.most_text (length out - at) (omega arith)) some in
      (omega (arith, taken, less), omega (arith, taken))
