-- Texts joined by commas, as a loop lays them: each behind a mark, which is a tab before the first and a comma before every other.
-- Assumes nothing.
use mathlib.Core.Path.{◌≡◌, refl, sym, ◌∙◌, ap}
use mathlib.Core.List.{List, [], ◌∷◌, ◌++◌, map, append_assoc, append-nil}
use Prim.Native.Nat.{ℕ, ◌+◌, ◌≤◌}
use native.Mathlib.Omega.{arith}
use Rattle.lister_text.specs.Texts.{ascii, tab, comma, parted, joined}
use mathlib.Core.Logic.{◌≢◌}
use Rattle.lister_text.specs.declared.Output.{Output}
use Rattle.lister_text.specs.Outputs.{fitted, Lays}
use Rattle.replay_parts.specs.Parts.{Puts}
use Rattle.replay_parts.proofs.Putting.{puts_none, puts_then, puts_most, puts_fitting}

-- texts, the first behind a mark and the others each behind a comma
abbrev pub behind : ℕ → List (List ℕ) → List ℕ
behind mark [] = []
behind mark (t ∷ ts) = mark ∷ (t ++ behind comma ts)

-- the mark of the next text
abbrev pub next_mark : {A : Type 0} → ℕ → List A → ℕ
next_mark mark [] = mark
next_mark mark (x ∷ xs) = comma

-- one text more
behind_more : {A : Type 0} (f : A → List ℕ) (mark : ℕ) (xs : List A) (x : A) → behind mark (map f (xs ++ (x ∷ []))) ≡ behind mark (map f xs) ++ (next_mark mark xs ∷ f x)
behind_more f mark [] x = simp append-nil
behind_more f mark (y ∷ []) x = simp append-nil
behind_more f mark (y ∷ z ∷ ys) x =
    ap (λ (t : List ℕ). mark ∷ (f y ++ t)) (behind_more f comma (z ∷ ys) x)
    ∙ ap (λ (t : List ℕ). mark ∷ t) (sym (append_assoc (f y) (behind comma (map f (z ∷ ys))) (comma ∷ f x)))

-- all of them
behind_all : (mark : ℕ) (t : List ℕ) (ts : List (List ℕ)) → behind mark (t ∷ ts) ≡ mark ∷ parted comma (t ∷ ts)
behind_all mark t [] = simp append-nil
behind_all mark t (u ∷ ts) = ap (λ (v : List ℕ). mark ∷ (t ++ v)) (behind_all comma u ts)

-- what a loop has laid: the texts of the first elements, and the mark of the next
pub record Joins {A : Type 0} (f : A → List ℕ) (o : Output) (xs : List A) (mark : ℕ) (p : Output) (most : ℕ) : Type 0 where
  pub mark_is : mark ≡ next_mark tab xs
  pub puts : Puts o (behind tab (map f xs)) p most

pub joins_none : {A : Type 0} (f : A → List ℕ) (o : Output) (most : ℕ) → Joins f o [] tab o most
joins_none f o most = record { mark_is = refl; puts = puts_none o most }

comma_next : {A : Type 0} (xs : List A) (x : A) → comma ≡ next_mark tab (xs ++ (x ∷ []))
comma_next [] x = refl
comma_next (y ∷ ys) x = refl

pub joins_more : {A : Type 0} {f : A → List ℕ} {o p q : Output} {mark m n : ℕ} (k : ℕ) (xs ys : List A) (x : A) → ys ≡ xs ++ (x ∷ []) → m + n ≤ k
    → Joins f o xs mark p m → Puts p (mark ∷ f x) q n → Joins f o ys comma q k
joins_more {A} {f} k xs ys x is h j l = record {
  mark_is = rw is (comma_next xs x);
  puts = rw (is, behind_more f tab xs x) (puts_most k h (puts_then j.puts (rw j.mark_is at l)));
}

-- once there is one, they are joined
pub joins_all : {A : Type 0} {f : A → List ℕ} {o p : Output} {mark m : ℕ} (k : ℕ) (xs : List A) → mark ≢ tab → m ≤ k
    → Joins f o xs mark p m → Puts o (tab ∷ joined (map f xs)) p k
joins_all k [] some h j = absurd (some j.mark_is)
joins_all {A} {f} k (x ∷ xs) some h j = rw (behind_all tab (f x) (map f xs)) at (puts_most k h j.puts)

-- and where there is none, it is said
pub joins_nothing : {A : Type 0} {f : A → List ℕ} {o p q : Output} {mark m : ℕ} (xs : List A) → mark ≡ tab
    → Joins f o xs mark p m → Lays p (fitted p (ascii "\tnone")) q → Puts o (tab ∷ joined (map f xs)) q (5 + m)
joins_nothing [] none j l = puts_most _ (omega arith) (puts_then j.puts (puts_fitting {most = 5} (ascii "\tnone") (omega arith) l))
joins_nothing (x ∷ xs) none j l = absurd (let no : ⊥ = omega (arith, none, j.mark_is) in no)
