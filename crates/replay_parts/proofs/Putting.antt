-- The parts of a line, one behind another.
-- Assumes nothing.
use Rattle.std.proofs.Common.{◌≡◌, ℕ, ◌+◌, ◌≤◌, List, [], ◌∷◌, ◌++◌, length, refl, sym, ap, ◌∙◌, append_assoc, append-nil, arith, length-append, le-leb}
use Rattle.std.specs.Prelude.{map}
use native.Mathlib.Nat.{add-zero}
use Rattle.basics.specs.Laid.{Room}
use Rattle.basics.proofs.Laying.{laid_length, laid_none, laid_then}
use Rattle.lister_text.specs.Texts.{tab, decimal, parted, fitting}
use Rattle.lister_text.specs.declared.Output.{Output}
use Rattle.lister_text.specs.Outputs.{fitted, Lays}
use Rattle.lister_text.proofs.Laying.{lays_then}
use Rattle.replay_parts.specs.Parts.{together, tabbed, in_turn, Parts, Puts}

-- ---- each where it fits

together_length : (t : List ℕ) (ts : List (List ℕ)) → length (together (t ∷ ts)) ≡ length t + length (together ts)
together_length t [] = sym (add-zero (length t))
together_length t (u ∷ us) = length-append t (together (u ∷ us))

-- what fits goes by the buffer's length alone
turn_same : (d e : List ℕ) (at mid : ℕ) (ts : List (List ℕ)) → length e ≡ length d → mid ≡ at → in_turn e mid ts ≡ in_turn d at ts
turn_same d e at mid [] same here = refl
turn_same d e at mid (t ∷ ts) same here = rw (here, same, turn_same d e (at + length (fitting d at t)) (at + length (fitting d at t)) ts same refl)

-- one text
pub parts_one : {o p : Output} {t : List ℕ} {most : ℕ} → length t ≤ most → Lays o (fitted o t) p → Parts o (t ∷ []) p most
parts_one {o} {p} {t} h l = record { short = h; laid = rw (append-nil (fitted o t)) l }

-- one before others
pub parts_first : {o p q : Output} {t : List ℕ} {ts : List (List ℕ)} {n : ℕ} → Lays o (fitted o t) p → Parts p ts q n → Parts o (t ∷ ts) q (length t + n)
parts_first {o} {p} {q} {t} {ts} l k = record {
  short = omega (arith, together_length t ts, k.short);
  laid = lays_then l (rw (turn_same o.octets.now p.octets.now (o.at + length (fitted o t)) p.at ts (laid_length l.laid) l.laid.behind) at k.laid);
}

-- some before others
together_append : (ts us : List (List ℕ)) → length (together (ts ++ us)) ≡ length (together ts) + length (together us)
together_append [] us = omega arith
together_append (t ∷ ts) us = omega (arith, together_length t ts, together_length t (ts ++ us), together_append ts us)

turn_append : (d : List ℕ) (at : ℕ) (ts us : List (List ℕ)) → in_turn d at (ts ++ us) ≡ in_turn d at ts ++ in_turn d (at + length (in_turn d at ts)) us
turn_append d at [] us = sym (turn_same d d at (at + 0) us refl (omega arith))
turn_append d at (t ∷ ts) us =
    let f = fitting d at t in
    let rest = in_turn d (at + length f) ts in
    let place : at + length (f ++ rest) ≡ at + length f + length rest = omega (arith, length-append f rest) in
    rw (turn_append d (at + length f) ts us, turn_same d d (at + length f + length rest) (at + length (f ++ rest)) us refl place) (sym (append_assoc f rest (in_turn d (at + length f + length rest) us)))

pub parts_then : {o p q : Output} {ts us : List (List ℕ)} {m n : ℕ} → Parts o ts p m → Parts p us q n → Parts o (ts ++ us) q (m + n)
parts_then {o} {p} {q} {ts} {us} j k = record {
  short = omega (arith, together_append ts us, j.short, k.short);
  laid = rw (turn_append o.octets.now o.at ts us)
      (lays_then j.laid (rw (turn_same o.octets.now p.octets.now (o.at + length (in_turn o.octets.now o.at ts)) p.at us (laid_length j.laid.laid) j.laid.laid.behind) at k.laid));
}

-- no longer than more
pub parts_most : {o p : Output} {ts : List (List ℕ)} {m : ℕ} (n : ℕ) → m ≤ n → Parts o ts p m → Parts o ts p n
parts_most n h k = record { short = omega (arith, k.short); laid = k.laid }

-- where there is room for all, all are laid
turn_all : (d : List ℕ) (at : ℕ) (ts : List (List ℕ)) → Room d at (length (together ts)) → in_turn d at ts ≡ together ts
turn_all d at [] room = refl
turn_all d at (t ∷ []) room = rw (le-leb (at + length t) (length d) room) (append-nil t)
turn_all d at (t ∷ u ∷ ts) room =
    rw (le-leb (at + length t) (length d) (omega (arith, together_length t (u ∷ ts))), turn_all d (at + length t) (u ∷ ts) (omega (arith, together_length t (u ∷ ts))))

-- ---- numbers behind tabs

pub tabbed_append : (ms ns : List ℕ) → tabbed (ms ++ ns) ≡ tabbed ms ++ tabbed ns
tabbed_append [] ns = refl
tabbed_append (m ∷ ms) ns = ap (λ (ts : List (List ℕ)). (tab ∷ []) ∷ decimal m ∷ ts) (tabbed_append ms ns)

-- behind a word they are fields
named_together : (w : List ℕ) (ns : List ℕ) → together (w ∷ tabbed ns) ≡ parted tab (w ∷ map decimal ns)
named_together w [] = refl
named_together w (n ∷ ns) = ap (λ (t : List ℕ). w ++ (tab ∷ t)) (named_together (decimal n) ns)

-- ---- all of them, where there is room

-- texts laid in turn
pub puts_parts : {o p : Output} {ts : List (List ℕ)} {most : ℕ} → Parts o ts p most → Puts o (together ts) p most
puts_parts {o} {p} {ts} k = record { loan = k.laid.loan; short = k.short; laid = λ room. rw (turn_all o.octets.now o.at ts room) at k.laid.laid }

-- a word and numbers
pub puts_named : {o p : Output} {most : ℕ} (w ns : List ℕ) → Parts o (w ∷ tabbed ns) p most → Puts o (parted tab (w ∷ map decimal ns)) p most
puts_named w ns k = rw (← named_together w ns) (puts_parts k)

-- a text where it fits
pub puts_fitting : {o p : Output} {most : ℕ} (t : List ℕ) → length t ≤ most → Lays o (fitted o t) p → Puts o t p most
puts_fitting {o} t h l = record { loan = l.loan; short = h; laid = λ room. rw (le-leb (o.at + length t) (length o.octets.now) room) at l.laid }

-- one character so
pub puts_octet : {o p : Output} {x : ℕ} → Lays o (fitted o (x ∷ [])) p → Puts o (x ∷ []) p 1
puts_octet {o} {p} {x} l = puts_fitting (x ∷ []) (omega arith) l

-- nothing
pub puts_none : (o : Output) (most : ℕ) → Puts o [] o most
puts_none o most = record { loan = refl; short = omega arith; laid = λ room. laid_none o.octets.now refl }

-- one text behind another
pub puts_then : {o p q : Output} {t u : List ℕ} {m n : ℕ} → Puts o t p m → Puts p u q n → Puts o (t ++ u) q (m + n)
puts_then {o} {p} {q} {t} {u} j k = record {
  loan = k.loan ∙ j.loan;
  short = omega (arith, length-append t u, j.short, k.short);
  laid = λ room.
      let first = j.laid (omega (arith, length-append t u)) in
      laid_then first (k.laid (omega (arith, length-append t u, laid_length first, first.behind)));
}

-- fields, and one more
parted_more : (f : List ℕ) (fs : List (List ℕ)) (g : List ℕ) → parted tab (f ∷ fs) ++ (tab ∷ g) ≡ parted tab (f ∷ (fs ++ (g ∷ [])))
parted_more f [] g = refl
parted_more f (e ∷ fs) g = append_assoc f (tab ∷ parted tab (e ∷ fs)) (tab ∷ g) ∙ ap (λ (t : List ℕ). f ++ (tab ∷ t)) (parted_more e fs g)

pub puts_field : {o p q : Output} {m n : ℕ} (f : List ℕ) (fs : List (List ℕ)) (g : List ℕ) → Puts o (parted tab (f ∷ fs)) p m → Puts p (tab ∷ g) q n → Puts o (parted tab (f ∷ (fs ++ (g ∷ [])))) q (m + n)
puts_field f fs g j k = rw (← parted_more f fs g) (puts_then j k)

-- no longer than more
pub puts_most : {o p : Output} {t : List ℕ} {m : ℕ} (n : ℕ) → m ≤ n → Puts o t p m → Puts o t p n
puts_most n h k = record { loan = k.loan; short = omega (arith, k.short); laid = k.laid }
